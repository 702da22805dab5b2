-- What is read off the notes of a chord whose heads all differ in letter or octave.
use Rattle.std.proofs.Common.{◌≡◌, refl, ap, ◌∙◌, List, [], ◌∷◌, ◌++◌, true, false, ◌||◌, not}
use Rattle.std.proofs.lemmas.Bool.{and_right, or_parts}
use Rattle.std.proofs.lemmas.List.Folds.{list_any-append}
use Rattle.std.specs.Prelude.{ℤ, Option, Some, None}
use Rattle.std.specs.List.{AllByRecursion, list_any}
use Rattle.std.specs.Ordering.{int_eq}
use Rattle.mus_units.specs.declared.{note.Head.Head, pitch.Alter.Alter, pitch.Clef.Clef}
use Rattle.mus_score.specs.GoodScore.{IsInReach}
use Rattle.mus_arcs.specs.Arcs.{has_pitch}
use Rattle.mus_ink.specs.Notes.{dy_of}
use Rattle.mus_drawn.specs.Hearing.{is_heard_at}
use Rattle.mus_drawn.specs.declared.sounds.AlteredHead as score
use Rattle.ps_heard.proofs.Places.{itself}
use Rattle.ps_heard.specs.declared.column.HeardGlyph.{HeardGlyph}
use Rattle.ps_heard.specs.declared.column.Role.{Role}
use Rattle.ps_heard.specs.Hearing.{gives_key, is_head, is_sign, sign_of_glyph}
use Rattle.law_voice_sound.specs.Clear.{DistinctPitches}
use Rattle.law_voice_sound.specs.Noted.{head_notes, note, sign_note, sign_notes}
use Rattle.law_voice_sound.proofs.Pitches.{heights_apart, pitch_flip}
use Rattle.law_voice_sound.proofs.Reaching.{AllReach}

-- a function that skips a sign, and a head, skips those of a chord
pub signs_passed : {A : Type 0} (f : List HeardGlyph → A)
    → ((a : Alter) (dy : ℤ) (ns : List HeardGlyph) → f (note (Role.Sign a) dy ∷ ns) ≡ f ns)
    → (c : Clef) (hs : List Head) (ns : List HeardGlyph)
    → f (sign_notes c hs ++ ns) ≡ f ns
signs_passed f one c [] ns = refl
signs_passed f one c (h ∷ hs) ns = sign h.sign ∙ signs_passed f one c hs ns
  where
    sign : (s : Option Alter) → f ((sign_note (dy_of c h) s ++ sign_notes c hs) ++ ns) ≡ f (sign_notes c hs ++ ns)
    sign None = refl
    sign (Some a) = one a (dy_of c h) (sign_notes c hs ++ ns)

pub heads_passed : {A : Type 0} (f : List HeardGlyph → A) (role : Role)
    → ((dy : ℤ) (ns : List HeardGlyph) → f (note role dy ∷ ns) ≡ f ns)
    → (c : Clef) (hs : List Head)
    → f (head_notes role c hs) ≡ f []
heads_passed f role one c [] = refl
heads_passed f role one c (h ∷ hs) = one (dy_of c h) (head_notes role c hs) ∙ heads_passed f role one c hs

-- a chord gives no key
pub chord_key : (role : Role) (c : Clef) (hs : List Head)
    → is_head role ≡ true → gives_key false (sign_notes c hs ++ head_notes role c hs) ≡ false
chord_key role c [] e = refl
chord_key role c (h ∷ hs) e =
    let ns = sign_notes c (h ∷ hs) ++ head_notes role c (h ∷ hs) in
    and_right (list_any (λ n. is_sign n.role) ns) (not (list_any (λ n. is_head n.role) ns))
    (ap not (signs_passed (list_any (λ n. is_head n.role)) (λ a dy ms. refl) c (h ∷ hs) (head_notes role c (h ∷ hs))
    ∙ ap (λ b. b || list_any (λ n. is_head n.role) (head_notes role c hs)) e))

-- ---- the sign at the height of a head is the head's own
skip_sign : (dy at : ℤ) (s : Option Alter) (xs ns : List HeardGlyph)
    → int_eq at dy ≡ false → sign_of_glyph dy ((sign_note at s ++ xs) ++ ns) ≡ sign_of_glyph dy (xs ++ ns)
skip_sign dy at None xs ns e = refl
skip_sign dy at (Some a) xs ns e = rw e refl

own_sign : (dy : ℤ) (s : Option Alter) (xs ns : List HeardGlyph)
    → sign_of_glyph dy (xs ++ ns) ≡ None → sign_of_glyph dy ((sign_note dy s ++ xs) ++ ns) ≡ s
own_sign dy None xs ns e = e
own_sign dy (Some a) xs ns e = rw (itself dy) refl

none_at : (c : Clef) (h : Head) (hs : List Head) (ns : List HeardGlyph)
    → IsInReach c h → AllReach c hs → list_any (has_pitch h.pitch) hs ≡ false → sign_of_glyph (dy_of c h) ns ≡ None
    → sign_of_glyph (dy_of c h) (sign_notes c hs ++ ns) ≡ None
none_at c h [] ns near reach e none = none
none_at c h (g ∷ gs) ns near reach e none =
    let parts = or_parts (has_pitch h.pitch g) (list_any (has_pitch h.pitch) gs) e in
    skip_sign (dy_of c h) (dy_of c g) g.sign (sign_notes c gs) ns
    (heights_apart c g h reach.0 near (pitch_flip g h ∙ parts.0))
    ∙ none_at c h gs ns near reach.1 parts.1 none

abbrev pub SignsRead : Clef → List HeardGlyph → List Head → Type 0
SignsRead c notes hs = AllByRecursion (λ h. sign_of_glyph (dy_of c h) notes ≡ h.sign) hs

read_after : (c : Clef) (h : Head) (xs ns : List HeardGlyph) (gs : List Head)
    → IsInReach c h → AllReach c gs → list_any (has_pitch h.pitch) gs ≡ false → SignsRead c (xs ++ ns) gs
    → SignsRead c ((sign_note (dy_of c h) h.sign ++ xs) ++ ns) gs
read_after c h xs ns [] near reach e read = tt {0}
read_after c h xs ns (g ∷ gs) near reach e read =
    let parts = or_parts (has_pitch h.pitch g) (list_any (has_pitch h.pitch) gs) e in (
      skip_sign (dy_of c g) (dy_of c h) h.sign xs ns (heights_apart c h g near reach.0 parts.0) ∙ read.0,
      read_after c h xs ns gs near reach.1 parts.1 read.1,
    )

pub signs_read : (c : Clef) (hs : List Head) (ns : List HeardGlyph)
    → ((dy : ℤ) → sign_of_glyph dy ns ≡ None) → AllReach c hs → DistinctPitches hs
    → SignsRead c (sign_notes c hs ++ ns) hs
signs_read c [] ns none reach apart = tt {0}
signs_read c (h ∷ hs) ns none reach apart = (
  own_sign (dy_of c h) h.sign (sign_notes c hs) ns (none_at c h hs ns reach.0 reach.1 apart.0 (none (dy_of c h))),
  read_after c h (sign_notes c hs) ns hs reach.0 reach.1 apart.0 (signs_read c hs ns none reach.1 apart.1),
)

-- ---- no head has the letter and the octave of one before it
abbrev pub NoneHeard : List score.AlteredHead → List Head → Type 0
NoneHeard so_far hs = AllByRecursion (λ h. list_any (is_heard_at h.pitch) so_far ≡ false) hs

pub none_more : (so_far : List score.AlteredHead) (x : score.AlteredHead) (hs : List Head)
    → list_any (has_pitch x.head.pitch) hs ≡ false → NoneHeard so_far hs → NoneHeard (so_far ++ x ∷ []) hs
none_more so_far x [] e none = tt {0}
none_more so_far x (g ∷ gs) e none =
    let parts = or_parts (has_pitch x.head.pitch g) (list_any (has_pitch x.head.pitch) gs) e in (
      rw (list_any-append (is_heard_at g.pitch) so_far (x ∷ []), none.0, pitch_flip g x.head, parts.0) refl,
      none_more so_far x gs parts.1 none.1,
    )

pub none_heard : (hs : List Head) → NoneHeard [] hs
none_heard [] = tt {0}
none_heard (h ∷ hs) = (refl, none_heard hs)

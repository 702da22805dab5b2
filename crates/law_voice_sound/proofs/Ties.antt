-- The ties that end in the column of an event end at exactly the heads to which a head of the event before is tied.
use Rattle.std.proofs.Common.{◌≡◌, refl, sym, ap, ◌∙◌, Bool, true, false, cond, ◌&&◌, ◌||◌, List, [], ◌∷◌, Some}
use Rattle.std.proofs.Math.Bool.{and-false, and-true, or-false, or-true}
use Rattle.std.proofs.lemmas.List.Folds.{list_any-append}
use Rattle.std.specs.{Prelude.{if◌then◌else◌}, List.{find, list_any}, Ordering.int_eq}
use Rattle.mus_units.specs.declared.note.Head.{Head}
use Rattle.mus_units.specs.declared.pitch.Clef.{Clef}
use Rattle.mus_units.specs.declared.pitch.Pitch.{Pitch}
use Rattle.mus_units.specs.Pitch.{height_of}
use Rattle.mus_score.specs.GoodScore.{IsInReach}
use Rattle.mus_arcs.specs.Arcs.{has_pitch}
use Rattle.mus_ink.specs.Drawing.{steps_dy}
use Rattle.mus_ink.specs.Notes.{dy_of}
use Rattle.ps_heard.proofs.Places.{itself}
use Rattle.law_voice_sound.specs.Columns.{height_if, tie_heights}
use Rattle.law_voice_sound.proofs.Pitches.{heights_apart, pitch_flip, pitch_found}
use Rattle.law_voice_sound.proofs.Reaching.{AllReach, TiesEnd, ties_to}

-- heights determine heads
height_tells : (c : Clef) (h g : Head) (b : Bool)
    → has_pitch g.pitch h ≡ b → IsInReach c h → IsInReach c g → int_eq (dy_of c h) (dy_of c g) ≡ b
unfolding dy_of
height_tells c h g false e p q = heights_apart c h g p q (pitch_flip h g ∙ e)
height_tells c h g true e p q =
    ap (λ t. int_eq (dy_of c h) (steps_dy (height_of t c))) (pitch_found g.pitch h e) ∙ itself (dy_of c h)

-- a tie to a pitch ends at the heads of that pitch, if there is one
first_tells : (c : Clef) (p : Pitch) (h g : Head) (hs : List Head) (b : Bool)
    → has_pitch p g ≡ b → IsInReach c h → IsInReach c g
    → list_any (int_eq (dy_of c h)) (height_if c (find (has_pitch p) hs)) ≡ (has_pitch p h && list_any (has_pitch p) hs)
    → list_any (int_eq (dy_of c h)) (height_if c (cond b (Some g) (find (has_pitch p) hs)))
    ≡ (has_pitch p h && (b || list_any (has_pitch p) hs))
first_tells c p h g hs false e q r more = more
first_tells c p h g hs true e q r more =
    or-false (int_eq (dy_of c h) (dy_of c g))
    ∙ height_tells c h g (has_pitch g.pitch h) refl q r
    ∙ ap (λ t. has_pitch t h) (sym (pitch_found p g e))
    ∙ sym (and-true (has_pitch p h))

tells : (c : Clef) (p : Pitch) (h : Head) (hs : List Head)
    → IsInReach c h → AllReach c hs
    → list_any (int_eq (dy_of c h)) (height_if c (find (has_pitch p) hs)) ≡ (has_pitch p h && list_any (has_pitch p) hs)
tells c p h [] q r = sym (and-false (has_pitch p h))
tells c p h (g ∷ gs) q r = first_tells c p h g gs (has_pitch p g) refl q r.0 (tells c p h gs q r.1)

-- a head that is among those of its event
both : (b d : Bool) → (b ≡ true → d ≡ true) → (b && d) ≡ b
both true d f = f refl
both false d f = refl

one_tie : (c : Clef) (h g : Head) (all : List Head) (t : Bool)
    → IsInReach c h → AllReach c all → (has_pitch g.pitch h ≡ true → list_any (has_pitch g.pitch) all ≡ true)
    → list_any (int_eq (dy_of c h)) (if t then height_if c (find (has_pitch g.pitch) all) else [])
    ≡ (t && has_pitch h.pitch g)
one_tie c h g all false q r among = refl
one_tie c h g all true q r among =
    tells c g.pitch h all q r ∙ both (has_pitch g.pitch h) (list_any (has_pitch g.pitch) all) among ∙ pitch_flip g h

head_ties : (c : Clef) (prev all : List Head) (h : Head)
    → IsInReach c h → AllReach c all → ((p : Pitch) → has_pitch p h ≡ true → list_any (has_pitch p) all ≡ true)
    → list_any (int_eq (dy_of c h)) (tie_heights c prev all) ≡ ties_to h.pitch prev
head_ties c [] all h q r among = refl
head_ties c (g ∷ gs) all h q r among =
    list_any-append (int_eq (dy_of c h)) (if g.tied then height_if c (find (has_pitch g.pitch) all) else [])
    (tie_heights c gs all)
    ∙ (λ i. one_tie c h g all g.tied q r (among g.pitch) i || head_ties c gs all h q r among i)

all_ties : (c : Clef) (prev all hs : List Head)
    → AllReach c all → AllReach c hs
    → ((p : Pitch) → list_any (has_pitch p) hs ≡ true → list_any (has_pitch p) all ≡ true)
    → TiesEnd c (tie_heights c prev all) prev hs
all_ties c prev all [] r q among = tt
all_ties c prev all (h ∷ hs) r q among =
    let here = λ (p : Pitch) (e : has_pitch p h ≡ true). among p (ap (λ t. t || list_any (has_pitch p) hs) e) in (
      head_ties c prev all h q.0 r here,
      all_ties c prev all hs r q.1 (λ p e. among p (ap (λ t. has_pitch p h || t) e ∙ or-true (has_pitch p h))),
    )

pub ties_end : (c : Clef) (prev hs : List Head) → AllReach c hs → TiesEnd c (tie_heights c prev hs) prev hs
ties_end c prev hs r = all_ties c prev hs hs r r (λ p e. e)

-- Reading a note gives the longest one.
use Rattle.std.proofs.Common.{◌≡◌, ℕ, zero, suc, ◌<◌, Bool, true, false, cond, eqb, List, [], ◌∷◌, ◌++◌, length, Option}
use Rattle.std.proofs.Common.{Some, None, refl, ap, sym}
use Rattle.std.proofs.Common.{◌∙◌, arith, inl, inr, ◌⊎◌, ◌||◌, IfSome, append-nil}
use Rattle.std.proofs.lemmas.Bool.{cond_both, eqb-true, or_left, or_right, or_from}
use Rattle.std.proofs.lemmas.Bool.{ne_eqb, and_parts, both_ways}
use Rattle.abc_notes.specs.Lengths.{LengthForm, whole, over, halved, length_then, length_from, IsWrittenLength}
use Rattle.abc_notes.specs.Lengths.{AreNumberDigits}
use Rattle.abc_notes.specs.Notes.{NoteForm, sign_then}
use Rattle.abc_notes.specs.Notes.{letter_byte, note_then, IsNote, sign_at, upper_at, lower_at, either_letter, letter_at}
use Rattle.abc_notes.specs.Notes.{note_from, note_after}
use Rattle.abc_notes.specs.{Notes.note_at, Runs.{skip, span_all, begins, is_mark}}
use Rattle.abc_notes.proofs.Bounds.{digit_range}
use Rattle.abc_notes.proofs.RunLaws.{skip-takes, begins_wider}
use Rattle.abc_notes.proofs.SpanLaws.{span_all-takes, span_all-pass, span_all-less}
use Rattle.abc_notes.proofs.SpanLaws.{span_all-append}
use Rattle.abc_notes.proofs.LengthLaws.{goes_on, length_at-takes, length_at-reaches, length-length_at}
use Rattle.mus_units.specs.declared.pitch.Alter.{Alter}
use Rattle.mus_units.specs.declared.pitch.Alter.TheVariants.{Flat2, Flat, Natural, Sharp, Sharp2}
use Rattle.mus_units.specs.declared.pitch.Letter.{Letter}
use Rattle.mus_units.specs.declared.pitch.Letter.TheVariants.{C, D, E, F, G, A, B}

-- ---- the accidental
skipped : (b : ℕ) (s : List ℕ) → (skip b s).0 ≡ true → s ≡ b ∷ (skip b s).1
skipped b s h = skip-takes b s ∙ rw h refl

sign_at-takes : (s : List ℕ) → s ≡ sign_then (sign_at s).0 (sign_at s).1
unfolding sign_at
sign_at-takes s =
    let up = skip 94 s in let down = skip 95 s in let P : Option Alter × List ℕ → Type 0 = λ z. s ≡ sign_then z.0 z.1 in
    cond_both up.0 _ _ P
    (λ u.
    cond_both (skip 94 up.1).0 _ _ P (λ t. skipped 94 s u ∙ ap (λ x. 94 ∷ x) (skipped 94 up.1 t)) (λ t. skipped 94 s u))
    (λ u. cond_both down.0 _ _ P
    (λ d.
    cond_both (skip 95 down.1).0 _ _ P (λ t. skipped 95 s d ∙ ap (λ x. 95 ∷ x) (skipped 95 down.1 t))
    (λ t. skipped 95 s d))
    (λ d. cond_both (skip 61 s).0 _ _ P (skipped 61 s) (λ n. refl)))

-- a byte that is no accidental
pub record NoSign (b : ℕ) : Type 0 where
  pub up : eqb b 94 ≡ false
  pub down : eqb b 95 ≡ false
  pub plain : eqb b 61 ≡ false

sign_at-reads : (sign : Option Alter) (b : ℕ) (x : List ℕ) → NoSign b → sign_at (sign_then sign (b ∷ x)) ≡ (sign, b ∷ x)
unfolding sign_at skip
sign_at-reads None b x none = rw (none.up, none.down, none.plain) refl
sign_at-reads (Some Sharp2) b x none = refl
sign_at-reads (Some Sharp) b x none = rw none.up refl
sign_at-reads (Some Flat2) b x none = refl
sign_at-reads (Some Flat) b x none = rw none.down refl
sign_at-reads (Some Natural) b x none = refl

-- ---- the letter
letter_sign : (low : Bool) (l : Letter) → NoSign (letter_byte low l)
letter_sign false C = record { up = refl; down = refl; plain = refl }
letter_sign _ C = record { up = refl; down = refl; plain = refl }
letter_sign _ _ = record { up = refl; down = refl; plain = refl }

letter_at-reads : (low : Bool) (l : Letter) → letter_at (letter_byte low l) ≡ Some (low, l)
unfolding letter_at
letter_at-reads false C = refl
letter_at-reads _ C = refl
letter_at-reads _ _ = refl

-- one test of a chain
pick : (low : Bool) (b k : ℕ) (l : Letter) (other : Option Letter)
    → k ≡ letter_byte low l → IfSome other (λ m. b ≡ letter_byte low m)
    → IfSome (cond (eqb b k) (Some l) other) (λ m. b ≡ letter_byte low m)
pick low b k l other e rest =
    cond_both (eqb b k) (Some l) other (λ o. IfSome o (λ m. b ≡ letter_byte low m)) (λ t. eqb-true b k t ∙ e)
    (λ t. rest)

upper_at-takes : (b : ℕ) → IfSome (upper_at b) (λ l. b ≡ letter_byte false l)
upper_at-takes b =
    let p = pick false b in
    p 65 A _ refl (p 66 B _ refl (p 67 C _ refl (p 68 D _ refl (p 69 E _ refl (p 70 F _ refl (p 71 G None refl tt))))))

lower_at-takes : (b : ℕ) → IfSome (lower_at b) (λ l. b ≡ letter_byte true l)
lower_at-takes b =
    let p = pick true b in
    p 97 A _ refl
    (p 98 B _ refl (p 99 C _ refl (p 100 D _ refl (p 101 E _ refl (p 102 F _ refl (p 103 G None refl tt))))))

either-takes : (b : ℕ) (u l : Option Letter)
    → IfSome u (λ m. b ≡ letter_byte false m) → IfSome l (λ m. b ≡ letter_byte true m)
    → IfSome (either_letter u l) (λ z. b ≡ letter_byte z.0 z.1)
either-takes b (Some u) l p q = p
either-takes b None (Some l) p q = q
either-takes b None None p q = tt

letter_at-takes : (b : ℕ) → IfSome (letter_at b) (λ z. b ≡ letter_byte z.0 z.1)
unfolding letter_at
letter_at-takes b = either-takes b (upper_at b) (lower_at b) (upper_at-takes b) (lower_at-takes b)

-- ---- the note
abbrev pub TakesNote : List ℕ → Option (NoteForm × List ℕ) → Type 0
TakesNote s read = IfSome read (λ z. (s ≡ note_then z.0 z.1) × IsNote z.0)

from-takes : (s : List ℕ) (sign : Option Alter) (b : ℕ) (rest : List ℕ) (l : Option (Bool × Letter))
    → s ≡ sign_then sign (b ∷ rest)
    → IfSome l (λ z. b ≡ letter_byte z.0 z.1) → TakesNote s (note_from sign l rest)
from-takes s sign b rest None e is = tt
from-takes s sign b rest (Some l) e is =
    let marks = span_all is_mark rest in let len = length_from marks.1 in let p = length_at-takes marks.1 in
    let following : rest ≡ marks.0 ++ length_then len.0 len.1 =
    span_all-takes is_mark rest ∙ ap (λ t. marks.0 ++ t) p.0 in (
      e ∙ ap (λ t. sign_then sign (t ∷ rest)) is ∙ ap (λ t. sign_then sign (letter_byte l.0 l.1 ∷ t)) following,
      record { marks = span_all-pass is_mark rest; length = p.1 },
    )

following-takes : (s : List ℕ) (sign : Option Alter) (rest : List ℕ)
    → s ≡ sign_then sign rest → TakesNote s (note_after sign rest)
following-takes s sign [] e = tt
following-takes s sign (b ∷ rest) e = from-takes s sign b rest (letter_at b) e (letter_at-takes b)

pub note_at-takes : (s : List ℕ) → TakesNote s (note_at s)
unfolding note_at
note_at-takes s = following-takes s (sign_at s).0 (sign_at s).1 (sign_at-takes s)

-- the bytes that continue a note
abbrev pub note_goes_on : ℕ → Bool
note_goes_on b = is_mark b || goes_on b

-- a reading that leaves less than x, where x begins with such a byte; or that is this one and leaves x
abbrev pub NoteStops : List ℕ → NoteForm → Option (NoteForm × List ℕ) → Type 0
NoteStops x f read =
    (z : NoteForm × List ℕ)
    × (read ≡ Some z)
    × (((length z.1 < length x) × (begins note_goes_on x ≡ true)) ⊎ (z ≡ (f, x)))

count_no_mark : (d : ℕ) (ds : List ℕ) → AreNumberDigits 4 (d ∷ ds) → is_mark d ≡ false
count_no_mark d ds good =
    let r = digit_range d (and_parts _ _ good.digits).0 in
    or_from (eqb d 39) (eqb d 44) (ne_eqb d 39 (omega arith)) (ne_eqb d 44 (omega arith))

-- a length begins with no mark, or is empty
length_no_mark : (len : LengthForm) (x : List ℕ)
    → IsWrittenLength len → (begins is_mark (length_then len x) ≡ false) ⊎ (length_then len x ≡ x)
length_no_mark (whole []) x good = inr refl
length_no_mark (whole (d ∷ ds)) x good = inl (count_no_mark d ds good)
length_no_mark (over [] below) x good = inl refl
length_no_mark (over (d ∷ ds) below) x good = inl (count_no_mark d ds good.0)
length_no_mark (halved [] zero) x good = absurd (omega (arith, good.1))
length_no_mark (halved [] (suc k)) x good = inl refl
length_no_mark (halved (d ∷ ds) k) x good = inl (count_no_mark d ds good.0)

finish : Option Alter → Bool → Letter → List ℕ × List ℕ → NoteForm × List ℕ
finish sign low letter marks =
    let len = length_from marks.1 in
    (record { sign = sign; low = low; letter = letter; marks = marks.0; length = len.0 }, len.1)

note-read : (sign : Option Alter) (low : Bool) (letter : Letter) (r : List ℕ) →
    note_at (sign_then sign (letter_byte low letter ∷ r)) ≡ Some (finish sign low letter (span_all is_mark r))
unfolding note_at finish
note-read sign low letter r =
    rw (sign_at-reads sign (letter_byte low letter) r (letter_sign low letter), letter_at-reads low letter) refl

abbrev Ends : List ℕ → NoteForm → NoteForm × List ℕ → Type 0
Ends x f z = ((length z.1 < length x) × (begins note_goes_on x ≡ true)) ⊎ (z ≡ (f, x))

marks-read : (f : NoteForm) (x : List ℕ)
    → IsNote f → Ends x f (finish f.sign f.low f.letter (span_all is_mark (f.marks ++ length_then f.length x)))
unfolding finish
marks-read f x good =
    let y = length_then f.length x in let rest = (span_all is_mark y).1 in
    let wider = begins_wider is_mark note_goes_on x (λ b. or_left (is_mark b) (goes_on b)) in
    rw (span_all-append is_mark f.marks y good.marks)
    (elim (span_all-less is_mark y) [
      | inl shorter ↦ elim (length_no_mark f.length x good.length) [
        | inl other ↦ absurd (both_ways (begins is_mark y) other shorter.1)
        | inr empty ↦ inl (
          omega (arith, shorter.0, ap length empty, length-length_at rest),
          wider (ap (begins is_mark) (sym empty) ∙ shorter.1),
        )
      ]
      | inr same ↦ rw (same, append-nil) (elim (length_at-reaches f.length x good.length) [
        | inl shorter ↦
            inl (shorter.0, begins_wider goes_on note_goes_on x (λ b. or_right (is_mark b) (goes_on b)) shorter.1)
        | inr exact ↦ inr (rw exact refl)
      ])
    ])

pub note_at-reaches : (f : NoteForm) (x : List ℕ) → IsNote f → NoteStops x f (note_at (note_then f x))
note_at-reaches f x good =
    let r = f.marks ++ length_then f.length x in
    (finish f.sign f.low f.letter (span_all is_mark r), note-read f.sign f.low f.letter r, marks-read f x good)

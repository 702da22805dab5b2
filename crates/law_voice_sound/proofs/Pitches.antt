-- A head's pitch is read off its height, and a key's entries off theirs.
use Rattle.std.proofs.Common.{◌≡◌, refl, sym, ap, ◌∙◌, ℕ, ◌<◌, List, [], ◌∷◌, true, false, arith}
use Rattle.std.proofs.lemmas.Bool.{and_parts, eqb-true, false≢true, false_from_ne_true}
use Rattle.std.proofs.lemmas.Bool.Decides.{nat_tests}
use Rattle.std.proofs.lemmas.Int.{ints, clamps}
use Rattle.std.specs.Prelude.{ℤ, pos, negsuc, ◌+ℤ◌, ◌*ℤ◌}
use Rattle.std.specs.Int.{int_div_euclid, int_rem_euclid}
use Rattle.std.specs.Int.RustNames.{unsigned_abs}
use Rattle.std.specs.List.{slice_index_or}
use Rattle.std.specs.Ordering.{int_eq}
use Rattle.mus_units.specs.Good.{same_letter}
use Rattle.mus_units.specs.{Distances.staff_step, Pitch.{clef_row, height_of, letter_number}}
use Rattle.mus_units.specs.declared.key.Sign.{Sign}
use Rattle.mus_units.specs.declared.note.Head.{Head}
use Rattle.mus_units.specs.declared.pitch.Alter.{Alter}
use Rattle.mus_units.specs.declared.pitch.Clef.{Clef}
use Rattle.mus_units.specs.declared.pitch.Letter.{Letter}
use Rattle.mus_units.specs.declared.pitch.Pitch.{Pitch}
use Rattle.mus_pitch.specs.Steps.{pitch_of_steps, scale_letters}
use Rattle.mus_score.specs.GoodScore.{IsInReach}
use Rattle.mus_arcs.specs.Arcs.{has_pitch}
use Rattle.mus_ink.specs.Drawing.{cut_dy, steps_dy}
use Rattle.mus_ink.specs.Notes.{dy_of}
use Rattle.mus_ink.specs.Signatures.{entry_dy}
use Rattle.ps_heard.proofs.Places.{eq_is}
use Rattle.ps_heard.specs.Hearing.{entries}
use Rattle.ps_heard.specs.Roles.{pitch_at}
use Rattle.law_voice_sound.specs.Noted.{entry_notes}

-- ---- heads
div_is : (w z : ℤ) → w ≡ staff_step *ℤ z → int_div_euclid w (staff_step) ≡ z
div_is (pos a) z e = omega (arith, ints)
div_is (negsuc a) z e = omega (arith, ints)

rem_seven : (w o : ℤ) (k : ℕ) → k < 7 → w ≡ pos 7 *ℤ o +ℤ pos k → unsigned_abs (int_rem_euclid w (pos 7)) ≡ k
rem_seven (pos a) o k lt e = omega (arith, ints)
rem_seven (negsuc a) o k lt e = omega (arith, ints)

div_seven : (w o : ℤ) (k : ℕ) → k < 7 → w ≡ pos 7 *ℤ o +ℤ pos k → int_div_euclid w (pos 7) ≡ o
div_seven (pos a) o k lt e = omega (arith, ints)
div_seven (negsuc a) o k lt e = omega (arith, ints)

letter_back : (l : Letter) → slice_index_or scale_letters (letter_number l) Letter.C ≡ l
letter_back Letter.C = refl
letter_back _ = refl

few_letters : (l : Letter) → letter_number l < 7
few_letters Letter.C = omega arith
few_letters _ = omega arith

pitch_is : (w : ℤ) (p : Pitch) → w ≡ pos 7 *ℤ p.octave +ℤ pos (letter_number p.letter) → pitch_of_steps w ≡ p
unfolding pitch_of_steps
pitch_is w p e =
    let few = few_letters p.letter in
    rw (
      rem_seven w p.octave (letter_number p.letter) few e,
      letter_back p.letter,
      div_seven w p.octave (letter_number p.letter) few e,
    ) refl

pub dy_is : (c : Clef) (h : Head) → IsInReach c h → dy_of c h ≡ staff_step *ℤ height_of h.pitch c
unfolding dy_of steps_dy cut_dy
dy_is c h near = let low = near.0 in let high = near.1 in omega (arith, ints, clamps)

-- the pitch read at a head's height is the head's
pub pitch_read : (c : Clef) (h : Head) → IsInReach c h → pitch_at c (dy_of c h) ≡ h.pitch
unfolding pitch_at
pitch_read c h near =
    rw (div_is (dy_of c h) (height_of h.pitch c) (dy_is c h near))
    (pitch_is (height_of h.pitch c +ℤ pos (clef_row c).bottom) h.pitch (omega (arith, ints)))

pub pitch_flip : (h g : Head) → has_pitch h.pitch g ≡ has_pitch g.pitch h
pitch_flip h g = grind (arith, nat_tests, ints)

pub pitch_found : (p : Pitch) (g : Head) → has_pitch p g ≡ true → p ≡ g.pitch
pitch_found p g e =
    let parts = and_parts (same_letter g.pitch.letter p.letter) (int_eq g.pitch.octave p.octave) e in
    let number = sym (eqb-true (letter_number g.pitch.letter) (letter_number p.letter) parts.0) in
    let letter = sym (letter_back p.letter)
    ∙ ap (λ k. slice_index_or scale_letters k Letter.C) number
    ∙ letter_back g.pitch.letter in
    let octave = sym (eq_is g.pitch.octave p.octave parts.1) in
    λ i. record { letter = letter i; octave = octave i }

pitch_itself : (g : Head) → has_pitch g.pitch g ≡ true
pitch_itself g = grind (arith, nat_tests, ints)

-- heads of different pitches have different heights
pub heights_apart : (c : Clef) (h g : Head)
    → IsInReach c h → IsInReach c g → has_pitch h.pitch g ≡ false → int_eq (dy_of c h) (dy_of c g) ≡ false
heights_apart c h g p q n = false_from_ne_true (int_eq (dy_of c h) (dy_of c g)) (λ e.
    false≢true
    (sym n
    ∙ ap (λ r. has_pitch r g)
    (sym (pitch_read c h p) ∙ ap (pitch_at c) (eq_is (dy_of c h) (dy_of c g) e) ∙ pitch_read c g q)
    ∙ pitch_itself g))

-- ---- keys
letter_read : (c : Clef) (a : Alter) (l : Letter) → (pitch_at c (entry_dy c a l)).letter ≡ l
unfolding pitch_at pitch_of_steps entry_dy steps_dy cut_dy
letter_read Clef.Treble Alter.Flat2 Letter.C = refl
letter_read _ Alter.Flat2 Letter.C = refl
letter_read _ _ Letter.C = refl
letter_read _ _ _ = refl

-- the entries read are the key's
pub entries_read : (c : Clef) (signs : List Sign) → entries c (entry_notes c signs) ≡ signs
entries_read c [] = refl
entries_read c (s ∷ ss) = rw (letter_read c s.alter s.letter, entries_read c ss) refl

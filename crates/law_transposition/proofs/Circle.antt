-- Keys move along the circle of fifths, and heads without an accidental move with them.
use Rattle.std.proofs.Common.{◌≡◌, refl, sym, ap, ◌∙◌, ℕ, suc, ◌-◌, ◌%◌, ◌<◌, ◌==◌, Bool, true, ◌&&◌, nat_le, Decides}
use Rattle.std.proofs.Common.{List, [], ◌∷◌, length, subst, arith}
use Rattle.std.proofs.lemmas.Bool.{agree_below_at, and_parts, eqb-true, leb-true}
use Rattle.std.proofs.lemmas.Bool.Decides.{Decides-int_eq, nat_tests}
use Rattle.std.proofs.lemmas.Int.{ints}
use Rattle.std.specs.Prelude.{ℤ, pos, negsuc, ◌+ℤ◌, ◌-ℤ◌, ◌*ℤ◌, ◌≤ℤ◌, int_le, unwrap_or, Some}
use Rattle.std.specs.Int.{int_div_euclid, int_rem_euclid}
use Rattle.std.specs.Int.RustNames.{unsigned_abs}
use Rattle.std.specs.List.{slice_index_or}
use Rattle.std.specs.Ordering.{int_eq}
use Rattle.std.specs.Cmp.Lexicographic.{pointwise, pointwise_decides}
use Rattle.mus_units.specs.Good.{same_letter}
use Rattle.mus_units.specs.Pitch.{letter_number}
use Rattle.mus_units.specs.declared.key.Key.{Key}
use Rattle.mus_units.specs.declared.key.Sign.{Sign}
use Rattle.mus_units.specs.declared.pitch.Alter.{Alter}
use Rattle.mus_units.specs.declared.pitch.Letter.{Letter}
use Rattle.mus_units.specs.declared.pitch.Pitch.{Pitch}
use Rattle.mus_pitch.specs.Alteration.{key_sign}
use Rattle.mus_pitch.specs.Circle.{fifths_of, is_signature, signs_of}
use Rattle.mus_pitch.specs.Steps.{pitch_of_steps, scale_letters, steps}
use Rattle.mus_transpose.specs.declared.moves.Move.{Move}
use Rattle.mus_transpose.specs.Moved.{alter_from, alter_of, moved_key, key_may, move_for, moved_pitch}
use Rattle.mus_transpose.specs.Moved.{half_steps_above_c, new_sharps, octaves_between, on_circle, same_sign, semitones}
use Rattle.mus_transpose.specs.Moved.{sharps_by, sharps_in}

-- ---- letters, alterations and keys by their numbers
letter_back : (l : Letter) → slice_index_or scale_letters (letter_number l) Letter.C ≡ l
letter_back Letter.C = refl
letter_back _ = refl

pub letters_same : (l k : Letter) → same_letter l k ≡ true → l ≡ k
letters_same l k e =
    sym (letter_back l)
    ∙ ap (λ n. slice_index_or scale_letters n Letter.C) (eqb-true (letter_number l) (letter_number k) e)
    ∙ letter_back k

alter_back : (a : Alter) → alter_from (alter_of a) ≡ Some a
alter_back Alter.Flat2 = refl
alter_back _ = refl

alters_same : (a b : Alter) → alter_of a ≡ alter_of b → a ≡ b
alters_same a b e = let some = sym (alter_back a) ∙ ap alter_from e ∙ alter_back b in cc

sign_decides : (s t : Sign) → Decides (same_sign s t) (s ≡ t)
sign_decides s t = (same, λ e. subst (λ u. same_sign s u ≡ true) e (grind (arith, nat_tests, ints)))
  where
    same : same_sign s t ≡ true → s ≡ t
    same e =
        let parts = and_parts (same_letter s.letter t.letter) (int_eq (alter_of s.alter) (alter_of t.alter)) e in
        let a = alters_same s.alter t.alter ((Decides-int_eq (alter_of s.alter) (alter_of t.alter)).0 parts.1) in
        λ i. record { letter = letters_same s.letter t.letter parts.0 i; alter = a i }

few_sharps : (a : Alter) (n : ℕ) → n < 7 → is_signature (sharps_by a (pos (suc n))) ≡ true
few_sharps Alter.Flat n few = grind (arith, nat_tests, ints)
few_sharps _ n few = grind (arith, nat_tests, ints)

few_in : (signs : List Sign) → nat_le (length signs) 7 ≡ true → is_signature (sharps_in signs) ≡ true
few_in [] few = refl
few_in (s ∷ signs) few =
    let below = leb-true (suc (length signs)) 7 few in few_sharps s.alter (length signs) (omega arith)

-- a key on the circle has the signs of -7 to 7 sharps
key_signs : (k : Key)
    → on_circle k ≡ true → (is_signature (sharps_in k.signs) ≡ true) × (k.signs ≡ signs_of (sharps_in k.signs))
key_signs k e =
    let parts = and_parts (nat_le (length k.signs) 7) (pointwise same_sign k.signs (signs_of (sharps_in k.signs))) e in
    (few_in k.signs parts.0, (pointwise_decides sign_decides k.signs (signs_of (sharps_in k.signs))).0 parts.1)

-- ---- the seven letters of a key

-- seven fifths in a row, from one below the tonic of the major key of n sharps
record InWindow (n z : ℤ) : Type 0 where
  low : (n -ℤ pos 1) ≤ℤ z
  high : z ≤ℤ (n +ℤ pos 5)

window : ℤ → ℤ → Bool
window n z = int_le (n -ℤ pos 1) z && int_le z (n +ℤ pos 5)

in_window : (n z : ℤ) → window n z ≡ true → InWindow n z
unfolding window
in_window n z e =
    let parts = and_parts (int_le (n -ℤ pos 1) z) (int_le z (n +ℤ pos 5)) e in
    record { low = grind (arith, ints); high = grind (arith, ints) }

-- where a letter lies on the circle
abbrev place : Letter → Alter → ℤ
place l a = fifths_of l +ℤ (pos 7 *ℤ alter_of a)

abbrev key_alter : Pitch → List Sign → Alter
key_alter p signs = unwrap_or (key_sign p signs) Alter.Natural

-- each letter in each of the fifteen keys
fits : Letter → ℤ → Bool
fits l n = window n (place l (key_alter (record { letter = l; octave = pos 0 }) (signs_of n)))

in_keys : (l : Letter) (k : ℕ) → k < 15 → fits l (pos k -ℤ pos 7) ≡ true
unfolding fits window signs_of
in_keys Letter.C k few = agree_below_at (λ i. fits Letter.C (pos i -ℤ pos 7)) (λ _. true) 15 k refl few
in_keys l k few = agree_below_at (λ i. fits l (pos i -ℤ pos 7)) (λ _. true) 15 k refl few

is_few : (n : ℤ) → is_signature n ≡ true → (negsuc 6 ≤ℤ n) × (n ≤ℤ pos 7)
is_few n e =
    let parts = and_parts (int_le (negsuc 6) n) (int_le n (pos 7)) e in (grind (arith, ints), grind (arith, ints))

numbered : (n : ℤ)
    → negsuc 6 ≤ℤ n → n ≤ℤ pos 7 → (unsigned_abs (n +ℤ pos 7) < 15) × (pos (unsigned_abs (n +ℤ pos 7)) -ℤ pos 7 ≡ n)
numbered n few many = (omega (arith, ints), omega (arith, ints))

in_key : (p : Pitch) (n : ℤ) → is_signature n ≡ true → InWindow n (place p.letter (key_alter p (signs_of n)))
unfolding fits
in_key p n few =
    let bounds = is_few n few in let k = numbered n bounds.0 bounds.1 in
    in_window n (place p.letter (key_alter p (signs_of n)))
    (subst (λ m. fits p.letter m ≡ true) k.1 (in_keys p.letter (unsigned_abs (n +ℤ pos 7)) k.0))

-- ---- letters and semitones of a pitch
seven : (r : ℕ) → r < 7 → letter_number (slice_index_or scale_letters r Letter.C) ≡ r
seven r few =
    eqb-true (letter_number (slice_index_or scale_letters r Letter.C)) r
    (agree_below_at (λ j. letter_number (slice_index_or scale_letters j Letter.C) == j) (λ _. true) 7 r refl few)

steps_back : (z : ℤ) → steps (pitch_of_steps z) ≡ z
unfolding steps pitch_of_steps
steps_back (pos m) = let e = seven (m % 7) (omega arith) in omega (arith, ints, e)
steps_back (negsuc m) = let e = seven (7 - 1 - m % 7) (omega arith) in omega (arith, ints, e)

pub steps_moved : (m : Move) (p : Pitch) → steps (moved_pitch m p) ≡ steps p +ℤ m.letters
unfolding moved_pitch
steps_moved m p = steps_back (steps p +ℤ m.letters)

fifths_in : (l : Letter) → (pos 7 *ℤ pos (half_steps_above_c l)) -ℤ (pos 12 *ℤ pos (letter_number l)) ≡ fifths_of l
fifths_in Letter.C = refl
fifths_in _ = refl

-- a fifth is seven semitones and four letters: seven times the semitones less twelve times the letters counts fifths
fifths_are : (p : Pitch) (a : Alter) → (pos 7 *ℤ semitones p a) -ℤ (pos 12 *ℤ steps p) ≡ place p.letter a
unfolding semitones steps
fifths_are p a = let e = fifths_in p.letter in omega (arith, ints)

-- ---- moves

-- what a move is: its fifths, up to whole octaves
pub record IsMove (m : Move) : Type 0 where
  pub octaves : ℤ
  pub fifths : (pos 7 *ℤ m.sharps) -ℤ m.semitones ≡ pos 12 *ℤ octaves
  pub letters : m.letters ≡ (pos 4 *ℤ m.sharps) -ℤ (pos 7 *ℤ octaves)

div_rem : (z : ℤ) → z ≡ (pos 12 *ℤ int_div_euclid z (pos 12)) +ℤ int_rem_euclid z (pos 12)
div_rem (pos a) = omega (arith, ints)
div_rem (negsuc a) = omega (arith, ints)

div_exact : (z w : ℤ) → z ≡ pos 12 *ℤ w → z ≡ pos 12 *ℤ int_div_euclid z (pos 12)
div_exact (pos a) w e = omega (arith, ints)
div_exact (negsuc a) w e = omega (arith, ints)

pub move_is : (sharps by : ℤ) → IsMove (move_for sharps by)
unfolding move_for
move_is sharps by =
    let rounds = div_rem ((sharps +ℤ (pos 7 *ℤ by)) +ℤ pos 5) in let change = new_sharps sharps by -ℤ sharps in
    record {
      octaves = octaves_between change by;
      fifths =
          div_exact ((pos 7 *ℤ change) -ℤ by)
          ((pos 4 *ℤ by) -ℤ (pos 7 *ℤ int_div_euclid ((sharps +ℤ (pos 7 *ℤ by)) +ℤ pos 5) (pos 12)))
          (omega (arith, ints));
      letters = refl;
    }

-- an alteration that sounds higher by the semitones of the move at the moved pitch
pub record Higher (m : Move) (p : Pitch) (a b : Alter) : Type 0 where
  pub by : semitones (moved_pitch m p) b ≡ semitones p a +ℤ m.semitones

-- only arithmetic: h and s are semitones and letters, h' and s' those of the moved head, n and n + j the sharps of
-- the two keys
lattice : (n by j d t h s h' s' : ℤ) → (pos 7 *ℤ j) -ℤ by ≡ pos 12 *ℤ t → d ≡ (pos 4 *ℤ j) -ℤ (pos 7 *ℤ t) → s' ≡ s +ℤ d
    → InWindow n ((pos 7 *ℤ h) -ℤ (pos 12 *ℤ s)) → InWindow (n +ℤ j) ((pos 7 *ℤ h') -ℤ (pos 12 *ℤ s')) → h' ≡ h +ℤ by
lattice n by j d t h s h' s' e f g v w = omega (arith, ints)

-- the alteration that a key has for a letter, and the moved key for the moved one
pub key_higher : (m : Move) (p : Pitch) (k : Key)
    → IsMove m → key_may m k ≡ true
    → Higher m p (key_alter p k.signs) (key_alter (moved_pitch m p) (moved_key m k).signs)
key_higher m p k move may =
    let n = sharps_in k.signs in
    let keys = and_parts (on_circle k) (is_signature (n +ℤ m.sharps)) may in
    let signs = key_signs k keys.0 in
    let q = moved_pitch m p in
    let a = key_alter p (signs_of n) in
    let b = key_alter q (signs_of (n +ℤ m.sharps)) in
    let v : InWindow n ((pos 7 *ℤ semitones p a) -ℤ (pos 12 *ℤ steps p)) = rw (fifths_are p a) (in_key p n signs.0) in
    let w : InWindow (n +ℤ m.sharps) ((pos 7 *ℤ semitones q b) -ℤ (pos 12 *ℤ steps q)) =
    rw (fifths_are q b) (in_key q (n +ℤ m.sharps) keys.1) in
    subst (λ s. Higher m p (key_alter p s) b) (sym signs.1)
    (record {
      by = lattice n m.semitones m.sharps m.letters move.octaves (semitones p a) (steps p) (semitones q b) (steps q)
          move.fifths move.letters (steps_moved m p) v w;
    })

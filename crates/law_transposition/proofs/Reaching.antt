-- Accidentals reach as far in a moved score as before, and what they reach sounds higher by the semitones of the
-- move.
use Rattle.std.proofs.Common.{◌≡◌, zero, suc, refl, ap, ◌∙◌, List, [], ◌∷◌, map, Bool, true, false, ◌&&◌, cond, Decides}
use Rattle.std.proofs.Common.{subst, arith}
use Rattle.std.proofs.lemmas.Bool.{and_parts, false≢true}
use Rattle.std.proofs.lemmas.Bool.Decides.{Decides-and, Decides-eqb, Decides-int_eq, Decides-like, same_from_decides}
use Rattle.std.proofs.lemmas.Int.{ints}
use Rattle.std.proofs.lemmas.List.{reverse-append}
use Rattle.std.proofs.lemmas.List.Folds.{find-append}
use Rattle.std.specs.Prelude.{ℤ, pos, negsuc, ◌+ℤ◌, ◌-ℤ◌, ◌*ℤ◌, Option, Some, None, is_some, unwrap_or, find, reverse}
use Rattle.std.specs.List.{AllByRecursion}
use Rattle.std.specs.Option.{option_and_then, option_or}
use Rattle.std.specs.Ordering.{int_eq}
use Rattle.mus_units.specs.Good.{same_letter}
use Rattle.mus_units.specs.Pitch.{letter_number}
use Rattle.mus_units.specs.declared.key.Key.{Key}
use Rattle.mus_units.specs.declared.key.Spread.{Spread}
use Rattle.mus_units.specs.declared.note.Head.{Head}
use Rattle.mus_units.specs.declared.pitch.Alter.{Alter}
use Rattle.mus_units.specs.declared.pitch.Pitch.{Pitch}
use Rattle.mus_pitch.specs.{Alteration.alteration_of, Alteration.is_said, Alteration.reaches, Steps.steps}
use Rattle.mus_transpose.specs.declared.moves.Move.{Move}
use Rattle.mus_transpose.specs.Moved.{alter_from, alter_of, head_moves, is_near_staff, moved_key, key_may, moved_alter}
use Rattle.mus_transpose.specs.Moved.{moved_head, moved_pitch, moved_sign, half_steps_above_c, semitones, sign_moves}
use Rattle.mus_transpose.proofs.MovedGood.{few_letters}
use Rattle.law_transposition.proofs.Circle.{Higher, IsMove, key_higher, letters_same, steps_moved}

abbrev pub Passed : {A : Type 0} → (A → Bool) → A → Type 0
Passed test x = test x ≡ true

abbrev pub Holds : {A : Type 0} → (A → Bool) → List A → Type 0
Holds test = AllByRecursion (Passed test)

-- ---- letters and octaves
abbrev same_pitch : Pitch → Pitch → Bool
same_pitch p r = same_letter p.letter r.letter && int_eq p.octave r.octave

-- the steps between two pitches determine whether they have one letter, and one octave too; no move changes that
apart_decides : (p r : Pitch)
    → Decides (same_letter p.letter r.letter) ((k : ℤ) × (steps p -ℤ steps r ≡ pos 7 *ℤ k))
    × Decides (same_pitch p r) (steps p -ℤ steps r ≡ pos 0)
unfolding steps
apart_decides p r =
    let a = few_letters p.letter in let b = few_letters r.letter in
    let letters = Decides-eqb (letter_number p.letter) (letter_number r.letter) in (
      Decides-like (same_letter p.letter r.letter)
          (λ (e : letter_number p.letter ≡ letter_number r.letter). (p.octave -ℤ r.octave, omega (arith, ints)))
          (λ h. let e = h.1 in omega (arith, ints)) letters,
      Decides-like (same_pitch p r)
          (λ (h : (letter_number p.letter ≡ letter_number r.letter) × (p.octave ≡ r.octave)).
          let e = h.0 in let o = h.1 in omega (arith, ints))
          (λ e. (omega (arith, ints), omega (arith, ints)))
          (Decides-and (same_letter p.letter r.letter) (int_eq p.octave r.octave) letters
          (Decides-int_eq p.octave r.octave)),
    )

kept : (P : ℤ → Type 0) (b c : Bool) (m : Move) (p r : Pitch)
    → Decides b (P (steps (moved_pitch m p) -ℤ steps (moved_pitch m r))) → Decides c (P (steps p -ℤ steps r)) → b ≡ c
kept P b c m p r d e =
    let apart : steps (moved_pitch m p) -ℤ steps (moved_pitch m r) ≡ steps p -ℤ steps r =
    omega (arith, ints, steps_moved m p, steps_moved m r) in
    same_from_decides b c (subst (λ z. Decides b (P z)) apart d) e

letter_kept : (m : Move) (p r : Pitch)
    → same_letter (moved_pitch m p).letter (moved_pitch m r).letter ≡ same_letter p.letter r.letter
letter_kept m p r =
    kept (λ z. (k : ℤ) × (z ≡ pos 7 *ℤ k)) (same_letter (moved_pitch m p).letter (moved_pitch m r).letter)
    (same_letter p.letter r.letter) m p r (apart_decides (moved_pitch m p) (moved_pitch m r)).0 (apart_decides p r).0

pub pitch_kept : (m : Move) (p r : Pitch) → same_pitch (moved_pitch m p) (moved_pitch m r) ≡ same_pitch p r
pitch_kept m p r =
    kept (λ z. z ≡ pos 0) (same_pitch (moved_pitch m p) (moved_pitch m r)) (same_pitch p r) m p r
    (apart_decides (moved_pitch m p) (moved_pitch m r)).1 (apart_decides p r).1

reach_kept : (m : Move) (spread : Spread) (p r : Pitch)
    → reaches spread (moved_pitch m p) (moved_pitch m r) ≡ reaches spread p r
reach_kept m Spread.Not p r = refl
reach_kept m Spread.Octave p r = pitch_kept m p r
reach_kept m Spread.Pitch p r = letter_kept m p r

reach_letter : (spread : Spread) (p r : Pitch) → reaches spread p r ≡ true → same_letter p.letter r.letter ≡ true
reach_letter Spread.Not p r e = absurd (false≢true e)
reach_letter Spread.Octave p r e = (and_parts (same_letter p.letter r.letter) (int_eq p.octave r.octave) e).0
reach_letter Spread.Pitch p r e = e

-- ---- alterations

-- at any pitch that an accidental reaches
pub carried : {m : Move} {a b : Alter} (p r : Pitch)
    → same_letter p.letter r.letter ≡ true → Higher m p a b → Higher m r a b
unfolding semitones steps
carried {m} p r e h =
    let here = letters_same p.letter r.letter e in
    let there = letters_same (moved_pitch m p).letter (moved_pitch m r).letter (letter_kept m p r ∙ e) in
    record {
      by = omega (
        arith,
        ints,
        steps_moved m p,
        steps_moved m r,
        ap letter_number here,
        ap letter_number there,
        ap half_steps_above_c here,
        ap half_steps_above_c there,
      );
    }

alter_is : (z : ℤ) (a : Alter) → is_some (alter_from z) ≡ true → alter_of (unwrap_or (alter_from z) a) ≡ z
alter_is (pos zero) a e = refl
alter_is (pos (suc zero)) a e = refl
alter_is (pos (suc (suc zero))) a e = refl
alter_is (negsuc zero) a e = refl
alter_is (negsuc (suc zero)) a e = refl
alter_is _ a e = absurd (false≢true e)

-- none, or one and one
pub data Both {A : Type 0} (R : A → A → Type 0) : Option A → Option A → Type 0 where
  neither : Both R None None
  each : {x y : A} → R x y → Both R (Some x) (Some y)

pub both_cond : {A : Type 0} {R : A → A → Type 0} {u v : Option A} (b : Bool) (x y : A)
    → (b ≡ true → R x y) → Both R u v → Both R (cond b (Some x) u) (cond b (Some y) v)
both_cond true x y r s = each (r refl)
both_cond false x y r s = s

both_else : {A : Type 0} {R : A → A → Type 0} {x y : Option A} {k l : A}
    → Both R x y → R k l → R (unwrap_or x k) (unwrap_or y l)
both_else neither s = s
both_else (each r) s = r

both_or : {A : Type 0} {R : A → A → Type 0} {x y u v : Option A}
    → Both R x y → Both R u v → Both R (option_or x u) (option_or y v)
both_or neither s = s
both_or (each r) s = each r

both_then : {A B : Type 0} {R : B → B → Type 0} {x y : Option A} (f : A → Option B)
    → Both (λ a b. Both R (f a) (f b)) x y → Both R (option_and_then f x) (option_and_then f y)
both_then f neither = neither
both_then f (each r) = r

-- ---- accidentals
pub own_higher : (m : Move) (p : Pitch) (s : Option Alter)
    → sign_moves m p s ≡ true → Both (Higher m p) s (moved_sign m p s)
unfolding moved_alter semitones
own_higher m p None e = neither
own_higher m p (Some a) e =
    let f = alter_is ((semitones p a +ℤ m.semitones) -ℤ semitones (moved_pitch m p) Alter.Natural) a e in
    each (record { by = omega (arith, ints) })

carried_both : {m : Move} {s t : Option Alter} (p r : Pitch)
    → same_letter p.letter r.letter ≡ true → Both (Higher m p) s t → Both (Higher m r) s t
carried_both p r e neither = neither
carried_both p r e (each h) = each (carried p r e h)

said_kept : (m : Move) (spread : Spread) (r p : Pitch) (s : Option Alter)
    → (is_some (moved_sign m p s) && reaches spread (moved_pitch m p) (moved_pitch m r))
    ≡ (is_some s && reaches spread p r)
said_kept m spread r p None = refl
said_kept m spread r p (Some a) = reach_kept m spread p r

abbrev Found : Move → Pitch → Option Head → Option Head → Type 0
Found m r = Both (λ h k. Both (Higher m r) h.sign k.sign)

found_one : (m : Move) (spread : Spread) (r : Pitch) (h : Head)
    → head_moves m h ≡ true
    → Found m r (find (is_said spread r) (h ∷ [])) (find (is_said spread (moved_pitch m r)) (moved_head m h ∷ []))
found_one m spread r h may =
    rw (said_kept m spread r h.pitch h.sign)
    (both_cond (is_said spread r h) h (moved_head m h) (λ e.
    carried_both h.pitch r (reach_letter spread h.pitch r (and_parts (is_some h.sign) (reaches spread h.pitch r) e).1)
    (own_higher m h.pitch h.sign (and_parts (is_near_staff m h.pitch) (sign_moves m h.pitch h.sign) may).1)) neither)

find_back : {A : Type 0} (test : A → Bool) (x : A) (xs : List A)
    → find test (reverse (x ∷ xs)) ≡ option_or (find test (reverse xs)) (find test (x ∷ []))
find_back test x xs = ap (find test) (reverse-append (x ∷ []) xs) ∙ find-append test (reverse xs) (x ∷ [])

found_higher : (m : Move) (spread : Spread) (r : Pitch) (hs : List Head)
    → Holds (head_moves m) hs
    → Found m r (find (is_said spread r) (reverse hs))
    (find (is_said spread (moved_pitch m r)) (reverse (map (moved_head m) hs)))
found_higher m spread r [] may = neither
found_higher m spread r (h ∷ hs) may =
    rw (
      find_back (is_said spread r) h hs,
      find_back (is_said spread (moved_pitch m r)) (moved_head m h) (map (moved_head m) hs),
    ) (both_or (found_higher m spread r hs may.1) (found_one m spread r h may.0))

-- a head without an accidental of its own
pub unsigned_higher : (m : Move) (spread : Spread) (r : Pitch) (said : List Head) (k : Key)
    → IsMove m → key_may m k ≡ true → Holds (head_moves m) said
    → Higher m r (alteration_of r None said spread k.signs)
    (alteration_of (moved_pitch m r) None (map (moved_head m) said) spread (moved_key m k).signs)
unsigned_higher m spread r said k move key may =
    both_else (both_then (λ (h : Head). h.sign) (found_higher m spread r said may)) (key_higher m r k move key)

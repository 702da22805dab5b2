-- A key has at most one entry per letter: the keys of the circle do, and added accidentals keep it so.
use Rattle.std.proofs.Common.{◌≡◌, refl, ℕ, suc, ◌≤◌, List, [], ◌∷◌, Bool, true, not, take, map, arith, cond}
use Rattle.std.proofs.lemmas.Grind.{common_steps}
use Rattle.std.proofs.lemmas.List.{take-map}
use Rattle.std.proofs.lemmas.List.Filters.{sum_by-filter_both}
use Rattle.std.proofs.lemmas.List.Sums.{sum_by-cons, sum_by-take-le, sum_by_push}
use Rattle.std.proofs.Math.Nat.{le_trans}
use Rattle.std.specs.Prelude.{ℤ, pos, negsuc, reverse, filter, count_by}
use Rattle.mus_units.specs.declared.pitch.Letter.{Letter}
use Rattle.mus_units.specs.declared.pitch.Alter.{Alter}
use Rattle.mus_units.specs.declared.key.Sign.{Sign}
use Rattle.mus_units.specs.Good.{AreGoodSigns, same_letter}
use Rattle.mus_units.specs.declared.pitch.Letter.TheVariants as letters
use Rattle.mus_units.specs.declared.pitch.Alter.TheVariants as alters
use Rattle.mus_pitch.specs.{Circle.sharp_order, Circle.signed, Circle.signs_of, Signs.with_sign, Signs.laid}

-- each letter occurs once among the seven
once_each : (alter : Alter) (letter : Letter)
    → count_by (λ (s : Sign). same_letter s.letter letter) (map (signed alter) sharp_order) ≤ 1
once_each alter letters.C = omega arith
once_each alter _ = omega arith

once_each_back : (alter : Alter) (letter : Letter)
    → count_by (λ (s : Sign). same_letter s.letter letter) (map (signed alter) (reverse sharp_order)) ≤ 1
once_each_back alter letters.C = omega arith
once_each_back alter _ = omega arith

few_of : (p : Sign → Bool) (f : Letter → Sign) (n : ℕ) (order : List Letter)
    → count_by p (map f order) ≤ 1 → count_by p (map f (take n order)) ≤ 1
few_of p f n order few = rw (← take-map f n order) (le_trans (sum_by-take-le (λ s. cond (p s) 1 0) (map f order) n) few)

-- the entries of a number of sharps or flats
pub signs_of_good : (n : ℤ) → AreGoodSigns (signs_of n)
unfolding signs_of
signs_of_good (pos n) letter =
    few_of (λ (s : Sign). same_letter s.letter letter) (signed alters.Sharp) n sharp_order
    (once_each alters.Sharp letter)
signs_of_good (negsuc n) letter =
    few_of (λ (s : Sign). same_letter s.letter letter) (signed alters.Flat) (suc n) (reverse sharp_order)
    (once_each_back alters.Flat letter)

-- no entry of a letter is left once it is removed
none_left : (signs : List Sign) (add : Sign) (letter : Letter) → same_letter add.letter letter ≡ true
    → count_by (λ (s : Sign). same_letter s.letter letter)
    (filter (λ (s : Sign). not (same_letter s.letter add.letter)) signs)
    ≡ 0
none_left [] add letter e = refl
none_left (s ∷ signs) add letter e =
    grind (
      arith,
      common_steps,
      sum_by-cons (λ (t : Sign). cond (same_letter t.letter letter) 1 0) s
          (filter (λ (t : Sign). not (same_letter t.letter add.letter)) signs),
      none_left signs add letter e,
    )

-- one entry added to good entries
pub with_sign-good : (signs : List Sign) (add : Sign) → AreGoodSigns signs → AreGoodSigns (with_sign signs add)
with_sign-good signs add good letter =
    let one : Sign → ℕ = λ s. cond (same_letter s.letter letter) 1 0 in
    let stays = λ (s : Sign). not (same_letter s.letter add.letter) in
    grind (
      arith,
      sum_by_push one (filter stays signs) add,
      good letter,
      none_left signs add letter,
      sum_by-filter_both stays (λ s. not (stays s)) (λ s. refl) one signs,
    )

-- entries added to good entries
pub laid_good : (signs adds : List Sign) → AreGoodSigns signs → AreGoodSigns (laid signs adds)
laid_good signs [] good = good
laid_good signs (add ∷ adds) good = laid_good (with_sign signs add) adds (with_sign-good signs add good)

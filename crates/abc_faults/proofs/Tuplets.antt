-- How many events a tuplet could take, one step later.
use Rattle.std.proofs.Common.{◌≡◌, ◌∙◌, ap, ℕ, ◌+◌, ◌<◌, [], ◌∷◌, length, drop, get_or, Bool, false, not, cond, arith}
use Rattle.std.proofs.lemmas.List.{drop_more}
use Rattle.std.proofs.lemmas.List.Sums.{sum_by-cons, take_while-cons}
use Rattle.std.proofs.lemmas.Bool.Decides.{nat_tests}
use Rattle.std.specs.Prelude.{nat_lt, count_by}
use Rattle.std.specs.List.{before_first, take_while}
use Rattle.abc_steps.specs.declared.step.PlacedStep.{PlacedStep}
use Rattle.abc_steps.specs.Kinds.{is_sound}
use Rattle.abc_steps.specs.Looks.{Steps}
use Rattle.abc_faults.specs.Faults.{ends_tuplets}

abbrev pub sounds : Steps → ℕ
sounds following = count_by (λ s. is_sound s.step) (before_first (λ s. ends_tuplets s.step) following)

abbrev one_if : Bool → ℕ
one_if is = cond is 1 0

goes_on : (s : PlacedStep) (rest : Steps)
    → ends_tuplets s.step ≡ false → sounds (s ∷ rest) ≡ one_if (is_sound s.step) + sounds rest
goes_on s rest e =
    let passes : PlacedStep → Bool = λ x. not (ends_tuplets x.step) in
    let count : Steps → ℕ = count_by (λ x. is_sound x.step) in
    let first : take_while passes (s ∷ rest) ≡ cond (not (ends_tuplets s.step)) (s ∷ take_while passes rest) [] =
    take_while-cons passes s rest in
    let kept : take_while passes (s ∷ rest) ≡ s ∷ take_while passes rest =
    first ∙ ap (λ b. cond (not b) (s ∷ take_while passes rest) []) e in
    ap count kept ∙ sum_by-cons (λ x. one_if (is_sound x.step)) s (take_while passes rest)

pub sounds_more : (following : Steps) (i : ℕ) (s : PlacedStep)
    → i < length following → s ≡ get_or following i s → ends_tuplets s.step ≡ false
    → sounds (drop i following) ≡ one_if (is_sound s.step) + sounds (drop (i + 1) following)
sounds_more following i s less is e =
    let there : drop i following ≡ s ∷ drop (i + 1) following =
    drop_more following i s less ∙ ap (λ x. x ∷ drop (i + 1) following) (cc) in
    ap sounds there ∙ goes_on s (drop (i + 1) following) e

pub step_on : (following : Steps) (i left next : ℕ) (s : PlacedStep) (short : Bool)
    → i < length following → s ≡ get_or following i s → ends_tuplets s.step ≡ false
    → next + one_if (is_sound s.step) ≡ left
    → nat_lt (sounds (drop i following)) left ≡ short → nat_lt (sounds (drop (i + 1) following)) next ≡ short
step_on following i left next s short less is e count h =
    let more = sounds_more following i s less is e in
    by_numbers (sounds (drop i following)) (sounds (drop (i + 1) following)) (one_if (is_sound s.step)) left next more
    count
    ∙ h where
      by_numbers : (m n k left next : ℕ) → m ≡ k + n → next + k ≡ left → nat_lt n next ≡ nat_lt m left
      by_numbers m n k left next a b = grind (arith, nat_tests)

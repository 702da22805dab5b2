-- Comment lines: they are skipped.
use Rattle.std.proofs.Common.{◌≡◌, ℕ, Bool, true, false, List, [], ◌∷◌, ◌++◌, append_assoc, refl, ◌∙◌, arith, decimal}
use Rattle.std.proofs.Common.{not, ◌==◌}
use Rattle.std.proofs.lemmas.Bool.Decides.{nat_tests}
use Rattle.std.proofs.lemmas.List.Folds.{list_all-append}
use Rattle.std.specs.List.{list_all}
use Rattle.mus_units.specs.Bytes.{is_digit}
use Rattle.ps_steps.specs.Tokens.{passed}
use Rattle.ps_steps.specs.State.{State}
use Rattle.ps_steps.specs.Steps.{state_before, here}
use Rattle.ps_paint.proofs.Takes.{Takes, decimal_digits, digits_pass}

-- a byte other than LF
abbrev pub in_line : ℕ → Bool
in_line b = not (b == 10)

-- a comment ends before the next LF
skip_line : (line s : List ℕ) → list_all in_line line ≡ true → passed true (line ++ 10 ∷ s) ≡ passed false s
skip_line [] s e = refl
skip_line (b ∷ line) s e = grind (arith, nat_tests, skip_line line s)

pub takes_comment : (line : List ℕ) (m : State) → list_all in_line line ≡ true → Takes 0 (37 ∷ line ++ 10 ∷ []) m m
takes_comment line m e =
    record { take = λ rest. rw (append_assoc line (10 ∷ []) rest, skip_line line rest e) (here (state_before m rest)) }

digit_in_line : (b : ℕ) → is_digit b ≡ true → in_line b ≡ true
digit_in_line b e = grind (arith, nat_tests)

pub number_in_line : (n : ℕ) → list_all in_line (decimal n) ≡ true
number_in_line n = digits_pass in_line digit_in_line (decimal n) (decimal_digits n)

-- two numbers with a space between them
pub two_in_line : (a b : ℕ) → list_all in_line (decimal a ++ 32 ∷ decimal b) ≡ true
two_in_line a b = list_all-append in_line (decimal a) (32 ∷ decimal b) ∙ rw (number_in_line a, number_in_line b) refl

-- A table of costs: rows, each cost of at most 2^40, and the forced bars as a list of marks.
use Rattle.std.specs.Prelude.{◌≡◌, ℕ, ◌<◌, ◌≤◌, ◌^◌, Bool, false, List, zero, suc, Option, Some, None, IfSome}
use Rattle.std.specs.Prelude.{option_map, nat_le, if◌then◌else◌, slice_index_or, refl}
use Rattle.std.proofs.Common.{arith, sym}
use Rattle.std.proofs.lemmas.Option.{none-some}
use Rattle.std.proofs.lemmas.Bool.Decides.{nat_tests}
use Rattle.lay_breaks.specs.Rows.{row_entry, rows_stop}

abbrev pub capped_in_table : ℕ → ℕ
capped_in_table v = if nat_le v (2 ^ 40) then v else 2 ^ 40

abbrev pub capped_cost : List (List ℕ) → ℕ → ℕ → Option ℕ
capped_cost rows a b = option_map (λ v. capped_in_table v) (row_entry rows a b)

abbrev pub is_marked : List Bool → ℕ → Bool
is_marked marks zero = false
is_marked marks (suc b) = slice_index_or marks b false

was_none : (o : Option ℕ) → option_map (λ v. capped_in_table v) o ≡ None → o ≡ None
was_none None e = refl
was_none (Some v) e = absurd (none-some (capped_in_table v) (sym e))

pub capped_stop : (rows : List (List ℕ)) (a b c : ℕ)
    → a < b → b < c → capped_cost rows a b ≡ None → capped_cost rows a c ≡ None
capped_stop rows a b c l m e = rw (rows_stop rows a b c l m (was_none (row_entry rows a b) e)) refl

pub capped_small : (rows : List (List ℕ)) (a b : ℕ) → IfSome (capped_cost rows a b) (λ v. v ≤ 2 ^ 40)
capped_small rows a b = at (row_entry rows a b)
  where
    at : (o : Option ℕ) → IfSome (option_map (λ v. capped_in_table v) o) (λ v. v ≤ 2 ^ 40)
    at None = tt
    at (Some v) = grind (arith, nat_tests)

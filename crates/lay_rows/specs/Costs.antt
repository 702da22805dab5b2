-- The forces of spans as rows, one for each bar, and the costs that follow from them.
use Rattle.std.specs.Prelude.{◌≡◌, ℕ, ◌-◌, ◌*◌, ◌<◌, ◌≤◌, ◌^◌, ◌==◌, nat_lt, nat_le, true, false, Bool, List}
use Rattle.std.specs.Prelude.{length, Option, None, Some, IfSome, option_map, if◌then◌else◌, refl}
use Rattle.std.proofs.Common.{arith, sym, ◌∙◌}
use Rattle.std.proofs.Math.Nat.{mul-le-mul_left}
use Rattle.std.proofs.lemmas.Bool.Decides.{nat_tests}
use Rattle.std.proofs.lemmas.Option.{none-some}
use Rattle.lay_breaks.specs.Rows.{AreWithin, row_entry, rows_stop, rows_within}
use Rattle.lay_springs.specs.Fit.{counted, is_ragged}
use Rattle.lay_rows.specs.Badness.{badness_at, badness_of}

-- the force of the span from a to b, by the row of bar a
abbrev pub force_in : List (List ℕ) → ℕ → ℕ → Option ℕ
force_in rows a b = if nat_lt a b then row_entry rows a b else None

-- its cost is the badness of its force; the last span is the one that ends with the last bar
abbrev pub cost_in : List (List ℕ) → ℕ → ℕ → Option ℕ
cost_in rows a b = option_map (λ force. badness_of (b == length rows) force) (force_in rows a b)

-- Consequences of the form: the two laws of costs.
pub force_of_rising : (rows : List (List ℕ)) (a b : ℕ) → a < b → force_in rows a b ≡ row_entry rows a b
force_of_rising rows a b l = let t : nat_lt a b ≡ true = grind (arith, nat_tests) in rw t refl

was_none : (f : ℕ → ℕ) (o : Option ℕ) → option_map f o ≡ None → o ≡ None
was_none f None e = refl
was_none f (Some force) e = absurd (none-some (f force) (sym e))

still_none : (f : ℕ → ℕ) (o : Option ℕ) → o ≡ None → option_map f o ≡ None
still_none f o e = rw e refl

pub cost_stops : (rows : List (List ℕ)) (a b c : ℕ) → a < b → b < c → cost_in rows a b ≡ None → cost_in rows a c ≡ None
cost_stops rows a b c l m e =
    still_none (λ force. badness_of (c == length rows) force) (force_in rows a c)
    (force_of_rising rows a c (omega arith)
    ∙ rows_stop rows a b c l m
    (sym (force_of_rising rows a b l) ∙ was_none (λ force. badness_of (b == length rows) force) (force_in rows a b) e))

square_small : (x : ℕ) → x ≤ 2048 → x * x ≤ 4194304
square_small x l = let k = mul-le-mul_left x l in omega arith

at_small : (force : ℕ) → force ≤ 2048 → badness_at force ≤ 2 ^ 40
at_small force l =
    let high = square_small (force - 256) (omega arith) in let low = square_small (256 - force) (omega arith) in
    elim (nat_le 256 force) as
    (λ t. (if t then (force - 256) * (force - 256) else 4 * ((256 - force) * (256 - force))) ≤ 2 ^ 40)
    [ true ↦ omega arith | false ↦ omega arith ]

counted_small : (last : Bool) (force : ℕ) → force ≤ 2048 → counted last force ≤ 2048
counted_small last force l =
    elim (is_ragged last force) as (λ t. (if t then 256 else force) ≤ 2048) [ true ↦ omega arith | false ↦ omega arith ]

pub badness_small : (last : Bool) (force : ℕ) → force ≤ 2048 → badness_of last force ≤ 2 ^ 40
badness_small last force l = at_small (counted last force) (counted_small last force l)

pub cost_small : (rows : List (List ℕ))
    → AreWithin 2048 rows → (a b : ℕ) → a < b → IfSome (cost_in rows a b) (λ v. v ≤ 2 ^ 40)
cost_small rows h a b l = rw (force_of_rising rows a b l) (at (row_entry rows a b) (rows_within 2048 rows h a b))
  where
    at : (o : Option ℕ)
        → IfSome o (λ force. force ≤ 2048)
        → IfSome (option_map (λ force. badness_of (b == length rows) force) o) (λ v. v ≤ 2 ^ 40)
    at None k = tt
    at (Some force) k = badness_small (b == length rows) force k

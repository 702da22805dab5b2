-- Where the spans from each bar begin in the list of spans, and what a look-up by it finds.
use Rattle.std.specs.Prelude.{◌≡◌, ℕ, ◌+◌, ◌-◌, ◌≤◌, ◌^◌, List, length, Option, Some, None, IfSome, option_and_then}
use Rattle.std.specs.Prelude.{if◌then◌else◌, slice_get, slice_index, refl}
use Rattle.lay_breaks.specs.{Spans.has_ends, Spans.listed, declared.costs.Span.Span}

abbrev pub cost_if : ℕ → ℕ → Span → Option ℕ
cost_if a b s = if has_ends a b s then Some s.badness else None

-- the cost of the span at the index of the span from a to b, if it is listed
abbrev pub looked_up : List Span → List ℕ → ℕ → ℕ → Option ℕ
looked_up spans firsts a b = option_and_then (λ s. cost_if a b s) (slice_get spans (slice_index firsts a + (b - a - 1)))

-- each span is as far after the first span from its bar as it is longer than that span
pub record IsIndexed (spans : List Span) (firsts : List ℕ) : Type 0 where
  pub each : (i : ℕ) (s : Span) → slice_get spans i ≡ Some s → i ≡ slice_index firsts s.a + (s.b - s.a - 1)
  pub inside : (a : ℕ) → slice_index firsts a ≤ length spans

pub small_if_some : (spans : List Span) (a b : ℕ)
    → ((v : ℕ) → listed spans a b ≡ Some v → v ≤ 2 ^ 40) → IfSome (listed spans a b) (λ v. v ≤ 2 ^ 40)
small_if_some spans a b h = at (listed spans a b) h
  where
    at : (o : Option ℕ) → ((v : ℕ) → o ≡ Some v → v ≤ 2 ^ 40) → IfSome o (λ v. v ≤ 2 ^ 40)
    at None h = tt
    at (Some v) h = h v refl

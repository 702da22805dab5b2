use Rattle.std.{proofs.Common.{◌≡◌, ◌==◌, ◌&&◌, nat_lt, ℕ, length, slice_index_or, take, false}, specs.List.list_any}
use Rattle.lay_spans.proofs.marks.mark.Given as goal

abbrev pub invariant-loop-bar : goal.invariant-loop-bar
invariant-loop-bar l = record {
  count : length l.marks ≡ length l.fn.marks;
  marked : (b : ℕ)
      → slice_index_or l.marks b false
      ≡ ((nat_lt 0 b && nat_lt b (length l.fn.marks)) && list_any (λ f. f == b) (take l.bar-index l.forced));
}

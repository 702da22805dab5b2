use Rattle.std.proofs.Common.{◌≡◌, [], true, drop, length}
use Rattle.ps_heard.specs.{Columns.heard_columns_from, Filling.with_marks}
use Rattle.ps_heard.proofs.columns.fill.Given as goal

abbrev pub invariant-loop-mark : goal.invariant-loop-mark
invariant-loop-mark l =
    (with_marks (drop l.mark-index l.marks) l.places l.columns
    ≡ with_marks l.marks l.places (heard_columns_from true [] l.places))
    × (length l.columns ≡ length l.places)

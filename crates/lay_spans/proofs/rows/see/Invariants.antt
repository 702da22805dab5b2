use Rattle.std.proofs.Common.{◌≡◌, ◌++◌, map, take}
use Rattle.lay_spans.proofs.rows.see.Given as goal

abbrev pub invariant-loop-column : goal.invariant-loop-column
invariant-loop-column g l =
    map (λ s. s.column.now) l.seen ≡ map (λ s. s.column.now) l.fn.seen ++ take l.column-index l.columns

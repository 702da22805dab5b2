use Rattle.std.proofs.Common.{◌≡◌, ◌++◌, [], true, drop}
use Rattle.ps_heard.specs.Columns.{heard_columns_from}
use Rattle.ps_heard.proofs.columns.empty_columns.Given as goal

abbrev pub invariant-loop-place : goal.invariant-loop-place
invariant-loop-place l =
    l.out ++ heard_columns_from l.leads [] (drop l._place-index l.places) ≡ heard_columns_from true [] l.places

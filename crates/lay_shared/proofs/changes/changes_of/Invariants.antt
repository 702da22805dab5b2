use Rattle.std.proofs.Common.{◌≡◌, ◌++◌, drop}
use Rattle.lay_shared.specs.Alike.{changes_from}
use Rattle.lay_shared.proofs.changes.changes_of.Given as goal

abbrev pub invariant-loop-i : goal.invariant-loop-i
invariant-loop-i l = l.changes ++ changes_from l.i (drop l.i l.measures) ≡ changes_from 0 l.measures

use Rattle.std.proofs.Common.{◌≡◌, ◌++◌, drop}
use Rattle.ps_heard.specs.Hearing.{entries}
use Rattle.ps_heard.proofs.keys.entries.Given as goal

abbrev pub invariant-loop-note : goal.invariant-loop-note
invariant-loop-note l = l.out ++ entries l.clef (drop l.note-index l.notes) ≡ entries l.clef l.notes

use Rattle.std.proofs.Common.{◌≡◌, drop}
use Rattle.ps_heard.specs.Hearing.{clef_after}
use Rattle.ps_heard.proofs.keys.clef_after.Given as goal

abbrev pub invariant-loop-note : goal.invariant-loop-note
invariant-loop-note l = clef_after l.last (drop l.note-index l.notes) ≡ clef_after l.fn.clef l.notes

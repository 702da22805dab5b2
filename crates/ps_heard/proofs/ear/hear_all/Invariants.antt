use Rattle.std.proofs.Common.{◌≡◌, drop}
use Rattle.ps_heard.specs.Ear.{hear_from}
use Rattle.ps_heard.proofs.ear.hear_all.Given as goal

abbrev pub invariant-loop-note : goal.invariant-loop-note
invariant-loop-note l =
    hear_from l.spread l.col l.ear (drop l.note-index l.col.notes) ≡ hear_from l.spread l.col l.fn.ear l.col.notes

use Rattle.std.proofs.Common.{◌≡◌, drop}
use Rattle.{mus_laid.specs.Ranked.{inked}, mus_ink.specs.Notes.{ledger_marks}}
use Rattle.mus_ink.proofs.notes.put_ledgers.Given as goal

abbrev pub invariant-loop-dy : goal.invariant-loop-dy
invariant-loop-dy l = inked l.pen (ledger_marks (drop l.dy-index l.ledgers)) ≡ inked l.fn.pen (ledger_marks l.ledgers)

-- The numbers of the statuses, with which the program exits, and the status for a document that was not written to
-- its end.
use Rattle.std.specs.Prelude.{ℕ}
use Rattle.ps_write.specs.declared.steps.DocError.{DocError}
use Rattle.abcps.specs.declared.status.Status.{Status}

abbrev pub status_number : Status → ℕ
status_number Status.Done = 0
status_number Status.SomeRefused = 1
status_number Status.Usage = 2
status_number Status.ReadFault = 3
status_number Status.WriteFault = 4
status_number Status.Memory = 5
status_number Status.NotPages = 6
status_number Status.TooLong = 7
status_number Status.NotLeast = 8
status_number Status.Halted = 10

abbrev pub status_after : DocError → Status
status_after (DocError.Write e) = Status.WriteFault
status_after DocError.Memory = Status.Memory

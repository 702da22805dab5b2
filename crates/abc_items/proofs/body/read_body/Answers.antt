use Rattle.std.proofs.Common.{List, Err, Ok}
use Rattle.abc_lines.specs.declared.{book.Line.Line, fault.TuneError.TuneError}
use Rattle.abc_lines.specs.Results.{IsOnlyFault}
use Rattle.abc_fields.specs.declared.header.Header.{Header}
use Rattle.abc_items.specs.Body.{IsBodyError, IsBodyResult}
use Rattle.abc_items.proofs.Laws.{body_is, body_error}
use Rattle.abc_items.proofs.OneBody.{one_body}
use Rattle.abc_items.proofs.body.read_body.Goals as goal

pub returns-in-Ok-clause-items : goal.returns-in-Ok-clause-items
returns-in-Ok-clause-items c =
    body_is c.args.header.now c.args.lines.now
    (record { ids = c.in_ok-declared_ids.field-0; items = c.in_ok-with_room.field-0 }) c.read_lines.new.body
    c.in_ok-declared_ids.ensures c.in_ok-with_room.ensures c.in-Ok.ensures.reads

pub returns-in-Err-clause-fault : goal.returns-in-Err-clause-fault
returns-in-Err-clause-fault c =
    body_error c.args.header.now c.args.lines.now
    (record { ids = c.in_ok-declared_ids.field-0; items = c.in_ok-with_room.field-0 }) c.in-Err.e
    c.in_ok-declared_ids.ensures c.in-Err.ensures.stops

pub returns-in-Ok-clause-only : goal.returns-in-Ok-clause-only
returns-in-Ok-clause-only c =
    one_body c.args.header.now c.args.lines.now (Ok c.read_lines.new.body.items) (returns-in-Ok-clause-items c)

only_fault : (header : Header) (lines : List Line) (e : TuneError)
    → IsBodyError header lines e → IsOnlyFault (IsBodyResult header lines) e
only_fault header lines TuneError.Memory a = tt
only_fault header lines (TuneError.Fault fault) a = one_body header lines (Err fault) a

pub returns-in-Err-clause-only_fault : goal.returns-in-Err-clause-only_fault
returns-in-Err-clause-only_fault c =
    only_fault c.args.header.now c.args.lines.now c.in-Err.e (returns-in-Err-clause-fault c)

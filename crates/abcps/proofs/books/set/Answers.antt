use Rattle.set_tune.specs.Terms.{manner_of}
use Rattle.std.proofs.{Common.{◌∙◌, refl}, KnownBytes.Keeps-refl}
use Rattle.abcps.proofs.Cut.{answer_printed, answer_unprinted}
use Rattle.abcps.proofs.books.set.Goals as goal

pub returns-in-Ok : goal.returns-in-Ok
returns-in-Ok g c =
    let called = c.in-Ok.ensures in
    answer_printed (manner_of c.args.how) c.args.even c.args.how.jobs.count c.args.text _ _ c.report_last.result
    c.in-Ok.printed.status c.as_slice.result.now called.0 called.1 (c.as_slice.ensures ∙ called.2) called.3 called.4
    c.report_last.ensures

pub returns-in-Err : goal.returns-in-Err
returns-in-Err g c =
    answer_unprinted (manner_of c.args.how) c.args.even c.args.how.jobs.count c.args.text _ _
    (Keeps-refl (g.E.Sink.taken c.args.errors.now), refl) c.in-Err.why c.in-Err.ensures

use Rattle.std.proofs.Common.{refl}
use Rattle.std.proofs.KnownBytes.{Keeps-refl}
use Rattle.abcps_words.specs.declared.command.Command.{Command}
use Rattle.abcps.specs.Calls.{IsNoListing}
use Rattle.abcps.specs.declared.refusing.Refusal.{Refusal}
use Rattle.abcps.proofs.Answered.{answer_refused}
use Rattle.abcps.proofs.judging.check.Goals as goal

pub returns-in-Err-NotListing : goal.returns-in-Err-NotListing
returns-in-Err-NotListing g c =
    let cause = rw c.in-Err-NotListing.field-0-is at c.in-Err-NotListing.ensures.cause in
    let no : IsNoListing c.args.text.now c.in-Err-NotListing.line =
    rw c.in-Err-NotListing.line-is (record { first = cause.0; unspelled = cause.1 }) in
    answer_refused Command.Check c.args.text.now (Refusal.NotPages c.in-Err-NotListing.line) _ _ c.refuse.result no
    (Keeps-refl (g.O.Sink.taken c.args.output.now), refl) c.refuse.ensures

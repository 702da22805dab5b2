use Rattle.std.proofs.Common.{refl}
use Rattle.std.proofs.KnownBytes.{Keeps-refl}
use Rattle.abcps_words.specs.declared.command.Command.{Command}
use Rattle.abcps.specs.Calls.{IsNoDocument}
use Rattle.abcps.specs.declared.refusing.Refusal.{Refusal}
use Rattle.abcps.proofs.Answered.{answer_refused}
use Rattle.abcps.proofs.hearing.hear.Goals as goal

pub returns-in-Err-NotPages : goal.returns-in-Err-NotPages
returns-in-Err-NotPages g c =
    let cause = rw c.in-Err-NotPages.field-0-is at c.in-Err-NotPages.ensures.cause in
    let no : IsNoDocument c.args.text.now c.in-Err-NotPages.line = record { first = cause.0; unspelled = cause.1 } in
    answer_refused (Command.Hear c.args.spread) c.args.text.now (Refusal.NotPages c.in-Err-NotPages.line) _ _
    c.refuse.result no
    (Keeps-refl (g.O.Sink.taken c.args.output.now), refl) (rw c.in-Err-NotPages.line-is at c.refuse.ensures)

use Rattle.std.proofs.Common.{refl, subst}
use Rattle.std.proofs.KnownBytes.{Keeps-refl}
use Rattle.abcps_words.specs.declared.command.Command.{Command}
use Rattle.ps_steps.specs.Steps.{Halts}
use Rattle.abcps.specs.declared.refusing.Refusal.{Refusal}
use Rattle.abcps.proofs.Answered.{answer_refused}
use Rattle.abcps.proofs.painting.paint.Goals as goal

pub returns-in-Err-Halt : goal.returns-in-Err-Halt
returns-in-Err-Halt g c =
    let halts = rw c.in-Err-Halt.field-0-is at c.in-Err-Halt.ensures.halted in
    answer_refused Command.Paint c.args.text.now (Refusal.Halted c.in-Err-Halt.token c.in-Err-Halt.cause) _ _
    c.refuse.result
    (subst (λ n. Halts c.args.text.now n c.in-Err-Halt.token c.in-Err-Halt.cause) c.budget_of.ensures
    (rw (c.in-Err-Halt.token-is, c.in-Err-Halt.cause-is) halts))
    (Keeps-refl (g.O.Sink.taken c.args.output.now), refl) c.refuse.ensures

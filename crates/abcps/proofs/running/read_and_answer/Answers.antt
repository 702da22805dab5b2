use Rattle.abcps.proofs.Answered.{read_obeyed}
use Rattle.abcps.proofs.running.read_and_answer.Goals as goal

pub returns-in-Ok : goal.returns-in-Ok
returns-in-Ok g c =
    read_obeyed c.args.command c.limit.result c.in-Ok.text _ _ _ c.answer.result c.requires.reader c.limit.ensures
    c.in-Ok.ensures c.answer.ensures

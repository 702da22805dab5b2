use Rattle.abcps.proofs.Answered.{run_of}
use Rattle.abcps.proofs.running.run_words.Goals as goal

pub returns : goal.returns
returns g c = run_of _ c.in-Some.command _ _ _ _ c.in-Some.ensures.asks c.obey.ensures

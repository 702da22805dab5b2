use Rattle.abcps.proofs.Promised.{promised}
use Rattle.abcps.proofs.running.run.Goals as goal

pub returns : goal.returns
returns g c = promised c.calls_one.ensures c.never_both.ensures _ _ _ _ c.asks_one.ensures _ c.run_words.ensures

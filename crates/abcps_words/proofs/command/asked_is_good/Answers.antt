use Rattle.abcps_words.proofs.Alone as alone
use Rattle.abcps_words.proofs.command.asked_is_good.Goals as goal

pub returns : goal.returns
returns c = alone.asked_is_good

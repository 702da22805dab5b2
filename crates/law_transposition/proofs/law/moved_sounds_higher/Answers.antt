use Rattle.law_transposition.proofs.Sounding.{moved_sounds_higher}
use Rattle.law_transposition.proofs.law.moved_sounds_higher.Goals as goal

pub returns : goal.returns
returns c = moved_sounds_higher

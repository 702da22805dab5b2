use Rattle.std.proofs.Common.{sym}
use Rattle.abc_score.proofs.Moving.{none_added}
use Rattle.abc_score.proofs.steps.move_item.Goals as goal

pub returns-clause-voices : goal.returns-clause-voices
returns-clause-voices c = rw c.in-Words.is (sym (none_added c.args.voices.now))

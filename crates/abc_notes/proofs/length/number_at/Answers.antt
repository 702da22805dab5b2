use Rattle.abc_notes.proofs.LengthLaws.{number-count, count-few, count-digits}
use Rattle.abc_notes.proofs.length.number_at.Goals as goal

pub returns-clause-good : goal.returns-clause-good
returns-clause-good c = rw (← c.digits_at.ensures) at (number-count c.args.most c.args.bytes.now)

pub returns-clause-few : goal.returns-clause-few
returns-clause-few c = count-few c.args.most _ (returns-clause-good c)

pub returns-clause-digits : goal.returns-clause-digits
returns-clause-digits c = count-digits c.args.most _ (returns-clause-good c)

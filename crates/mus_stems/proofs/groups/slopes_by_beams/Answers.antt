use Rattle.mus_stems.proofs.GroupLaws.{slopes_by_beams}
use Rattle.mus_stems.proofs.groups.slopes_by_beams.Goals as goal

pub returns : goal.returns
returns c = slopes_by_beams

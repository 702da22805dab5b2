use Rattle.mus_stems.proofs.GroupLaws.{beams_by_groups}
use Rattle.mus_stems.proofs.groups.beams_by_groups.Goals as goal

pub returns : goal.returns
returns c = beams_by_groups

use Rattle.lay_springs.proofs.Longer.{longer_fits_less}
use Rattle.lay_springs.proofs.forces.longer_fits_less.Goals as goal

pub returns : goal.returns
returns g c = longer_fits_less g.C.Spaced.reach_of g.C.Spring.length_of

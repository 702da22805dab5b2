use Rattle.lay_springs.proofs.Unique.{one_force}
use Rattle.lay_springs.proofs.forces.one_force.Goals as goal

pub returns : goal.returns
returns g c = one_force g.C.Spaced.reach_of g.C.Spring.length_of g.met.C.Spring.rises

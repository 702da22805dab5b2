use Rattle.std.proofs.Common.{◌-◌, arith}
use Rattle.std.proofs.lemmas.Int.{ints}
use Rattle.lay_springs.proofs.Ends.{lengths_scale}
use Rattle.lay_springs.proofs.forces.first_past.Goals as goal

pub returns-clause-never : goal.returns-clause-never
returns-clause-never g c = λ f from within stood.
    let placed = c.place_to-progress.ensures.placed in
    c.too_long.ensures.never c.args.placing.now.columns.gaps.list.now c.place_to-progress.new.placing.at.now
    (let small = placed.placed.small (c.place_to-progress.result.count - 1) (omega arith) in
    let low = small.0 in let high = small.1 in let few = c.args.placing.now.columns.few in
    let within = placed.within in omega (arith, ints))
    (placed.placed.near (lengths_scale g.C.Spring.length_of c.args.placing.now.columns.cols.now
    c.place_to-progress.result.count g.met.C.LinearSpring.scales))
    f from (omega arith) stood

use Rattle.std.proofs.Common.{◌≡◌, length, arith}
use Rattle.lay_springs.specs.Place.{reach_at, length_at, IsPlacedTo}
use Rattle.lay_springs.proofs.Extending.{place_of}
use Rattle.lay_springs.proofs.least.place_all.Goals.{After-place_to}
use Rattle.lay_springs.proofs.least.place_all.Goals as goal

all : (g : _) (c : After-place_to g)
    → IsPlacedTo (length c.args.placing.now.columns.cols.now)
    (reach_at g.C.Spaced.reach_of c.args.placing.now.columns.cols.now) c.args.placing.now.columns.gaps.list.now
    (length_at g.C.Spring.length_of c.args.placing.now.columns.cols.now) c.args.force
    c.place_to.result.tight.natural c.place_to.result.tight.count c.place_to.new.placing.at.now
all g c =
    let e = c.place_to.ensures in
    let done : c.place_to.result.count ≡ length c.args.placing.now.columns.cols.now =
    let within = e.placed.within in let count = e.count in omega arith in
    rw (done, e.force) at e.placed.placed

pub returns-clause-place : goal.returns-clause-place
returns-clause-place g c =
    let s = (goal.at.returns-clause-place g c).After-place_to in
    place_of _ _ _ _ _ _ _ _
    (let room = c.place_to.new.placing.room in let same = c.place_to.ensures.columns in rw same at room) (all g s)

pub returns-clause-near : goal.returns-clause-near
returns-clause-near g c = (all g (goal.at.returns-clause-near g c).After-place_to).near

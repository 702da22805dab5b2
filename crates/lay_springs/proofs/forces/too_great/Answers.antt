use Rattle.std.proofs.Common.{◌≡◌, ◌-◌, ◌+◌, length, inl, inr, arith}
use Rattle.std.proofs.lemmas.Bool.{cases_lt}
use Rattle.std.proofs.lemmas.Int.{ints}
use Rattle.lay_springs.specs.Place.{reach_at, length_at}
use Rattle.lay_springs.proofs.Ends.{length_rises, lengths_scale}
use Rattle.lay_springs.proofs.Longer.{cannot_stand}
use Rattle.lay_springs.proofs.forces.too_great.Goals as goal

pub returns-then-end-from-clause-fits : goal.returns-then-end-from-clause-fits
returns-then-end-from-clause-fits g c =
    let within = c.if-end-from.true in
    let low = c.end_at-end.ensures.begins in
    let high = c.end_at-end.ensures.small in
    (c.end_at-end.result.end, c.end_at-end.ensures.end, omega (arith, ints))

pub returns-clause-never : goal.returns-clause-never
returns-clause-never g c = λ f from small stood.
    let low = c.end_at-end.ensures.begins in
    let high = c.end_at-end.ensures.small in
    let more = c.if-end-from.false in
    let width = c.from.ensures in
    elim (cases_lt f c.args.force) [
      | inl less ↦ (
          let is : f + (c.args.force - f) ≡ c.args.force = omega arith in
          let near = c.end_at-end.ensures.near
          (lengths_scale g.C.Spring.length_of c.args.placing.now.columns.cols.now
          (length c.args.placing.now.columns.cols.now)
          g.met.C.LinearSpring.scales)
          f (c.args.force - f) c.args.width is stood in
          let far = c.lowered.ensures.past f (c.args.force - f) is (omega arith) from in
          let width = c.from-2.ensures in
          omega (arith, ints))
      | inr up ↦
          cannot_stand (length c.args.placing.now.columns.cols.now)
          (reach_at g.C.Spaced.reach_of c.args.placing.now.columns.cols.now)
          c.args.placing.now.columns.gaps.list.now
          (length_at g.C.Spring.length_of c.args.placing.now.columns.cols.now) c.args.width
          c.args.force f c.args.placing.now.columns.some
          (length_rises g.C.Spring.length_of c.args.placing.now.columns.cols.now c.args.force f
          (λ col. g.met.C.Spring.rises col c.args.force f up small))
          (c.end_at-end.result.end, c.end_at-end.ensures.end, omega (arith, ints)) stood
    ]

use Rattle.std.proofs.Common.{length, w64, arith}
use Rattle.std.proofs.lemmas.Int.{ints, to_z-of_z}
use Rattle.lay_springs.specs.ReachView.{reach_in, reach_in_near}
use Rattle.lay_springs.proofs.Fronts.{each_after}
use Rattle.lay_springs.proofs.least.set_past_each.Goals as goal

pub advance_each-requires-clause-small : goal.advance_each-requires-clause-small
advance_each-requires-clause-small c =
    rw (to_z-of_z w64 c.past_each-at.result (record { sfits = c.past_each-at.type_inv }))
    (c.past_each-at.ensures.least _ (let near = c.requires.near.le in omega (arith, ints))
    (λ lane s lt e some. let near = rw e at (reach_in_near c.args.row.now lane) in
    let left = near.0 in
    let gap = c.args.gaps.narrow lane lt in
    let high = c.requires.small lane lt in
    omega (arith, ints)))

pub advance_each-requires-clause-following : goal.advance_each-requires-clause-following
advance_each-requires-clause-following c =
    rw (to_z-of_z w64 c.past_each-at.result (record { sfits = c.past_each-at.type_inv }))
    (λ lane l.
    each_after (reach_in c.args.row.now) c.args.gaps.list.now (length c.args.gaps.list.now) c.args.front.now
    c.past_each-at.result
    (let begins = c.requires.begins.le in let kept = c.past_each-at.ensures.kept in omega (arith, ints))
    c.past_each-at.ensures.clear lane (let room = c.requires.room in omega arith))

use Rattle.std.{proofs.{Common.{◌≡◌, ◌<◌, ◌∙◌, subst, pos, ◌+ℤ◌, to_z, of_z, w64, arith}, lemmas.Int.{ints, to_z-of_z}}}
use Rattle.lay_springs.specs.ReachView.{IsLone, TellsReach}
use Rattle.lay_springs.proofs.Fronts.{lone_clear, lone_noted, lone_known}
use Rattle.lay_springs.proofs.least.set_past.Goals.{After-from}
use Rattle.lay_springs.proofs.least.set_past.Goals as goal

inside : (g : _) (c : After-from g) → c.in-OneLane.stand.lane < 4294967296
inside g c = omega (arith, c.if-lane-gaps.false, c.args.gaps.lanes)

lone : (g : _) (c : After-from g) → IsLone (g.C.Spaced.reach_of c.args.col.now) c.in-OneLane.stand
lone g c =
    lone_known c.in-OneLane.stand (g.C.Spaced.reach_of c.args.col.now)
    (subst (λ s. TellsReach s (g.C.Spaced.reach_of c.args.col.now)) c.in-OneLane.is c.stands.ensures) (inside g c)

pub overflow_add-front : goal.overflow_add-front
overflow_add-front g c =
    let high = c.requires.small c.in-OneLane.stand.lane c.if-lane-gaps.false in
    let gap = c.args.gaps.narrow c.in-OneLane.stand.lane c.if-lane-gaps.false in
    let near = c.requires.near.le in
    let top =
    c.past_end-at.ensures.least (pos 4611686018427387904) (omega (arith, ints)) (λ some. omega (arith, ints)) in
    omega (arith, ints)

pub returns-clause-clear : goal.returns-clause-clear
returns-clause-clear g c =
    let s = (goal.at.returns-clause-clear g c).After-from in
    let high = c.requires.small c.in-OneLane.stand.lane c.if-lane-gaps.false in
    rw (to_z-of_z w64 c.past_end-at.result (record { sfits = c.past_end-at.type_inv }))
    (lone_clear (g.C.Spaced.reach_of c.args.col.now) c.in-OneLane.stand c.args.gaps.list.now c.args.front.now
    c.past_end-at.result (lone g s) c.args.gaps.lanes
    (λ some. let past = c.past_end-at.ensures.past (omega (arith, ints)) in omega (arith, ints)))

pub returns-clause-noted : goal.returns-clause-noted
returns-clause-noted g c =
    let at = c.past_end-at.result in
    let stand = c.in-OneLane.stand in
    let same : to_z w64 (of_z w64 at) ≡ at = to_z-of_z w64 at (record { sfits = c.past_end-at.type_inv }) in
    let right : to_z w64 (of_z w64 c.from.result) ≡ pos stand.reach.right =
    to_z-of_z w64 c.from.result (record { sfits = c.from.type_inv }) ∙ c.from.ensures in
    let fits = rw (same, right) at (overflow_add-front g (goal.at.returns-clause-noted g c).After-from) in
    rw (same, right, to_z-of_z w64 (at +ℤ pos stand.reach.right) fits)
    (lone_noted (g.C.Spaced.reach_of c.args.col.now) stand c.args.front.now at
    (lone g (goal.at.returns-clause-noted g c).After-from) (omega (arith, c.requires.room, c.args.gaps.lanes))
    (omega (arith, c.requires.room, c.if-lane-gaps.false))
    (let begins = c.requires.begins.le in
    let following = c.past_end-at.ensures.following (omega (arith, ints)) in
    omega (arith, ints)))

pub overflow_add-gaps : goal.overflow_add-gaps
overflow_add-gaps g c =
    let few : c.in-OneLane.stand.lane < 4294967296 = omega (arith, c.if-lane-gaps.false, c.args.gaps.lanes) in
    let lone = lone_known c.in-OneLane.stand (g.C.Spaced.reach_of c.args.col.now)
    (subst (λ s. TellsReach s (g.C.Spaced.reach_of c.args.col.now)) c.in-OneLane.is c.stands.ensures) few in
    let near = rw lone.here at (g.met.C.Spaced.is_near c.args.col.now c.in-OneLane.stand.lane few) in
    let left = near.0 in
    let gap = c.args.gaps.narrow c.in-OneLane.stand.lane c.if-lane-gaps.false in
    omega arith

pub returns-clause-least : goal.returns-clause-least
returns-clause-least g c = λ v from past.
    let s = (goal.at.returns-clause-least g c).After-from in
    let same = to_z-of_z w64 c.past_end-at.result (record { sfits = c.past_end-at.type_inv }) in
    let begins = c.requires.begins.le in
    let near = c.requires.near.le in let high = c.requires.small c.in-OneLane.stand.lane c.if-lane-gaps.false in
    rw same (c.past_end-at.ensures.least v (omega (arith, ints)) (λ some.
    let here =
    past c.in-OneLane.stand.lane c.in-OneLane.stand.reach c.if-lane-gaps.false (lone g s).here (omega (arith, ints)) in
    omega (arith, ints)))

use Rattle.std.proofs.Common.{◌≡◌, length, arith}
use Rattle.set_pages.proofs.Stepping.{cut_at, spots_left, systems_stand}
use Rattle.set_pages.proofs.drawing.put_systems.Goals as goal

pub bounds-spots-i : goal.bounds-spots-i
bounds-spots-i c =
    spots_left c.loop-i.i c.as_slice-systems.result.now c.as_slice-placed.result.now c.as_slice-heights.result.now
    c.args.spots.now c.loop-i.opening c.loop-i.invariant.ready
    (rw (c.as_slice-placed.ensures, c.as_slice-systems.ensures) c.requires.rows.placed)
    (rw (c.as_slice-heights.ensures, c.as_slice-systems.ensures) c.requires.rows.heights) (omega arith)

pub put_system-requires-clause-ready : goal.put_system-requires-clause-ready
put_system-requires-clause-ready c =
    let i = c.loop-i.i in
    let ms = c.as_slice-systems.result.now in
    let ps = c.as_slice-placed.result.now in
    let hs = c.as_slice-heights.result.now in
    let placed : length ps ≡ length ms =
    rw (c.as_slice-placed.ensures, c.as_slice-systems.ensures) c.requires.rows.placed in
    let heights : length hs ≡ length ms =
    rw (c.as_slice-heights.ensures, c.as_slice-systems.ensures) c.requires.rows.heights in
    systems_stand i ms ps hs c.args.spots.now c.loop-i.opening c.loop-i.invariant.ready c.index-systems-i.result
    c.index-placed-i.result c.index-heights-i.result _
    (cut_at ms i c.index-systems-i.result (omega arith) c.index-systems-i.is)
    (cut_at ps i c.index-placed-i.result (omega arith) c.index-placed-i.is)
    (cut_at hs i c.index-heights-i.result (omega arith) c.index-heights-i.is)
    (spots_left i ms ps hs c.args.spots.now c.loop-i.opening c.loop-i.invariant.ready placed heights (omega arith))

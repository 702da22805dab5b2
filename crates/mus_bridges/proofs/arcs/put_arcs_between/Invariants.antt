use Rattle.std.proofs.Common.{◌≡◌, ◌++◌, take, drop}
use Rattle.std.specs.List.{flat_map}
use Rattle.mus_bridges.specs.Arcs.{arc_in}
use Rattle.mus_bridges.specs.Ends.{measure_ended, over}
use Rattle.mus_bridges.proofs.arcs.put_arcs_between.Given as goal

abbrev pub invariant-loop-arc : goal.invariant-loop-arc
invariant-loop-arc l =
    l.out
    ++ flat_map
    (arc_in l.frame.lengths.now l.frame.a l.frame.b
    (take l.frame.a l.measures ++ over measure_ended l.ends (drop l.frame.a l.measures)))
    (drop l.arc-index l.arcs)
    ≡ l.fn.out
    ++ flat_map
    (arc_in l.frame.lengths.now l.frame.a l.frame.b
    (take l.frame.a l.measures ++ over measure_ended l.ends (drop l.frame.a l.measures)))
    l.arcs

use Rattle.{std.proofs.Common.{drop, map}, mus_stems.specs.Heads.{AllNear, stand_of}}
use Rattle.setting_tests.proofs.plans.are_near.Given as goal

abbrev pub invariant-loop-head : goal.invariant-loop-head
invariant-loop-head l =
    AllNear (map (stand_of l.clef) (drop l.head-index l.heads)) → AllNear (map (stand_of l.clef) l.heads)

-- Some of good measures.
use Rattle.std.proofs.Common.{ℕ, List, take, drop}
use Rattle.mus_stems.proofs.RunLaws.{all_drop, all_take}
use Rattle.mus_drawn.specs.declared.drawn.DrawnMeasure.{DrawnMeasure}
use Rattle.mus_drawn.specs.Good.{IsGoodMeasure, AreGoodMeasures}

pub good_slice : (a n : ℕ) (ms : List DrawnMeasure) → AreGoodMeasures ms → AreGoodMeasures (take n (drop a ms))
good_slice a n ms good = all_take IsGoodMeasure n (drop a ms) (all_drop IsGoodMeasure a ms good)

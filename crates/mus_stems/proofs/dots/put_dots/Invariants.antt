use Rattle.std.proofs.Common.{◌≡◌, ◌++◌, drop}
use Rattle.mus_stems.specs.{Dots.dots_along, Heads.AllNear}
use Rattle.mus_stems.proofs.dots.put_dots.Given as goal

abbrev pub invariant-loop-s : goal.invariant-loop-s
invariant-loop-s l = record {
  near : AllNear (drop l.s-index l.stands);
  dots : l.out ++ dots_along l.dx l.n (drop l.s-index l.stands) ≡ l.fn.out ++ dots_along l.dx l.n l.stands;
}

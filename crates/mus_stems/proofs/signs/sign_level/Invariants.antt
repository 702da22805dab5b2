use Rattle.std.proofs.Common.{◌≡◌, ◌≤◌, ◌+◌, List, drop, false}
use Rattle.mus_stems.specs.{Heads.AllNear, Heads.Taken, Heads.taken_at, Signs.signs_along}
use Rattle.mus_stems.proofs.signs.sign_level.Given as goal

abbrev pub invariant-loop-s : goal.invariant-loop-s
invariant-loop-s l = record {
  count : l.i ≡ l.s-index;
  bound : l.next ≤ l.k + l.s-index;
  near : AllNear (drop l.s-index l.stands);
  signs : (rest : List Taken)
      → signs_along l.first l.next (taken_at false l.v l.i (drop l.s-index l.stands) rest) l.signs
      ≡ signs_along l.first l.k (taken_at false l.v 0 l.stands rest) l.fn.signs;
}

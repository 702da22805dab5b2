use Rattle.std.proofs.Common.{◌≡◌, ◌++◌, [], drop, length}
use Rattle.mus_drawn.specs.Hearing.{heard_from}
use Rattle.mus_drawn.proofs.sounds.hear_heads.Given as goal

abbrev pub invariant-loop-head : goal.invariant-loop-head
invariant-loop-head l = record {
  heard : heard_from l.spread l.key.signs l.before l.said l.out (drop l.head-index l.heads)
      ≡ heard_from l.spread l.key.signs l.before l.fn.said [] l.heads;
  count : length l.out ≡ l.head-index;
  said : l.said ++ drop l.head-index l.heads ≡ l.fn.said ++ l.heads;
}

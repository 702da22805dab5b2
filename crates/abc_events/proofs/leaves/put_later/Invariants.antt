use Rattle.std.proofs.Common.{◌≡◌, ◌+◌, ◌++◌, map, drop}
use Rattle.abc_events.specs.Leaves.{later_parts, node_of}
use Rattle.abc_events.proofs.leaves.put_later.Given as goal

abbrev pub invariant-loop-i : goal.invariant-loop-i
invariant-loop-i l = record {
  nodes : l.nodes ++ map node_of (later_parts l.w l.verses (l.last + 1) (drop l.i l.values))
      ≡ l.fn.nodes ++ map node_of (later_parts l.w l.verses (l.id + 1) l.values);
  last : l.last ≡ l.id + l.i;
}

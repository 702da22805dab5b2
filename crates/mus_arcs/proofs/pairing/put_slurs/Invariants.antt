use Rattle.std.proofs.Common.{◌≡◌, ◌++◌, ◌-◌, drop, reverse}
use Rattle.mus_arcs.specs.Arcs.{slur_copies, slurs}
use Rattle.mus_arcs.proofs.pairing.put_slurs.Given as goal

abbrev pub invariant-times : goal.invariant-times
invariant-times l = record {
  left : drop (l.count - l._n) (reverse l.ends.items) ≡ drop l.count (reverse l.fn.ends.items);
  put : l.backwards.items ++ slurs (slur_copies (l.count - l._n) l.start) (reverse l.ends.items)
      ≡ l.fn.backwards.items ++ slurs (slur_copies l.count l.start) (reverse l.fn.ends.items);
}

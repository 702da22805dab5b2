use Rattle.std.{proofs.Common.{◌≡◌, ◌++◌, flat_map, length, List, ℕ}, specs.Vec.Iter.{into_iter_items, into_iter_len}}
use Rattle.eng_io.specs.Streams.{WroteWhole}
use Rattle.abcps.proofs.Sent.{stream}
use Rattle.abcps.proofs.building.send_all.Given as goal

abbrev pub invariant-loop-text : goal.invariant-loop-text
invariant-loop-text g l = record {
  sent : (prefix : List ℕ)
      × (prefix ++ flat_map (λ text. text) (into_iter_items l.text-iterator)
      ≡ flat_map (λ text. text) (into_iter_items l.initial.text-iterator))
      × WroteWhole
      (stream (g.O.Sink.taken l.fn.output) (g.O.Sink.taken l.output) (g.O.Sink.faults l.fn.output)
      (g.O.Sink.faults l.output))
      prefix;
  count : into_iter_len l.text-iterator ≡ length (into_iter_items l.text-iterator);
  pages : l.writer.pages ≡ 0;
}

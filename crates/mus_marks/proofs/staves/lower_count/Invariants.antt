use Rattle.std.{proofs.Common.◌≡◌, proofs.Common.◌+◌, proofs.Common.drop, specs.List.prefix_len}
use Rattle.mus_marks.specs.System.{is_drawn_lower}
use Rattle.mus_marks.proofs.staves.lower_count.Given as goal

abbrev pub invariant-loop-v : goal.invariant-loop-v
invariant-loop-v l = record {
  count : l.count ≡ l.v-index;
  rest : l.v-index + prefix_len is_drawn_lower (drop l.v-index l.voices) ≡ prefix_len is_drawn_lower l.voices;
}

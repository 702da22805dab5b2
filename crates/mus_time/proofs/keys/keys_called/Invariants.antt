use Rattle.std.{proofs.Common.◌≡◌, proofs.Common.◌++◌, proofs.Common.drop, specs.List.flat_map}
use Rattle.mus_time.specs.Columns.{staff_columns}
use Rattle.mus_time.proofs.keys.keys_called.Given as goal

abbrev pub invariant-loop-v : goal.invariant-loop-v
invariant-loop-v l =
    let r = l.range in
    l.keys ++ flat_map (staff_columns r.begins r.lengths.now r.a r.b) (drop l.v-index l.voices)
    ≡ flat_map (staff_columns r.begins r.lengths.now r.a r.b) l.voices

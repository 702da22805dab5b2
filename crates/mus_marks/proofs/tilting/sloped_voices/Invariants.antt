use Rattle.std.{proofs.Common.◌≡◌, proofs.Common.◌++◌, proofs.Common.drop, proofs.Common.map, specs.List.slice_range}
use Rattle.mus_marks.specs.Tilt.{sloped_over}
use Rattle.mus_marks.proofs.tilting.sloped_voices.Given as goal

abbrev pub invariant-loop-v : goal.invariant-loop-v
invariant-loop-v l =
    l.ends
    ++ map (λ v. sloped_over l.frame.keys.now l.at l.frame.a (slice_range v.measures l.frame.a l.frame.b))
    (drop l.v-index l.voices)
    ≡ map (λ v. sloped_over l.frame.keys.now l.at l.frame.a (slice_range v.measures l.frame.a l.frame.b)) l.voices

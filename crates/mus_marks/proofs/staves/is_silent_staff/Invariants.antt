use Rattle.std.proofs.Common.{◌≡◌, drop}
use Rattle.mus_marks.specs.Silent.{is_silent_staff}
use Rattle.mus_marks.proofs.staves.is_silent_staff.Given as goal

abbrev pub invariant-loop-v : goal.invariant-loop-v
invariant-loop-v l =
    is_silent_staff l.frame.a l.frame.b (drop l.v-index l.voices) ≡ is_silent_staff l.frame.a l.frame.b l.voices

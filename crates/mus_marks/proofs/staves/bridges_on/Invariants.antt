use Rattle.std.proofs.Common.{◌≡◌, ◌++◌, drop}
use Rattle.std.specs.List.{flat_map}
use Rattle.mus_bridges.specs.Bridges.{bridges_of}
use Rattle.mus_bridges.specs.Ends.{over, voice_ended}
use Rattle.mus_marks.proofs.staves.bridges_on.Given as goal

abbrev pub invariant-loop-i : goal.invariant-loop-i
invariant-loop-i l =
    l.out
    ++ flat_map (bridges_of l.frame.lengths.now l.frame.a l.frame.b)
    (over (voice_ended l.frame.a) (drop l.i l.ends) (drop l.i l.voices))
    ≡ flat_map (bridges_of l.frame.lengths.now l.frame.a l.frame.b) (over (voice_ended l.frame.a) l.ends l.voices)

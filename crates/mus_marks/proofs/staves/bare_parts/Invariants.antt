use Rattle.std.proofs.Common.{◌≡◌, ◌≤◌, ◌+◌, ◌++◌, drop, map}
use Rattle.mus_bridges.specs.Ends.{over, voice_ended}
use Rattle.mus_slots.specs.Staff.{bare_slots}
use Rattle.mus_slots.specs.Voice.{slots_of_voices}
use Rattle.mus_marks.specs.Staff.{verses_on}
use Rattle.mus_marks.proofs.staves.bare_parts.Given as goal

abbrev pub invariant-loop-i : goal.invariant-loop-i
invariant-loop-i l = record {
  parts : l.parts
      ++ map (bare_slots l.frame.keys.now)
      (slots_of_voices l.verse l.frame.lengths.now l.frame.a l.frame.b
      (over (voice_ended l.frame.a) (drop l.i l.ends) (drop l.i l.voices)))
      ≡ map (bare_slots l.frame.keys.now)
      (slots_of_voices 0 l.frame.lengths.now l.frame.a l.frame.b (over (voice_ended l.frame.a) l.ends l.voices));
  few : l.verse + verses_on (drop l.i l.voices) ≤ 128;
}

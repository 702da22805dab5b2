-- A stored note, chord or rest: a rest and a single note are stored inline, others on the heap.
use Rattle.std.specs.Prelude.{[], true}
use Rattle.abc_steps.specs.declared.stored.SoundStore.{SoundStore}
use Rattle.abc_steps.specs.declared.step.WrittenSound.{WrittenSound}

abbrev pub stored_sound : SoundStore → WrittenSound
stored_sound (SoundStore.Rest seen num den) = record { heads = []; seen = seen; decos = []; num = num; den = den }
stored_sound (SoundStore.Note head num den) = record { heads = head; seen = true; decos = []; num = num; den = den }
stored_sound (SoundStore.Other sound) = sound.value

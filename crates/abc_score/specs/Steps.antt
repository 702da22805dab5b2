-- How steps move to their voices: each voice takes its steps of one item after another.
use Rattle.std.specs.Prelude.{ℕ, List, ◌++◌}
use Rattle.std.specs.Str.{bytes_eq}
use Rattle.abc_steps.specs.declared.step.BodyItem.{BodyItem}
use Rattle.abc_steps.specs.declared.step.PlacedStep.{PlacedStep}
use Rattle.abc_items.specs.Voices.{steps_from, steps_in}
use Rattle.abc_score.specs.declared.voices.ReadVoice.{ReadVoice}

abbrev pub with_steps : ReadVoice → List PlacedStep → ReadVoice
with_steps v steps = record v { steps = v.steps ++ steps }

-- a voice with its steps of an item, or of items; `current` is the id of the voice that is current before them
abbrev pub with_item : List ℕ → BodyItem → ReadVoice → ReadVoice
with_item current i v = with_steps v (steps_in v.start.id (bytes_eq v.start.id current) i)

abbrev pub with_items : List ℕ → List BodyItem → ReadVoice → ReadVoice
with_items current items v = with_steps v (steps_from v.start.id (bytes_eq v.start.id current) items)

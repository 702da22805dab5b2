-- All faults in the score of a body: those of each voice by itself, its verses that are too many, and the places up
-- to which all voices together have too many heads and rests.
use Rattle.std.specs.Prelude.{List, [], ◌++◌, flat_map}
use Rattle.abc_lines.specs.declared.fault.Fault.{Fault}
use Rattle.abc_fields.specs.declared.header.Header.{Header}
use Rattle.abc_steps.specs.declared.step.BodyItem.{BodyItem}
use Rattle.abc_faults.specs.declared.weights.Weight.{Weight}
use Rattle.abc_faults.specs.Faults.{faults_in}
use Rattle.abc_faults.specs.Weights.{crowded, weights_in}
use Rattle.abc_words.specs.Verses.{verse_faults}
use Rattle.abc_score.specs.declared.voices.ReadVoice.{ReadVoice}
use Rattle.abc_score.specs.Voices.{voices_read}

abbrev pub voice_faults : ReadVoice → List Fault
voice_faults v = faults_in v.first [] v.steps ++ verse_faults v.verses

abbrev pub voice_weights : ReadVoice → List Weight
voice_weights v = weights_in v.first [] v.steps

abbrev pub faults_of_voices : List ReadVoice → List Fault
faults_of_voices voices = flat_map voice_faults voices ++ crowded (flat_map voice_weights voices)

abbrev pub score_faults : Header → List BodyItem → List Fault
score_faults header items = faults_of_voices (voices_read header items)

-- How clefs and voices are written: each form with its spelling, when it is good, and what it means.
use Rattle.std.specs.Prelude.{◌≡◌, ℕ, ◌≤◌, List, [], ◌∷◌, ◌++◌, false, IsTrue, ⊤, not, length, map, codes}
use Rattle.mus_units.specs.{declared.pitch.Clef.Clef, declared.note.Wish.Wish, Pitch.clef_row}
use Rattle.abc_field.specs.declared.voice.VoiceDef.{VoiceDef}
use Rattle.abc_field.specs.declared.voice.VoiceWord.{VoiceWord}
use Rattle.abc_field.specs.Voices.{voice_def}
use Rattle.abc_field.specs.WordSpelling.{IsFirstWord}
use Rattle.abc_field.specs.Words.{properties_of, ends_quoted}

-- A clef is its name; an octave above or below may follow the name, and is ignored.
pub data ClefForm : Type 0 where
  plain_clef : (clef : Clef) → ClefForm
  above_clef : (clef : Clef) → ClefForm
  below_clef : (clef : Clef) → ClefForm

abbrev pub clef_spelled : ClefForm → List ℕ
clef_spelled (plain_clef clef) = (clef_row clef).name
clef_spelled (above_clef clef) = (clef_row clef).name ++ codes "+8"
clef_spelled (below_clef clef) = (clef_row clef).name ++ codes "-8"

abbrev pub clef_meant : ClefForm → Clef
clef_meant (plain_clef clef) = clef
clef_meant (above_clef clef) = clef
clef_meant (below_clef clef) = clef

-- A property of a voice: a clef after `clef=` or by its name alone, a stem direction after `stem=`, or any other
-- word, which is ignored.
pub data PropertyForm : Type 0 where
  clef_property : (clef : ClefForm) → PropertyForm
  name_property : (clef : ClefForm) → PropertyForm
  stem_property : (way : Wish) → PropertyForm
  other_property : (word : List ℕ) → PropertyForm

abbrev pub wish_name : Wish → List ℕ
wish_name Wish.Up = codes "up"
wish_name Wish.Down = codes "down"
wish_name Wish.Auto = codes "auto"

abbrev pub property_spelled : PropertyForm → List ℕ
property_spelled (clef_property clef) = codes "clef=" ++ clef_spelled clef
property_spelled (name_property clef) = clef_spelled clef
property_spelled (stem_property way) = codes "stem=" ++ wish_name way
property_spelled (other_property word) = word

-- An ignored word begins with neither `clef=` nor `stem=` and is not the name of a clef.
pub record IsOther (word : List ℕ) : Type 0 where
  pub no_clef : (name : List ℕ) → word ≡ codes "clef=" ++ name → ⊥
  pub no_stem : (way : List ℕ) → word ≡ codes "stem=" ++ way → ⊥
  pub no_name : (clef : ClefForm) → word ≡ clef_spelled clef → ⊥

abbrev pub IsGoodProperty : PropertyForm → Type 0
IsGoodProperty (other_property word) = IsOther word
IsGoodProperty _ = ⊤

abbrev pub AreGoodProperties : List PropertyForm → Type 0
AreGoodProperties [] = ⊤
AreGoodProperties (form ∷ forms) = IsGoodProperty form × AreGoodProperties forms

abbrev pub property_meant : PropertyForm → VoiceWord
property_meant (clef_property clef) = VoiceWord.Names (clef_meant clef)
property_meant (name_property clef) = VoiceWord.Names (clef_meant clef)
property_meant (stem_property way) = VoiceWord.Asks way
property_meant (other_property word) = VoiceWord.Passed

-- A voice is an id of at most 20 bytes, which is the first word of the text, and properties, which are separated at
-- blanks outside quotes. No quote is left open after the id. Of several clefs the last counts, and so it does of
-- several stem directions.
pub record SaysVoice (text : List ℕ) (voice : VoiceDef) : Type 0 where
  pub id : List ℕ
  pub rest : List ℕ
  pub forms : List PropertyForm
  pub first : IsFirstWord text id rest
  pub short : length id ≤ 20
  pub closed : IsTrue (not (ends_quoted false rest))
  pub good : AreGoodProperties forms
  pub spelled : properties_of rest ≡ map property_spelled forms
  pub meant : voice_def id (map property_meant forms) ≡ voice

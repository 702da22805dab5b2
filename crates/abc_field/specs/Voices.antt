-- What a voice's text says: its id, its clef and its stem direction.
use Rattle.std.specs.Prelude.{ℕ, List, [], ◌∷◌, Bool, false, ◌&&◌, not, nat_le, if◌then◌else◌, length, codes, Option}
use Rattle.std.specs.Prelude.{Some, None, is_some, unwrap_or}
use Rattle.std.specs.Option.{option_map, option_and_then}
use Rattle.std.specs.Str.{bytes_eq}
use Rattle.mus_units.specs.{declared.pitch.Clef.Clef, declared.note.Wish.Wish}
use Rattle.abc_field.specs.declared.voice.VoiceDef.{VoiceDef}
use Rattle.abc_field.specs.declared.voice.VoiceWord.{VoiceWord}
use Rattle.abc_field.specs.Keys.{clef_of}
use Rattle.abc_field.specs.Last.{last_of}
use Rattle.abc_field.specs.Words.{next_word, properties_of, ends_quoted, after_prefix}

abbrev pub wish_of : List ℕ → Option Wish
wish_of w =
    if bytes_eq w (codes "up") then Some Wish.Up
    else (if bytes_eq w (codes "down") then Some Wish.Down
    else (if bytes_eq w (codes "auto") then Some Wish.Auto else None))

-- a property: `clef=` and a clef, `stem=` and a direction, a clef's name, or one that is ignored
abbrev pub named_or_passed : Option Clef → VoiceWord
named_or_passed (Some clef) = VoiceWord.Names clef
named_or_passed None = VoiceWord.Passed

abbrev pub by_stem : List ℕ → Option (List ℕ) → Option VoiceWord
by_stem w (Some way) = option_map (λ wish. VoiceWord.Asks wish) (wish_of way)
by_stem w None = Some (named_or_passed (clef_of w))

abbrev pub by_clef : List ℕ → Option (List ℕ) → Option VoiceWord
by_clef w (Some name) = option_map (λ clef. VoiceWord.Names clef) (clef_of name)
by_clef w None = by_stem w (after_prefix (codes "stem=") w)

unfoldable pub voice_word : List ℕ → Option VoiceWord
voice_word w = by_clef w (after_prefix (codes "clef=") w)

-- all properties, or None if one has an unknown clef or stem direction
abbrev pub voice_words : List (List ℕ) → Option (List VoiceWord)
voice_words [] = Some []
voice_words (w ∷ ws) = option_and_then (λ v. option_map (λ vs. v ∷ vs) (voice_words ws)) (voice_word w)

abbrev pub clef_in : VoiceWord → Option Clef
clef_in (VoiceWord.Names clef) = Some clef
clef_in _ = None

abbrev pub wish_in : VoiceWord → Option Wish
wish_in (VoiceWord.Asks wish) = Some wish
wish_in _ = None

-- the last clef and the last stem direction count
abbrev pub voice_def : List ℕ → List VoiceWord → VoiceDef
voice_def id vs = record {
  id = id;
  clef = last_of clef_in vs;
  stem = unwrap_or (last_of wish_in vs) Wish.Auto;
  asks = is_some (last_of wish_in vs);
}

-- an id has at most 20 bytes, and no quote is left open after it
abbrev pub is_good_voice : List ℕ → List ℕ → Bool
is_good_voice id rest = nat_le (length id) 20 && not (ends_quoted false rest)

abbrev pub voice_by_id : Option (List ℕ × List ℕ) → Option VoiceDef
voice_by_id None = None
voice_by_id (Some next) =
    if is_good_voice next.0 next.1 then option_map (voice_def next.0) (voice_words (properties_of next.1)) else None

-- the id is the first word; quotes count in the rest
unfoldable pub voice_of : List ℕ → Option VoiceDef
voice_of text = voice_by_id (next_word false text)

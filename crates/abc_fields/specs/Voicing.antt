-- The voices that fields name: each id once, in order of first mention, with what its lines set.
use Rattle.std.specs.Prelude.{ℕ, List, [], ◌∷◌, ◌++◌, ◌&&◌, if◌then◌else◌, map, fold, Option, Some, None, is_some}
use Rattle.std.specs.Prelude.{unwrap_or}
use Rattle.std.specs.List.{list_any}
use Rattle.std.specs.Str.{bytes_eq}
use Rattle.mus_units.specs.declared.pitch.Clef.{Clef}
use Rattle.mus_units.specs.declared.note.Wish.{Wish}
use Rattle.abc_field.specs.declared.voice.VoiceDef.{VoiceDef}
use Rattle.abc_field.specs.declared.field.Field.{Field}
use Rattle.abc_field.specs.Last.{last_of}

-- an id that is already there is not added again
abbrev pub with_id : List (List ℕ) → List ℕ → List (List ℕ)
with_id ids id = if list_any (bytes_eq id) ids then ids else ids ++ id ∷ []

abbrev pub ids_after : List (List ℕ) → Field → List (List ℕ)
ids_after ids (Field.Voice def) = with_id ids def.id
ids_after ids _ = ids

-- the ids that fields mention, each once, in order of first mention
abbrev pub ids_of : List Field → List (List ℕ)
ids_of fs = fold ids_after [] fs

-- the id, the clef and the stem direction that a voice field names
abbrev pub id_in : Field → Option (List ℕ)
id_in (Field.Voice def) = Some def.id
id_in _ = None

abbrev pub clef_for : List ℕ → Field → Option Clef
clef_for id (Field.Voice def) = if bytes_eq def.id id then def.clef else None
clef_for id _ = None

abbrev pub wish_for : List ℕ → Field → Option Wish
wish_for id (Field.Voice def) = if bytes_eq def.id id && def.asks then Some def.stem else None
wish_for id _ = None

-- the last clef and the last stem direction that its lines name
abbrev pub voice_from : List Field → List ℕ → VoiceDef
voice_from fs id = record {
  id = id;
  clef = last_of (clef_for id) fs;
  stem = unwrap_or (last_of (wish_for id) fs) Wish.Auto;
  asks = is_some (last_of (wish_for id) fs);
}

abbrev pub voices_of : List Field → List VoiceDef
voices_of fs = map (voice_from fs) (ids_of fs)

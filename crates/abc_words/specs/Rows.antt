-- The rows of a body, and which of them belong to a voice. Music lines joined by a backslash are one row. Items
-- before a place are listed from the nearest on.
use Rattle.std.specs.Prelude.{ℕ, ◌+◌, List, [], ◌∷◌, Bool, true, false, not, ◌&&◌, ◌||◌, if◌then◌else◌, flat_map}
use Rattle.std.specs.Prelude.{Option, Some, None}
use Rattle.std.specs.Str.{bytes_eq}
use Rattle.abc_steps.specs.declared.step.BodyItem.{BodyItem}
use Rattle.abc_items.specs.Voices.{claims, voice_next}
use Rattle.abc_words.specs.declared.rows.RowState.{RowState}

-- the row of a place: the number of music lines before it that end without a backslash
abbrev pub row_after : BodyItem → ℕ → ℕ
row_after (BodyItem.LineEnd joined breaks line column) row = if joined then row else row + 1
row_after _ row = row

abbrev pub music_row_at : List BodyItem → ℕ
music_row_at [] = 0
music_row_at (i ∷ before) = row_after i (music_row_at before)

-- the physical lines at which rows end
abbrev pub end_if : Bool → ℕ → List ℕ
end_if true line = []
end_if false line = line ∷ []

abbrev pub row_end : BodyItem → List ℕ
row_end (BodyItem.LineEnd joined breaks line column) = end_if joined line
row_end _ = []

abbrev pub row_ends : List BodyItem → List ℕ
row_ends items = flat_map row_end items

-- the current voice at a place: that of the last voice field, or `unnamed` before any
abbrev pub voice_at : List ℕ → List BodyItem → List ℕ
voice_at unnamed [] = unnamed
voice_at unnamed (i ∷ before) = voice_next i (voice_at unnamed before)

abbrev pub is_current : List ℕ → List ℕ → List BodyItem → Bool
is_current id unnamed before = bytes_eq id (voice_at unnamed before)

-- whether an earlier step on the same physical line claims its voice
abbrev pub is_claimed : List BodyItem → Bool
is_claimed [] = false
is_claimed (BodyItem.LineEnd joined breaks line column ∷ before) = false
is_claimed (BodyItem.Step s ∷ before) = claims s.step || is_claimed before
is_claimed (i ∷ before) = is_claimed before

-- whether such a step occurs while this voice is current
abbrev pub is_own : List ℕ → List ℕ → List BodyItem → Bool
is_own id unnamed [] = false
is_own id unnamed (BodyItem.LineEnd joined breaks line column ∷ before) = false
is_own id unnamed (BodyItem.Step s ∷ before) =
    (claims s.step && is_current id unnamed before) || is_own id unnamed before
is_own id unnamed (i ∷ before) = is_own id unnamed before

-- A physical line that ends at a place is a line of each voice that one of its steps claims; if none claims any, it
-- is a line of the voice that is current at its end.
abbrev pub is_line_of : List ℕ → List ℕ → List BodyItem → Bool
is_line_of id unnamed before = is_own id unnamed before || (not (is_claimed before) && is_current id unnamed before)

-- the row of the last line of a voice before a place
abbrev pub last_row : List ℕ → List ℕ → List BodyItem → Option ℕ
last_row id unnamed [] = None
last_row id unnamed (BodyItem.LineEnd joined breaks line column ∷ before) =
    if is_line_of id unnamed before then Some (music_row_at before) else last_row id unnamed before
last_row id unnamed (i ∷ before) = last_row id unnamed before

-- the state that a walk along the items keeps at a place
abbrev pub place_at : List ℕ → List ℕ → List BodyItem → RowState
place_at id unnamed before = record {
  row = music_row_at before;
  current = is_current id unnamed before;
  claimed = is_claimed before;
  own = is_own id unnamed before;
  last = last_row id unnamed before;
}

-- the state after a step, and after the end of a music line
abbrev pub after_step : RowState → Bool → RowState
after_step place claims =
    record place { claimed = claims || place.claimed; own = (claims && place.current) || place.own }

abbrev pub after_end : RowState → Bool → RowState
after_end place joined = record {
  row = if joined then place.row else place.row + 1;
  current = place.current;
  claimed = false;
  own = false;
  last = if place.own || (not place.claimed && place.current) then Some place.row else place.last;
}

-- The verses of a voice: the texts of its `w:` lines, each on the voice's last row so far; the number of verses of
-- the voice; and which texts are too many.
use Rattle.std.specs.Prelude.{ℕ, ◌==◌, nat_le, max, List, [], ◌∷◌, ◌++◌, Bool, true, false, if◌then◌else◌, map, fold}
use Rattle.std.specs.Prelude.{◌+◌, ◌<◌, length, count_by, Option, Some, None}
use Rattle.std.specs.List.{All, range_with_len}
use Rattle.abc_lines.specs.declared.fault.Fault.{Fault}
use Rattle.abc_lines.specs.declared.fault.FaultKind.{FaultKind}
use Rattle.abc_steps.specs.declared.step.BodyItem.{BodyItem}
use Rattle.abc_words.specs.declared.rows.RowState.{RowState}
use Rattle.abc_words.specs.declared.verses.Verse.{Verse}
use Rattle.abc_words.specs.declared.verses.Verses.{Verses}
use Rattle.abc_words.specs.Rows.{place_at, row_ends}

-- Words belong to the current voice, on its last row; they are skipped if it has none.
abbrev pub verse_if : Bool → Option ℕ → List ℕ → ℕ → List Verse
verse_if true (Some row) text line = record { row = row; line = line; text = text } ∷ []
verse_if true None text line = []
verse_if false last text line = []

abbrev pub verse_at : RowState → BodyItem → List Verse
verse_at place (BodyItem.Words text line) = verse_if place.current place.last text line
verse_at place _ = []

abbrev pub is_words_item : BodyItem → Bool
is_words_item (BodyItem.Words text line) = true
is_words_item _ = false

abbrev pub verses_from : List ℕ → List ℕ → List BodyItem → List BodyItem → List Verse
verses_from id unnamed before [] = []
verses_from id unnamed before (i ∷ following) =
    verse_at (place_at id unnamed before) i ++ verses_from id unnamed (i ∷ before) following

-- the verses of a voice in the order of the text, and where the rows of the body end
abbrev pub verses_of_voice : List ℕ → List ℕ → List BodyItem → Verses
verses_of_voice id unnamed items = record { ends = row_ends items; list = verses_from id unnamed [] items }

-- the number of rows of a body, including the one at its end
abbrev pub rows_in : Verses → ℕ
rows_in v = length v.ends + 1

abbrev pub number_on : ℕ → List Verse → ℕ
number_on row verses = count_by (λ v. v.row == row) verses

-- the greatest number of verses on a row
abbrev pub most_on : ℕ → List Verse → ℕ
most_on rows verses = fold max 0 (map (λ row. number_on row verses) (range_with_len 0 rows))

abbrev pub verse_count : Verses → ℕ
verse_count v = most_on (rows_in v) v.list

-- a verse with eight or more before it on its row is too many
abbrev pub too_many : ℕ → Fault
too_many line = record { kind = FaultKind.TooManyVerses; line = line; column = 1 }

abbrev pub fault_in : List Verse → Verse → List Fault
fault_in before v = if nat_le 8 (number_on v.row before) then too_many v.line ∷ [] else []

abbrev pub faults_from : List Verse → List Verse → List Fault
faults_from before [] = []
faults_from before (v ∷ following) = fault_in before v ++ faults_from (before ++ v ∷ []) following

abbrev pub verse_faults : Verses → List Fault
verse_faults v = faults_from [] v.list

abbrev pub first_verse_fault : List Fault → Option Fault
first_verse_fault [] = None
first_verse_fault (f ∷ fs) = Some f

-- the first fault of a voice's verses
abbrev pub verse_fault : Verses → Option Fault
verse_fault v = first_verse_fault (verse_faults v)

-- each verse is on a row of the body
abbrev pub AreOnRows : Verses → Type 0
AreOnRows v = All (λ verse. verse.row < rows_in v) v.list

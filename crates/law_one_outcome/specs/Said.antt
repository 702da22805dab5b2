-- What the program reads of lines is exactly what they say: each definition by which it computes a value, or a fault,
-- is the relation that says what a text means. So is that of the parts of a length.
use Rattle.std.specs.Prelude.{◌≡◌, ◌≤◌, ℕ, ◌+◌, List, Option, Some, None, Ok, Err}
use Rattle.mus_units.specs.declared.value.Value.{Value}
use Rattle.mus_units.specs.Parts.{IsPartsOf, parts_list}
use Rattle.abc_lines.specs.declared.book.Line.{Line}
use Rattle.abc_lines.specs.declared.book.TuneText.{TuneText}
use Rattle.abc_lines.specs.declared.fault.Fault.{Fault}
use Rattle.abc_lines.specs.declared.fault.FaultKind.{FaultKind}
use Rattle.abc_field.specs.declared.field.Field.{Field}
use Rattle.abc_field.specs.Fields.{field_of, named_field}
use Rattle.abc_field.specs.FieldSpelling.{Says, NamedSays, IsBad, NamedBad}
use Rattle.abc_fields.specs.declared.defaults.Defaults.{Defaults}
use Rattle.abc_fields.specs.declared.header.Header.{Header}
use Rattle.abc_fields.specs.declared.paper.Paper.{Paper}
use Rattle.abc_fields.specs.Defaults.{defaults_of}
use Rattle.abc_fields.specs.FileHeader.{AreDefaultsBy, IsPaperBy}
use Rattle.abc_fields.specs.HeaderFaults.{IsClearHeader, IsFaultOfHeader}
use Rattle.abc_fields.specs.HeaderValues.{SaysHeader}
use Rattle.abc_fields.specs.Headers.{header_fault, IsHeaderOf}
use Rattle.abc_fields.specs.Papers.{paper_of}
use Rattle.abc_steps.specs.Written.{IsStateAsWritten}
use Rattle.mus_lyric.specs.declared.singing.NoteAt.{NoteAt}
use Rattle.mus_lyric.specs.declared.singing.Sung.{Sung}
use Rattle.mus_lyric.specs.declared.syllable.Syl.{Syl}
use Rattle.mus_lyric.specs.Singing.{AreSungOn, sung_on}
use Rattle.mus_lyric.specs.Syllables.{AreSyllablesOf, syllables_of}

-- each follows from the other
abbrev pub Exactly : Type 0 → Type 0 → Type 0
Exactly A B = (A → B) × (B → A)

pub record IsReadAsSaid : Type 0 where
  -- a line, or a letter and a text within a music line, is read as a field exactly if it says it
  pub field : (line : List ℕ) (field : Field) → Exactly (field_of line ≡ Ok field) (Says line field)
  pub named : (letter : ℕ) (text : List ℕ) (field : Field)
      → Exactly (named_field letter text ≡ Ok field) (NamedSays letter text field)
  -- and it is refused exactly if it has no good form
  pub bad : (line : List ℕ) (kind : FaultKind) → Exactly (field_of line ≡ Err kind) (IsBad line kind)
  pub named_bad : (letter : ℕ) (text : List ℕ) (kind : FaultKind)
      → Exactly (named_field letter text ≡ Err kind) (NamedBad letter text kind)
  -- the fault of a header is the first of its lines' faults, and there is none exactly if no line is at fault
  pub fault : (tune : TuneText) (fault : Fault) → Exactly (header_fault tune ≡ Some fault) (IsFaultOfHeader tune fault)
  pub clear : (tune : TuneText) → Exactly (header_fault tune ≡ None) (IsClearHeader tune)
  -- a header is that of a tune exactly if its values are those that the tune's lines say
  pub values : (tune : TuneText) (defaults : Defaults) (header : Header)
      → Exactly (IsHeaderOf tune defaults header) (SaysHeader tune defaults header)
  -- a list of values is found for a length exactly if they are its parts: each the longest that isn't longer than what
  -- those before it leave, at most eight, and the last leaves nothing
  pub parts : (num den : ℕ) (values : List Value) → 1 ≤ num → 1 ≤ den
      → Exactly (parts_list num den ≡ Some values) (IsPartsOf num den values)
  -- the defaults and the paper are those that the file header states
  pub defaults : (lines : List Line) (defaults : Defaults)
      → Exactly (defaults ≡ defaults_of lines) (AreDefaultsBy lines defaults)
  pub paper : (lines : List Line) (paper : Paper) → Exactly (paper ≡ paper_of lines) (IsPaperBy lines paper)
  -- the syllables of a line of words, and the notes that they are sung on
  pub syllables : (words : List ℕ) (syls : List Syl) → Exactly (syls ≡ syllables_of words) (AreSyllablesOf words syls)
  pub sung : (notes : List NoteAt) (syls : List Syl) (sung : List Sung)
      → Exactly (sung ≡ sung_on notes syls) (AreSungOn notes syls sung)
  -- what is in force at a place of a voice, and what its open tuplets take, is what its steps say
  pub state : IsStateAsWritten

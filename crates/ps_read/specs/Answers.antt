-- What the results of the reader say.
use Rattle.std.specs.Prelude.{◌≡◌, ℕ, List}
use Rattle.eng_reader.specs.Answers.{IsFirstFault}
use Rattle.eng_reader.specs.declared.reading.LineError.{LineError}
use Rattle.ps_text.specs.{Document.SpellsSheet, declared.sheet.Sheet.Sheet}
use Rattle.ps_read.specs.ReaderStates.{documents}
use Rattle.ps_read.specs.declared.reading.PagesError.{PagesError}
use Rattle.ps_read.specs.declared.reading.PagesError.TheVariants.{NotPages, Memory}

-- the sheet is the one that spells the text
pub record IsDocumentRead (text : List ℕ) (s : Sheet) : Type 0 where
  pub spells : SpellsSheet s text
  pub only : (t : Sheet) → SpellsSheet t text → t ≡ s

-- NotPages says that this is the first line that isn't good, and that no sheet spells the text; Memory says nothing
abbrev pub IsCause : List ℕ → PagesError → Type 0
IsCause text (NotPages line) = IsFirstFault documents text line × ((s : Sheet) → SpellsSheet s text → ⊥)
IsCause text Memory = Unit {0}

-- the error where this was the error of the lines
abbrev pub pages_error : LineError → PagesError
pages_error (LineError.Bad line) = NotPages line
pages_error LineError.Memory = Memory

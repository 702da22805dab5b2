-- The laws of documents.
use Rattle.std.specs.Prelude.{◌≡◌, ℕ, List, [], ◌++◌, ◌↔◌}
use Rattle.eng_reader.specs.Answers.{IsGoodThroughout}
use Rattle.{ps_text.specs.{Document.SpellsSheet, declared.sheet.Sheet.Sheet}, ps_read.specs.ReaderStates.{documents}}

-- a sheet spells a text exactly when each line of the text is good and the last is `%%EOF`
abbrev pub GoodByLines : Type 0
GoodByLines = (text : List ℕ) (s : Sheet) → SpellsSheet s text ↔ IsGoodThroughout documents text s

-- no proper continuation of a document is a document
abbrev pub NoPrefix : Type 0
NoPrefix = (text more : List ℕ) (s t : Sheet) → SpellsSheet s text → SpellsSheet t (text ++ more) → more ≡ []

-- one sheet alone spells a text
abbrev pub OneSheet : Type 0
OneSheet = (text : List ℕ) (s t : Sheet) → SpellsSheet s text → SpellsSheet t text → t ≡ s

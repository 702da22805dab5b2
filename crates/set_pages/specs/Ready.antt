-- The conditions on a block before it is drawn, and the properties of a drawn one.
use Rattle.std.specs.Prelude.{◌≡◌, ◌⊎◌, ⊤, ℕ, suc, ◌+◌, ◌<◌, ◌≤◌, ◌^◌, ℤ, pos, ◌-ℤ◌, ◌≤ℤ◌, List, [], ◌∷◌, All}
use Rattle.std.specs.Prelude.{IfSome, length, Result, Ok, Err}
use Rattle.abc_lines.specs.declared.fault.Fault.{Fault}
use Rattle.lay_pages.specs.declared.filling.Spot.{Spot}
use Rattle.lay_pages.specs.declared.filling.Block.{Block}
use Rattle.lay_pages.specs.declared.titles.TitleRow.{TitleRow}
use Rattle.mus_laid.specs.declared.laid.SystemMarks.{SystemMarks}
use Rattle.law_marks_in_range.specs.Shown.{IsShown}
use Rattle.law_marks_in_range.specs.Texts.{IsPrinted}
use Rattle.ps_text.specs.Range.{IsItem, IsNumber}
use Rattle.set_tune.specs.declared.tune.SetTune.{SetTune}
use Rattle.set_tune.specs.Blocks.{HasGoodHeight}
use Rattle.set_book.specs.declared.outcome.Outcome.{Outcome}
use Rattle.set_staves.specs.Drawn.{IsBase, IsOnPage, IsTop}
use Rattle.set_staves.specs.Marks.{RisesAlong}
use Rattle.set_pages.specs.Drawings.{Content, Drawing, title, system, drawn}

-- a row of a title block whose top is at a height
pub record IsReadyRow (top : ℤ) (row : TitleRow) : Type 0 where
  pub across : IsNumber row.x
  pub base : IsNumber (top -ℤ row.down)
  pub printed : IsPrinted row.text

-- a system whose top is at a height: its marks can be shown, each of its keys has a column on the page, and each
-- staff a base
pub record CanStandOnPage (top : ℤ) (m : SystemMarks) (columns staves : List ℤ) : Type 0 where
  pub shown : IsShown m
  pub count : length columns ≡ length m.keys
  pub rise : RisesAlong columns
  pub numbers : All IsOnPage columns
  pub bases : length staves ≡ length m.staves
  pub heights : All (IsBase top) staves

abbrev pub IsReadyContent : ℤ → Content → Type 0
IsReadyContent top (title rows) = All (IsReadyRow top) rows
IsReadyContent top (system m at bases) = CanStandOnPage top m at bases

-- a block whose top is at a height; the tune that it begins has an ordinal
pub record IsReadyAt (top : ℤ) (d : Drawing) : Type 0 where
  pub begins : IfSome d.begins (λ k. 1 ≤ k)
  pub content : IsReadyContent top d.content
  pub within : IsTop top

-- a block at its spot
abbrev pub IsReady : Drawing → Spot → Type 0
IsReady d s = IsReadyAt s.top d

-- what a block draws is ready wherever the block is on a page
abbrev pub IsReadyOn : Drawing → Block → Type 0
IsReadyOn d block = (top : ℤ) → IsTop top → pos 0 ≤ℤ (top -ℤ block.height) → IsReadyAt top d

-- a placement and good heights for each system of a tune
pub record HasAllRows (t : SetTune) : Type 0 where
  pub placed : length t.placed ≡ length t.systems
  pub heights : length t.heights ≡ length t.systems
  pub good : All HasGoodHeight t.heights

abbrev pub IsWholeResult : Result SetTune Fault → Type 0
IsWholeResult (Ok t) = HasAllRows t
IsWholeResult (Err fault) = ⊤

abbrev pub IsWhole : Outcome → Type 0
IsWhole o = IsWholeResult o.result

-- from a page on, the pages of spots rise by at most one
abbrev pub AreRisingFrom : ℕ → List Spot → Type 0
AreRisingFrom page [] = ⊤
AreRisingFrom page (s ∷ spots) = ((s.page ≡ page) ⊎ (s.page ≡ suc page)) × AreRisingFrom s.page spots

-- the first spot is on the first page
abbrev pub AreRising : List Spot → Type 0
AreRising [] = ⊤
AreRising (s ∷ spots) = (s.page ≡ 0) × AreRisingFrom s.page spots

-- the page has a number below 2^32, counted from 1
abbrev pub IsNumbered : Spot → Type 0
IsNumbered s = s.page + 1 < 2 ^ 32

abbrev pub AreNumbered : List Spot → Type 0
AreNumbered spots = All IsNumbered spots

-- what a block draws may be placed on a page
abbrev pub IsDrawnInRange : ℕ → Drawing → Spot → Type 0
IsDrawnInRange width d s = All IsItem (drawn width s.top d)

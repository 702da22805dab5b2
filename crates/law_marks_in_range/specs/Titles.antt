-- The rows of a title block, as shown on a page.
use Rattle.std.specs.Prelude.{ℕ, pos, ◌≤ℤ◌}
use Rattle.{lay_pages.specs.declared.titles.TitleRow.{TitleRow}, law_marks_in_range.specs.Texts.{IsPrinted}}

-- its text can be printed, and begins within the width of the body and the height of the block
pub record IsGoodRow (width height : ℕ) (row : TitleRow) : Type 0 where
  pub left : pos 0 ≤ℤ row.x
  pub right : row.x ≤ℤ pos width
  pub top : pos 0 ≤ℤ row.down
  pub bottom : row.down ≤ℤ pos height
  pub text : IsPrinted row.text

-- The rows of a title block are within it, and their texts can be printed.
use Rattle.std.proofs.Common.{ℕ, ◌+◌, ◌≤◌, List, [], ◌∷◌, length, Option, arith}
use Rattle.std.proofs.lemmas.Int.{ints}
use Rattle.std.proofs.lemmas.List.Elements.{All-from_recursion}
use Rattle.std.specs.List.{All, AllByRecursion}
use Rattle.{mus_units.specs.declared.glyph.Size.{Size}, mus_stems.proofs.RunLaws.{all_append}}
use Rattle.lay_pages.specs.declared.titles.Alignment.{Alignment}
use Rattle.lay_pages.specs.declared.titles.TitleRow.{TitleRow}
use Rattle.lay_pages.specs.declared.titles.TitleBlock.{TitleBlock}
use Rattle.lay_pages.specs.Titles.{base_below, most_within, title_row_at, row_height, row_text, row_x, size_at}
use Rattle.lay_pages.specs.Titles.{tempo_texts, title_block_of, with_row, with_text, with_texts}
use Rattle.law_marks_in_range.{specs.Texts.IsPrinted, specs.Titles.IsGoodRow, proofs.PrintedTexts.within_printed}

-- rows stay within a block that grows
abbrev Stand : ℕ → ℕ → List TitleRow → Type 0
Stand width height rows = AllByRecursion (IsGoodRow width height) rows

good_in_more : (width low high : ℕ) (row : TitleRow) → low ≤ high → IsGoodRow width low row → IsGoodRow width high row
good_in_more width low high row more good = record {
  left = good.left;
  right = good.right;
  top = good.top;
  bottom = omega (arith, ints, more, good.bottom);
  text = good.text;
}

stand_in_more : (width low high : ℕ) (rows : List TitleRow) → low ≤ high → Stand width low rows → Stand width high rows
stand_in_more width low high [] more stand = tt
stand_in_more width low high (row ∷ rows) more stand =
    (good_in_more width low high row more stand.0, stand_in_more width low high rows more stand.1)

-- a row
base_within : (size : Size) → base_below size ≤ row_height size
base_within Size.Big = omega arith
base_within Size.Small = omega arith

x_within : (width : ℕ) (place : Alignment) (count : ℕ) → row_x width place count ≤ width
x_within width Alignment.Middle count = omega arith
x_within width Alignment.Right count = omega arith
x_within width Alignment.Left count = omega arith

row_good : (width above : ℕ) (place : Alignment) (text : List ℕ)
    → IsPrinted text → IsGoodRow width (above + row_height (size_at place)) (title_row_at width above place text)
row_good width above place text printed =
    let x = x_within width place (length text) in let base = base_within (size_at place) in
    record {
      left = omega (arith, ints);
      right = omega (arith, ints, x);
      top = omega (arith, ints);
      bottom = omega (arith, ints, base);
      text = printed;
    }

with_row_stand : (width : ℕ) (block : TitleBlock) (place : Alignment) (text : List ℕ)
    → (1 ≤ length text → IsPrinted text) → Stand width block.height block.rows
    → Stand width (with_row width block place text).height (with_row width block place text).rows
with_row_stand width block place [] printed stand = stand
with_row_stand width block place (byte ∷ text) printed stand =
    all_append (IsGoodRow width (block.height + row_height (size_at place))) block.rows _
    (stand_in_more width block.height (block.height + row_height (size_at place)) block.rows (omega arith) stand)
    (row_good width block.height place (byte ∷ text) (printed (omega arith)), tt)

text_of_row : (width : ℕ) (place : Alignment) (text : List ℕ)
    → 1 ≤ length (row_text width place text) → IsPrinted (row_text width place text)
unfolding row_text
text_of_row width place text some = within_printed (most_within width (size_at place)) text (omega arith) some

-- the rows of texts
texts_stand : (width : ℕ) (place : Alignment) (block : TitleBlock) (texts : List (List ℕ))
    → Stand width block.height block.rows
    → Stand width (with_texts width place block texts).height (with_texts width place block texts).rows
texts_stand width place block [] stand = stand
texts_stand width place block (text ∷ texts) stand =
    texts_stand width place (with_text width place block text) texts
    (with_row_stand width block place (row_text width place text) (text_of_row width place text) stand)

pub rows_stand : (width : ℕ) (titles composers : List (List ℕ)) (tempo : Option (List ℕ))
    → All (IsGoodRow width (title_block_of width titles composers tempo).height)
    (title_block_of width titles composers tempo).rows
rows_stand width titles composers tempo =
    All-from_recursion (IsGoodRow width (title_block_of width titles composers tempo).height) _
    (texts_stand width Alignment.Left _ (tempo_texts tempo)
    (texts_stand width Alignment.Right _ composers (texts_stand width Alignment.Middle _ titles tt)))

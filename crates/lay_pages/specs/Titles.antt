-- The title block of a tune: a row for each title, in the middle; a row for each composer, at the
-- right; and a row for the tempo, at the left. A text of which nothing is printed has no row.
use Rattle.std.specs.Prelude.{ℕ, ◌+◌, ◌-◌, ◌*◌, ◌/◌, pos, min, List, [], ◌∷◌, ◌++◌, length, Option, Some, None}
use Rattle.mus_units.specs.declared.glyph.Size.{Size}
use Rattle.mus_laid.specs.Boxes.{character_width}
use Rattle.mus_laid.specs.Printed.{printed_within}
use Rattle.lay_pages.specs.Distances.{big_row, small_row, big_base, small_base}
use Rattle.lay_pages.specs.declared.titles.Alignment.{Alignment}
use Rattle.lay_pages.specs.declared.titles.TitleRow.{TitleRow}
use Rattle.lay_pages.specs.declared.titles.TitleBlock.{TitleBlock}

-- the height of a row, and how far its base line is below its top
abbrev pub row_height : Size → ℕ
row_height Size.Big = big_row
row_height Size.Small = small_row

abbrev pub base_below : Size → ℕ
base_below Size.Big = big_base
base_below Size.Small = small_base

-- titles are big, all else is small
abbrev pub size_at : Alignment → Size
size_at Alignment.Middle = Size.Big
size_at _ = Size.Small

-- at most 60 characters, and no more than the width holds
abbrev pub most_within : ℕ → Size → ℕ
most_within width size = min 60 (width / character_width size)

unfoldable pub row_text : ℕ → Alignment → List ℕ → List ℕ
row_text width place text = printed_within (most_within width (size_at place)) text

abbrev pub row_x : ℕ → Alignment → ℕ → ℕ
row_x width Alignment.Middle count = (width - character_width Size.Big * count) / 2
row_x width Alignment.Right count = width - character_width Size.Small * count
row_x width Alignment.Left count = 0

-- the row of a text, with the height of the block above it
abbrev pub title_row_at : ℕ → ℕ → Alignment → List ℕ → TitleRow
title_row_at width above place text = record {
  size = size_at place;
  x = pos (row_x width place (length text));
  down = pos (above + base_below (size_at place));
  text = text;
}

abbrev pub with_row : ℕ → TitleBlock → Alignment → List ℕ → TitleBlock
with_row width block place [] = block
with_row width block place (byte ∷ text) = record {
  rows = block.rows ++ title_row_at width block.height place (byte ∷ text) ∷ [];
  height = block.height + row_height (size_at place);
}

-- the block with one more row for each text
abbrev pub with_text : ℕ → Alignment → TitleBlock → List ℕ → TitleBlock
with_text width place block text = with_row width block place (row_text width place text)

abbrev pub with_texts : ℕ → Alignment → TitleBlock → List (List ℕ) → TitleBlock
with_texts width place block [] = block
with_texts width place block (text ∷ texts) = with_texts width place (with_text width place block text) texts

abbrev pub tempo_texts : Option (List ℕ) → List (List ℕ)
tempo_texts None = []
tempo_texts (Some text) = text ∷ []

abbrev pub no_rows : TitleBlock
no_rows = record { rows = []; height = 0 }

abbrev pub title_block_of : ℕ → List (List ℕ) → List (List ℕ) → Option (List ℕ) → TitleBlock
title_block_of width titles composers tempo =
    with_texts width Alignment.Left
    (with_texts width Alignment.Right (with_texts width Alignment.Middle no_rows titles) composers) (tempo_texts tempo)

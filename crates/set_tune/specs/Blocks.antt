-- The blocks of a tune: its title block, if it has a row, tied to the system below it if there is one; and its
-- systems.
use Rattle.std.specs.Prelude.{ℕ, min, ℤ, pos, ◌≤ℤ◌, Bool, true, false, List, [], ◌∷◌, ◌++◌, map}
use Rattle.lay_pages.specs.Distances.{tallest_block}
use Rattle.lay_pages.specs.declared.filling.Block.{Block}
use Rattle.lay_pages.specs.declared.stacking.Heights.{Heights}
use Rattle.lay_pages.specs.declared.titles.TitleRow.{TitleRow}
use Rattle.lay_pages.specs.declared.titles.TitleBlock.{TitleBlock}

-- a system is no higher than the tallest block
pub record HasGoodHeight (h : Heights) : Type 0 where
  pub low : pos 0 ≤ℤ h.height
  pub high : h.height ≤ℤ pos tallest_block

-- a block counts as at most as high as the tallest one
abbrev pub block_height : ℕ → ℤ
block_height height = pos (min height tallest_block)

abbrev pub is_some_list : List Heights → Bool
is_some_list [] = false
is_some_list (h ∷ hs) = true

abbrev pub title_blocks : List TitleRow → ℕ → Bool → List Block
title_blocks [] height keep = []
title_blocks (row ∷ rows) height keep = record { height = block_height height; keep = keep } ∷ []

abbrev pub system_block : Heights → Block
system_block h = record { height = h.height; keep = false }

abbrev pub system_blocks : List Heights → List Block
system_blocks heights = map system_block heights

unfoldable pub blocks_of : TitleBlock → List Heights → List Block
blocks_of title heights = title_blocks title.rows title.height (is_some_list heights) ++ system_blocks heights

-- What the blocks of a book draw: those of the tunes without fault, in order. The first block of a tune begins it.
use Rattle.std.specs.Prelude.{ℕ, ℤ, ◌-ℤ◌, List, [], ◌∷◌, ◌++◌, map, flat_map, Option, Some, None, Result, Ok, Err}
use Rattle.abc_lines.specs.declared.fault.Fault.{Fault}
use Rattle.mus_laid.specs.declared.laid.SystemMarks.{SystemMarks}
use Rattle.lay_springs.specs.declared.margin.Placed.{Placed}
use Rattle.lay_pages.specs.declared.filling.Block.{Block}
use Rattle.lay_pages.specs.declared.stacking.Heights.{Heights}
use Rattle.lay_pages.specs.declared.titles.TitleRow.{TitleRow}
use Rattle.ps_text.specs.declared.sheet.Item.{Item}
use Rattle.set_tune.specs.declared.tune.SetTune.{SetTune}
use Rattle.set_tune.specs.Blocks.{blocks_of}
use Rattle.set_book.specs.declared.outcome.Outcome.{Outcome}
use Rattle.set_staves.specs.Marks.{system_at}

-- the rows of a title block; or a system, the places of its columns, and how far the bases of its staves lie above
-- its top
pub data Content : Type 0 where
  title : List TitleRow → Content
  system : SystemMarks → List ℤ → List ℤ → Content

-- a block as it is drawn: the ordinal of the tune that it begins, if it begins one, and its contents
pub record Drawing : Type 0 where
  pub begins : Option ℕ
  pub content : Content

abbrev pub drawing : Option ℕ → Content → Drawing
drawing begins content = record { begins = begins; content = content }

-- a row begins at its x, with its base line `down` below the top of its block
abbrev pub title_item_at : ℤ → TitleRow → Item
title_item_at top row = Item.Title row.x (top -ℤ row.down) row.size row.text

-- the items of a block whose top is at a height
abbrev pub content_items : ℕ → ℤ → Content → List Item
content_items width top (title rows) = map (title_item_at top) rows
content_items width top (system m at bases) = system_at width at top m bases ∷ []

abbrev pub tune_items : Option ℕ → List Item
tune_items None = []
tune_items (Some ordinal) = Item.Tune ordinal ∷ []

abbrev pub drawn : ℕ → ℤ → Drawing → List Item
drawn width top d = tune_items d.begins ++ content_items width top d.content

-- a title block exists only if it has a row
abbrev pub title_contents : List TitleRow → List Content
title_contents [] = []
title_contents (row ∷ rows) = title (row ∷ rows) ∷ []

abbrev pub system_contents : List SystemMarks → List Placed → List Heights → List Content
system_contents (m ∷ systems) (p ∷ placed) (h ∷ heights) =
    system m p.at h.bases ∷ system_contents systems placed heights
system_contents _ _ _ = []

abbrev pub systems_of : SetTune → List Content
systems_of t = system_contents t.systems t.placed t.heights

-- the contents of the blocks of a tune, in the order of the blocks
abbrev pub contents_of : SetTune → List Content
contents_of t = title_contents t.title.rows ++ systems_of t

-- the first of some blocks begins a tune, or none does
abbrev pub drawings_from : Option ℕ → List Content → List Drawing
drawings_from begins [] = []
drawings_from begins (content ∷ more) = drawing begins content ∷ drawings_from None more

abbrev pub drawings_of : ℕ → SetTune → List Drawing
drawings_of ordinal t = drawings_from (Some ordinal) (contents_of t)

-- a tune with a fault draws nothing
abbrev pub result_drawings : ℕ → Result SetTune Fault → List Drawing
result_drawings ordinal (Ok t) = drawings_of ordinal t
result_drawings ordinal (Err fault) = []

abbrev pub outcome_drawings : Outcome → List Drawing
outcome_drawings o = result_drawings o.ordinal o.result

abbrev pub all_drawings : List Outcome → List Drawing
all_drawings outcomes = flat_map outcome_drawings outcomes

-- the blocks of all these drawings, one for each
abbrev pub result_blocks : Result SetTune Fault → List Block
result_blocks (Ok t) = blocks_of t.title t.heights
result_blocks (Err fault) = []

abbrev pub outcome_blocks : Outcome → List Block
outcome_blocks o = result_blocks o.result

abbrev pub all_blocks : List Outcome → List Block
all_blocks outcomes = flat_map outcome_blocks outcomes

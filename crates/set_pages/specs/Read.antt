-- What a reader finds on the pages of a book: its tunes one after another, each in blocks, and in each of their systems
-- what the score calls for.
use Rattle.std.specs.Prelude.{◌≡◌, ⊤, ℕ, suc, ◌==◌, if◌then◌else◌, ℤ, pos, ◌+ℤ◌, ◌-ℤ◌, List, [], ◌∷◌, ◌++◌, All, map}
use Rattle.std.specs.Prelude.{flat_map, Result, Ok, Err}
use Rattle.std.specs.List.{AllZip}
use Rattle.abc_lines.specs.declared.fault.Fault.{Fault}
use Rattle.abc_fields.specs.declared.paper.Paper.{Paper}
use Rattle.abc_fields.specs.Papers.{body_height, body_width}
use Rattle.mus_laid.specs.declared.laid.SystemMarks.{SystemMarks}
use Rattle.lay_springs.specs.declared.margin.Placed.{Placed}
use Rattle.lay_pages.specs.declared.filling.Spot.{Spot}
use Rattle.lay_pages.specs.declared.stacking.Heights.{Heights}
use Rattle.lay_pages.specs.declared.titles.TitleRow.{TitleRow}
use Rattle.lay_tune.specs.Systems.{gaps_between}
use Rattle.law_marks_apart.specs.Apart.{AreApart}
use Rattle.ps_text.specs.declared.sheet.Item.{Item}
use Rattle.ps_text.specs.declared.sheet.Page.{Page}
use Rattle.ps_text.specs.declared.sheet.Sheet.{Sheet}
use Rattle.ps_text.specs.declared.sheet.Staff.{Staff}
use Rattle.set_tune.specs.declared.tune.SetTune.{SetTune}
use Rattle.set_book.specs.declared.outcome.Outcome.{Outcome}
use Rattle.{set_staves.specs.Marks.{HasColumns, ShowsCall}, set_pages.specs.{Clear.AreUnder, Sheet.paper_frame}}

-- all items on the pages of a sheet, in order
abbrev pub items_of_pages : List Page → List Item
items_of_pages pages = flat_map (λ (p : Page). p.items) pages

-- A block as it is read: its page, the height of its top there, and its items.
pub record ReadBlock : Type 0 where
  pub spot : Spot
  pub items : List Item

abbrev pub read_block : Spot → List Item → ReadBlock
read_block spot items = record { spot = spot; items = items }

abbrev pub items_of_blocks : List ReadBlock → List Item
items_of_blocks blocks = flat_map (λ (b : ReadBlock). b.items) blocks

abbrev pub spots_of_blocks : List ReadBlock → List Spot
spots_of_blocks blocks = map (λ (b : ReadBlock). b.spot) blocks

-- the items of the blocks that are on a page
abbrev pub items_on_page : ℕ → List ReadBlock → List Item
items_on_page page [] = []
items_on_page page (b ∷ blocks) = (if b.spot.page == page then b.items else []) ++ items_on_page page blocks

-- Each page, the first of which is counted k, has the items of its blocks, in order, and no others.
abbrev pub HoldBlocks : ℕ → List ReadBlock → List Page → Type 0
HoldBlocks k blocks [] = ⊤
HoldBlocks k blocks (page ∷ pages) = (page.items ≡ items_on_page k blocks) × HoldBlocks (suc k) blocks pages

-- What is read for measures a to b - 1: the ranks read off each staff are the marks that the score calls for, each
-- once, no others, and at its height. The columns are where they are set, and the staves are as wide as the body. The
-- base of each staff is as far from the top of the block as the stack of the staves says. Boxes of one lane in
-- different columns keep apart, and so do staves, which lie on the page.
pub record ShowsSystem (paper : Paper) (gaps : List ℕ) (a b : ℕ) (m : SystemMarks) (p : Placed) (h : Heights)
    (block : ReadBlock) : Type 0 where
  pub staves : List Staff
  pub measures : block.items ≡ Item.System a b staves ∷ []
  pub bases : map (λ s. s.y) staves ≡ map (λ base. block.spot.top +ℤ base) h.bases
  pub symbols : ShowsCall staves m.staves
  pub columns : HasColumns staves p.at
  pub wide : All (λ s. s.width ≡ body_width paper) staves
  pub boxes : All (λ s. AreApart (body_width paper) p.at s.marks) m.staves
  pub apart : AreUnder (pos (body_height paper)) gaps m.staves (map (λ s. s.y) staves)

-- For each span of a breaking, the first of which begins at bar a, one block with its system.
abbrev pub ShowSystems : Paper
    → List ℕ → ℕ → List ℕ → List SystemMarks → List Placed → List Heights → List ReadBlock → Type 0
ShowSystems paper gaps a [] [] [] [] [] = ⊤
ShowSystems paper gaps a (b ∷ breaks) (m ∷ systems) (p ∷ placed) (h ∷ heights) (block ∷ blocks) =
    ShowsSystem paper gaps a b m p h block × ShowSystems paper gaps b breaks systems placed heights blocks
ShowSystems paper gaps a _ _ _ _ _ = ⊥

-- a row of a title block whose top is at a height: its text, in its size, where it begins, with its base line as far
-- below the top as the row says
pub record ShowsRow (top : ℤ) (row : TitleRow) (item : Item) : Type 0 where
  pub title : item ≡ Item.Title row.x (top -ℤ row.down) row.size row.text

-- the title block, if it has a row
abbrev pub ShowsTitle : List TitleRow → List ReadBlock → Type 0
ShowsTitle [] [] = ⊤
ShowsTitle (row ∷ rows) (b ∷ []) = AllZip (ShowsRow b.spot.top) (row ∷ rows) b.items
ShowsTitle _ _ = ⊥

-- the first block of a tune begins with its ordinal; a tune without a block has none
abbrev pub begun : ℕ → List ReadBlock → List ReadBlock
begun ordinal [] = []
begun ordinal (b ∷ blocks) = read_block b.spot (Item.Tune ordinal ∷ b.items) ∷ blocks

-- a tune: its title block, and the systems of its chosen breaking
pub record ShowsTune (paper : Paper) (ordinal : ℕ) (t : SetTune) (blocks : List ReadBlock) : Type 0 where
  pub title : List ReadBlock
  pub systems : List ReadBlock
  pub parted : blocks ≡ begun ordinal (title ++ systems)
  pub titled : ShowsTitle t.title.rows title
  pub shown : ShowSystems paper (gaps_between t.score.voices) 0 t.breaking.breaks t.systems t.placed t.heights systems

-- a tune with a fault has no block
abbrev pub ShowsResult : Paper → ℕ → Result SetTune Fault → List ReadBlock → Type 0
ShowsResult paper ordinal (Ok t) blocks = ShowsTune paper ordinal t blocks
ShowsResult paper ordinal (Err fault) blocks = blocks ≡ []

abbrev pub ShowsOutcome : Paper → Outcome → List ReadBlock → Type 0
ShowsOutcome paper o blocks = ShowsResult paper o.ordinal o.result blocks

-- all blocks of some tunes
abbrev pub all_read : List (List ReadBlock) → List ReadBlock
all_read parts = flat_map (λ (part : List ReadBlock). part) parts

-- The items on all pages are those of the blocks of the tunes, in order, and there are no others. Each block has its
-- items on its page.
pub record ShowsBook (paper : Paper) (outcomes : List Outcome) (sheet : Sheet)
    (parts : List (List ReadBlock)) : Type 0 where
  pub frame : sheet.frame ≡ paper_frame paper
  pub whole : items_of_pages sheet.pages ≡ flat_map items_of_blocks parts
  pub pages : HoldBlocks 0 (all_read parts) sheet.pages
  pub tunes : AllZip (ShowsOutcome paper) outcomes parts

-- A book while its tunes are set, one list of outcomes after another: where their blocks are, and the text that they
-- add.
use Rattle.std.specs.Prelude.{◌≡◌, ⊤, ℕ, ◌+◌, ◌^◌, ◌<◌, ◌≤◌, List, ◌++◌, Option, None, All, flat_map, length, take}
use Rattle.std.specs.Prelude.{drop}
use Rattle.std.specs.List.{AllZip}
use Rattle.abc_fields.specs.{declared.paper.Paper.Paper, Papers.{body_height, body_width}}
use Rattle.lay_pages.specs.declared.filling.Block.{Block}
use Rattle.lay_pages.specs.declared.filling.Spot.{Spot}
use Rattle.lay_pages.specs.declared.filling.PlacedBlock.{PlacedBlock}
use Rattle.lay_pages.specs.Filling.{AreGoodBlocks, AreWithin, CanFollow, last_block_after, pages_after, spots_after}
use Rattle.set_pages.specs.Sheet.{AreStanding, IsSetUnder, all_spots, sheet_of}
use Rattle.set_pages.specs.declared.plan.PagePlan.{PagePlan}
use Rattle.set_pages.specs.declared.builder.PageBuilder.{PageBuilder}
use Rattle.set_pages.specs.declared.builder.PlacedOutcome.{PlacedOutcome}
use Rattle.set_pages.specs.Drawings.{all_blocks, all_drawings, outcome_drawings}
use Rattle.set_pages.specs.Flow.{begun_after, drawings_text, ending, placed_text, placed_texts}
use Rattle.set_pages.specs.Read.{ReadBlock, ShowsBook, all_read, spots_of_blocks}
use Rattle.set_pages.specs.Ready.{AreRising, IsDrawnInRange, IsReady, IsWhole}
use Rattle.ps_text.specs.Document.{numbered, document_page}
use Rattle.ps_text.specs.Range.{IsSheet}
use Rattle.set_staves.specs.Drawn.{IsWidth}
use Rattle.set_book.specs.declared.outcome.Outcome.{Outcome}

-- nothing was added yet
abbrev pub empty_builder : PageBuilder
empty_builder = record { begun = 0; last_block = None; put = 0 }

-- the last of the filled blocks
abbrev pub last_block_by : PagePlan → Paper → List Outcome → Option PlacedBlock
last_block_by PagePlan.Filled paper outcomes = last_block_after (body_height paper) None (all_blocks outcomes)
last_block_by (PagePlan.At spots) paper outcomes = None

-- where more blocks go, after those that were added, and the last of them
abbrev pub next_spots : PagePlan → ℕ → PageBuilder → List Block → List Spot
next_spots PagePlan.Filled high p blocks = spots_after high p.last_block blocks
next_spots (PagePlan.At spots) high p blocks = take (length blocks) (drop p.put spots)

abbrev pub next_last_block : PagePlan → ℕ → PageBuilder → List Block → Option PlacedBlock
next_last_block PagePlan.Filled high p blocks = last_block_after high p.last_block blocks
next_last_block (PagePlan.At spots) high p blocks = None

-- the plan has room for more blocks: they are on the pages that it says
abbrev pub HasRoom : PagePlan → ℕ → PageBuilder → List Block → Type 0
HasRoom PagePlan.Filled high p blocks = ⊤
HasRoom (PagePlan.At spots) high p blocks =
    (p.put + length blocks ≤ length spots) × AreWithin high blocks (next_spots (PagePlan.At spots) high p blocks)

-- a plan begins on the first page and skips none
abbrev pub RisesBy : PagePlan → Type 0
RisesBy PagePlan.Filled = ⊤
RisesBy (PagePlan.At spots) = AreRising spots

-- others may be added after the last block, and each page was begun by a block
pub record CanGoOn (p : PageBuilder) : Type 0 where
  pub follows : CanFollow p.last_block
  pub pages : pages_after p.last_block ≤ p.put

-- the text of the pages of these outcomes, up to the end of the last
unfoldable pub begun_text : PagePlan → Paper → List Outcome → List ℕ
begun_text plan paper outcomes =
    drawings_text (body_width paper) 0 (all_drawings outcomes) (all_spots plan paper outcomes)

-- these outcomes were added: each is set on the paper, its blocks are drawn at their spots, and it is known how many
-- pages were begun and which block was the last
pub record IsBuiltFrom (plan : PagePlan) (paper : Paper) (outcomes : List Outcome) (p : PageBuilder) : Type 0 where
  pub rises : RisesBy plan
  pub set : All (IsSetUnder paper) outcomes
  pub begun : p.begun ≡ begun_after 0 (all_spots plan paper outcomes)
  pub few : p.begun < 2 ^ 32
  pub last_block : p.last_block ≡ last_block_by plan paper outcomes
  pub put : p.put ≡ length (all_blocks outcomes)
  pub drawn : AllZip (IsDrawnInRange (body_width paper)) (all_drawings outcomes) (all_spots plan paper outcomes)
  pub good : AreGoodBlocks (all_blocks outcomes)

-- outcomes were added after others, and this is the text that they add
pub record AddsOutcomes (plan : PagePlan) (paper : Paper) (before outcomes : List Outcome) (text : List ℕ)
    (p : PageBuilder) : Type 0 where
  pub pressed : IsBuiltFrom plan paper (before ++ outcomes) p
  pub adds : begun_text plan paper (before ++ outcomes) ≡ begun_text plan paper before ++ text

-- the outcome of a tune can be drawn at the spots of its blocks, on staves of this length
pub record CanDrawOutcome (width : ℕ) (s : PlacedOutcome) : Type 0 where
  pub wide : IsWidth width
  pub whole : IsWhole s.outcome
  pub ready : AllZip IsReady (outcome_drawings s.outcome) s.spots

abbrev pub AreDrawnInRange : ℕ → PlacedOutcome → Type 0
AreDrawnInRange width s = AllZip (IsDrawnInRange width) (outcome_drawings s.outcome) s.spots

-- this is the text of the outcome of a tune
pub record IsTextOfOutcome (width : ℕ) (s : PlacedOutcome) (text : List ℕ) : Type 0 where
  pub value : text ≡ placed_text width s
  pub drawn : AreDrawnInRange width s

-- with the texts of these placed outcomes, outcomes are added after others
abbrev pub WillAdd : PagePlan → Paper → List Outcome → List Outcome → List PlacedOutcome → PageBuilder → Type 0
WillAdd plan paper before outcomes placed p =
    (texts : List (List ℕ)) → AllZip (IsTextOfOutcome (body_width paper)) placed texts
    → AddsOutcomes plan paper before outcomes (flat_map (λ text. text) texts) p

-- outcomes with the spots of their blocks, after this number of begun pages
pub record AreOutcomesAt (begun : ℕ) (outcomes : List Outcome) (spots : List Spot)
    (stood : List PlacedOutcome) : Type 0 where
  pub ready : (width : ℕ) → IsWidth width → All (CanDrawOutcome width) stood
  pub text : (width : ℕ) → placed_texts width stood ≡ drawings_text width begun (all_drawings outcomes) spots
  pub drawn : (width : ℕ)
      → All (AreDrawnInRange width) stood → AllZip (IsDrawnInRange width) (all_drawings outcomes) spots

-- this is the number of pages of these outcomes, and this their text
pub record HasText (plan : PagePlan) (paper : Paper) (outcomes : List Outcome) (begun : ℕ) : Type 0 where
  pub count : length (sheet_of plan paper outcomes).pages ≡ begun
  pub text : numbered document_page 1 (sheet_of plan paper outcomes).pages
      ≡ begun_text plan paper outcomes ++ ending begun

-- and they can be written
pub record IsSheetOf (plan : PagePlan) (paper : Paper) (outcomes : List Outcome) (begun : ℕ) : Type 0 where
  pub good : IsSheet (sheet_of plan paper outcomes)
  pub has : HasText plan paper outcomes begun

-- each block is on its page as the plan says, and a reader finds it there with what the scores call for
pub record StandShown (plan : PagePlan) (paper : Paper) (outcomes : List Outcome) : Type 0 where
  pub stand : AreStanding plan paper outcomes (all_spots plan paper outcomes)
  pub parts : List (List ReadBlock)
  pub shown : ShowsBook paper outcomes (sheet_of plan paper outcomes) parts
  pub blocks : AreStanding plan paper outcomes (spots_of_blocks (all_read parts))

-- blocks of outcomes that were set on a paper
pub record AreBlocksOn (paper : Paper) (blocks : List Block) : Type 0 where
  pub outcomes : List Outcome
  pub set : All (IsSetUnder paper) outcomes
  pub value : blocks ≡ all_blocks outcomes
  pub good : AreGoodBlocks blocks

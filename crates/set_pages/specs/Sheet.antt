-- The sheet of a book, from the outcomes of its tunes: the blocks of all tunes without fault are placed on pages,
-- filled or where a plan says, and each page has what its blocks draw.
use Rattle.std.specs.Prelude.{⊤, ℕ, zero, suc, ◌+◌, ◌/◌, ◌≤◌, ◌==◌, if◌then◌else◌, List, [], ◌∷◌, ◌++◌, Result, Ok, Err}
use Rattle.std.specs.Prelude.{Bool, true, false, ◌≡◌, take, length}
use Rattle.abc_lines.specs.declared.book.TuneText.{TuneText}
use Rattle.abc_lines.specs.declared.fault.Fault.{Fault}
use Rattle.abc_fields.specs.declared.defaults.Defaults.{Defaults}
use Rattle.abc_fields.specs.declared.paper.Paper.{Paper}
use Rattle.abc_fields.specs.Papers.{body_height, body_width}
use Rattle.lay_pages.specs.declared.filling.Spot.{Spot}
use Rattle.lay_pages.specs.Even.{AreSpots, StandByPages}
use Rattle.lay_pages.specs.Filling.{AreFilled, AreWithin, spots_of}
use Rattle.set_pages.specs.declared.plan.PagePlan.{PagePlan}
use Rattle.set_pages.specs.Drawings.{Drawing, all_blocks, all_drawings, drawn}
use Rattle.ps_text.specs.declared.sheet.Frame.{Frame}
use Rattle.ps_text.specs.declared.sheet.Item.{Item}
use Rattle.ps_text.specs.declared.sheet.Page.{Page}
use Rattle.ps_text.specs.declared.sheet.Sheet.{Sheet}
use Rattle.set_tune.specs.Terms.{Manner, terms_by}
use Rattle.set_tune.specs.declared.tune.SetTune.{SetTune}
use Rattle.set_tune.specs.Setting.{IsSetTune}
use Rattle.set_book.specs.declared.outcome.Outcome.{Outcome}

-- whole points, rounded up
abbrev pub whole_points : ℕ → ℕ
whole_points u = (u + 99) / 100

abbrev pub paper_frame : Paper → Frame
paper_frame paper = record {
  wide = whole_points paper.wide;
  high = whole_points paper.high;
  left = paper.left;
  bottom = paper.bottom;
  scale = paper.scale;
}

-- what the drawings on a page, counted from 0, draw there
abbrev pub items_on : ℕ → ℕ → List Drawing → List Spot → List Item
items_on width page (d ∷ drawings) (s ∷ spots) =
    (if s.page == page then drawn width s.top d else []) ++ items_on width page drawings spots
items_on width page _ _ = []

-- this number of pages, the first of which is counted k
abbrev pub pages_from : ℕ → List Drawing → List Spot → ℕ → ℕ → List Page
pages_from width drawings spots k zero = []
pages_from width drawings spots k (suc more) =
    record { items = items_on width k drawings spots } ∷ pages_from width drawings spots (suc k) more

-- the pages are those up to the page of the last block
abbrev pub page_count : List Spot → ℕ
page_count [] = 0
page_count (s ∷ []) = suc s.page
page_count (s ∷ next ∷ spots) = page_count (next ∷ spots)

abbrev pub pages_of : ℕ → List Drawing → List Spot → List Page
pages_of width drawings spots = pages_from width drawings spots 0 (page_count spots)

-- where all blocks are: filled one under another, or where the plan says
abbrev pub all_spots : PagePlan → Paper → List Outcome → List Spot
all_spots PagePlan.Filled paper outcomes = spots_of (body_height paper) (all_blocks outcomes)
all_spots (PagePlan.At spots) paper outcomes = take (length (all_blocks outcomes)) spots

unfoldable pub sheet_of : PagePlan → Paper → List Outcome → Sheet
sheet_of plan paper outcomes = record {
  frame = paper_frame paper;
  pages = pages_of (body_width paper) (all_drawings outcomes) (all_spots plan paper outcomes);
}

-- if blocks are filled, each follows the one before it as closely as it can; else each is where the plan says
abbrev pub AreFilledBy : PagePlan → Paper → List Outcome → List Spot → Type 0
AreFilledBy PagePlan.Filled paper outcomes spots = AreFilled (body_height paper) (all_blocks outcomes) spots
AreFilledBy (PagePlan.At planned) paper outcomes spots = spots ≡ planned

-- the blocks of the outcomes at these spots: each is on its page, `block_gap` under the one before it or at the top of
-- the next page
pub record AreStanding (plan : PagePlan) (paper : Paper) (outcomes : List Outcome) (spots : List Spot) : Type 0 where
  pub within : AreWithin (body_height paper) (all_blocks outcomes) spots
  pub stacked : StandByPages (body_height paper) (all_blocks outcomes) spots
  pub filled : AreFilledBy plan paper outcomes spots

-- The plan of a book: its blocks are filled; or evenly divided, so that no other division of their groups into pages
-- that fit costs less.
pub record IsEvenPlan (paper : Paper) (outcomes : List Outcome) (spots : List Spot) : Type 0 where
  pub chosen : AreSpots true (body_height paper) (all_blocks outcomes) spots
  pub within : AreWithin (body_height paper) (all_blocks outcomes) spots
  pub stacked : StandByPages (body_height paper) (all_blocks outcomes) spots

abbrev pub IsPagePlan : Bool → Paper → List Outcome → PagePlan → Type 0
IsPagePlan false paper outcomes plan = plan ≡ PagePlan.Filled
IsPagePlan true paper outcomes PagePlan.Filled = ⊥
IsPagePlan true paper outcomes (PagePlan.At spots) = IsEvenPlan paper outcomes spots

-- a tune is set on the paper, or has a fault
abbrev pub IsSetResult : Paper → Result SetTune Fault → Type 0
IsSetResult paper (Ok t) =
    (tune : TuneText) × (defaults : Defaults) × (manner : Manner) × IsSetTune tune (terms_by defaults paper manner) t
IsSetResult paper (Err fault) = ⊤

-- with its ordinal in the book, which is counted from 1
pub record IsSetUnder (paper : Paper) (o : Outcome) : Type 0 where
  pub result : IsSetResult paper o.result
  pub ordinal : 1 ≤ o.ordinal

-- Blocks on pages, from the top of a page down. A block that is tied to the next is on one page with it; such a run
-- of blocks is a group.
use Rattle.std.specs.Prelude.{◌≡◌, ◌^◌, ◌≤◌, ⊤, ℕ, suc, ◌+◌, nat_le, nat_lt, ℤ, pos, negsuc, ◌-ℤ◌, ◌≤ℤ◌, ◌<ℤ◌, Bool}
use Rattle.std.specs.Prelude.{true, false, not, ◌&&◌, ◌||◌, List, [], ◌∷◌, Option, Some, None}
use Rattle.lay_pages.specs.Distances.{block_gap, tallest_block}
use Rattle.lay_pages.specs.declared.filling.Block.{Block}
use Rattle.lay_pages.specs.declared.filling.Spot.{Spot}
use Rattle.lay_pages.specs.declared.filling.BlockSpot.{BlockSpot}
use Rattle.lay_pages.specs.declared.filling.PlacedBlock.{PlacedBlock}
use Rattle.lay_pages.specs.declared.filling.PageError.{PageError}

-- heights of 0 to that of the tallest block
abbrev pub AreGoodBlocks : List Block → Type 0
AreGoodBlocks [] = ⊤
AreGoodBlocks (block ∷ more) = ((pos 0 ≤ℤ block.height) × (block.height ≤ℤ pos tallest_block)) × AreGoodBlocks more

-- the height of the group that begins here: its blocks, with a gap between two
abbrev pub height_number : ℤ → ℕ
height_number (pos n) = n
height_number (negsuc n) = 0

abbrev pub with_kept : Bool → ℕ → ℕ → ℕ
with_kept true height others = height + block_gap + others
with_kept false height others = height

abbrev pub group_height : List Block → ℕ
group_height [] = 0
group_height (block ∷ []) = height_number block.height
group_height (block ∷ next ∷ more) = with_kept block.keep (height_number block.height) (group_height (next ∷ more))

-- A spot: the page, and how far below the top of the page. The next block is under this one if it is tied to it or
-- its group fits there, else at the top of a new page.
abbrev pub under : BlockSpot → Block → ℕ
under place block = place.down + height_number block.height + block_gap

abbrev pub place_by : Bool → ℕ → ℕ → BlockSpot
place_by true page down = record { page = page; down = down }
place_by false page down = record { page = suc page; down = 0 }

abbrev pub next_place : ℕ → BlockSpot → Block → List Block → BlockSpot
next_place high place block more =
    place_by (block.keep || nat_le (under place block + group_height more) high) place.page (under place block)

-- the spots of blocks, the first of which has this spot
abbrev pub spot_at : ℕ → BlockSpot → Spot
spot_at high place = record { page = place.page; top = pos high -ℤ pos place.down }

abbrev pub spots_from : ℕ → BlockSpot → List Block → List Spot
spots_from high place [] = []
spots_from high place (block ∷ more) = spot_at high place ∷ spots_from high (next_place high place block more) more

abbrev pub spots_of : ℕ → List Block → List Spot
spots_of high blocks = spots_from high (record { page = 0; down = 0 }) blocks

-- the last of blocks, the first of which has this spot
abbrev pub standing_from : ℕ → BlockSpot → List Block → Option PlacedBlock
standing_from high place [] = None
standing_from high place (block ∷ []) = Some (record { place = place; block = block })
standing_from high place (block ∷ next ∷ more) =
    standing_from high (next_place high place block (next ∷ more)) (next ∷ more)

-- The same of blocks that come after others: the last of the others determines the spot of the first.
abbrev pub first_place : ℕ → Option PlacedBlock → List Block → BlockSpot
first_place high None blocks = record { page = 0; down = 0 }
first_place high (Some last) blocks = next_place high last.place last.block blocks

abbrev pub spots_after : ℕ → Option PlacedBlock → List Block → List Spot
spots_after high last_block blocks = spots_from high (first_place high last_block blocks) blocks

abbrev pub last_block_after : ℕ → Option PlacedBlock → List Block → Option PlacedBlock
last_block_after high last_block [] = last_block
last_block_after high last_block (block ∷ more) =
    standing_from high (first_place high last_block (block ∷ more)) (block ∷ more)

-- the last block is not tied to what comes after it
abbrev pub IsLoose : List Block → Type 0
IsLoose [] = ⊤
IsLoose (block ∷ []) = block.keep ≡ false
IsLoose (block ∷ next ∷ more) = IsLoose (next ∷ more)

-- how many pages are begun up to the last block
abbrev pub pages_after : Option PlacedBlock → ℕ
pages_after None = 0
pages_after (Some last) = suc last.place.page

abbrev pub down_after : Option PlacedBlock → ℕ
down_after None = 0
down_after (Some last) = last.place.down

-- others may come after it: it is not tied, and no higher than a block may be
pub record IsOpenEnd (last : PlacedBlock) : Type 0 where
  pub keep : last.block.keep ≡ false
  pub height : last.block.height ≤ℤ pos tallest_block
  pub down : last.place.down ≤ 2 ^ 32

abbrev pub CanFollow : Option PlacedBlock → Type 0
CanFollow None = ⊤
CanFollow (Some last) = IsOpenEnd last

-- the block with which the first group begins that is higher than a page; `tied` says that a block before is tied to
-- the first here
abbrev pub tall_by : Bool → ℕ → Option ℕ → Option ℕ
tall_by true number others = Some number
tall_by false number others = others

abbrev pub tall_from : ℕ → ℕ → Bool → List Block → Option ℕ
tall_from high number tied [] = None
tall_from high number tied (block ∷ more) =
    tall_by (not tied && nat_lt high (group_height (block ∷ more))) number (tall_from high (suc number) block.keep more)

abbrev pub first_tall : ℕ → List Block → Option ℕ
first_tall high blocks = tall_from high 0 false blocks

-- each block is on its page, from 0 to its height
abbrev pub AreWithin : ℕ → List Block → List Spot → Type 0
AreWithin high [] [] = ⊤
AreWithin high (block ∷ blocks) (spot ∷ spots) =
    ((spot.top ≤ℤ pos high) × (pos 0 ≤ℤ (spot.top -ℤ block.height))) × AreWithin high blocks spots
AreWithin high _ _ = ⊥

-- the top of what is under a block, a gap below its bottom
abbrev pub top_under : Block → Spot → ℤ
top_under block spot = (spot.top -ℤ block.height) -ℤ pos block_gap

-- The block after another is a gap under it on the same page, or at the top of the next page. The latter is the case
-- only if a group begins with it that doesn't fit under the other.
pub data Follows (high : ℕ) (block : Block) (spot : Spot) (more : List Block) (next : Spot) : Type 0 where
  same_page : next.page ≡ spot.page → next.top ≡ top_under block spot → Follows high block spot more next
  next_page : block.keep ≡ false
      → top_under block spot <ℤ pos (group_height more) → next.page ≡ suc spot.page → next.top ≡ pos high
      → Follows high block spot more next

abbrev pub FollowOn : ℕ → List Block → List Spot → Type 0
FollowOn high (block ∷ next ∷ more) (spot ∷ after ∷ spots) =
    Follows high block spot (next ∷ more) after × FollowOn high (next ∷ more) (after ∷ spots)
FollowOn high _ _ = ⊤

-- the first block is at the top of the first page
abbrev pub BeginOn : ℕ → List Spot → Type 0
BeginOn high [] = ⊤
BeginOn high (spot ∷ spots) = (spot.page ≡ 0) × (spot.top ≡ pos high)

abbrev pub AreFilled : ℕ → List Block → List Spot → Type 0
AreFilled high blocks spots = BeginOn high spots × FollowOn high blocks spots

abbrev pub IsPageError : ℕ → List Block → PageError → Type 0
IsPageError high blocks PageError.Memory = ⊤
IsPageError high blocks (PageError.TooTall block) = first_tall high blocks ≡ Some block

-- Blocks on evenly filled pages: the groups of the blocks are split into pages at the least total cost of the pages.
-- A split is a breaking of the groups: the numbers of groups up to the end of each page.
use Rattle.std.specs.Prelude.{◌≡◌, ◌<◌, ◌≤◌, ⊤, ℕ, zero, suc, ◌+◌, ◌-◌, ◌*◌, ◌/◌, ◌^◌, ◌==◌, nat_le, ℤ, pos, ◌≤ℤ◌, Bool}
use Rattle.std.specs.Prelude.{true, false, ◌&&◌, if◌then◌else◌, List, [], ◌∷◌, length, map, take, drop, Option, Some}
use Rattle.std.specs.Prelude.{None, IfSome, All, refl}
use Rattle.std.specs.List.{filter}
use Rattle.std.proofs.Common.{arith, ap}
use Rattle.std.proofs.lemmas.Bool.Decides.{nat_tests}
use Rattle.lay_breaks.specs.Breaking.{IsChosen}
use Rattle.lay_pages.specs.Distances.{block_gap, free_step, most_free, tallest_page}
use Rattle.lay_pages.specs.declared.filling.Block.{Block}
use Rattle.lay_pages.specs.declared.filling.Spot.{Spot}
use Rattle.lay_pages.specs.Filling.{BeginOn, group_height, height_number, spots_of, top_under}

-- the heights of the groups, in order; `tied` says that a block before is tied to the first here
abbrev pub heights_from : Bool → List Block → List ℤ
heights_from tied [] = []
heights_from true (block ∷ more) = heights_from block.keep more
heights_from false (block ∷ more) = pos (group_height (block ∷ more)) ∷ heights_from block.keep more

abbrev pub group_heights : List Block → List ℤ
group_heights blocks = heights_from false blocks

-- the height of groups with a gap under each, and of groups with a gap between two
abbrev pub stacked : List ℤ → ℕ
stacked [] = 0
stacked (height ∷ more) = height_number height + block_gap + stacked more

abbrev pub page_height : List ℤ → ℕ
page_height heights = stacked heights - block_gap

abbrev pub span_height : List ℤ → ℕ → ℕ → ℕ
span_height heights a b = page_height (take (b - a) (drop a heights))

-- The cost of the page of the groups from a to b, if it fits: the square of what it leaves free, by `free_step`; the
-- last page costs nothing.
abbrev pub square : ℕ → ℕ
square n = n * n

abbrev pub page_cost : ℕ → List ℤ → ℕ → ℕ → Option ℕ
page_cost high heights a b =
    if nat_le (span_height heights a b) high
    then Some (if b == length heights then 0 else square ((high - span_height heights a b) / free_step))
    else None

-- heights of groups that fit on a page
abbrev pub AreHeights : ℕ → List ℤ → Type 0
AreHeights high heights = All (λ h. (pos 0 ≤ℤ h) × (h ≤ℤ pos high)) heights

-- the number of the group of each block, the first of which has this one; a group ends with a block that isn't tied to
-- the next
abbrev pub groups_after : ℕ → Block → ℕ
groups_after group block = if block.keep then group else group + 1

abbrev pub group_numbers : ℕ → List Block → List ℕ
group_numbers group [] = []
group_numbers group (block ∷ more) = group ∷ group_numbers (groups_after group block) more

-- The page of a group, both counted from 0: a break says how many groups there are up to the end of a page, and the
-- page is the number of breaks that are at most the group's number.
abbrev pub page_of : List ℕ → ℕ → ℕ
page_of breaks group = length (filter (λ e. nat_le e group) breaks)

abbrev pub pages_of : List Spot → List ℕ
pages_of spots = map (λ (s : Spot). s.page) spots

-- The block after another is a gap under it on the same page, or at the top of the next page; two blocks of a group
-- are never separated.
pub data ComesAfter (high : ℕ) (block : Block) (spot : Spot) (next : Spot) : Type 0 where
  same_page : next.page ≡ spot.page → next.top ≡ top_under block spot → ComesAfter high block spot next
  next_page : block.keep ≡ false → next.page ≡ suc spot.page → next.top ≡ pos high → ComesAfter high block spot next

abbrev pub ComeAfter : ℕ → List Block → List Spot → Type 0
ComeAfter high (block ∷ blocks) (spot ∷ next ∷ spots) =
    ComesAfter high block spot next × ComeAfter high blocks (next ∷ spots)
ComeAfter high _ _ = ⊤

abbrev pub StandByPages : ℕ → List Block → List Spot → Type 0
StandByPages high blocks spots = BeginOn high spots × ComeAfter high blocks spots

-- The blocks are placed by the chosen split: no other split of the groups into pages that fit costs less. Each block is
-- on the page of its group, under the one before it or at the top of the page.
pub record AreEven (high : ℕ) (blocks : List Block) (spots : List Spot) : Type 0 where
  pub breaks : List ℕ
  pub chosen : IsChosen (page_cost high (group_heights blocks)) (λ b. false) (length (group_heights blocks)) breaks
  pub pages : pages_of spots ≡ map (page_of breaks) (group_numbers 0 blocks)
  pub stacked : StandByPages high blocks spots

-- The spots of blocks: filled one under another, or split evenly, unless there are more than 8,388,608 groups.
abbrev pub most_groups : ℕ
most_groups = 8388608

pub data AreSpots (even : Bool) (high : ℕ) (blocks : List Block) (spots : List Spot) : Type 0 where
  filled : (even && nat_le (length (group_heights blocks)) most_groups) ≡ false
      → spots ≡ spots_of high blocks → AreSpots even high blocks spots
  parted : even ≡ true
      → length (group_heights blocks) ≤ most_groups → AreEven high blocks spots → AreSpots even high blocks spots

-- Consequences of the form: the two laws of costs.
stacked_more : (n m : ℕ) (hs : List ℤ) → n ≤ m → stacked (take n hs) ≤ stacked (take m hs)
stacked_more zero m hs le = omega arith
stacked_more (suc n) zero hs le = absurd (omega arith)
stacked_more (suc n) (suc m) [] le = omega arith
stacked_more (suc n) (suc m) (h ∷ hs) le = let more = stacked_more n m hs (omega arith) in omega (arith, more)

if_none : (b : Bool) (v : ℕ) → (if b then Some v else None) ≡ None → b ≡ false
if_none true v e = absurd cc
if_none false v e = refl

pub cost_stops : (high : ℕ) (hs : List ℤ) (a b c : ℕ)
    → a < b → b < c → page_cost high hs a b ≡ None → page_cost high hs a c ≡ None
cost_stops high hs a b c l m e =
    let past = if_none (nat_le (span_height hs a b) high)
    (if b == length hs then 0 else square ((high - span_height hs a b) / free_step)) e in
    let more = stacked_more (b - a) (c - a) (drop a hs) (omega arith) in
    let miss : nat_le (span_height hs a c) high ≡ false = grind (arith, nat_tests, past, more) in
    ap (λ t. if t then Some (if c == length hs then 0 else square ((high - span_height hs a c) / free_step)) else None)
    miss

square_small : (n : ℕ) → n ≤ most_free → square n ≤ 2 ^ 40
square_small n few = grind arith

free_small : (high s : ℕ) → high ≤ tallest_page → (high - s) / free_step ≤ most_free
free_small high s low = grind arith

pub cost_small : (high : ℕ) (hs : List ℤ)
    → high ≤ tallest_page → (a b : ℕ) → IfSome (page_cost high hs a b) (λ v. v ≤ 2 ^ 40)
cost_small high hs low a b = by (nat_le (span_height hs a b) high) (b == length hs)
  where
    by : (t u : Bool)
        → IfSome (if t then Some (if u then 0 else square ((high - span_height hs a b) / free_step)) else None)
        (λ v. v ≤ 2 ^ 40)
    by false u = tt
    by true true = omega arith
    by true false = square_small ((high - span_height hs a b) / free_step) (free_small high (span_height hs a b) low)

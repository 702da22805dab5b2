-- A group that fits where it begins: each of its blocks is on the page, and so is what follows.
use Rattle.std.proofs.Common.{◌≡◌, refl, ap, sym, ◌∙◌, ℕ, suc, ◌+◌, ◌≤◌, ◌^◌, ℤ, pos, negsuc, ◌-ℤ◌, ◌≤ℤ◌, Bool, true}
use Rattle.std.proofs.Common.{false, not, List, [], ◌∷◌, ◌++◌, append_assoc, length, subst, arith}
use Rattle.std.proofs.lemmas.Bool.Decides.{nat_tests}
use Rattle.std.proofs.lemmas.Int.{ints}
use Rattle.std.specs.Prelude.{◌==◌, ◌&&◌, ◌||◌, nat_le, nat_lt, Option, Some, None}
use Rattle.lay_pages.specs.Distances.{block_gap}
use Rattle.lay_pages.specs.Filling.{AreGoodBlocks, CanFollow, IsLoose, down_after, first_place, height_number}
use Rattle.lay_pages.specs.Filling.{with_kept, group_height, under, place_by, next_place, spot_at, spots_from}
use Rattle.lay_pages.specs.Filling.{pages_after, standing_from, tall_by, tall_from, AreWithin}
use Rattle.lay_pages.specs.declared.filling.Block.{Block}
use Rattle.lay_pages.specs.declared.filling.BlockSpot.{BlockSpot}
use Rattle.lay_pages.specs.declared.filling.Spot.{Spot}
use Rattle.lay_pages.specs.declared.filling.PlacedBlock.{PlacedBlock}

-- the group that begins here ends on the page, and no group from here on is too tall
pub record IsReady (high : ℕ) (place : BlockSpot) (blocks : List Block) : Type 0 where
  pub fits : place.down + group_height blocks ≤ high
  pub number : ℕ
  pub tied : Bool
  pub none : tall_from high number tied blocks ≡ None

kept_low : (keep : Bool) (height others : ℕ) → height ≤ with_kept keep height others
kept_low true height others = omega arith
kept_low false height others = omega arith

pub first_low : (block : Block) (more : List Block) → height_number block.height ≤ group_height (block ∷ more)
first_low block [] = omega arith
first_low block (next ∷ more) = kept_low block.keep (height_number block.height) (group_height (next ∷ more))

-- a spot on the page, as a height above its bottom
pub top_within : (high down : ℕ) → (pos high -ℤ pos down) ≤ℤ pos high
top_within high down = omega (arith, ints)

pub bottom_within : (high down : ℕ) (height : ℤ)
    → pos 0 ≤ℤ height → down + height_number height ≤ high → pos 0 ≤ℤ ((pos high -ℤ pos down) -ℤ height)
bottom_within high down (pos n) good fits = omega (arith, ints)
bottom_within high down (negsuc n) good fits = absurd (omega (arith, ints))

pub on_the_page : (high : ℕ) (place : BlockSpot) (block : Block) (more : List Block)
    → AreGoodBlocks (block ∷ more) → IsReady high place (block ∷ more)
    → pos 0 ≤ℤ ((pos high -ℤ pos place.down) -ℤ block.height)
on_the_page high place block more good ready =
    let first = first_low block more in
    let fits = ready.fits in
    bottom_within high place.down block.height good.0.0 (omega (arith, first, fits))

-- no group from here on is too tall: not the one that begins here, and none after it
not_tall : (b : Bool) (n : ℕ) (others : Option ℕ) → tall_by b n others ≡ None → (b ≡ false) × (others ≡ None)
not_tall true n others e = absurd cc
not_tall false n others e = (refl, e)

fits_high : (tied : Bool) (high height : ℕ) → (not tied && nat_lt high height) ≡ false → tied ≡ false → height ≤ high
fits_high true high height e f = absurd cc
fits_high false high height e f = grind (arith, nat_tests)

-- after a block that is not tied, the first group fits where it is placed
loose_room : (keep : Bool) (page down others high : ℕ)
    → keep ≡ false → others ≤ high → (place_by (keep || nat_le (down + others) high) page down).down + others ≤ high
loose_room true page down others high e low = absurd cc
loose_room false page down others high e low = by_test (nat_le (down + others) high) refl where
  by_test : (b : Bool) → nat_le (down + others) high ≡ b → (place_by b page down).down + others ≤ high
  by_test true e = grind (arith, nat_tests)
  by_test false e = omega (arith, low)

-- the group of the next block fits where that block is placed
next_fits : (keep : Bool) (page down height others high : ℕ)
    → down + with_kept keep height others ≤ high → (keep ≡ false → others ≤ high)
    → (place_by (keep || nat_le (down + height + block_gap + others) high) page (down + height + block_gap)).down
    + others ≤ high
next_fits true page down height others high fits new = omega arith
next_fits false page down height others high fits new =
    loose_room false page (down + height + block_gap) others high refl (new refl)

pub ready_next : (high : ℕ) (place : BlockSpot) (block next : Block) (more : List Block)
    → IsReady high place (block ∷ next ∷ more) → IsReady high (next_place high place block (next ∷ more)) (next ∷ more)
ready_next high place block next more ready =
    let here = not_tall (not ready.tied && nat_lt high (group_height (block ∷ next ∷ more))) ready.number
    (tall_from high (suc ready.number) block.keep (next ∷ more)) ready.none in
    let last_block = not_tall (not block.keep && nat_lt high (group_height (next ∷ more))) (suc ready.number)
    (tall_from high (suc (suc ready.number)) next.keep more) here.1 in
    record {
      fits =
          next_fits block.keep place.page place.down (height_number block.height) (group_height (next ∷ more)) high
          ready.fits (fits_high block.keep high (group_height (next ∷ more)) last_block.0);
      number = suc ready.number;
      tied = block.keep;
      none = here.1;
    }

pub within_from : (high : ℕ) (place : BlockSpot) (blocks : List Block)
    → AreGoodBlocks blocks → IsReady high place blocks → AreWithin high blocks (spots_from high place blocks)
within_from high place [] good ready = tt
within_from high place (block ∷ []) good ready =
    ((top_within high place.down, on_the_page high place block [] good ready), tt)
within_from high place (block ∷ next ∷ more) good ready = (
  (top_within high place.down, on_the_page high place block (next ∷ more) good ready),
  within_from high (next_place high place block (next ∷ more)) (next ∷ more) good.1
      (ready_next high place block next more ready),
)

pub ready_first : (high : ℕ) (blocks : List Block)
    → tall_from high 0 false blocks ≡ None → IsReady high (record { page = 0; down = 0 }) blocks
ready_first high [] none = record { fits = omega arith; number = 0; tied = false; none = none }
ready_first high (block ∷ more) none =
    let here =
    not_tall (not false && nat_lt high (group_height (block ∷ more))) 0 (tall_from high 1 block.keep more) none in
    let low = fits_high false high (group_height (block ∷ more)) here.0 refl in
    record { fits = omega (arith, low); number = 0; tied = false; none = none }

pub ready_more : (high : ℕ) (place : BlockSpot) (block : Block) (more : List Block)
    → (more ≡ [] → ⊥) → IsReady high place (block ∷ more) → IsReady high (next_place high place block more) more
ready_more high place block [] some ready = absurd (some refl)
ready_more high place block (next ∷ more) some ready = ready_next high place block next more ready

place_page : (b : Bool) (page down : ℕ) → (place_by b page down).page ≤ page + 1
place_page true page down = omega arith
place_page false page down = omega arith

pub page_more : (high : ℕ) (place : BlockSpot) (block : Block) (more : List Block)
    → (next_place high place block more).page ≤ place.page + 1
page_more high place block more =
    place_page (block.keep || nat_le (under place block + group_height more) high) place.page (under place block)

pub value_more : (high : ℕ) (place next : BlockSpot) (block : Block) (rest more : List Block)
    (spots new all : List Spot) (spot : Spot)
    → rest ≡ block ∷ more → new ≡ spots ++ spot ∷ [] → spot ≡ spot_at high place
    → next ≡ next_place high place block more
    → spots ++ spots_from high place rest ≡ all → new ++ spots_from high next more ≡ all
value_more high place next block rest more spots new all spot cut pushed here then so_far =
    ap (λ ss. ss ++ spots_from high next more) pushed ∙ append_assoc spots (spot ∷ []) (spots_from high next more)
    ∙ ap (λ s. spots ++ s ∷ spots_from high next more) here
    ∙ ap (λ p. spots ++ spot_at high place ∷ spots_from high p more) then
    ∙ ap (λ bs. spots ++ spots_from high place bs) (sym cut) ∙ so_far

-- the last block is that of the blocks that are left
pub standing_more : (high : ℕ) (place next : BlockSpot) (block : Block) (rest more : List Block)
    (last : Option PlacedBlock)
    → rest ≡ block ∷ more → (more ≡ [] → ⊥) → next ≡ next_place high place block more
    → standing_from high place rest ≡ last → standing_from high next more ≡ last
standing_more high place next block rest [] last cut some then so_far = absurd (some refl)
standing_more high place next block rest (b ∷ more) last cut some then so_far =
    ap (λ p. standing_from high p (b ∷ more)) then ∙ ap (λ bs. standing_from high place bs) (sym cut) ∙ so_far

pub some_of : (blocks : List Block) → false ≡ (length blocks == 0) → blocks ≡ [] → ⊥
some_of [] e h = cc
some_of (block ∷ blocks) e h = cc

pub first_room : (high : ℕ) (last_block : Option PlacedBlock) (blocks : List Block)
    → CanFollow last_block → tall_from high 0 false blocks ≡ None
    → (first_place high last_block blocks).down + group_height blocks ≤ high
first_room high None blocks can none = (ready_first high blocks none).fits
first_room high (Some last) blocks can none =
    let low = (ready_first high blocks none).fits in
    loose_room last.block.keep last.place.page (under last.place last.block) (group_height blocks) high can.keep
    (omega (arith, low))

-- the first block is on the last page that is begun, or begins the next one
pub first_page : (high : ℕ) (last_block : Option PlacedBlock) (blocks : List Block)
    → (first_place high last_block blocks).page ≤ pages_after last_block
first_page high None blocks = omega arith
first_page high (Some last) blocks = omega (arith, page_more high last.place last.block blocks)

pub after_within : (high : ℕ) (last_block : Option PlacedBlock) (blocks : List Block) (place : BlockSpot)
    (spots : List Spot)
    → place ≡ first_place high last_block blocks → spots ≡ spots_from high place blocks
    → AreGoodBlocks blocks → CanFollow last_block → tall_from high 0 false blocks ≡ None → AreWithin high blocks spots
after_within high last_block blocks place spots here at good can none =
    subst (AreWithin high blocks) (sym (at ∙ ap (λ p. spots_from high p blocks) here))
    (within_from high (first_place high last_block blocks) blocks good
    (record { fits = first_room high last_block blocks can none; number = 0; tied = false; none = none }))

-- others may come after the last block if it is not tied
pub end_of : (high most : ℕ) (place : BlockSpot) (blocks : List Block)
    → AreGoodBlocks blocks → IsLoose blocks → down_after (standing_from high place blocks) ≤ most → most ≤ 2 ^ 32
    → CanFollow (standing_from high place blocks)
end_of high most place [] good loose low few = tt
end_of high most place (block ∷ []) good loose low few =
    record { keep = loose; height = good.0.1; down = omega (arith, low, few) }
end_of high most place (block ∷ next ∷ more) good loose low few =
    end_of high most (next_place high place block (next ∷ more)) (next ∷ more) good.1 loose low few

-- Blocks split into pages that fit: each is on its page, each comes after the one before it, and one split is chosen.
use Rattle.std.proofs.Common.{◌≡◌, refl, ap, sym, ◌∙◌, subst, ℕ, zero, suc, ◌+◌, ◌-◌, ◌≤◌, ℤ, pos, negsuc, ◌≤ℤ◌, Bool}
use Rattle.std.proofs.Common.{true, false, not, List, [], ◌∷◌, ◌++◌, append_assoc, length, map, take, drop, arith}
use Rattle.std.proofs.Common.{◌<◌}
use Rattle.std.proofs.lemmas.Bool.Decides.{nat_tests}
use Rattle.std.proofs.lemmas.Int.{ints}
use Rattle.std.proofs.lemmas.List.{drop-drop, drop_all}
use Rattle.std.proofs.lemmas.List.Elements.{All-drop, All-head}
use Rattle.std.proofs.Math.Seq.{drop-nil}
use Rattle.std.specs.Prelude.{◌==◌, ◌&&◌, nat_le, if◌then◌else◌, IfOk, IsSome, Some, None, Result, Ok, Err}
use Rattle.lay_breaks.specs.Breaking.{FitsFrom, IsChosen, NoneLegal, RisesFrom, last_from}
use Rattle.lay_breaks.proofs.Unique.{one_is_chosen}
use Rattle.lay_pages.specs.Distances.{block_gap}
use Rattle.lay_pages.specs.Even.{AreEven, AreHeights, AreSpots, StandByPages, ComesAfter, ComeAfter, filled, parted}
use Rattle.lay_pages.specs.Even.{group_heights, group_numbers, groups_after, heights_from, page_cost, page_height}
use Rattle.lay_pages.specs.Even.{page_of, pages_of, span_height, stacked}
use Rattle.lay_pages.specs.Parting.{AreFitting, ends_after, ends_page, even_spot_after, parted_from, parted_spots}
use Rattle.lay_pages.specs.Parting.{turns}
use Rattle.lay_pages.specs.declared.filling.Block.{Block}
use Rattle.lay_pages.specs.declared.filling.BlockSpot.{BlockSpot}
use Rattle.lay_pages.specs.declared.filling.Spot.{Spot}
use Rattle.lay_pages.specs.declared.filling.PageError.{PageError}
use Rattle.lay_pages.specs.Filling.{AreGoodBlocks, AreFilled, AreWithin, FollowOn, Follows, same_page, next_page}
use Rattle.lay_pages.specs.Filling.{group_height, height_number, spot_at, top_under, with_kept}
use Rattle.lay_pages.proofs.Filled.{at_top, below}
use Rattle.lay_pages.proofs.Fitting.{bottom_within, first_low, top_within}
use Rattle.lay_pages.specs.Even as even

-- ---- a legal breaking of the groups has pages that fit
if_some : (b : Bool) (v : ℕ) → IsSome (if b then Some v else None) → b ≡ true
if_some true v e = refl
if_some false v e = absurd cc

low_enough : (s high : ℕ) → nat_le (s - block_gap) high ≡ true → 0 + s ≤ high + block_gap
low_enough s high e = grind (arith, nat_tests)

span_low : (high : ℕ) (hs : List ℤ) (a n : ℕ)
    → IsSome (page_cost high hs a (a + suc n)) → 0 + stacked (take (suc n) (drop a hs)) ≤ high + block_gap
span_low high hs a n some =
    let fit = if_some (nat_le (span_height hs a (a + suc n)) high) _ some in
    let count : a + suc n - a ≡ suc n = omega arith in
    low_enough (stacked (take (suc n) (drop a hs))) high
    (subst (λ k. nat_le (page_height (take k (drop a hs))) high ≡ true) count fit)

pub fitting : (high : ℕ) (hs : List ℤ) (a : ℕ) (bs : List ℕ)
    → RisesFrom a bs → last_from a bs ≡ length hs → FitsFrom (page_cost high hs) a bs
    → AreFitting high 0 a bs (drop a hs)
fitting high hs a [] rises ends fits = drop_all a hs (omega (arith, ends))
fitting high hs a (b ∷ bs) rises ends fits =
    let n = b - a - 1 in let l = rises.0 in
    let is : b ≡ a + suc n = omega (arith, l) in (
      n,
      is,
      span_low high hs a n (subst (λ k. IsSome (page_cost high hs a k)) is fits.0),
      subst (AreFitting high 0 b bs) (ap (λ k. drop k hs) is ∙ sym (drop-drop (suc n) a hs))
          (fitting high hs b bs rises.1 ends fits.1),
    )

-- ---- there is a legal breaking: each group on a page of its own
abbrev singles : ℕ → ℕ → List ℕ
singles a zero = []
singles a (suc n) = suc a ∷ singles (suc a) n

single_low : (high : ℕ) (hs : List ℤ) → AreHeights high hs → stacked (take 1 hs) ≤ high + block_gap
single_low high [] good = omega arith
single_low high (h ∷ hs) good = by h (All-head (λ h. (pos 0 ≤ℤ h) × (h ≤ℤ pos high)) h hs good).1
  where
    by : (h : ℤ) → h ≤ℤ pos high → height_number h + block_gap + 0 ≤ high + block_gap
    by (pos n) le = omega (arith, ints)
    by (negsuc n) le = omega arith

single_fits : (high : ℕ) (hs : List ℤ) (a : ℕ) → AreHeights high hs → IsSome (page_cost high hs a (suc a))
single_fits high hs a good =
    let low = single_low high (drop a hs) (All-drop (λ h. (pos 0 ≤ℤ h) × (h ≤ℤ pos high)) a hs good) in
    let count : suc a - a ≡ 1 = omega arith in
    let low' = subst (λ k. stacked (take k (drop a hs)) ≤ high + block_gap) (sym count) low in
    let fit : nat_le (span_height hs a (suc a)) high ≡ true = grind (arith, nat_tests, low') in
    rw fit refl

singles_rise : (a n : ℕ) → RisesFrom a (singles a n)
singles_rise a zero = tt
singles_rise a (suc n) = (omega arith, singles_rise (suc a) n)

singles_end : (a n : ℕ) → last_from a (singles a n) ≡ n + a
singles_end a zero = omega arith
singles_end a (suc n) = let more = singles_end (suc a) n in omega (arith, more)

singles_fit : (high : ℕ) (hs : List ℤ) (a n : ℕ) → AreHeights high hs → FitsFrom (page_cost high hs) a (singles a n)
singles_fit high hs a zero good = tt
singles_fit high hs a (suc n) good = (single_fits high hs a good, singles_fit high hs (suc a) n good)

pub some_legal : (high n : ℕ) (hs : List ℤ) → AreHeights high hs → NoneLegal (page_cost high hs) (λ b. false) n → ⊥
some_legal high n hs good none =
    none (singles 0 n)
    (record {
      rises = singles_rise 0 n;
      ends = let end = singles_end 0 n in omega (arith, end);
      every_forced = λ f le is. absurd cc;
      fits = singles_fit high hs 0 n good;
    })

-- ---- after a block the pages that are left fit

-- a block that is tied to the next
kept_fits : (high down group : ℕ) (ends : List ℕ) (block : Block) (more : List Block)
    → block.keep ≡ true → AreFitting high down group ends (group_heights (block ∷ more))
    → AreFitting high (down + height_number block.height + block_gap) group ends (group_heights more)
kept_fits high down group [] block more kept fits = absurd cc
kept_fits high down group (e ∷ ends) block [] kept fits =
    let fit : down + (height_number block.height + block_gap + stacked (take fits.0 [])) ≤ high + block_gap = fits.2 in
    (fits.0, fits.1, omega (arith, fit), subst (AreFitting high 0 e ends) (drop-nil fits.0) fits.3)
kept_fits high down group (e ∷ ends) block (next ∷ more) kept fits = at block.keep kept fits
  where
    at : (keep : Bool) → keep ≡ true
        → AreFitting high down group (e ∷ ends)
        (pos (with_kept keep (height_number block.height) (group_height (next ∷ more)))
        ∷ heights_from keep (next ∷ more))
        → AreFitting high (down + height_number block.height + block_gap) group (e ∷ ends) (group_heights (next ∷ more))
    at true k f =
        let fit : down +
        (height_number block.height + block_gap + group_height (next ∷ more) + block_gap
        + stacked (take f.0 (heights_from next.keep more)))
        ≤ high + block_gap = f.2 in
        (f.0, f.1, omega (arith, fit), f.3)
    at false k f = absurd cc

-- the last block of a group: its height is that of the group's rest
loose_first : (block : Block) (more : List Block)
    → block.keep ≡ false → group_heights (block ∷ more) ≡ pos (height_number block.height) ∷ group_heights more
loose_first block [] loose = refl
loose_first block (next ∷ more) loose = at block.keep loose
  where
    at : (keep : Bool) → keep ≡ false
        → pos (with_kept keep (height_number block.height) (group_height (next ∷ more)))
        ∷ heights_from keep (next ∷ more)
        ≡ pos (height_number block.height) ∷ group_heights (next ∷ more)
    at true k = absurd cc
    at false k = refl

stay_fits : (high down group e n : ℕ) (ends : List ℕ) (h : ℕ) (hs : List ℤ)
    → e ≡ group + suc n → (e == group + 1) ≡ false → down + stacked (take (suc n) (pos h ∷ hs)) ≤ high + block_gap
    → AreFitting high 0 e ends (drop (suc n) (pos h ∷ hs))
    → AreFitting high (down + h + block_gap) (group + 1) (e ∷ ends) hs
stay_fits high down group e zero ends h hs is stays fit more = absurd (grind (arith, nat_tests))
stay_fits high down group e (suc n) ends h hs is stays fit more =
    let fit' : down + (h + block_gap + stacked (take (suc n) hs)) ≤ high + block_gap = fit in
    (n, omega (arith, is), omega (arith, fit'), more)

turn_fits : (high down group e n : ℕ) (ends : List ℕ) (h : ℤ) (hs : List ℤ)
    → e ≡ group + suc n → (e == group + 1) ≡ true → AreFitting high 0 e ends (drop (suc n) (h ∷ hs))
    → AreFitting high 0 (group + 1) ends hs
turn_fits high down group e zero ends h hs is turn more = subst (λ k. AreFitting high 0 k ends hs) is more
turn_fits high down group e (suc n) ends h hs is turn more = absurd (grind (arith, nat_tests))

pub fits_after : (high group : ℕ) (ends : List ℕ) (place : BlockSpot) (block : Block) (more : List Block)
    → AreFitting high place.down group ends (group_heights (block ∷ more))
    → AreFitting high (even_spot_after (turns ends group block) place block).down (groups_after group block)
    (ends_after (turns ends group block) ends) (group_heights more)
fits_after high group [] place block more fits = absurd cc
fits_after high group (e ∷ ends) place block more fits = by block.keep refl (e == group + 1) refl
  where
    Goal : Bool → Bool → Type 0
    Goal keep turn =
        AreFitting high (even_spot_after (not keep && turn) place block).down (if keep then group else group + 1)
        (ends_after (not keep && turn) (e ∷ ends)) (group_heights more)

    loose : block.keep ≡ false
        → AreFitting high place.down group (e ∷ ends) (pos (height_number block.height) ∷ group_heights more)
    loose l = subst (AreFitting high place.down group (e ∷ ends)) (loose_first block more l) fits

    by : (keep : Bool) → block.keep ≡ keep → (turn : Bool) → (e == group + 1) ≡ turn → Goal keep turn
    by true k turn t = kept_fits high place.down group (e ∷ ends) block more k fits
    by false k false t =
        let f = loose k in
        stay_fits high place.down group e f.0 ends (height_number block.height) (group_heights more) f.1 t f.2 f.3
    by false k true t =
        let f = loose k in
        turn_fits high place.down group e f.0 ends (pos (height_number block.height)) (group_heights more) f.1 t f.3

-- ---- one step of the split
pub parted_more : (high : ℕ) (ends later : List ℕ) (group next : ℕ) (place after : BlockSpot) (block : Block)
    (rest more : List Block) (spots new all : List Spot) (spot : Spot)
    → rest ≡ block ∷ more
    → new ≡ spots ++ spot ∷ [] → spot ≡ spot_at high place → later ≡ ends_after (turns ends group block) ends
    → next ≡ groups_after group block
    → after ≡ even_spot_after (turns ends group block) place block
    → spots ++ parted_from high ends group place rest ≡ all
    → new ++ parted_from high later next after more ≡ all
parted_more high ends later group next place after block rest more spots new all spot cut pushed here last_block count
    at
    so_far =
    ap (λ ss. ss ++ parted_from high later next after more) pushed
    ∙ append_assoc spots (spot ∷ []) (parted_from high later next after more)
    ∙ ap (λ s. spots ++ s ∷ parted_from high later next after more) here
    ∙ ap (λ es. spots ++ spot_at high place ∷ parted_from high es next after more) last_block
    ∙ ap (λ g. spots ++ spot_at high place ∷ parted_from high (ends_after (turns ends group block) ends) g after more)
    count
    ∙ ap (λ p.
    spots ++ spot_at high place
    ∷ parted_from high (ends_after (turns ends group block) ends) (groups_after group block) p more)
    at
    ∙ ap (λ bs. spots ++ parted_from high ends group place bs) (sym cut) ∙ so_far

pub fits_more : (high : ℕ) (ends later : List ℕ) (group next : ℕ) (place after : BlockSpot) (block : Block)
    (rest more : List Block)
    → rest ≡ block ∷ more
    → later ≡ ends_after (turns ends group block) ends → next ≡ groups_after group block
    → after ≡ even_spot_after (turns ends group block) place block
    → AreFitting high place.down group ends (group_heights rest)
    → AreFitting high after.down next later (group_heights more)
fits_more high ends later group next place after block rest more cut last_block count at fits =
    let fit = fits_after high group ends place block more
    (subst (λ bs. AreFitting high place.down group ends (group_heights bs)) cut fits) in
    let now = subst
    (λ (p : BlockSpot).
    AreFitting high p.down (groups_after group block) (ends_after (turns ends group block) ends) (group_heights more))
    (sym at) fit in
    let ended = subst
    (λ g. AreFitting high after.down g (ends_after (turns ends group block) ends) (group_heights more)) (sym count)
    now in
    subst (λ es. AreFitting high after.down next es (group_heights more)) (sym last_block) ended

place_next : (turned : Bool) (place : BlockSpot) (block : Block)
    → (even_spot_after turned place block).page ≤ place.page + 1
place_next true place block = omega arith
place_next false place block = omega arith

count_next : (keep : Bool) (group : ℕ) → (if keep then group else group + 1) ≤ group + 1
count_next true group = omega arith
count_next false group = omega arith

pub page_next : (ends : List ℕ) (group : ℕ) (place after : BlockSpot) (block : Block)
    → after ≡ even_spot_after (turns ends group block) place block → after.page ≤ place.page + 1
page_next ends group place after block at =
    subst (λ (p : BlockSpot). p.page ≤ place.page + 1) (sym at) (place_next (turns ends group block) place block)

pub groups_next : (group next : ℕ) (block : Block) → next ≡ groups_after group block → next ≤ group + 1
groups_next group next block count = subst (λ n. n ≤ group + 1) (sym count) (count_next block.keep group)

-- ---- so each block is on its page
first_high : (block : Block) (more : List Block) (n : ℕ)
    → height_number block.height + block_gap ≤ stacked (take (suc n) (group_heights (block ∷ more)))
first_high block more n = let low = first_low block more in omega (arith, low)

pub place_low : (high group : ℕ) (ends : List ℕ) (down : ℕ) (block : Block) (more : List Block)
    → AreFitting high down group ends (group_heights (block ∷ more)) → down + height_number block.height ≤ high
place_low high group [] down block more fits = absurd cc
place_low high group (e ∷ ends) down block more fits =
    let first = first_high block more fits.0 in let fit = fits.2 in omega (arith, first, fit)

pub parted_within : (high group : ℕ) (ends : List ℕ) (place : BlockSpot) (blocks : List Block)
    → AreGoodBlocks blocks → AreFitting high place.down group ends (group_heights blocks)
    → AreWithin high blocks (parted_from high ends group place blocks)
parted_within high group ends place [] good fits = tt
parted_within high group ends place (block ∷ more) good fits = (
  (
    top_within high place.down,
    bottom_within high place.down block.height good.0.0 (place_low high group ends place.down block more fits),
  ),
  parted_within high (groups_after group block) (ends_after (turns ends group block) ends)
      (even_spot_after (turns ends group block) place block) more good.1
      (fits_after high group ends place block more fits),
)

-- ---- and comes after the one before it
comes : (high : ℕ) (ends : List ℕ) (group : ℕ) (place : BlockSpot) (block : Block)
    → pos 0 ≤ℤ block.height
    → ComesAfter high block (spot_at high place) (spot_at high (even_spot_after (turns ends group block) place block))
comes high ends group place block good = by block.keep refl (ends_page ends group)
  where
    by : (keep : Bool) → block.keep ≡ keep → (turn : Bool)
        → ComesAfter high block (spot_at high place) (spot_at high (even_spot_after (not keep && turn) place block))
    by true k turn = even.same_page refl (below high place.down block.height good)
    by false k false = even.same_page refl (below high place.down block.height good)
    by false k true = even.next_page k refl (at_top high)

come_after : (high : ℕ) (ends : List ℕ) (group : ℕ) (place : BlockSpot) (blocks : List Block)
    → AreGoodBlocks blocks → ComeAfter high blocks (parted_from high ends group place blocks)
come_after high ends group place (block ∷ next ∷ more) good = (
  comes high ends group place block good.0.0,
  come_after high (ends_after (turns ends group block) ends) (groups_after group block)
      (even_spot_after (turns ends group block) place block) (next ∷ more) good.1,
)
come_after high ends group place blocks good = tt

pub parted_stacked : (high : ℕ) (breaks : List ℕ) (blocks : List Block)
    → AreGoodBlocks blocks → StandByPages high blocks (parted_spots high breaks blocks)
parted_stacked high breaks [] good = (tt, tt)
parted_stacked high breaks (block ∷ more) good =
    ((refl, at_top high), come_after high breaks 0 (record { page = 0; down = 0 }) (block ∷ more) good)

-- the same of blocks that are filled
filled_after : (high : ℕ) (blocks : List Block) (spots : List Spot)
    → FollowOn high blocks spots → length spots ≡ length blocks → ComeAfter high blocks spots
filled_after high (block ∷ []) (spot ∷ next ∷ spots) follow same = absurd (omega (arith, same))
filled_after high (block ∷ b ∷ more) (spot ∷ next ∷ spots) follow same =
    (one follow.0, filled_after high (b ∷ more) (next ∷ spots) follow.1 (omega (arith, same)))
  where
    one : Follows high block spot (b ∷ more) next → ComesAfter high block spot next
    one (same_page page top) = even.same_page page top
    one (next_page loose past page top) = even.next_page loose page top
filled_after high blocks spots follow same = tt

pub within_count : (high : ℕ) (blocks : List Block) (spots : List Spot)
    → AreWithin high blocks spots → length spots ≡ length blocks
within_count high [] [] within = refl
within_count high (block ∷ blocks) (spot ∷ spots) within = ap suc (within_count high blocks spots within.1)
within_count high blocks spots within = absurd within

pub filled_stacked : (high : ℕ) (blocks : List Block) (spots : List Spot)
    → AreWithin high blocks spots → AreFilled high blocks spots → StandByPages high blocks spots
filled_stacked high blocks spots within fill =
    (fill.0, filled_after high blocks spots fill.1 (within_count high blocks spots within))

pub filled_if : (high : ℕ) (blocks : List Block) (r : Result (List Spot) PageError)
    → IfOk r (AreWithin high blocks) → IfOk r (AreFilled high blocks) → IfOk r (StandByPages high blocks)
filled_if high blocks (Ok spots) within fill = filled_stacked high blocks spots within fill
filled_if high blocks (Err e) within fill = tt

-- ---- of the chosen split
pub chosen_fits : (high : ℕ) (blocks : List Block) (heights : List ℤ) (groups : ℕ) (breaks : List ℕ)
    → heights ≡ group_heights blocks → groups ≡ length heights
    → IsChosen (page_cost high heights) (λ b. false) groups breaks → AreFitting high 0 0 breaks (group_heights blocks)
chosen_fits high blocks heights groups breaks is count chosen =
    subst (AreFitting high 0 0 breaks) is
    (fitting high heights 0 breaks chosen.legal.rises (chosen.legal.ends ∙ count) chosen.legal.fits)

pub chosen_of : (high : ℕ) (blocks : List Block) (heights : List ℤ) (groups : ℕ) (breaks : List ℕ)
    → heights ≡ group_heights blocks → groups ≡ length heights
    → IsChosen (page_cost high heights) (λ b. false) groups breaks
    → IsChosen (page_cost high (group_heights blocks)) (λ b. false) (length (group_heights blocks)) breaks
chosen_of high blocks heights groups breaks is count chosen =
    subst (λ hs. IsChosen (page_cost high hs) (λ b. false) (length hs) breaks) is
    (subst (λ n. IsChosen (page_cost high heights) (λ b. false) n breaks) count chosen)

-- ---- each block is on the page of its group
none_ended : (group : ℕ) (ends : List ℕ) → RisesFrom group ends → page_of ends group ≡ 0
none_ended group [] rises = refl
none_ended group (e ∷ ends) rises =
    let l = rises.0 in
    let past : nat_le e group ≡ false = grind (arith, nat_tests, l) in
    rw past (none_ended group ends (rises_lower group e ends l rises.1))
  where
    rises_lower : (a b : ℕ) (bs : List ℕ) → a < b → RisesFrom b bs → RisesFrom a bs
    rises_lower a b [] l rises = tt
    rises_lower a b (c ∷ bs) l rises = let m = rises.0 in (omega (arith, l, m), rises.1)

-- the pages so far, and those that are left
abbrev Counts : List ℕ → ℕ → ℕ → List ℕ → Type 0
Counts breaks page group ends = (g : ℕ) → group ≤ g → page_of breaks g ≡ page + page_of ends g

count_one : (e group : ℕ) (ends : List ℕ) → nat_le e group ≡ true → page_of (e ∷ ends) group ≡ suc (page_of ends group)
count_one e group ends is = rw is refl

step_rises : (group : ℕ) (ends : List ℕ) (block : Block)
    → RisesFrom group ends → RisesFrom (groups_after group block) (ends_after (turns ends group block) ends)
step_rises group [] block rises = by block.keep
  where
    by : (keep : Bool) → RisesFrom (if keep then group else group + 1) (ends_after (not keep && false) [])
    by true = tt
    by false = tt
step_rises group (e ∷ ends) block rises = by block.keep (e == group + 1) refl
  where
    by : (keep turn : Bool) → (e == group + 1) ≡ turn
        → RisesFrom (if keep then group else group + 1) (ends_after (not keep && turn) (e ∷ ends))
    by true turn t = rises
    by false false t = (let l = rises.0 in grind (arith, nat_tests, l, t), rises.1)
    by false true t = let is : e ≡ group + 1 = grind (arith, nat_tests, t) in subst (λ k. RisesFrom k ends) is rises.1

step_counts : (group : ℕ) (ends breaks : List ℕ) (place : BlockSpot) (block : Block)
    → Counts breaks place.page group ends
    → Counts breaks (even_spot_after (turns ends group block) place block).page (groups_after group block)
    (ends_after (turns ends group block) ends)
step_counts group [] breaks place block counts = by block.keep
  where
    by : (keep : Bool)
        → Counts breaks (even_spot_after (not keep && false) place block).page (if keep then group else group + 1)
        (ends_after (not keep && false) [])
    by true = counts
    by false = λ g l. counts g (omega (arith, l))
step_counts group (e ∷ ends) breaks place block counts = by block.keep (e == group + 1) refl
  where
    by : (keep turn : Bool) → (e == group + 1) ≡ turn
        → Counts breaks (even_spot_after (not keep && turn) place block).page (if keep then group else group + 1)
        (ends_after (not keep && turn) (e ∷ ends))
    by true turn t = counts
    by false false t = λ g l. counts g (omega (arith, l))
    by false true t = λ g l.
        let one = count_one e g ends (grind (arith, nat_tests, t, l)) in
        let all = counts g (omega (arith, l)) in
        omega (arith, one, all)

pub parted_pages : (high group : ℕ) (ends breaks : List ℕ) (place : BlockSpot) (blocks : List Block)
    → RisesFrom group ends → Counts breaks place.page group ends
    → pages_of (parted_from high ends group place blocks) ≡ map (page_of breaks) (group_numbers group blocks)
parted_pages high group ends breaks place [] rises counts = refl
parted_pages high group ends breaks place (block ∷ more) rises counts =
    let here = counts group (omega arith) in
    let none = none_ended group ends rises in
    let page : place.page ≡ page_of breaks group = omega (arith, here, none) in
    let next = parted_pages high (groups_after group block) (ends_after (turns ends group block) ends) breaks
    (even_spot_after (turns ends group block) place block) more (step_rises group ends block rises)
    (step_counts group ends breaks place block counts) in
    ap (λ p.
    p
    ∷ pages_of (parted_from high (ends_after (turns ends group block) ends) (groups_after group block)
    (even_spot_after (turns ends group block) place block) more)) page
    ∙ ap (λ ps. page_of breaks group ∷ ps) next

-- the blocks of a chosen split
pub are_even : (high : ℕ) (blocks : List Block) (heights : List ℤ) (groups : ℕ) (breaks : List ℕ) (spots : List Spot)
    → heights ≡ group_heights blocks → groups ≡ length heights
    → IsChosen (page_cost high heights) (λ b. false) groups breaks → AreGoodBlocks blocks
    → spots ≡ parted_spots high breaks blocks
    → AreEven high blocks spots
are_even high blocks heights groups breaks spots is count chosen good placed = record {
  breaks = breaks;
  chosen = chosen_of high blocks heights groups breaks is count chosen;
  pages =
      ap pages_of placed
      ∙ parted_pages high 0 breaks breaks (record { page = 0; down = 0 }) blocks chosen.legal.rises
      (λ g l. omega arith);
  stacked = subst (StandByPages high blocks) (sym placed) (parted_stacked high breaks blocks good);
}

-- ---- one split is chosen, so blocks have one list of spots
abbrev spot_of : ℕ → ℤ → Spot
spot_of page top = record { page = page; top = top }

same_spot : (s t : Spot) → s.page ≡ t.page → s.top ≡ t.top → s ≡ t
same_spot s t page top = let made : spot_of s.page s.top ≡ spot_of t.page t.top = cc in made

one_next : (high : ℕ) (block : Block) (s t n m : Spot)
    → s ≡ t → n.page ≡ m.page → ComesAfter high block s n → ComesAfter high block t m → n ≡ m
one_next high block s t n m same page (even.same_page p top) (even.same_page q other) =
    same_spot n m page (top ∙ (ap (λ x. top_under block x) same ∙ sym other))
one_next high block s t n m same page (even.next_page l p top) (even.next_page k q other) =
    same_spot n m page (top ∙ sym other)
one_next high block s t n m same page (even.same_page p top) (even.next_page k q other) =
    let pages = ap (λ (x : Spot). x.page) same in absurd (omega (arith, p, q, page, pages))
one_next high block s t n m same page (even.next_page l p top) (even.same_page q other) =
    let pages = ap (λ (x : Spot). x.page) same in absurd (omega (arith, p, q, page, pages))

abbrev first_page : List ℕ → ℕ
first_page [] = 0
first_page (p ∷ ps) = p

abbrev later_pages : List ℕ → List ℕ
later_pages [] = []
later_pages (p ∷ ps) = ps

same_after : (high : ℕ) (blocks : List Block) (s t : Spot) (spots others : List Spot)
    → s ≡ t → pages_of spots ≡ pages_of others → length spots + 1 ≤ length blocks → ComeAfter high blocks (s ∷ spots)
    → ComeAfter high blocks (t ∷ others)
    → s ∷ spots ≡ t ∷ others
same_after high [] s t spots others same pages few a b = absurd (omega (arith, few))
same_after high (block ∷ blocks) s t [] [] same pages few a b = ap (λ x. x ∷ []) same
same_after high (block ∷ blocks) s t [] (m ∷ others) same pages few a b = absurd cc
same_after high (block ∷ blocks) s t (n ∷ spots) [] same pages few a b = absurd cc
same_after high (block ∷ blocks) s t (n ∷ spots) (m ∷ others) same pages few a b =
    let next = one_next high block s t n m same (ap first_page pages) a.0 b.0 in
    let more = same_after high blocks n m spots others next (ap later_pages pages) (omega (arith, few)) a.1 b.1 in
    ap (λ x. x ∷ n ∷ spots) same ∙ ap (λ xs. t ∷ xs) more

same_spots : (high : ℕ) (blocks : List Block) (spots others : List Spot)
    → pages_of spots ≡ pages_of others → length spots ≡ length blocks → StandByPages high blocks spots
    → StandByPages high blocks others
    → spots ≡ others
same_spots high blocks [] [] pages count a b = refl
same_spots high blocks [] (t ∷ others) pages count a b = absurd cc
same_spots high blocks (s ∷ spots) [] pages count a b = absurd cc
same_spots high blocks (s ∷ spots) (t ∷ others) pages count a b =
    same_after high blocks s t spots others (same_spot s t (ap first_page pages) (a.0.1 ∙ sym b.0.1))
    (ap later_pages pages) (omega (arith, count)) a.1 b.1

numbers_count : (group : ℕ) (blocks : List Block) → length (group_numbers group blocks) ≡ length blocks
numbers_count group [] = refl
numbers_count group (block ∷ more) = ap suc (numbers_count (groups_after group block) more)

map_count : {A : Type 0} (f : A → ℕ) (xs : List A) → length (map f xs) ≡ length xs
map_count f [] = refl
map_count f (x ∷ xs) = ap suc (map_count f xs)

even_count : (high : ℕ) (blocks : List Block) (spots : List Spot)
    → (is : AreEven high blocks spots) → length spots ≡ length blocks
even_count high blocks spots is =
    sym (map_count (λ (s : Spot). s.page) spots)
    ∙ (ap length is.pages
    ∙ (map_count (page_of is.breaks) (group_numbers 0 blocks) ∙ numbers_count 0 blocks))

pub one_spots : (even : Bool) (high : ℕ) (blocks : List Block) (spots others : List Spot)
    → AreSpots even high blocks spots → AreSpots even high blocks others → spots ≡ others
one_spots even high blocks spots others (filled e is) (filled f other) = is ∙ sym other
one_spots even high blocks spots others (filled e is) (parted f few other) = absurd (grind (arith, nat_tests))
one_spots even high blocks spots others (parted e few is) (filled f other) = absurd (grind (arith, nat_tests))
one_spots even high blocks spots others (parted e few is) (parted f more other) =
    let breaks = one_is_chosen _ _ _ is.breaks other.breaks is.chosen other.chosen in
    same_spots high blocks spots others
    (is.pages ∙ (ap (λ bs. map (page_of bs) (group_numbers 0 blocks)) breaks ∙ sym other.pages))
    (even_count high blocks spots is) is.stacked other.stacked

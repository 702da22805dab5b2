-- If blocks are placed one after the other, each follows the one before it.
use Rattle.std.proofs.Common.{◌≡◌, refl, ap, ◌∙◌, ℕ, ◌+◌, ◌≤◌, ℤ, pos, negsuc, ◌-ℤ◌, ◌≤ℤ◌, ◌<ℤ◌, Bool, true, false}
use Rattle.std.proofs.Common.{List, [], ◌∷◌, arith}
use Rattle.std.proofs.lemmas.Bool.Decides.{nat_tests}
use Rattle.std.proofs.lemmas.Int.{ints}
use Rattle.std.specs.Prelude.{◌||◌, nat_le}
use Rattle.lay_pages.specs.Distances.{block_gap}
use Rattle.lay_pages.specs.declared.filling.Block.{Block}
use Rattle.lay_pages.specs.declared.filling.BlockSpot.{BlockSpot}
use Rattle.lay_pages.specs.Filling.{AreGoodBlocks, height_number, group_height, under, place_by, next_place, spot_at}
use Rattle.lay_pages.specs.Filling.{spots_from, spots_of, Follows, same_page, next_page, FollowOn, AreFilled}

pub below : (high down : ℕ) (height : ℤ)
    → pos 0 ≤ℤ height
    → pos high -ℤ pos (down + height_number height + block_gap) ≡ ((pos high -ℤ pos down) -ℤ height) -ℤ pos block_gap
below high down (pos n) good = omega (arith, ints)
below high down (negsuc n) good = absurd (omega (arith, ints))

pub at_top : (high : ℕ) → pos high -ℤ pos 0 ≡ pos high
at_top high = omega (arith, ints)

too_high : (high down group : ℕ) (height : ℤ)
    → pos 0 ≤ℤ height
    → nat_le (down + height_number height + block_gap + group) high ≡ false
    → (((pos high -ℤ pos down) -ℤ height) -ℤ pos block_gap) <ℤ pos group
too_high high down group (pos n) good miss =
    let past : high + 1 ≤ down + n + block_gap + group = grind (arith, nat_tests) in omega (arith, ints, past)
too_high high down group (negsuc n) good miss = absurd (omega (arith, ints))

follows : (high : ℕ) (place : BlockSpot) (block : Block) (more : List Block)
    → pos 0 ≤ℤ block.height
    → Follows high block (spot_at high place) more (spot_at high (next_place high place block more))
follows high place block more good = by block.keep refl (nat_le (under place block + group_height more) high) refl where
  at : (b : Bool)
      → (block.keep || nat_le (under place block + group_height more) high) ≡ b
      → next_place high place block more ≡ place_by b place.page (under place block)
  at b e = ap (λ t. place_by t place.page (under place block)) e

  stays : next_place high place block more ≡ place_by true place.page (under place block)
      → Follows high block (spot_at high place) more (spot_at high (next_place high place block more))
  stays e =
      same_page (ap (λ p. p.page) e) (ap (λ p. pos high -ℤ pos p.down) e ∙ below high place.down block.height good)

  goes : block.keep ≡ false
      → nat_le (under place block + group_height more) high ≡ false
      → next_place high place block more ≡ place_by false place.page (under place block)
      → Follows high block (spot_at high place) more (spot_at high (next_place high place block more))
  goes k miss e =
      next_page k (too_high high place.down (group_height more) block.height good miss) (ap (λ p. p.page) e)
      (ap (λ p. pos high -ℤ pos p.down) e ∙ at_top high)

  by : (keep : Bool) → block.keep ≡ keep → (fit : Bool) → nat_le (under place block + group_height more) high ≡ fit
      → Follows high block (spot_at high place) more (spot_at high (next_place high place block more))
  by true k fit f = stays (at true cc)
  by false k true f = stays (at true cc)
  by false k false f = goes k f (at false cc)

follow_on : (high : ℕ) (place : BlockSpot) (blocks : List Block)
    → AreGoodBlocks blocks → FollowOn high blocks (spots_from high place blocks)
follow_on high place (block ∷ next ∷ more) good = (
  follows high place block (next ∷ more) good.0.0,
  follow_on high (next_place high place block (next ∷ more)) (next ∷ more) good.1,
)
follow_on high place blocks good = tt

pub filled_so : (high : ℕ) (blocks : List Block) → AreGoodBlocks blocks → AreFilled high blocks (spots_of high blocks)
filled_so high [] good = (tt, tt)
filled_so high (block ∷ more) good =
    ((refl, at_top high), follow_on high (record { page = 0; down = 0 }) (block ∷ more) good)

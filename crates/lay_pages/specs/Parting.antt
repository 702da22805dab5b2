-- How a list of breaks is walked to place blocks, for the code that does it: no public call speaks of this.
use Rattle.std.specs.Prelude.{◌≡◌, ◌≤◌, ℕ, suc, ◌+◌, ◌==◌, ℤ, Bool, true, false, not, ◌&&◌, List, [], ◌∷◌, take, drop}
use Rattle.lay_pages.specs.Distances.{block_gap}
use Rattle.lay_pages.specs.declared.filling.Block.{Block}
use Rattle.lay_pages.specs.declared.filling.Spot.{Spot}
use Rattle.lay_pages.specs.declared.filling.BlockSpot.{BlockSpot}
use Rattle.lay_pages.specs.Even.{groups_after, stacked}
use Rattle.lay_pages.specs.Filling.{place_by, spot_at, under}

-- Pages end after the listed numbers of groups. The block after another is under it or, if a page ends with that
-- block's group, at the top of the next page. `group` is the number of groups that end before the block's own.
abbrev pub ends_page : List ℕ → ℕ → Bool
ends_page [] group = false
ends_page (e ∷ ends) group = e == group + 1

abbrev pub turns : List ℕ → ℕ → Block → Bool
turns ends group block = not block.keep && ends_page ends group

abbrev pub ends_after : Bool → List ℕ → List ℕ
ends_after true [] = []
ends_after true (e ∷ ends) = ends
ends_after false ends = ends

abbrev pub even_spot_after : Bool → BlockSpot → Block → BlockSpot
even_spot_after turned place block = place_by (not turned) place.page (under place block)

-- the spots of blocks, the first of which has this spot
abbrev pub parted_from : ℕ → List ℕ → ℕ → BlockSpot → List Block → List Spot
parted_from high ends group place [] = []
parted_from high ends group place (block ∷ more) =
    spot_at high place
    ∷ parted_from high (ends_after (turns ends group block) ends) (groups_after group block)
    (even_spot_after (turns ends group block) place block) more

abbrev pub parted_spots : ℕ → List ℕ → List Block → List Spot
parted_spots high breaks blocks = parted_from high breaks 0 (record { page = 0; down = 0 }) blocks

-- Groups, after `group` others, go on pages with these ends; each page fits, the first from `down` on.
abbrev pub AreFitting : ℕ → ℕ → ℕ → List ℕ → List ℤ → Type 0
AreFitting high down group [] heights = heights ≡ []
AreFitting high down group (e ∷ ends) heights =
    (n : ℕ)
    × (e ≡ group + suc n)
    × (down + stacked (take (suc n) heights) ≤ high + block_gap)
    × AreFitting high 0 e ends (drop (suc n) heights)

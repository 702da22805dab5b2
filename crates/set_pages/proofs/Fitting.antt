-- If none of some tunes has a group that is too tall, their blocks together have none: no block is tied to one of the
-- next tune.
use Rattle.std.proofs.Common.{◌≡◌, refl, ap, ℕ, suc, Bool, true, false, not, List, [], ◌∷◌, ◌++◌, Option, None}
use Rattle.std.specs.Prelude.{◌&&◌, nat_lt, Result, Ok, Err}
use Rattle.abc_lines.specs.declared.fault.Fault.{Fault}
use Rattle.lay_pages.specs.declared.filling.Block.{Block}
use Rattle.lay_pages.specs.declared.stacking.Heights.{Heights}
use Rattle.lay_pages.specs.declared.titles.TitleRow.{TitleRow}
use Rattle.lay_pages.specs.Filling.{IsLoose, first_tall, group_height, height_number, tall_by, tall_from, with_kept}
use Rattle.set_tune.specs.declared.tune.SetTune.{SetTune}
use Rattle.set_tune.specs.Blocks.{blocks_of, is_some_list, system_blocks, title_blocks}
use Rattle.set_pages.specs.Drawings.{result_blocks}

-- a group ends with the last block
pub group_append : (block : Block) (bs more : List Block)
    → IsLoose (block ∷ bs) → group_height (block ∷ bs ++ more) ≡ group_height (block ∷ bs)
group_append block [] [] loose = refl
group_append block [] (next ∷ more) loose = rw loose
group_append block (next ∷ bs) more loose =
    ap (λ n. with_kept block.keep (height_number block.height) n) (group_append next bs more loose)

-- wherever the counting begins
counted : (b : Bool) (n m : ℕ) (others new : Option ℕ)
    → (others ≡ None → new ≡ None) → tall_by b n others ≡ None → tall_by b m new ≡ None
counted true n m others new to e = absurd cc
counted false n m others new to e = to e

any_count : (high n m : ℕ) (tied : Bool) (bs : List Block)
    → tall_from high n tied bs ≡ None → tall_from high m tied bs ≡ None
any_count high n m tied [] none = refl
any_count high n m tied (block ∷ bs) none =
    counted (not tied && nat_lt high (group_height (block ∷ bs))) n m _ _ (any_count high (suc n) (suc m) block.keep bs)
    none

tall_append : (high n : ℕ) (tied : Bool) (block : Block) (bs more : List Block)
    → IsLoose (block ∷ bs) → tall_from high n tied (block ∷ bs) ≡ None → tall_from high 0 false more ≡ None
    → tall_from high n tied (block ∷ bs ++ more) ≡ None
tall_append high n tied block [] more loose none none_more =
    rw (group_append block [] more loose)
    (counted (not tied && nat_lt high (group_height (block ∷ []))) n n None _
    (λ e. rw loose (any_count high 0 (suc n) false more none_more)) none)
tall_append high n tied block (next ∷ bs) more loose none none_more =
    rw (group_append block (next ∷ bs) more loose)
    (counted (not tied && nat_lt high (group_height (block ∷ next ∷ bs))) n n _ _
    (λ e. tall_append high (suc n) block.keep next bs more loose e none_more) none)

pub first_append : (high : ℕ) (bs more : List Block)
    → IsLoose bs → first_tall high bs ≡ None → first_tall high more ≡ None → first_tall high (bs ++ more) ≡ None
first_append high [] more loose none none_more = none_more
first_append high (block ∷ bs) more loose none none_more = tall_append high 0 false block bs more loose none none_more

-- the title block of a tune is tied only to a system
systems_loose : (heights : List Heights) → IsLoose (system_blocks heights)
systems_loose [] = tt
systems_loose (h ∷ []) = refl
systems_loose (h ∷ next ∷ heights) = systems_loose (next ∷ heights)

tune_loose : (rows : List TitleRow) (height : ℕ) (heights : List Heights)
    → IsLoose (title_blocks rows height (is_some_list heights) ++ system_blocks heights)
tune_loose [] height heights = systems_loose heights
tune_loose (row ∷ rows) height [] = refl
tune_loose (row ∷ rows) height (h ∷ heights) = systems_loose (h ∷ heights)

pub result_loose : (r : Result SetTune Fault) → IsLoose (result_blocks r)
unfolding blocks_of
result_loose (Ok t) = tune_loose t.title.rows t.title.height t.heights
result_loose (Err fault) = tt

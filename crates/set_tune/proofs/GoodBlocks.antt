-- The blocks of a tune have good heights.
use Rattle.std.proofs.Common.{ℕ, ◌≤◌, pos, ◌≤ℤ◌, Bool, List, [], ◌∷◌, ◌++◌, arith}
use Rattle.std.proofs.lemmas.Int.{ints}
use Rattle.std.proofs.lemmas.List.Elements.{All-head, All-tail}
use Rattle.std.specs.List.{All}
use Rattle.lay_pages.specs.Distances.{tallest_block}
use Rattle.lay_pages.specs.declared.stacking.Heights.{Heights}
use Rattle.lay_pages.specs.declared.titles.TitleRow.{TitleRow}
use Rattle.lay_pages.specs.Filling.{AreGoodBlocks}
use Rattle.set_tune.specs.Blocks.{HasGoodHeight, block_height, system_blocks, title_blocks}

good_systems : (heights : List Heights) → All HasGoodHeight heights → AreGoodBlocks (system_blocks heights)
good_systems [] all = tt
good_systems (h ∷ hs) all =
    let own : HasGoodHeight h = All-head HasGoodHeight h hs all in
    ((own.low, own.high), good_systems hs (All-tail HasGoodHeight h hs all))

low_height : (height : ℕ) → pos 0 ≤ℤ block_height height
low_height height = omega (arith, ints)

high_height : (height : ℕ) → block_height height ≤ℤ pos tallest_block
high_height height = omega (arith, ints)

pub good_blocks : (rows : List TitleRow) (height : ℕ) (keep : Bool) (heights : List Heights)
    → All HasGoodHeight heights → AreGoodBlocks (title_blocks rows height keep ++ system_blocks heights)
good_blocks [] height keep heights all = good_systems heights all
good_blocks (row ∷ rows) height keep heights all = ((low_height height, high_height height), good_systems heights all)

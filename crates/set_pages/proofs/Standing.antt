-- Blocks that fill pages: their pages rise by at most one, their tops lie on the page, and there is a drawing for
-- each.
use Rattle.std.proofs.Common.{◌≡◌, refl, ap, inl, inr, ℕ, suc, ◌+◌, ◌^◌, ◌≤◌, ℤ, pos, ◌-ℤ◌, ◌≤ℤ◌, Bool, List, [], ◌∷◌}
use Rattle.std.proofs.Common.{◌++◌, length, Option, Some, None, arith}
use Rattle.std.proofs.lemmas.Int.{ints}
use Rattle.std.proofs.lemmas.List.{length-append, length-map}
use Rattle.std.proofs.lemmas.List.Elements.{All-head, All-tail}
use Rattle.std.specs.Prelude.{All, Result, Ok, Err}
use Rattle.std.specs.List.{AllZip}
use Rattle.abc_lines.specs.declared.fault.Fault.{Fault}
use Rattle.mus_laid.specs.declared.laid.SystemMarks.{SystemMarks}
use Rattle.lay_springs.specs.declared.margin.Placed.{Placed}
use Rattle.lay_pages.specs.declared.filling.Block.{Block}
use Rattle.lay_pages.specs.declared.filling.Spot.{Spot}
use Rattle.lay_pages.specs.declared.stacking.Heights.{Heights}
use Rattle.lay_pages.specs.declared.titles.TitleRow.{TitleRow}
use Rattle.lay_pages.specs.Even.{StandByPages, ComeAfter, same_page, next_page}
use Rattle.lay_pages.specs.Filling.{AreGoodBlocks, AreWithin}
use Rattle.set_tune.specs.declared.tune.SetTune.{SetTune}
use Rattle.set_tune.specs.Blocks.{blocks_of, is_some_list, title_blocks}
use Rattle.set_book.specs.declared.outcome.Outcome.{Outcome}
use Rattle.set_staves.specs.Drawn.{IsTop}
use Rattle.set_pages.specs.Drawings.{Content, Drawing, all_blocks, all_drawings, drawings_from, result_blocks}
use Rattle.set_pages.specs.Drawings.{result_drawings, system_contents, systems_of, title_contents}
use Rattle.set_pages.specs.Ready.{AreRising, AreRisingFrom, HasAllRows, IsReady, IsReadyOn, IsWhole, IsWholeResult}

-- pages rise by at most one
rising_from : (high : ℕ) (block : Block) (blocks : List Block) (spot : Spot) (spots : List Spot)
    → AreWithin high (block ∷ blocks) (spot ∷ spots) → ComeAfter high (block ∷ blocks) (spot ∷ spots)
    → AreRisingFrom spot.page spots
rising_from high block blocks spot [] within come = tt
rising_from high block [] spot (next ∷ spots) within come = absurd within.1
rising_from high block (more ∷ blocks) spot (next ∷ spots) within come = (
  elim come.0 [ same_page page top ↦ inl page | next_page keep page top ↦ inr page ],
  rising_from high more blocks next spots within.1 come.1,
)

pub rising : (high : ℕ) (blocks : List Block) (spots : List Spot)
    → AreWithin high blocks spots → StandByPages high blocks spots → AreRising spots
rising high blocks [] within stacked = tt
rising high [] (spot ∷ spots) within stacked = absurd within
rising high (block ∷ blocks) (spot ∷ spots) within stacked =
    (stacked.0.0, rising_from high block blocks spot spots within stacked.1)

-- a top lies on the page
top_within : (high : ℕ) (height top : ℤ)
    → pos 0 ≤ℤ height → top ≤ℤ pos high → pos 0 ≤ℤ (top -ℤ height) → high ≤ 2 ^ 39 → IsTop top
top_within high height top good below above small = record { low = omega (arith, ints); high = omega (arith, ints) }

-- a drawing for each block
pub systems_count : (systems : List SystemMarks) (placed : List Placed) (heights : List Heights)
    → length placed ≡ length systems → length heights ≡ length systems
    → length (system_contents systems placed heights) ≡ length systems
systems_count [] placed heights p h = refl
systems_count (m ∷ systems) (q ∷ placed) (r ∷ heights) p h =
    ap suc (systems_count systems placed heights (omega arith) (omega arith))
systems_count systems placed heights p h = absurd (omega arith)

pub drawings_count : (begins : Option ℕ) (contents : List Content)
    → length (drawings_from begins contents) ≡ length contents
drawings_count begins [] = refl
drawings_count begins (content ∷ contents) = ap suc (drawings_count None contents)

titles_count : (rows : List TitleRow) (height : ℕ) (keep : Bool)
    → length (title_contents rows) ≡ length (title_blocks rows height keep)
titles_count [] height keep = refl
titles_count (row ∷ rows) height keep = refl

pub tune_drawings_count : (ordinal : ℕ) (t : SetTune)
    → HasAllRows t
    → length (drawings_from (Some ordinal) (title_contents t.title.rows ++ systems_of t))
    ≡ length (title_contents t.title.rows) + length t.systems
tune_drawings_count ordinal t whole =
    simp (drawings_count, length-append, systems_count t.systems t.placed t.heights whole.placed whole.heights)

pub good_append : (xs ys : List Block) → AreGoodBlocks xs → AreGoodBlocks ys → AreGoodBlocks (xs ++ ys)
good_append [] ys prefix back = back
good_append (x ∷ xs) ys prefix back = (prefix.0, good_append xs ys prefix.1 back)

pub result_count : (ordinal : ℕ) (r : Result SetTune Fault)
    → IsWholeResult r → length (result_drawings ordinal r) ≡ length (result_blocks r)
unfolding blocks_of
result_count ordinal (Ok t) whole =
    let systems = systems_count t.systems t.placed t.heights whole.placed whole.heights in
    simp (
      drawings_count,
      length-append,
      length-map,
      titles_count t.title.rows t.title.height (is_some_list t.heights),
      systems,
      whole.heights,
    )
result_count ordinal (Err fault) whole = refl

pub all_count : (outcomes : List Outcome)
    → All IsWhole outcomes → length (all_drawings outcomes) ≡ length (all_blocks outcomes)
all_count [] whole = refl
all_count (o ∷ outcomes) whole =
    let here = result_count o.ordinal o.result (All-head IsWhole o outcomes whole) in
    let more = all_count outcomes (All-tail IsWhole o outcomes whole) in
    simp length-append (omega arith)

-- drawings that are ready wherever their blocks are on a page are ready at their spots
pub ready_at : (high : ℕ) (ds : List Drawing) (blocks : List Block) (spots : List Spot)
    → high ≤ 2 ^ 39 → AreGoodBlocks blocks → AllZip IsReadyOn ds blocks → AreWithin high blocks spots
    → AllZip IsReady ds spots
ready_at high [] [] [] small good on within = tt
ready_at high [] [] (spot ∷ spots) small good on within = absurd within
ready_at high (d ∷ ds) (block ∷ blocks) [] small good on within = absurd within
ready_at high (d ∷ ds) (block ∷ blocks) (spot ∷ spots) small good on within = (
  on.0 spot.top (top_within high block.height spot.top good.0.0 within.0.0 within.0.1 small) within.0.1,
  ready_at high ds blocks spots small good.1 on.1 within.1,
)
ready_at high ds blocks spots small good on within = absurd on

-- What the blocks of outcomes draw is ready wherever the blocks are on a page.
use Rattle.std.proofs.Common.{ℕ, ◌^◌, ◌<◌, ◌≤◌, ℤ, pos, ◌-ℤ◌, ◌≤ℤ◌, Bool, List, [], ◌∷◌, ◌++◌, length, Option, Some}
use Rattle.std.proofs.Common.{None, arith}
use Rattle.std.proofs.lemmas.Int.{ints}
use Rattle.std.proofs.lemmas.List.Elements.{All-head, All-tail, All-weaker}
use Rattle.std.specs.Prelude.{All, IfSome, Result, Ok, Err}
use Rattle.std.specs.List.{AllZip}
use Rattle.abc_lines.specs.declared.fault.Fault.{Fault}
use Rattle.abc_fields.specs.declared.paper.Paper.{Paper}
use Rattle.abc_fields.specs.Papers.{IsGoodPaper, body_width}
use Rattle.mus_score.specs.declared.score.Score.{Score}
use Rattle.mus_laid.specs.declared.laid.SystemMarks.{SystemMarks}
use Rattle.lay_springs.specs.declared.margin.Placed.{Placed}
use Rattle.lay_pages.specs.declared.stacking.Heights.{Heights}
use Rattle.lay_pages.specs.declared.titles.TitleRow.{TitleRow}
use Rattle.law_marks_in_range.specs.Titles.{IsGoodRow}
use Rattle.law_marks_in_range.proofs.TitleRows.{rows_stand}
use Rattle.set_tune.specs.declared.tune.SetTune.{SetTune}
use Rattle.set_tune.specs.Blocks.{block_height, blocks_of, is_some_list, system_block, system_blocks, title_blocks}
use Rattle.set_tune.proofs.Laid.{heard_moved}
use Rattle.set_book.specs.declared.outcome.Outcome.{Outcome}
use Rattle.set_staves.specs.Drawn.{IsBase, IsOnPage, IsTop}
use Rattle.set_staves.specs.Marks.{RisesAlong}
use Rattle.set_staves.proofs.Shown.{x_read}
use Rattle.lay_tune.specs.Systems.{StandWithin, gaps_between}
use Rattle.set_pages.specs.Drawings.{all_blocks, all_drawings, drawing, drawings_from, outcome_blocks, outcome_drawings}
use Rattle.set_pages.specs.Drawings.{result_blocks, result_drawings, system, system_contents, title_contents}
use Rattle.set_pages.specs.Ready.{IsReadyOn, IsReadyRow}
use Rattle.set_pages.specs.Sheet.{IsSetResult, IsSetUnder}
use Rattle.set_pages.proofs.Laying.{AreLaid, IsLaidSystem, paper_narrow, tune_laid}
use Rattle.set_pages.proofs.Stacks.{IsBetween, stacked_lie}
use Rattle.set_pages.proofs.Joined.{zip_append}

-- the tune that a block begins has an ordinal
abbrev IsCounted : Option ℕ → Type 0
IsCounted begins = IfSome begins (λ k. 1 ≤ k)

-- the layout of a tune that is set
pub result_laid : (paper : Paper) (t : SetTune)
    → IsGoodPaper paper → IsSetResult paper (Ok t) → AreLaid t.score (body_width paper) t.systems t.placed t.heights
result_laid paper t good set =
    let laid = set.3.laid in
    tune_laid (body_width paper) t laid.score.good (heard_moved set.0 set.1 set.2 t.header t.score laid.score)
    (paper_narrow paper good) laid.layout

-- ---- blocks that are ready wherever they are on a page
pub columns_rise : (width count : ℕ) (at : List ℤ) → StandWithin width count at → RisesAlong at
columns_rise width count at stand i inside = stand.rise i (omega (arith, inside, stand.count_is))

columns_within : (width count : ℕ) (at : List ℤ) → width < 2 ^ 20 → StandWithin width count at → All IsOnPage at
columns_within width count at narrow stand k d inside =
    let there : k < count = omega (arith, inside, stand.count_is) in
    rw (← x_read at k d inside)
    (record { low = stand.low k there; high = omega (arith, ints, stand.high k there, narrow) })

system_ready : (s : Score) (width : ℕ) (begins : Option ℕ) (m : SystemMarks) (p : Placed) (h : Heights)
    → width < 2 ^ 20 → IsCounted begins → IsLaidSystem s width m p h
    → IsReadyOn (drawing begins (system m p.at h.bases)) (system_block h)
system_ready s width begins m p h narrow counted laid top at above =
    let lie =
    stacked_lie (pos 0) (pos 0 -ℤ h.height) (gaps_between s.voices) m.staves h.bases laid.staves laid.stack.stacked in
    record {
      begins = counted;
      content = record {
        shown = laid.shown;
        count = laid.columns.count_is;
        rise = columns_rise width (length m.keys) p.at laid.columns;
        numbers = columns_within width (length m.keys) p.at narrow laid.columns;
        bases = lie.count;
        heights =
            All-weaker (IsBetween (pos 0 -ℤ h.height) (pos 0)) (IsBase top) (λ base b.
            record { low = omega (arith, ints, at.low, above, b.above); high = omega (arith, ints, at.high, b.below) })
            h.bases (lie.between (pos 0) (omega (arith, ints)));
      };
      within = at;
    }

row_ready : (width height : ℕ) (top : ℤ) (row : TitleRow)
    → width < 2 ^ 20 → IsTop top → pos 0 ≤ℤ (top -ℤ block_height height) → IsGoodRow width height row
    → IsReadyRow top row
row_ready width height top row narrow at above good = record {
  across = record { low = omega (arith, ints, good.left); high = omega (arith, ints, good.right, narrow) };
  base = record {
    low = omega (arith, ints, good.bottom, at.low, at.high, above);
    high = omega (arith, ints, good.top, at.high);
  };
  printed = good.text;
}

-- ---- a block for each drawing
systems_ready : (s : Score) (width : ℕ) (begins : Option ℕ) (systems : List SystemMarks) (placed : List Placed)
    (heights : List Heights)
    → width < 2 ^ 20 → IsCounted begins
    → AreLaid s width systems placed heights
    → AllZip IsReadyOn (drawings_from begins (system_contents systems placed heights)) (system_blocks heights)
systems_ready s width begins [] [] [] narrow counted laid = tt
systems_ready s width begins (m ∷ systems) (p ∷ placed) (h ∷ heights) narrow counted laid = (
  system_ready s width begins m p h narrow counted laid.0,
  systems_ready s width None systems placed heights narrow tt laid.1,
)
systems_ready s width begins systems placed heights narrow counted laid = absurd laid

tune_ready : (s : Score) (width ordinal : ℕ) (rows : List TitleRow) (height : ℕ) (keep : Bool)
    (systems : List SystemMarks) (placed : List Placed) (heights : List Heights)
    → width < 2 ^ 20
    → 1 ≤ ordinal → All (IsGoodRow width height) rows → AreLaid s width systems placed heights
    → AllZip IsReadyOn (drawings_from (Some ordinal) (title_contents rows ++ system_contents systems placed heights))
    (title_blocks rows height keep ++ system_blocks heights)
tune_ready s width ordinal [] height keep systems placed heights narrow some good laid =
    systems_ready s width (Some ordinal) systems placed heights narrow some laid
tune_ready s width ordinal (row ∷ rows) height keep systems placed heights narrow some good laid = (
  λ top at above. record {
    begins = some;
    content = All-weaker (IsGoodRow width height) (IsReadyRow top)
        (λ r g. row_ready width height top r narrow at above g) (row ∷ rows) good;
    within = at;
  },
  systems_ready s width None systems placed heights narrow tt laid,
)

result_ready : (paper : Paper) (ordinal : ℕ) (r : Result SetTune Fault)
    → IsGoodPaper paper → 1 ≤ ordinal → IsSetResult paper r
    → AllZip IsReadyOn (result_drawings ordinal r) (result_blocks r)
unfolding blocks_of
result_ready paper ordinal (Err fault) good some set = tt
result_ready paper ordinal (Ok t) good some set =
    let rows : All (IsGoodRow (body_width paper) t.title.height) t.title.rows =
    rw set.3.laid.title (rows_stand (body_width paper) t.header.titles t.header.composers t.header.tempo) in
    tune_ready t.score (body_width paper) ordinal t.title.rows t.title.height (is_some_list t.heights) t.systems
    t.placed t.heights (paper_narrow paper good) some rows (result_laid paper t good set)

pub all_ready : (paper : Paper) (outcomes : List Outcome)
    → IsGoodPaper paper → All (IsSetUnder paper) outcomes
    → AllZip IsReadyOn (all_drawings outcomes) (all_blocks outcomes)
all_ready paper [] good set = tt
all_ready paper (o ∷ outcomes) good set =
    let here = All-head (IsSetUnder paper) o outcomes set in
    zip_append IsReadyOn (outcome_drawings o) (all_drawings outcomes) (outcome_blocks o) (all_blocks outcomes)
    (result_ready paper o.ordinal o.result good here.ordinal here.result)
    (all_ready paper outcomes good (All-tail (IsSetUnder paper) o outcomes set))

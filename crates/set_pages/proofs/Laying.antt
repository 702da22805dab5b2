-- The systems of a tune that is laid out on a paper: each can be shown, its columns are within the width, its boxes
-- stay apart and its staves are under one another.
use Rattle.std.proofs.Common.{ℕ, ◌*◌, ◌+◌, ◌-◌, ◌/◌, ◌^◌, ◌<◌, ◌≤◌, List, [], ◌∷◌, length, arith}
use Rattle.std.specs.{Prelude.{⊤, All}, List.AllZip}
use Rattle.abc_fields.specs.declared.paper.Paper.{Paper}
use Rattle.abc_fields.specs.Papers.{IsGoodPaper, body_width}
use Rattle.mus_score.specs.declared.score.Score.{Score}
use Rattle.mus_score.specs.GoodScore.{IsGoodScore}
use Rattle.mus_laid.specs.declared.laid.SystemMarks.{SystemMarks}
use Rattle.lay_springs.specs.declared.margin.Placed.{Placed}
use Rattle.lay_breaks.specs.Breaking.{RisesFrom, last_from}
use Rattle.lay_pages.specs.declared.stacking.Heights.{Heights}
use Rattle.lay_pages.specs.Stacking.{AreGoodStaves}
use Rattle.lay_tune.specs.Systems.{EachSpan, IsSetSystem, IsStack, StandWithin}
use Rattle.lay_tune.proofs.Open.{past_last}
use Rattle.law_marks_in_range.specs.Shown.{IsShown}
use Rattle.law_marks_in_range.proofs.Alike.{alike_shown}
use Rattle.law_marks_in_range.proofs.Laws.{call_shown}
use Rattle.law_marks_apart.specs.Apart.{AreApart}
use Rattle.law_marks_apart.proofs.Laws.{boxes_apart, columns_stand}
use Rattle.set_tune.specs.declared.tune.SetTune.{SetTune}
use Rattle.set_tune.specs.Setting.{IsLaidOut}
use Rattle.set_pages.proofs.Stacks.{tilted_good}

-- a system that is laid out
pub record IsLaidSystem (s : Score) (width : ℕ) (m : SystemMarks) (p : Placed) (h : Heights) : Type 0 where
  pub shown : IsShown m
  pub columns : StandWithin width (length m.keys) p.at
  pub boxes : All (λ staff. AreApart width p.at staff.marks) m.staves
  pub staves : AreGoodStaves m.staves
  pub stack : IsStack s m h

-- all systems of a tune
abbrev pub AreLaid : Score → ℕ → List SystemMarks → List Placed → List Heights → Type 0
AreLaid s width [] [] [] = ⊤
AreLaid s width (m ∷ systems) (p ∷ placed) (h ∷ heights) =
    IsLaidSystem s width m p h × AreLaid s width systems placed heights
AreLaid s width _ _ _ = ⊥

system_laid : (s : Score) (width a b : ℕ) (m : SystemMarks) (p : Placed) (h : Heights)
    → IsGoodScore s → 1 ≤ length s.voices → width < 2 ^ 20 → a < b → b ≤ s.measures
    → IsSetSystem s width a b m p → IsStack s m h → IsLaidSystem s width m p h
system_laid s width a b m p h good some narrow rises within set stack =
    let shown = call_shown s a b set.flat good some rises within set.called in record {
      shown = alike_shown set.flat m set.alike shown;
      columns = columns_stand s width a b m p set;
      boxes = boxes_apart s width a b m p good rises within set shown narrow;
      staves = tilted_good s a b p.at m set.tilted;
      stack = stack;
    }

systems_laid : (s : Score) (width a : ℕ) (breaks : List ℕ) (systems : List SystemMarks) (placed : List Placed)
    (heights : List Heights)
    → IsGoodScore s
    → (0 < s.measures → 1 ≤ length s.voices) → width < 2 ^ 20 → RisesFrom a breaks → last_from a breaks ≤ s.measures
    → EachSpan (IsSetSystem s width) a breaks systems placed → AllZip (IsStack s) systems heights
    → AreLaid s width systems placed heights
systems_laid s width a [] [] [] [] good some narrow rises within set stack = tt
systems_laid s width a [] [] [] (h ∷ heights) good some narrow rises within set stack = absurd stack
systems_laid s width a (b ∷ breaks) (m ∷ systems) (p ∷ placed) [] good some narrow rises within set stack = absurd stack
systems_laid s width a (b ∷ breaks) (m ∷ systems) (p ∷ placed) (h ∷ heights) good some narrow rises within set stack =
    let end = past_last b breaks rises.1 in let from = rises.0 in (
      system_laid s width a b m p h good (some (omega (arith, from, end, within))) narrow from
          (omega (arith, end, within)) set.0 stack.0,
      systems_laid s width b breaks systems placed heights good some narrow rises.1 within set.1 stack.1,
    )
systems_laid s width a _ _ _ heights good some narrow rises within set stack = absurd set

pub quotient_narrow : (x s : ℕ) → x ≤ 10000000 → 40 ≤ s → x / s < 2 ^ 20
quotient_narrow x s few some = grind arith

pub paper_narrow : (paper : Paper) → IsGoodPaper paper → body_width paper < 2 ^ 20
paper_narrow paper good =
    let wide = good.small_wide in
    quotient_narrow ((paper.wide - (paper.left + paper.right)) * 100) paper.scale (omega arith) good.low_scale

pub tune_laid : (width : ℕ) (t : SetTune)
    → IsGoodScore t.score → (0 < t.score.measures → 1 ≤ length t.score.voices) → width < 2 ^ 20 → IsLaidOut width t
    → AreLaid t.score width t.systems t.placed t.heights
tune_laid width t good heard narrow laid =
    let legal = laid.chosen.legal in
    let within : last_from 0 t.breaking.breaks ≤ t.score.measures = omega (arith, legal.ends) in
    systems_laid t.score width 0 t.breaking.breaks t.systems t.placed t.heights good heard narrow legal.rises within
    laid.systems laid.heights

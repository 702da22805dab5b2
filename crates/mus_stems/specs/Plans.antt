-- The stem plans of the events of a measure.
use Rattle.std.specs.Prelude.{◌≡◌, ℕ, ℤ, ◌≤ℤ◌, Bool, List, [], ◌∷◌, map}
use Rattle.std.specs.List.{flat_map, AllByRecursion, AllZip}
use Rattle.mus_units.specs.declared.pitch.Clef.{Clef}
use Rattle.mus_units.specs.declared.note.Wish.{Wish}
use Rattle.mus_score.specs.declared.score.Flat.{Flat}
use Rattle.mus_stems.specs.declared.stills.StemInput.{StemInput}
use Rattle.mus_stems.specs.declared.plans.StemPlan.{StemPlan}
use Rattle.mus_stems.specs.Distances.{least_end, greatest_end}
use Rattle.mus_stems.specs.Heads.{shifts_of}
use Rattle.mus_stems.specs.Displaced.{AreDisplaced}
use Rattle.mus_stems.specs.Columns.{AreInColumns}
use Rattle.mus_stems.specs.Signs.{first_sign, signs_from}
use Rattle.mus_stems.specs.Ledgers.{ledgers_of}
use Rattle.mus_stems.specs.Dots.{first_dot, dots_along}
use Rattle.mus_stems.specs.Stills.{flags_of, stills}
use Rattle.mus_stems.specs.Runs.{AreMaximalRuns}
use Rattle.mus_stems.specs.Beams.{is_joined, beams}
use Rattle.mus_stems.specs.Ends.{low_of, high_of, stands_up, stem_own_end, run_end, from_of, has_stem}

-- the event at which a run begins
abbrev pub first_event_id : List StemInput → ℕ
first_event_id [] = 0
first_event_id (e ∷ es) = e.id

-- the plan of an event, given the direction of its run, the run's end and the event at which it begins
unfoldable pub plan_of : Bool → ℤ → ℕ → StemInput → StemPlan
plan_of up to group e =
    let shifts = shifts_of up e.stands in record {
      up = up;
      has = has_stem e;
      from = from_of up e.stands;
      to = to;
      own = stem_own_end up e.stands;
      group = group;
      flags = flags_of e.base;
      shifts = shifts;
      signs = signs_from (first_sign shifts) e.stands;
      ledgers = ledgers_of (low_of e.stands) (high_of e.stands);
      dots = dots_along (first_dot shifts) e.dots e.stands;
    }

abbrev pub plans_along : Bool → ℤ → ℕ → List StemInput → List StemPlan
plans_along up to group [] = []
plans_along up to group (e ∷ es) = plan_of up to group e ∷ plans_along up to group es

unfoldable pub run_plans : Wish → List StemInput → List StemPlan
run_plans wish run = let up = stands_up wish run in plans_along up (run_end up run) (first_event_id run) run

abbrev pub plans_of_runs : Wish → List (List StemInput) → List StemPlan
plans_of_runs wish = flat_map (run_plans wish)

unfoldable pub stems_of : Wish → List Flat → List Clef → List StemPlan
stems_of wish fs cs = plans_of_runs wish (beams (stills fs cs))

-- an event of a run
pub record InRun : Type 0 where
  pub run : List StemInput
  pub event : StemInput

abbrev pub in_run : List StemInput → StemInput → InRun
in_run run e = record { run = run; event = e }

abbrev pub in_runs : List (List StemInput) → List InRun
in_runs = flat_map (λ run. map (in_run run) run)

-- how an event is drawn in a beam or by itself
pub record IsStemPlan (wish : Wish) (i : InRun) (p : StemPlan) : Type 0 where
  pub way : p.up ≡ stands_up wish i.run
  pub has : p.has ≡ has_stem i.event
  pub from : p.from ≡ from_of p.up i.event.stands
  pub own : p.own ≡ stem_own_end p.up i.event.stands
  pub to : p.to ≡ run_end p.up i.run
  pub group : p.group ≡ first_event_id i.run
  pub flags : p.flags ≡ flags_of i.event.base
  pub shifts : AreDisplaced p.up i.event.stands p.shifts
  pub signs : AreInColumns (first_sign p.shifts) i.event.stands p.signs
  pub ledgers : p.ledgers ≡ ledgers_of (low_of i.event.stands) (high_of i.event.stands)
  pub dots : p.dots ≡ dots_along (first_dot p.shifts) i.event.dots i.event.stands

-- the plans of the events of a measure: its beams are maximal runs, and each event is drawn as part of its beam
pub record ArePlans (wish : Wish) (es : List StemInput) (plans : List StemPlan) : Type 0 where
  pub runs : List (List StemInput)
  pub maximal : AreMaximalRuns is_joined es runs
  pub drawn : AllZip (IsStemPlan wish) (in_runs runs) plans

-- there are no other plans
abbrev pub OnePlan : Type 0
OnePlan =
    (wish : Wish) (es : List StemInput) (plans others : List StemPlan)
    → ArePlans wish es plans → ArePlans wish es others → plans ≡ others

-- a stem's own end is in range
abbrev pub IsEndNear : StemPlan → Type 0
IsEndNear p = (least_end ≤ℤ p.own) × (p.own ≤ℤ greatest_end)

abbrev pub AllEndsNear : List StemPlan → Type 0
AllEndsNear ps = AllByRecursion IsEndNear ps

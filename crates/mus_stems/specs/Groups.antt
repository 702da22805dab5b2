-- The `group` of plans determines beams: if the ids of events rise, the plans of a beam are a maximal run of
-- neighbours with one group, the id of the event at which the beam begins.
use Rattle.std.specs.Prelude.{◌≡◌, ℤ, Bool, ◌==◌, List, length, map}
use Rattle.std.specs.List.Sorted.{IsStrictlyIncreasing}
use Rattle.mus_units.specs.declared.note.Wish.{Wish}
use Rattle.mus_stems.specs.declared.stills.StemInput.{StemInput}
use Rattle.mus_stems.specs.declared.plans.StemPlan.{StemPlan}
use Rattle.mus_stems.specs.Runs.{runs}
use Rattle.mus_stems.specs.Beams.{beams}
use Rattle.mus_stems.specs.Plans.{run_plans, plans_of_runs}
use Rattle.mus_stems.specs.Slope.{slope_inputs, shares_beam}

-- plans whose beams begin at one event
unfoldable pub same_group : StemPlan → StemPlan → Bool
same_group p q = p.group == q.group

-- each event has a greater id than the one before it
abbrev pub IdsRise : List StemInput → Type 0
IdsRise es = IsStrictlyIncreasing (map (λ (e : StemInput). e.id) es)

-- the maximal runs of plans with one group are the plans of the beams, beam for beam
abbrev pub BeamsByGroups : Type 0
BeamsByGroups =
    (wish : Wish) (es : List StemInput)
    → IdsRise es → runs same_group (plans_of_runs wish (beams es)) ≡ map (run_plans wish) (beams es)

-- the runs that a slope uses are as long as the beams, one for each
abbrev pub SlopesByBeams : Type 0
SlopesByBeams = (wish : Wish) (es : List StemInput) (xs : List ℤ) → IdsRise es → length xs ≡ length es
    → map (λ run. length run) (runs shares_beam (slope_inputs (plans_of_runs wish (beams es)) xs))
    ≡ map (λ beam. length beam) (beams es)

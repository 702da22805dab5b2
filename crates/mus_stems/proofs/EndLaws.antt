-- The own ends in the plans of `stems_of` are in range, and there is a plan for each event.
use Rattle.std.proofs.Common.{◌≡◌, ℕ, ℤ, ◌≤ℤ◌, Bool, true, false, List, [], ◌∷◌, length, suc, ap, ◌∙◌}
use Rattle.std.proofs.Common.{refl, subst, sym, arith}
use Rattle.std.proofs.lemmas.Int.{ints, clamps}
use Rattle.std.specs.List.{AllByRecursion}
use Rattle.mus_units.specs.{declared.note.Wish.Wish, declared.pitch.Clef.Clef}
use Rattle.mus_stems.specs.declared.heads.HeadPosition.{HeadPosition}
use Rattle.mus_stems.specs.declared.stills.StemInput.{StemInput}
use Rattle.mus_stems.specs.declared.plans.StemPlan.{StemPlan}
use Rattle.mus_stems.specs.Distances.{least_end, greatest_end}
use Rattle.mus_stems.specs.Heads.{AllNear, lowest, highest}
use Rattle.mus_stems.specs.Stills.{clefs_from, stills, IsGoodStill, AllGood}
use Rattle.mus_stems.specs.Beams.{is_joined, beams}
use Rattle.mus_stems.specs.Ends.{upper_end, lower_end, outer_end, stem_own_end, stands_up, run_end}
use Rattle.mus_stems.specs.Plans.{IsEndNear, plan_of, plans_along, run_plans, first_event_id, plans_of_runs}
use Rattle.mus_stems.specs.Plans.{AllEndsNear}
use Rattle.mus_stems.proofs.Ranges.{InRange, low_near, high_near}
use Rattle.mus_stems.proofs.RunLaws.{all_in_runs, all_append, runs_length}
use Rattle.mus_stems.proofs.Taking.{stills_length}
use Rattle.mus_score.specs.declared.score.Flat.{Flat}

IsEnd : ℤ → Type 0
IsEnd z = (least_end ≤ℤ z) × (z ≤ℤ greatest_end)

outer_near : (up : Bool) (low high : ℤ) → InRange low → InRange high → IsEnd (outer_end up low high)
unfolding IsEnd outer_end upper_end lower_end
outer_near true low high p q = (omega (arith, ints, clamps, q.0, q.1), omega (arith, ints, clamps, q.0, q.1))
outer_near false low high p q = (omega (arith, ints, clamps, p.0, p.1), omega (arith, ints, clamps, p.0, p.1))

own_near : (up : Bool) (ss : List HeadPosition) → AllNear ss → IsEnd (stem_own_end up ss)
unfolding IsEnd
own_near up [] near = (omega (arith, ints), omega (arith, ints))
own_near up (s ∷ ss) near =
    outer_near up (lowest s.height ss) (highest s.height ss) (low_near (s ∷ ss) near) (high_near (s ∷ ss) near)

along_near : (up : Bool) (to : ℤ) (group : ℕ) (es : List StemInput)
    → AllGood es → AllEndsNear (plans_along up to group es)
unfolding plan_of IsEnd
along_near up to group [] good = tt {0}
along_near up to group (e ∷ es) good = (own_near up e.stands good.0.0, along_near up to group es good.1)

runs_near : (wish : Wish) (rs : List (List StemInput)) → AllByRecursion AllGood rs → AllEndsNear (plans_of_runs wish rs)
unfolding run_plans
runs_near wish [] good = tt {0}
runs_near wish (r ∷ rs) good =
    all_append IsEndNear (run_plans wish r) (plans_of_runs wish rs)
    (along_near (stands_up wish r) (run_end (stands_up wish r) r) (first_event_id r) r good.0)
    (runs_near wish rs good.1)

pub ends_near : (wish : Wish) (es : List StemInput) (plans : List StemPlan)
    → plans ≡ plans_of_runs wish (beams es) → AllGood es → AllEndsNear plans
ends_near wish es plans e good =
    subst AllEndsNear (sym e) (runs_near wish (beams es) (all_in_runs IsGoodStill is_joined es good))

-- a plan for each event
along_length : (up : Bool) (to : ℤ) (group : ℕ) (es : List StemInput) → length (plans_along up to group es) ≡ length es
along_length up to group [] = refl
along_length up to group (e ∷ es) = ap suc (along_length up to group es)

pub run_length : (wish : Wish) (r : List StemInput) → length (run_plans wish r) ≡ length r
unfolding run_plans
run_length wish r = along_length (stands_up wish r) (run_end (stands_up wish r) r) (first_event_id r) r

pub plans_length : (wish : Wish) (es : List StemInput) (plans : List StemPlan) (fs : List Flat) (clef : Clef)
    → plans ≡ plans_of_runs wish (beams es) → es ≡ stills fs (clefs_from clef fs) → length plans ≡ length fs
plans_length wish es plans fs clef e f =
    ap (λ t. length t) e
    ∙ runs_length is_joined (run_plans wish) (run_length wish) es
    ∙ ap (λ t. length t) f
    ∙ stills_length clef fs

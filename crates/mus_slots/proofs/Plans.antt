-- One walk over the plans of stems: what holds of an event and its plan, whatever its beam, holds of all events of a
-- measure and their plans.
use Rattle.std.proofs.Common.{ℕ, ℤ, Bool, List, [], ◌∷◌, ◌++◌, subst}
use Rattle.std.specs.List.{AllByRecursion, AllZip, flat_map}
use Rattle.mus_units.specs.declared.note.Wish.{Wish}
use Rattle.mus_units.specs.declared.pitch.Clef.{Clef}
use Rattle.mus_score.specs.declared.score.Flat.{Flat}
use Rattle.mus_stems.specs.declared.plans.StemPlan.{StemPlan}
use Rattle.mus_stems.specs.declared.stills.StemInput.{StemInput}
use Rattle.mus_stems.specs.Beams.{beams, is_joined}
use Rattle.mus_stems.specs.Ends.{run_end, stands_up}
use Rattle.mus_stems.specs.Plans.{first_event_id, plan_of, plans_along, plans_of_runs, run_plans, stems_of}
use Rattle.mus_stems.specs.Stills.{stills}
use Rattle.mus_stems.proofs.RunLaws.{all_in_runs, runs_are_maximal}

-- Q is what is known of events
module _ (Q : StemInput → Type 0) (R : StemInput → StemPlan → Type 0)
    (planned : (up : Bool) (to : ℤ) (group : ℕ) (e : StemInput) → Q e → R e (plan_of up to group e)) where
  along : (up : Bool) (to : ℤ) (group : ℕ) (es more : List StemInput) (ps : List StemPlan)
      → AllByRecursion Q es → AllZip R more ps → AllZip R (es ++ more) (plans_along up to group es ++ ps)
  along up to group [] more ps known rest = rest
  along up to group (e ∷ es) more ps known rest =
      (planned up to group e known.0, along up to group es more ps known.1 rest)

  runs_planned : (wish : Wish) (rs : List (List StemInput))
      → AllByRecursion (AllByRecursion Q) rs → AllZip R (flat_map (λ r. r) rs) (plans_of_runs wish rs)
  unfolding run_plans
  runs_planned wish [] known = tt
  runs_planned wish (r ∷ rs) known =
      along (stands_up wish r) (run_end (stands_up wish r) r) (first_event_id r) r _ _ known.0
      (runs_planned wish rs known.1)

  pub all_planned : (wish : Wish) (fs : List Flat) (cs : List Clef)
      → AllByRecursion Q (stills fs cs) → AllZip R (stills fs cs) (stems_of wish fs cs)
  unfolding stems_of
  all_planned wish fs cs known =
      let es = stills fs cs in
      subst (λ ds. AllZip R ds (plans_of_runs wish (beams es))) (runs_are_maximal is_joined es).whole
      (runs_planned wish (beams es) (all_in_runs Q is_joined es known))

-- The results of `stems_of` are the plans of events, and there are no others.
use Rattle.std.proofs.Common.{◌≡◌, List, [], ◌∷◌, ◌++◌, map, refl, sym, ◌∙◌, ap, subst}
use Rattle.std.specs.List.{AllByRecursion, AllZip}
use Rattle.mus_units.specs.declared.note.Wish.{Wish}
use Rattle.mus_stems.specs.declared.stills.StemInput.{StemInput}
use Rattle.mus_stems.specs.declared.plans.StemPlan.{StemPlan}
use Rattle.mus_stems.specs.Stills.{IsGoodStill, AllGood}
use Rattle.mus_stems.specs.Beams.{is_joined, beams}
use Rattle.mus_stems.specs.Ends.{stands_up, run_end, from_of, stem_own_end}
use Rattle.mus_stems.specs.Dots.{first_dot, dots_along}
use Rattle.mus_stems.specs.Signs.{first_sign}
use Rattle.mus_stems.specs.Displaced.{AreDisplaced}
use Rattle.mus_stems.specs.Columns.{AreInColumns}
use Rattle.mus_stems.specs.Plans.{first_event_id, plan_of, plans_along, run_plans, plans_of_runs, InRun, in_run}
use Rattle.mus_stems.specs.Plans.{in_runs, IsStemPlan, ArePlans, OnePlan}
use Rattle.mus_stems.proofs.RunLaws.{runs_are_maximal, all_in_runs, maximal_runs}
use Rattle.mus_stems.proofs.DisplacedLaws.{shifts_displace, one_displacing}
use Rattle.mus_stems.proofs.ColumnLaws.{signs_in_columns, one_column}

is_plan : (wish : Wish) (run : List StemInput) (e : StemInput)
    → IsGoodStill e
    → IsStemPlan wish (in_run run e)
    (plan_of (stands_up wish run) (run_end (stands_up wish run) run) (first_event_id run) e)
unfolding plan_of
is_plan wish run e good = record {
  way = refl;
  has = refl;
  from = refl;
  own = refl;
  to = refl;
  group = refl;
  flags = refl;
  shifts = shifts_displace (stands_up wish run) e.stands good.0;
  signs = signs_in_columns _ e.stands good.0;
  ledgers = refl;
  dots = refl;
}

zip_append : (wish : Wish) (is js : List InRun) (ps qs : List StemPlan)
    → AllZip (IsStemPlan wish) is ps → AllZip (IsStemPlan wish) js qs → AllZip (IsStemPlan wish) (is ++ js) (ps ++ qs)
zip_append wish [] js [] qs a b = b
zip_append wish [] js (p ∷ ps) qs a b = absurd a
zip_append wish (i ∷ is) js [] qs a b = absurd a
zip_append wish (i ∷ is) js (p ∷ ps) qs a b = (a.0, zip_append wish is js ps qs a.1 b)

along_drawn : (wish : Wish) (run es : List StemInput) → AllGood es →
    AllZip (IsStemPlan wish) (map (in_run run) es)
    (plans_along (stands_up wish run) (run_end (stands_up wish run) run) (first_event_id run) es)
along_drawn wish run [] good = tt {0}
along_drawn wish run (e ∷ es) good = (is_plan wish run e good.0, along_drawn wish run es good.1)

runs_drawn : (wish : Wish) (rs : List (List StemInput))
    → AllByRecursion AllGood rs → AllZip (IsStemPlan wish) (in_runs rs) (plans_of_runs wish rs)
unfolding run_plans
runs_drawn wish [] good = tt {0}
runs_drawn wish (r ∷ rs) good =
    zip_append wish (map (in_run r) r) (in_runs rs) (run_plans wish r) (plans_of_runs wish rs)
    (along_drawn wish r r good.0) (runs_drawn wish rs good.1)

pub are_plans : (wish : Wish) (es : List StemInput) (plans : List StemPlan)
    → plans ≡ plans_of_runs wish (beams es) → AllGood es → ArePlans wish es plans
are_plans wish es plans e good =
    subst (ArePlans wish es) (sym e)
    (record {
      runs = beams es;
      maximal = runs_are_maximal is_joined es;
      drawn = runs_drawn wish (beams es) (all_in_runs IsGoodStill is_joined es good);
    })

one_plan : (wish : Wish) (i : InRun) (p q : StemPlan) → IsStemPlan wish i p → IsStemPlan wish i q → p ≡ q
one_plan wish i p q a b =
    let ss = i.event.stands in
    let way : p.up ≡ q.up = a.way ∙ sym b.way in
    let shifts : p.shifts ≡ q.shifts =
    one_displacing q.up ss p.shifts q.shifts (subst (λ up. AreDisplaced up ss p.shifts) way a.shifts) b.shifts in
    let signs : p.signs ≡ q.signs = one_column (first_sign q.shifts) ss p.signs q.signs
    (subst (λ xs. AreInColumns (first_sign xs) ss p.signs) shifts a.signs) b.signs in
    let from = a.from ∙ ap (λ up. from_of up ss) way ∙ sym b.from in
    let own = a.own ∙ ap (λ up. stem_own_end up ss) way ∙ sym b.own in
    let to = a.to ∙ ap (λ up. run_end up i.run) way ∙ sym b.to in
    let has = a.has ∙ sym b.has in
    let group = a.group ∙ sym b.group in
    let flags = a.flags ∙ sym b.flags in
    let ledgers = a.ledgers ∙ sym b.ledgers in
    let dots = a.dots ∙ ap (λ xs. dots_along (first_dot xs) i.event.dots ss) shifts ∙ sym b.dots in
    λ k. record {
      up = way k;
      has = has k;
      from = from k;
      to = to k;
      own = own k;
      group = group k;
      flags = flags k;
      shifts = shifts k;
      signs = signs k;
      ledgers = ledgers k;
      dots = dots k;
    }

one_each : (wish : Wish) (is : List InRun) (ps qs : List StemPlan)
    → AllZip (IsStemPlan wish) is ps → AllZip (IsStemPlan wish) is qs → ps ≡ qs
one_each wish [] [] [] a b = refl
one_each wish [] [] (q ∷ qs) a b = absurd b
one_each wish [] (p ∷ ps) qs a b = absurd a
one_each wish (i ∷ is) [] qs a b = absurd a
one_each wish (i ∷ is) (p ∷ ps) [] a b = absurd b
one_each wish (i ∷ is) (p ∷ ps) (q ∷ qs) a b =
    let e = one_plan wish i p q a.0 b.0 in let more = one_each wish is ps qs a.1 b.1 in λ k. e k ∷ more k

pub no_others : OnePlan
no_others wish es plans others a b =
    let same : b.runs ≡ a.runs =
    maximal_runs is_joined es b.runs b.maximal ∙ sym (maximal_runs is_joined es a.runs a.maximal) in
    one_each wish (in_runs a.runs) plans others a.drawn
    (subst (λ rs. AllZip (IsStemPlan wish) (in_runs rs) others) same b.drawn)

-- The groups of plans determine beams if the ids of events rise.
use Rattle.std.proofs.Common.{◌≡◌, ℕ, suc, ◌+◌, ◌<◌, ℤ, Bool, true, false, cond, eqb, List, [], ◌∷◌, ◌++◌, length, map}
use Rattle.std.proofs.Common.{refl, sym, subst, ap, ◌∙◌, arith}
use Rattle.std.proofs.lemmas.Bool.{eq-eqb, ne_eqb}
use Rattle.std.proofs.lemmas.List.Folds.{flat_map-map}
use Rattle.std.proofs.lemmas.List.{length-map}
use Rattle.std.specs.Prelude.{slice_index}
use Rattle.std.specs.List.{flat_map}
use Rattle.std.specs.List.Sorted.{IsStrictlyIncreasing}
use Rattle.mus_units.specs.declared.note.Wish.{Wish}
use Rattle.mus_stems.specs.declared.stills.StemInput.{StemInput}
use Rattle.mus_stems.specs.declared.plans.StemPlan.{StemPlan}
use Rattle.mus_stems.specs.declared.slopes.SlopeInput.{SlopeInput}
use Rattle.mus_stems.specs.Runs.{runs, put_before, JoinedAfter, EndsBefore, AreRuns}
use Rattle.mus_stems.specs.Beams.{is_joined, beams}
use Rattle.mus_stems.specs.Ends.{stands_up, run_end}
use Rattle.mus_stems.specs.Plans.{plan_of, plans_along, run_plans, plans_of_runs}
use Rattle.mus_stems.specs.Slope.{slope_input, slope_inputs, shares_beam}
use Rattle.mus_stems.specs.Groups.{same_group, IdsRise, BeamsByGroups, SlopesByBeams}
use Rattle.mus_stems.proofs.RunLaws.{runs_are_maximal, runs_length, runs_of_whole}
use Rattle.mus_stems.proofs.EndLaws.{run_length}

-- ids that rise from event to event, the first above an earlier id
abbrev RiseAfter : ℕ → List StemInput → Type 0
RiseAfter id [] = Unit {0}
RiseAfter id (e ∷ es) = (id < e.id) × RiseAfter e.id es

abbrev AllRise : List StemInput → Type 0
AllRise [] = Unit {0}
AllRise (e ∷ es) = RiseAfter e.id es

rise_after : (e : StemInput) (es : List StemInput) → IdsRise (e ∷ es) → RiseAfter e.id es
rise_after e [] h = tt {0}
rise_after e (d ∷ es) h =
    let ids = map (λ (e : StemInput). e.id) (d ∷ es) in
    let following : IsStrictlyIncreasing ids = (λ k l.
    subst (λ n. slice_index ids k < slice_index (e.id ∷ ids) n) {x = suc k + 1} {y = suc (k + 1)} (omega arith)
    (h (suc k) (omega (arith, l)))) in
    (h 0 (omega arith), rise_after d es following)

all_rise : (es : List StemInput) → IdsRise es → AllRise es
all_rise [] h = tt {0}
all_rise (e ∷ es) h = rise_after e es h

-- the events after some of the events rise too, and above the id before them
after_rises : (id : ℕ) (es more : List StemInput) → RiseAfter id (es ++ more) → AllRise more
after_rises id [] [] rise = tt {0}
after_rises id [] (d ∷ more) rise = rise.1
after_rises id (e ∷ es) more rise = after_rises e.id es more rise.1

above : (id : ℕ) (es : List StemInput) (d : StemInput) (more : List StemInput)
    → RiseAfter id (es ++ d ∷ more) → id < d.id
above id [] d more rise = rise.0
above id (e ∷ es) d more rise = let h = above e.id es d more rise.1 in let g = rise.0 in omega (arith, g, h)

-- runs that begin with a greater id, if there are any
abbrev BeginAbove : ℕ → List (List StemInput) → Type 0
BeginAbove id [] = Unit {0}
BeginAbove id ([] ∷ rs) = ⊥
BeginAbove id ((d ∷ r) ∷ rs) = id < d.id

begin_above : (joined : StemInput → StemInput → Bool) (id : ℕ) (es : List StemInput) (rs : List (List StemInput))
    → AreRuns joined rs → RiseAfter id (es ++ flat_map (λ r. r) rs) → BeginAbove id rs
begin_above joined id es [] are rise = tt {0}
begin_above joined id es ([] ∷ rs) are rise = are
begin_above joined id es ((d ∷ r) ∷ rs) are rise = above id es d (r ++ flat_map (λ r. r) rs) rise

-- the plans of a run have one group, and those of the next run have another
along_joined : (up : Bool) (to : ℤ) (group : ℕ) (e : StemInput) (es : List StemInput)
    → JoinedAfter same_group (plan_of up to group e) (plans_along up to group es)
unfolding same_group plan_of
along_joined up to group e [] = tt {0}
along_joined up to group e (d ∷ es) = (eq-eqb group group refl, along_joined up to group d es)

below_differs : (m n : ℕ) → m < n → eqb m n ≡ false
below_differs m n lt = ne_eqb m n (λ e. omega (arith, lt, e))

along_ends : (wish : Wish) (up : Bool) (to : ℤ) (group : ℕ) (e : StemInput) (es : List StemInput)
    (rs : List (List StemInput))
    → BeginAbove group rs
    → EndsBefore same_group (plan_of up to group e) (plans_along up to group es) (map (run_plans wish) rs)
unfolding same_group plan_of run_plans
along_ends wish up to group e [] [] begin = tt {0}
along_ends wish up to group e [] ([] ∷ rs) begin = begin
along_ends wish up to group e [] ((d ∷ r) ∷ rs) begin = below_differs group d.id begin
along_ends wish up to group e (d ∷ es) rs begin = along_ends wish up to group d es rs begin

groups_are_runs : (wish : Wish) (joined : StemInput → StemInput → Bool) (rs : List (List StemInput))
    → AreRuns joined rs → AllRise (flat_map (λ r. r) rs) → AreRuns same_group (map (run_plans wish) rs)
unfolding run_plans
groups_are_runs wish joined [] are rise = tt {0}
groups_are_runs wish joined ([] ∷ rs) are rise = absurd are
groups_are_runs wish joined ((e ∷ es) ∷ rs) are rise =
    let up = stands_up wish (e ∷ es) in
    let to = run_end up (e ∷ es) in (
      along_joined up to e.id e es,
      along_ends wish up to e.id e es rs (begin_above joined e.id es rs are.2 rise),
      groups_are_runs wish joined rs are.2 (after_rises e.id es (flat_map (λ r. r) rs) rise),
    )

pub beams_by_groups : BeamsByGroups
beams_by_groups wish es rise =
    let maximal = runs_are_maximal is_joined es in
    ap (λ t. runs same_group t) (sym (flat_map-map (λ r. r) (run_plans wish) (beams es)))
    ∙ runs_of_whole same_group (map (run_plans wish) (beams es))
    (groups_are_runs wish is_joined (beams es) maximal.runs (subst AllRise (sym maximal.whole) (all_rise es rise)))

-- runs by a number of each element are the runs of these numbers
numbers_put : {A : Type 0} (g : A → ℕ) (same : A → A → Bool)
    → ((x y : A) → same x y ≡ eqb (g x) (g y)) → (d : A) (rs : List (List A))
    → map (λ r. map g r) (put_before same d rs) ≡ put_before eqb (g d) (map (λ r. map g r) rs)
numbers_put g same alike d [] = refl
numbers_put g same alike d ([] ∷ rs) = refl
numbers_put g same alike d ((e ∷ r) ∷ rs) =
    step (same d e)
    ∙ ap (λ b.
    cond b ((g d ∷ g e ∷ map g r) ∷ map (λ r. map g r) rs) ((g d ∷ []) ∷ (g e ∷ map g r) ∷ map (λ r. map g r) rs))
    (alike d e)
  where
    step : (b : Bool)
        → map (λ r. map g r) (cond b ((d ∷ e ∷ r) ∷ rs) ((d ∷ []) ∷ (e ∷ r) ∷ rs))
        ≡ cond b ((g d ∷ g e ∷ map g r) ∷ map (λ r. map g r) rs) ((g d ∷ []) ∷ (g e ∷ map g r) ∷ map (λ r. map g r) rs)
    step true = refl
    step false = refl

runs_of_numbers : {A : Type 0} (g : A → ℕ) (same : A → A → Bool)
    → ((x y : A) → same x y ≡ eqb (g x) (g y)) → (es : List A) → map (λ r. map g r) (runs same es) ≡ runs eqb (map g es)
runs_of_numbers g same alike [] = refl
runs_of_numbers g same alike (d ∷ es) =
    numbers_put g same alike d (runs same es) ∙ ap (λ t. put_before eqb (g d) t) (runs_of_numbers g same alike es)

-- lists each of which is as long as the list in its place
lengths_of : {A B : Type 0} (f : List A → List B)
    → ((r : List A) → length (f r) ≡ length r) → (rs : List (List A))
    → map (λ r. length r) (map f rs) ≡ map (λ r. length r) rs
lengths_of f same [] = refl
lengths_of f same (r ∷ rs) = rw (same r, lengths_of f same rs) refl

run_lengths : {A : Type 0} (g : A → ℕ) (same : A → A → Bool)
    → ((x y : A) → same x y ≡ eqb (g x) (g y)) → (es : List A)
    → map (λ r. length r) (runs same es) ≡ map (λ r. length r) (runs eqb (map g es))
run_lengths g same alike es =
    sym (lengths_of (λ r. map g r) (λ r. length-map r g) (runs same es))
    ∙ ap (λ t. map (λ r. length r) t) (runs_of_numbers g same alike es)

alike_plans : (p q : StemPlan) → same_group p q ≡ eqb p.group q.group
unfolding same_group
alike_plans p q = refl

alike_anchors : (a b : SlopeInput) → shares_beam a b ≡ eqb a.group b.group
unfolding shares_beam
alike_anchors a b = refl

anchor_groups : (ps : List StemPlan) (xs : List ℤ)
    → length xs ≡ length ps
    → map (λ (a : SlopeInput). a.group) (slope_inputs ps xs) ≡ map (λ (p : StemPlan). p.group) ps
unfolding slope_input
anchor_groups [] xs h = refl
anchor_groups (p ∷ ps) [] h = absurd (omega (arith, h))
anchor_groups (p ∷ ps) (x ∷ xs) h = ap (λ t. p.group ∷ t) (anchor_groups ps xs (omega (arith, h)))

pub slopes_by_beams : SlopesByBeams
slopes_by_beams wish es xs rise same =
    let plans = plans_of_runs wish (beams es) in
    let enough : length xs ≡ length plans = same ∙ sym (runs_length is_joined (run_plans wish) (run_length wish) es) in
    run_lengths (λ (a : SlopeInput). a.group) shares_beam alike_anchors (slope_inputs plans xs)
    ∙ ap (λ t. map (λ r. length r) (runs eqb t)) (anchor_groups plans xs enough)
    ∙ sym (run_lengths (λ (p : StemPlan). p.group) same_group alike_plans plans)
    ∙ ap (λ t. map (λ r. length r) t) (beams_by_groups wish es rise)
    ∙ lengths_of (run_plans wish) (run_length wish) (beams es)

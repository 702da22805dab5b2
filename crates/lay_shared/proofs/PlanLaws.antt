-- The plan read from a `%%score` line is the plan that the line spells.
use Rattle.std.proofs.Common.{◌≡◌, ◌≢◌, refl, sym, ap, ◌∙◌, subst, ℕ, ◌<◌, ◌≤◌, List, [], ◌∷◌, ◌++◌, Bool, true, false}
use Rattle.std.proofs.Common.{length, arith, append-nil, append_assoc, eqb-true, le-leb, leb-true, eq-eqb, true≢false}
use Rattle.std.proofs.Common.{map, ◌^◌}
use Rattle.std.proofs.lemmas.Bool.{and_parts}
use Rattle.std.proofs.lemmas.Grind.{flat_map-append}
use Rattle.std.proofs.lemmas.List.Elements.{All-from_recursion}
use Rattle.std.proofs.lemmas.List.{get_or-map, length-map}
use Rattle.std.specs.Prelude.{◌==◌, not, nat_le, flat_map, AllPairs, IfSome, Option, Some, None}
use Rattle.std.specs.List.{AllByRecursion, list_all, list_any}
use Rattle.mus_score.specs.{declared.score.Score.Score, declared.score.Voice.Voice, GoodScore.IsGoodScore}
use Rattle.lay_shared.specs.declared.plan.Plan.{Plan}
use Rattle.lay_shared.specs.declared.plan.PlannedStaff.{PlannedStaff}
use Rattle.lay_shared.specs.declared.signs.PlanSign.{PlanSign}
use Rattle.lay_shared.specs.Signs.{Writes}
use Rattle.lay_shared.specs.Plans.{NamesEachOnce, IsPlanFor, SpellsPlan, score_ids, named, planned_voices}
use Rattle.lay_shared.specs.Reading.{is_fair, is_once, plan_by, plan_if, run, plan_signs_from, start}
use Rattle.lay_shared.specs.Trees.{Trees, no_tree, voice_tree, staff_tree, group_tree, voice_signs, tree_signs}
use Rattle.lay_shared.specs.Trees.{shares_of, staves_of_group, staves_of_trees}
use Rattle.lay_shared.proofs.SignLaws.{AreApart, is_known, text-read, text-written}
use Rattle.lay_shared.proofs.TreeLaws.{run-trees, trees-run}

-- ---- no voice twice
same_if : (v w : ℕ) (same : Bool) → (w == v) ≡ same → same ≡ false → v ≢ w
same_if v w false e f = λ g. let wrong : (w == w) ≡ false = subst (λ x. (w == x) ≡ false) g e in ne_itself w wrong
  where
    ne_itself : (w : ℕ) → (w == w) ≡ false → ⊥
    ne_itself w h = true≢false (sym (eq-eqb w w refl) ∙ h)
same_if v w true e f = absurd (none_true f)
  where
    none_true : true ≡ false → ⊥
    none_true h = cc

any_if : (v w : ℕ) (vs : List ℕ) (same : Bool)
    → (w == v) ≡ same → list_any (λ w. w == v) (w ∷ vs) ≡ false → (same ≡ false) × (list_any (λ w. w == v) vs ≡ false)
any_if v w vs true e h = let wrong : true ≡ false = rw e at h in cc
any_if v w vs false e h = (refl, rw e at h)

none-same : (v : ℕ) (vs : List ℕ) → list_any (λ w. w == v) vs ≡ false → AllByRecursion (λ w. v ≢ w) vs
none-same v [] h = tt
none-same v (w ∷ vs) h =
    let parts = any_if v w vs (w == v) refl h in (same_if v w (w == v) refl parts.0, none-same v vs parts.1)

not_false : (b : Bool) → not b ≡ true → b ≡ false
not_false false h = refl
not_false true h = cc

once-is : (vs : List ℕ) → is_once vs ≡ true → NamesEachOnce vs
once-is [] h = tt
once-is (v ∷ vs) h =
    let parts = and_parts (not (list_any (λ w. w == v) vs)) (is_once vs) h in
    (none-same v vs (not_false (list_any (λ w. w == v) vs) parts.0), once-is vs parts.1)

unlike_if : (v w : ℕ) (same : Bool) → (w == v) ≡ same → v ≢ w → (w == v) ≡ false
unlike_if v w true e h = absurd (h (sym (eqb-true w v e)))
unlike_if v w false e h = e

same-none : (v : ℕ) (vs : List ℕ) → AllByRecursion (λ w. v ≢ w) vs → list_any (λ w. w == v) vs ≡ false
same-none v [] h = refl
same-none v (w ∷ vs) h =
    let here = unlike_if v w (w == v) refl h.0 in let more = same-none v vs h.1 in rw (here, more) refl

is-once : (vs : List ℕ) → NamesEachOnce vs → is_once vs ≡ true
is-once [] h = refl
is-once (v ∷ vs) h = let here = same-none v vs h.0 in let more = is-once vs h.1 in rw (here, more) refl

-- ---- the voices of trees
known_voices : (vs : List ℕ) (following : List PlanSign)
    → list_all is_known following ≡ true → list_all is_known (voice_signs vs following) ≡ true
known_voices [] following h = h
known_voices (v ∷ vs) following h = known_voices vs following h

known-trees : (trees : Trees) (following : List PlanSign)
    → list_all is_known following ≡ true → list_all is_known (tree_signs trees following) ≡ true
known-trees no_tree following h = h
known-trees (voice_tree v more) following h = known-trees more following h
known-trees (staff_tree v vs more) following h =
    known_voices vs (PlanSign.StaffEnds ∷ tree_signs more following) (known-trees more following h)
known-trees (group_tree b inner more) following h =
    known-trees inner (PlanSign.Ends b ∷ tree_signs more following) (known-trees more following h)

abbrev joined : List (List ℕ) → List ℕ
joined shares = flat_map (λ vs. vs) shares

named-voices : (vs : List ℕ) (following : List PlanSign) → named (voice_signs vs following) ≡ vs ++ named following
named-voices [] following = refl
named-voices (v ∷ vs) following = ap (λ s. v ∷ s) (named-voices vs following)

named-trees : (trees : Trees) (following : List PlanSign)
    → named (tree_signs trees following) ≡ joined (shares_of trees) ++ named following
named-trees no_tree following = refl
named-trees (voice_tree v more) following = ap (λ s. v ∷ s) (named-trees more following)
named-trees (staff_tree v vs more) following =
    ap (λ s. v ∷ s)
    (named-voices vs (PlanSign.StaffEnds ∷ tree_signs more following)
    ∙ ap (λ s. vs ++ s) (named-trees more following)
    ∙ sym (append_assoc vs (joined (shares_of more)) (named following)))
named-trees (group_tree b inner more) following =
    named-trees inner (PlanSign.Ends b ∷ tree_signs more following)
    ∙ ap (λ s. joined (shares_of inner) ++ s) (named-trees more following)
    ∙ sym (append_assoc (joined (shares_of inner)) (joined (shares_of more)) (named following))
    ∙ ap (λ s. s ++ named following) (sym (flat_map-append (λ vs. vs) (shares_of inner) (shares_of more)))

voices-group : (leads : Bool) (shares : List (List ℕ)) → planned_voices (staves_of_group leads shares) ≡ joined shares
voices-group leads [] = refl
voices-group leads (vs ∷ shares) = ap (λ s. vs ++ s) (voices-group false shares)

voices-staves : (trees : Trees) → planned_voices (staves_of_trees trees) ≡ joined (shares_of trees)
voices-staves no_tree = refl
voices-staves (voice_tree v more) = ap (λ s. v ∷ s) (voices-staves more)
voices-staves (staff_tree v vs more) = ap (λ s. v ∷ vs ++ s) (voices-staves more)
voices-staves (group_tree b inner more) =
    flat_map-append (λ (staff : PlannedStaff). staff.voices) (staves_of_group true (shares_of inner))
    (staves_of_trees more)
    ∙ ap (λ s. s ++ planned_voices (staves_of_trees more)) (voices-group true (shares_of inner))
    ∙ ap (λ s. joined (shares_of inner) ++ s) (voices-staves more)
    ∙ sym (flat_map-append (λ vs. vs) (shares_of inner) (shares_of more))

-- the voices of the plan are those that the signs name
plan-names : (trees : Trees) (ss : List PlanSign)
    → ss ≡ tree_signs trees [] → planned_voices (staves_of_trees trees) ≡ named ss
plan-names trees ss e =
    voices-staves trees ∙ sym (append-nil (joined (shares_of trees))) ∙ sym (named-trees trees []) ∙ ap named (sym e)

-- ---- a spelled plan is one for the score
named-known : (ids : List (List ℕ)) (ss : List PlanSign) (text : List ℕ)
    → Writes ids ss text → AllByRecursion (λ v. v < length ids) (named ss)
named-known ids [] text h = tt
named-known ids (PlanSign.Voice v ∷ ss) text (following, first, more) =
    (first.stands.known, named-known ids ss following more)
named-known ids (PlanSign.UnknownVoice ∷ ss) text (following, first, more) = absurd first.stands
named-known ids (sign ∷ ss) text (following, first, more) = named-known ids ss following more

abbrev IsFull : PlannedStaff → Type 0
IsFull staff = 1 ≤ length staff.voices

each_both : {X : Type 0} (P : X → Type 0) (a b : List X)
    → AllByRecursion P a → AllByRecursion P b → AllByRecursion P (a ++ b)
each_both P [] b h k = k
each_both P (x ∷ a) b h k = (h.0, each_both P a b h.1 k)

shares-full : (trees : Trees) → AllByRecursion (λ vs. 1 ≤ length vs) (shares_of trees)
shares-full no_tree = tt
shares-full (voice_tree v more) = (omega arith, shares-full more)
shares-full (staff_tree v vs more) = (omega arith, shares-full more)
shares-full (group_tree b inner more) =
    each_both (λ vs. 1 ≤ length vs) (shares_of inner) (shares_of more) (shares-full inner) (shares-full more)

group-full : (leads : Bool) (shares : List (List ℕ))
    → AllByRecursion (λ vs. 1 ≤ length vs) shares → AllByRecursion IsFull (staves_of_group leads shares)
group-full leads [] h = tt
group-full leads (vs ∷ shares) h = (h.0, group-full false shares h.1)

staves-full : (trees : Trees) → AllByRecursion IsFull (staves_of_trees trees)
staves-full no_tree = tt
staves-full (voice_tree v more) = (omega arith, staves-full more)
staves-full (staff_tree v vs more) = (omega arith, staves-full more)
staves-full (group_tree b inner more) =
    each_both IsFull (staves_of_group true (shares_of inner)) (staves_of_trees more)
    (group-full true (shares_of inner) (shares-full inner)) (staves-full more)

some_staff : (staves : List PlannedStaff) → 1 ≤ length (planned_voices staves) → 1 ≤ length staves
some_staff [] h = absurd (omega (arith, h))
some_staff (staff ∷ staves) h = omega arith

pub spelled-plan : (ids : List (List ℕ)) (text : List ℕ) (plan : Plan)
    → SpellsPlan ids text plan → IsPlanFor (length ids) plan
spelled-plan ids text plan is =
    let names : planned_voices plan.staves ≡ named is.signs =
    ap planned_voices is.staves ∙ plan-names is.trees is.signs is.paired in
    record {
      known =
          All-from_recursion (λ v. v < length ids) (planned_voices plan.staves)
          (subst (AllByRecursion (λ v. v < length ids)) (sym names) (named-known ids is.signs text is.written));
      once = subst NamesEachOnce (sym names) is.once;
      some = some_staff plan.staves (subst (λ vs. 1 ≤ length vs) (sym names) is.some);
      full =
          All-from_recursion IsFull plan.staves (subst (AllByRecursion IsFull) (sym is.staves) (staves-full is.trees));
    }

-- ---- what is read
some_same : {X : Type 0} (x y : X) → Some x ≡ Some y → x ≡ y
some_same x y e = cc

spells_if : (ids : List (List ℕ)) (text : List ℕ) (fair : Bool) (got : Option (List PlannedStaff))
    → is_fair (named (plan_signs_from ids [] text)) ≡ fair → run start (plan_signs_from ids [] text) ≡ got
    → IfSome (plan_if fair got) (SpellsPlan ids text)
spells_if ids text false got e h = tt
spells_if ids text true None e h = tt
spells_if ids text true (Some staves) e h =
    let ss = plan_signs_from ids [] text in
    let found = run-trees ss staves h in
    let known : list_all is_known ss ≡ true =
    subst (λ x. list_all is_known x ≡ true) (sym found.1) (known-trees found.0 [] refl) in
    let parts = and_parts (nat_le 1 (length (named ss))) (is_once (named ss)) e in
    record {
      signs = ss;
      trees = found.0;
      written = text-written ids text known;
      paired = found.1;
      once = once-is (named ss) parts.1;
      some = leb-true 1 (length (named ss)) parts.0;
      staves = some_same staves (staves_of_trees found.0) (sym h ∙ ap (run start) found.1 ∙ trees-run found.0);
    }

pub read-spells : (ids : List (List ℕ)) (text : List ℕ)
    → IfSome (plan_by (plan_signs_from ids [] text)) (SpellsPlan ids text)
read-spells ids text =
    spells_if ids text (is_fair (named (plan_signs_from ids [] text))) (run start (plan_signs_from ids [] text)) refl
    refl

plan_same : (plan : Plan) (staves : List PlannedStaff) → plan.staves ≡ staves → record { staves = staves } ≡ plan
plan_same plan staves e = let same : record { staves = staves } ≡ plan = rw (sym e) refl in same

pub spelled-read : (ids : List (List ℕ)) (text : List ℕ) (plan : Plan)
    → AreApart ids → SpellsPlan ids text plan → plan_by (plan_signs_from ids [] text) ≡ Some plan
spelled-read ids text plan apart is =
    let ss = is.signs in
    let enough : nat_le 1 (length (named ss)) ≡ true = le-leb 1 (length (named ss)) is.some in
    let once : is_once (named ss) ≡ true = is-once (named ss) is.once in
    let fair : is_fair (named ss) ≡ true = rw (enough, once) refl in
    let ran : run start ss ≡ Some (staves_of_trees is.trees) = ap (run start) is.paired ∙ trees-run is.trees in
    ap plan_by (text-read ids ss text apart is.written)
    ∙ rw (fair, ran) (ap (λ p. Some p) (plan_same plan (staves_of_trees is.trees) is.staves))

good_if : (ids : List (List ℕ)) (text : List ℕ) (read : Option Plan)
    → IfSome read (SpellsPlan ids text) → IfSome read (IsPlanFor (length ids))
good_if ids text None h = tt
good_if ids text (Some plan) h = spelled-plan ids text plan h

pub read-good : (ids : List (List ℕ)) (text : List ℕ)
    → IfSome (plan_by (plan_signs_from ids [] text)) (IsPlanFor (length ids))
read-good ids text = good_if ids text (plan_by (plan_signs_from ids [] text)) (read-spells ids text)

-- the ids of a good score's voices
apart_by : (voices : List Voice) → AllPairs (λ v w. v.id ≢ w.id) voices → AreApart (map (λ (v : Voice). v.id) voices)
apart_by [] h = λ i j d below inside. absurd (omega (arith, inside))
apart_by (first ∷ voices) h = λ i j d below inside.
    let vs = first ∷ voices in let short : j < length vs = omega (arith, inside, length-map vs (λ (v : Voice). v.id)) in
    let e = get_or-map (λ (v : Voice). v.id) vs i first d (omega (arith, below, short)) in
    let f = get_or-map (λ (v : Voice). v.id) vs j first d short in
    λ same. h i j first below short (sym e ∙ same ∙ f)

pub apart_ids : (s : Score) → IsGoodScore s → AreApart (score_ids s)
apart_ids s good = apart_by s.voices good.ids

pub few_ids : (s : Score) → IsGoodScore s → length (score_ids s) < 2 ^ 32
few_ids s good = omega (arith, length-map s.voices (λ (v : Voice). v.id), good.few_voices)

-- a text spells one plan
pub one_plan : (ids : List (List ℕ)) (text : List ℕ) (p q : Plan)
    → AreApart ids → SpellsPlan ids text p → SpellsPlan ids text q → p ≡ q
one_plan ids text p q apart a b =
    some_same p q (sym (spelled-read ids text p apart a) ∙ spelled-read ids text q apart b)

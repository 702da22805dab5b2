-- The tree items of a voice weigh at most as much as its steps, and those of all voices at most 50,000 if they are
-- not crowded.
use Rattle.mus_score.specs.Limits.{head_limit}
use Rattle.std.proofs.Common.{⊎_elim, ◌≡◌, ◌∙◌, refl, sym, ap, subst, ℕ, zero, suc, ◌+◌, ◌-◌, ◌*◌, ◌≤◌, max, List, []}
use Rattle.std.proofs.Common.{◌∷◌, sum_by, length, Bool}
use Rattle.std.proofs.Common.{true, false, cond, Option, Some, None, mul_comm, mul-le-mul_left, arith}
use Rattle.std.proofs.lemmas.Bool.{cases_Bool, cases_lt, Decides.nat_tests}
use Rattle.std.proofs.lemmas.List.{length-map, Sums.{sum_by-cons, sum_by-append}, Elements.Contains-append_right}
use Rattle.std.specs.{Prelude.{flat_map, nat_lt, unwrap_or}, List.{AllByRecursion, Contains}}
use Rattle.mus_units.specs.{declared.{note.{Head.Head, Deco.Deco}, value.Value.Value}, Parts.parts_list}
use Rattle.abc_notes.specs.declared.part.GraceChord.{GraceChord}
use Rattle.abc_score.proofs.{Basics.with_tuplet, Rows.{leaf_rows, weight_of}, Singing.{heads_of_graces, nodes_weight}}
use Rattle.abc_steps.specs.declared.step.WrittenSound.{WrittenSound}
use Rattle.abc_steps.specs.declared.step.Step.{Step}
use Rattle.abc_steps.specs.declared.step.PlacedStep.{PlacedStep}
use Rattle.abc_steps.specs.declared.force.InForce.{InForce}
use Rattle.abc_steps.specs.declared.state.VoiceState.{VoiceState}
use Rattle.abc_steps.specs.Lengths.{written_length}
use Rattle.abc_steps.specs.Looks.{Steps, is_sound_tied, since_event}
use Rattle.abc_steps.specs.Good.{IsGoodStep, IsGoodPlacedStep}
use Rattle.abc_steps.specs.Places.{state_at, measure_of}
use Rattle.abc_events.specs.Leaves.{Words, leaves_from, nodes_of, words_of_event}
use Rattle.abc_signs.specs.Signs.{further_rests, parted_at, rest_written, signs, tree_items_of, sound_written}
use Rattle.abc_signs.specs.Signs.{tied_heads, with_tie}
use Rattle.abc_signs.specs.declared.written.WrittenEvent.{WrittenEvent}
use Rattle.abc_signs.specs.declared.written.Pending.{Pending}
use Rattle.abc_signs.specs.declared.written.TreeItem.{TreeItem}
use Rattle.abc_signs.specs.Waits.{graces_in, nothing_pending, pending_of}
use Rattle.abc_faults.proofs.Crowds.{crowd_held, not_before_itself}
use Rattle.abc_faults.specs.Weights.{grace_weights, grace_weights_of, sound_count}
use Rattle.abc_faults.specs.declared.weights.Weight.{Weight}
use Rattle.abc_faults.specs.First.{is_below_or_tied}
use Rattle.abc_faults.specs.Weights.{stands_before, weight_at, weights_in, weights_of, count_parts, count_up_to}
use Rattle.abc_faults.specs.Weights.{crowd_fault, crowd_up_to, crowded}

-- ---- tree items
abbrev pub written_weight : WrittenEvent → Pending → ℕ
written_weight w waiting = heads_of_graces waiting.graces + length w.values * max 1 (length w.heads)

abbrev pub sign_weight : TreeItem → ℕ
sign_weight (TreeItem.Event w waiting) = written_weight w waiting
sign_weight (TreeItem.Opens measure p q r) = 0

pub leaves_weigh : (words : List Words) (k id : ℕ) (ss : List TreeItem)
    → sum_by weight_of (leaf_rows (leaves_from words k id ss)) ≡ sum_by sign_weight ss
leaves_weigh words k id [] = refl
leaves_weigh words k id (TreeItem.Event w waiting ∷ ss) =
    let others = leaf_rows (leaves_from words (k + 1) (id + length w.values) ss) in
    sum_by-cons weight_of (nodes_of w waiting (words_of_event words k) id) others
    ∙ ap (λ n. n + sum_by weight_of others) (nodes_weight w waiting (words_of_event words k) id)
    ∙ ap (λ n. written_weight w waiting + n) (leaves_weigh words (k + 1) (id + length w.values) ss)
    ∙ sym (sum_by-cons sign_weight (TreeItem.Event w waiting) ss)
leaves_weigh words k id (TreeItem.Opens measure p q r ∷ ss) =
    leaves_weigh words k id ss ∙ sym (sum_by-cons sign_weight (TreeItem.Opens measure p q r) ss ∙ omega arith)

abbrev pub count : Weight → ℕ
count w = w.count

waits_step : (at : PlacedStep) (s : Step) → heads_of_graces (graces_in s) ≡ sum_by count (grace_weights_of at s)
unfolding graces_in grace_weights_of
waits_step at (Step.Grace slash body) = omega arith
waits_step at _ = refl

waits_weight : (waits : Steps)
    → heads_of_graces (flat_map (λ s. graces_in s.step) waits) ≡ sum_by count (grace_weights waits)
waits_weight [] = refl
waits_weight (s ∷ waits) =
    let left =
    sum_by-append (λ (g : GraceChord). length g.heads) (graces_in s.step) (flat_map (λ s. graces_in s.step) waits) in
    let right = sum_by-append count (grace_weights_of s s.step) (grace_weights waits) in
    omega (arith, left, waits_step s s.step, waits_weight waits, right)

waiting_weight : (now : InForce) (waits : Steps) (decos : List Deco)
    → heads_of_graces (pending_of now waits decos).graces ≡ sum_by count (grace_weights waits)
unfolding pending_of
waiting_weight now waits decos = waits_weight waits

few_values : (o : Option (List Value)) → length (unwrap_or o []) ≤ count_parts o
few_values None = omega arith
few_values (Some vs) = omega arith

length_tied : (heads : List Head) (following : Steps) → length (tied_heads heads following) ≡ length heads
length_tied [] following = refl
length_tied (h ∷ hs) following = length-map (h ∷ hs) (with_tie (is_sound_tied following))

sound_weight : (now : VoiceState) (before following : Steps) (at : PlacedStep) (s : WrittenSound) →
    let w = sound_written now before at s following in
    length w.values * max 1 (length w.heads) ≤ sound_count now before s following
unfolding sound_written sound_count
sound_weight now before following at s =
    let whole = written_length now.force.unit s before following in
    let values = parts_list whole.num whole.den in
    let parts = unwrap_or values [] in
    let heads = tied_heads s.heads following in
    let turned =
    mul_comm (length parts) (max 1 (length heads)) ∙ ap (λ n. max 1 n * length parts) (length_tied s.heads following) in
    subst (λ n. n ≤ max 1 (length s.heads) * count_parts values) (sym turned)
    (mul-le-mul_left (max 1 (length s.heads)) (few_values values))

further_weight : (now : VoiceState) (at : PlacedStep) (seen : Bool) (measure n : ℕ)
    → sum_by sign_weight (further_rests now at seen measure n) ≡ n
unfolding rest_written
further_weight now at seen measure zero = refl
further_weight now at seen measure (suc n) =
    let all = sum_by-cons sign_weight (TreeItem.Event (rest_written now at seen measure false) nothing_pending)
    (further_rests now at seen (measure + 1) n) in
    omega (arith, all, further_weight now at seen (measure + 1) n)

step_weight : (now : VoiceState) (before following : Steps) (at : PlacedStep) (s : Step) → IsGoodStep s
    → sum_by sign_weight (tree_items_of now before at following s) ≤ sum_by count (weights_of now before at following s)
unfolding tree_items_of weights_of rest_written
step_weight now before following at (Step.Sound s) good =
    let waits = since_event before in
    let own = sound_weight now before following at s in
    let graces = waiting_weight now.force waits s.decos in
    omega (
      arith,
      own,
      graces,
      sum_by-append count (grace_weights waits) (weight_at (sound_count now before s following) at ∷ []),
    )
step_weight now before following at (Step.Measures seen n) good =
    let waits = since_event before in let first = rest_written now at seen (measure_of now) (parted_at now waits) in
    let others = further_weight now at seen (measure_of now + 1) (n - 1) in
    let graces = waiting_weight now.force waits [] in
    let some : 1 ≤ n = good.0 in
    let here = sum_by-cons sign_weight (TreeItem.Event first (pending_of now.force waits []))
    (further_rests now at seen (measure_of now + 1) (n - 1)) in
    omega (arith, graces, others, here, sum_by-append count (grace_weights waits) (weight_at n at ∷ []), some)
step_weight now before following at (Step.Tuplet p q r) good =
    with_tuplet (λ z. sum_by sign_weight z ≤ 0) now p q r (λ m x y z. omega arith) (omega arith)
step_weight now before following at _ good = omega arith

pub signs_weigh : (first : InForce) (before following : Steps) → AllByRecursion IsGoodPlacedStep following
    → sum_by sign_weight (signs first before following) ≤ sum_by count (weights_in first before following)
signs_weigh first before [] good = omega arith
signs_weigh first before (at ∷ following) good =
    let now = state_at first before in let here = step_weight now before following at at.step good.0 in
    let a =
    sum_by-append sign_weight (tree_items_of now before at following at.step) (signs first (at ∷ before) following) in
    let b =
    sum_by-append count (weights_of now before at following at.step) (weights_in first (at ∷ before) following) in
    omega (arith, here, signs_weigh first (at ∷ before) following good.1, a, b)

-- ---- crowds
abbrev below : ℕ → ℕ → ℕ → ℕ → Bool
below a b x y = is_below_or_tied a x (nat_lt b y)

below_later : (a b x y m n : ℕ) → below a b x y ≡ true → below a b m n ≡ false → below x y m n ≡ false
below_later a b x y m n h i = grind (arith, nat_tests)

-- a weight that comes before no other
record Latest (ws : List Weight) : Type 0 where
  weight : Weight
  held : Contains ws weight
  following : AllByRecursion (λ v. stands_before weight v ≡ false) ws

later_all : (m w : Weight) (ws : List Weight)
    → stands_before m w ≡ true → AllByRecursion (λ v. stands_before m v ≡ false) ws
    → AllByRecursion (λ v. stands_before w v ≡ false) ws
unfolding stands_before
later_all m w [] before all = tt
later_all m w (v ∷ vs) before all =
    (below_later m.line m.column w.line w.column v.line v.column before all.0, later_all m w vs before all.1)

latest_of : (w : Weight) (ws : List Weight) → Latest (w ∷ ws)
latest_of w [] = record { weight = w; held = (0, omega arith, refl); following = (not_before_itself w, tt) }
latest_of w (v ∷ vs) =
    let o = latest_of v vs in
    ⊎_elim (λ e. record {
      weight = w;
      held = (0, omega arith, refl);
      following = (not_before_itself w, later_all o.weight w (v ∷ vs) e o.following);
    })
    (λ e. record {
      weight = o.weight;
      held = Contains-append_right (w ∷ []) (v ∷ vs) o.weight o.held;
      following = (e, o.following);
    })
    (cases_Bool (stands_before o.weight w))

all_count : (m : Weight) (ws : List Weight)
    → AllByRecursion (λ v. stands_before m v ≡ false) ws → crowd_up_to ws m ≡ sum_by count ws
all_count m [] all = refl
all_count m (w ∷ ws) all =
    let here : count_up_to m w ≡ w.count = ap (λ b. cond b 0 w.count) all.0 in
    omega (arith, sum_by-cons (count_up_to m) w ws, here, all_count m ws all.1, sum_by-cons count w ws)

pub not_crowded : (ws : List Weight) → crowded ws ≡ [] → sum_by count ws ≤ head_limit
not_crowded [] e = omega arith
not_crowded (w ∷ ws) e =
    let o = latest_of w ws in let whole = all_count o.weight (w ∷ ws) o.following in
    ⊎_elim (λ more.
    let held = subst (λ fs. Contains fs (crowd_fault o.weight)) e (crowd_held (w ∷ ws) o.weight o.held more) in
    absurd (omega (arith, held.1)))
    (λ few. omega (arith, few, whole)) (cases_lt head_limit (crowd_up_to (w ∷ ws) o.weight))

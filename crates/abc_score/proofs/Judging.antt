-- The nodes of a written event are good: for a note, a chord or a rest in any context, and for a whole measure rest
-- outside tuplets.
use Rattle.std.proofs.Common.{◌≤◌, List, ◌∷◌, map, length, Bool, true, false, cond, ◌&&◌, ◌==◌, nat_le}
use Rattle.std.specs.List.{AllByRecursion}
use Rattle.std.proofs.Common.{None, unwrap_or, IsTrue, div-le_self, le_trans, mul-le-mul_right, lit≤, arith, ◌≡◌, ◌∙◌}
use Rattle.std.proofs.Common.{refl, ap, ℕ, suc, ◌+◌, ◌*◌, []}
use Rattle.std.proofs.lemmas.{Bool.{Decides.nat_tests, and_from, or_left}, Nat.le-div}
use Rattle.abc_notes.specs.declared.part.GraceChord.{GraceChord}
use Rattle.abc_music.specs.Good.{AreGoodGraces, HasGraceHead}
use Rattle.abc_faults.specs.Faults.{is_free}
use Rattle.abc_steps.specs.declared.step.PlacedStep.{PlacedStep}
use Rattle.abc_steps.specs.declared.tuplets.OpenTuplets.{OpenTuplets}
use Rattle.abc_steps.specs.declared.state.VoiceState.{VoiceState as Stand}
use Rattle.abc_steps.specs.Force.{meter_ticks}
use Rattle.abc_score.proofs.Rows.{at_note, at_rest, at_grace}
use Rattle.abc_score.proofs.Nested.{IsGoodAt, HasSome, place_of, good_append, some_after}
use Rattle.abc_score.proofs.Singing.{parts_some}
use Rattle.mus_units.specs.declared.note.Head.{Head}
use Rattle.mus_units.specs.declared.key.Meter.{Meter}
use Rattle.mus_units.specs.declared.value.Value.{Value}
use Rattle.mus_units.specs.declared.value.TheConstants.{WHOLE}
use Rattle.mus_units.specs.Good.{IsGoodMeter, is_halving}
use Rattle.mus_units.specs.Value.{value_length}
use Rattle.mus_score.proofs.Bounds.{value_low, value_high}
use Rattle.mus_score.specs.declared.score.Event.{Event}
use Rattle.mus_score.specs.declared.good.NodeVerdict.{NodeVerdict}
use Rattle.mus_score.specs.declared.good.NodeContext.{NodeContext}
use Rattle.mus_score.specs.Good.{good_step, judged_within, outside}
use Rattle.abc_signs.specs.declared.written.WrittenEvent.{WrittenEvent}
use Rattle.abc_signs.specs.declared.written.Pending.{Pending}
use Rattle.abc_signs.specs.Signs.{rest_written, whole_value}
use Rattle.abc_events.specs.Leaves.{grace_event, grace_note}
use Rattle.abc_events.specs.Leaves.{grace_nodes, nodes_of, Words, eighth, first_part, later_part, later_parts, parts}
use Rattle.abc_events.specs.Leaves.{node_of, note_or_rest}

-- ---- events
pub record IsPlayed (e : Event) : Type 0 where
  pub dots : e.value.dots ≤ 3
  pub ticks : e.ticks ≡ value_length e.value

note_test : (h d t v : ℕ) → 1 ≤ h → d ≤ 3 → t ≡ v → (nat_le 1 h && (nat_le d 3 && t == v)) ≡ true
note_test h d t v some few is = grind (arith, nat_tests)

inner_test : (n d t v : ℕ) → n ≡ 0 → d ≤ 3 → t ≡ v → (n == 0 && nat_le d 3 && t == v) ≡ true
inner_test n d t v none few is = grind (arith, nat_tests)

outer_test : (n d t high : ℕ)
    → n ≡ 0 → d ≤ 3 → 1 ≤ t → t ≤ high → (n == 0 && nat_le d 3 && (nat_le 1 t && nat_le t high)) ≡ true
outer_test n d t high none few some less = grind (arith, nat_tests)

rest_test : (inner : Bool) (n d t v high : ℕ) → n ≡ 0 → d ≤ 3 → t ≡ v → 81 ≤ v → v ≤ high
    → (n == 0 && nat_le d 3 && cond inner (t == v) (nat_le 1 t && nat_le t high)) ≡ true
rest_test true n d t v high none few is low less = inner_test n d t v none few is
rest_test false n d t v high none few is low less = outer_test n d t high none few (omega arith) (omega arith)

has_some_head : (hs : List Head) → HasGraceHead hs → 1 ≤ length hs
has_some_head [] has = absurd has
has_some_head (h ∷ hs) has = omega arith

chords_good : (at : NodeContext) (gs : List GraceChord) → AreGoodGraces gs → IsGoodAt at (map grace_note gs)
unfolding grace_event
chords_good at [] good = refl
chords_good at (g ∷ gs) good =
    let test = note_test (length g.heads) 0 (value_length eighth) (value_length eighth) (has_some_head g.heads good.0)
    (omega arith) refl in
    and_from _ _ (ap (λ (j : NodeContext → NodeVerdict). (j at).good) (at_note good_step (grace_event g.heads)) ∙ test)
    (chords_good at gs good.1)

-- events and graces in a context
module _ (deeper : ℕ) (inner : Bool) where
  abbrev place : NodeContext
  place = record { deeper = deeper; inner = inner; grace = false }

  node_at : (hs : List Head) (e : Event)
      → e.heads ≡ hs → IsPlayed e → (judged_within (note_or_rest hs e) place).good ≡ true
  node_at [] e is played =
      ap (λ (j : NodeContext → NodeVerdict). (j place).good) (at_rest good_step e)
      ∙ rest_test inner _ _ _ _ _ (ap length is) played.dots played.ticks (value_low e.value) (value_high e.value)
  node_at (h ∷ hs) e is played =
      let long : length e.heads ≡ suc (length hs) = ap length is in
      ap (λ (j : NodeContext → NodeVerdict). (j place).good) (at_note good_step e)
      ∙ note_test _ _ _ _ (omega (arith, long)) played.dots played.ticks

  all_at : (es : List Event) → AllByRecursion IsPlayed es → IsGoodAt place (map node_of es)
  all_at [] played = refl
  all_at (e ∷ es) played = and_from _ _ (node_at e.heads e refl played.0) (all_at es played.1)

  group_at : (gs : List GraceChord) (slash : Bool) → AreGoodGraces gs → IsGoodAt place (grace_nodes gs slash)
  group_at [] slash good = refl
  group_at (g ∷ gs) slash good =
      let body = at_grace good_step (map grace_note (g ∷ gs)) slash in
      and_from _ true
      (ap (λ (j : NodeContext → NodeVerdict). (j place).good) body
      ∙ chords_good (record place { grace = true }) (g ∷ gs) good)
      refl

-- ---- a note, a chord or a rest
abbrev pub IsFew : Value → Type 0
IsFew v = v.dots ≤ 3

later_played : (w : WrittenEvent) (verses id : ℕ) (vs : List Value) → w.whole ≡ None → AllByRecursion IsFew vs
    → AllByRecursion IsPlayed (later_parts w verses id vs)
unfolding later_part
later_played w verses id [] none few = tt
later_played w verses id (v ∷ vs) none few = (
  record { dots = few.0; ticks = ap (λ o. unwrap_or o (value_length v)) none },
  later_played w verses (id + 1) vs none few.1,
)

parts_played : (w : WrittenEvent) (waiting : Pending) (words : Words) (id : ℕ) (vs : List Value)
    → w.whole ≡ None → AllByRecursion IsFew vs
    → AllByRecursion IsPlayed (parts w waiting words id vs)
unfolding first_part
parts_played w waiting words id [] none few = tt
parts_played w waiting words id (v ∷ vs) none few = (
  record { dots = few.0; ticks = ap (λ o. unwrap_or o (value_length v)) none },
  later_played w (length words) (id + 1) vs none few.1,
)

pub sound_good : (t : OpenTuplets) (w : WrittenEvent) (waiting : Pending) (words : Words) (id : ℕ)
    → w.whole ≡ None → AllByRecursion IsFew w.values
    → AreGoodGraces waiting.graces → IsGoodAt (place_of t) (nodes_of w waiting words id)
sound_good t w waiting words id none few graces = at_place t where
  nodes_good : (deeper : ℕ) (inner : Bool) → IsGoodAt (place deeper inner) (nodes_of w waiting words id)
  nodes_good deeper inner =
      good_append _ (grace_nodes waiting.graces waiting.slash) _
      (group_at deeper inner waiting.graces waiting.slash graces)
      (all_at deeper inner _ (parts_played w waiting words id w.values none few))

  at_place : (t : OpenTuplets) → IsGoodAt (place_of t) (nodes_of w waiting words id)
  at_place OpenTuplets.Nothing = nodes_good 2 false
  at_place (OpenTuplets.Single left) = nodes_good 1 true
  at_place (OpenTuplets.Nested first second) = nodes_good 0 true

some_at : (at : NodeContext) (es : List Event) → 1 ≤ length es → HasSome at (map node_of es)
some_at at [] some = absurd (omega arith)
some_at at (e ∷ es) some = or_left _ _ (first e.heads) where
  first : (hs : List Head) → (judged_within (note_or_rest hs e) at).some ≡ true
  first [] = ap (λ (j : NodeContext → NodeVerdict). (j at).some) (at_rest good_step e)
  first (h ∷ hs) = ap (λ (j : NodeContext → NodeVerdict). (j at).some) (at_note good_step e)

pub sound_some : (at : NodeContext) (w : WrittenEvent) (waiting : Pending) (words : Words) (id : ℕ)
    → 1 ≤ length w.values
    → HasSome at (nodes_of w waiting words id)
sound_some at w waiting words id some =
    some_after at (grace_nodes waiting.graces waiting.slash) _
    (some_at at _ (parts_some w waiting words id w.values some))

-- ---- a whole measure rest
halving_some : (n : ℕ) → IsTrue (is_halving n) → 1 ≤ n
halving_some n h = grind arith

halving_high : (n : ℕ) → IsTrue (is_halving n) → n ≤ 64
halving_high n h = grind arith

meter_within : (m : Meter)
    → is_free m ≡ false → IsGoodMeter m → (1 ≤ unwrap_or (meter_ticks m) 0) × (unwrap_or (meter_ticks m) 0 ≤ 99 * WHOLE)
meter_within Meter.Free held good = absurd cc
meter_within Meter.Common held good = (lit≤ tt, lit≤ tt)
meter_within Meter.Cut held good = (lit≤ tt, lit≤ tt)
meter_within (Meter.Ratio num den) held good =
    let few : den ≤ 64 = halving_high den good.2 in
    let long : 1 * WHOLE ≤ num * WHOLE = mul-le-mul_right WHOLE good.0 in (
      le-div 1 (num * WHOLE) den (halving_some den good.2) (omega (arith, few, long)),
      le_trans (div-le_self (num * WHOLE) den) (mul-le-mul_right WHOLE good.1),
    )

pub rest_good : (now : Stand) (at : PlacedStep) (seen : Bool) (measure : ℕ) (parted : Bool) (waiting : Pending)
    (words : Words) (id : ℕ)
    → is_free now.force.meter ≡ false → IsGoodMeter now.force.meter → AreGoodGraces waiting.graces
    → IsGoodAt outside (nodes_of (rest_written now at seen measure parted) waiting words id)
unfolding first_part rest_written
rest_good now at seen measure parted waiting words id held good graces =
    let ticks = meter_within now.force.meter held good in
    let rest =
    at_rest good_step (first_part (rest_written now at seen measure parted) waiting words id false whole_value) in
    let test =
    outer_test 0 0 (unwrap_or (meter_ticks now.force.meter) 0) (99 * WHOLE) refl (omega arith) ticks.0 ticks.1 in
    good_append outside (grace_nodes waiting.graces waiting.slash) _
    (group_at 2 false waiting.graces waiting.slash graces)
    (and_from _ true (ap (λ (j : NodeContext → NodeVerdict). (j outside).good) rest ∙ test) refl)

pub rest_values : (now : Stand) (at : PlacedStep) (seen : Bool) (measure : ℕ) (parted : Bool)
    → 1 ≤ length (rest_written now at seen measure parted).values
unfolding rest_written
rest_values now at seen measure parted = omega arith

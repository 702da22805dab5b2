-- All faults of a voice, each at its place, from each step in turn with the steps before it, the nearest first, and
-- the steps after it.
use Rattle.mus_score.specs.Limits.{highest_head, lowest_head, measure_limit}
use Rattle.std.specs.Prelude.{ℕ, ◌+◌, ◌-◌, List, [], ◌∷◌, ◌++◌, Bool, true, false, not, ◌&&◌, ◌||◌, nat_le, nat_lt}
use Rattle.std.specs.Prelude.{int_lt, is_none, if◌then◌else◌, count_by, flat_map}
use Rattle.std.specs.List.{before_first, list_any}
use Rattle.mus_units.specs.declared.note.Head.{Head}
use Rattle.mus_units.specs.declared.pitch.Clef.{Clef}
use Rattle.mus_units.specs.declared.key.Meter.{Meter}
use Rattle.mus_units.specs.Pitch.{height_of}
use Rattle.mus_units.specs.Parts.{parts_list}
use Rattle.abc_lines.specs.declared.fault.FaultKind.{FaultKind}
use Rattle.abc_lines.specs.declared.fault.Fault.{Fault}
use Rattle.abc_notes.specs.declared.part.GraceChord.{GraceChord}
use Rattle.abc_steps.specs.declared.step.WrittenSound.{WrittenSound}
use Rattle.abc_steps.specs.declared.step.Step.{Step}
use Rattle.abc_steps.specs.declared.step.PlacedStep.{PlacedStep}
use Rattle.abc_steps.specs.declared.force.InForce.{InForce}
use Rattle.abc_steps.specs.declared.tuplets.OpenTuplets.{OpenTuplets}
use Rattle.abc_steps.specs.declared.state.VoiceState.{VoiceState}
use Rattle.abc_steps.specs.Kinds.{is_sound}
use Rattle.abc_steps.specs.Looks.{Steps, since_event, has_left, has_right}
use Rattle.abc_steps.specs.Lengths.{written_length}
use Rattle.abc_steps.specs.Tuplets.{or_default, fits}
use Rattle.abc_steps.specs.Places.{state_at, measure_of}

-- a fault of that kind at a step
abbrev pub step_fault : FaultKind → PlacedStep → Fault
step_fault kind at = record { kind = kind; line = at.line; column = at.column }

abbrev pub fault_if : Bool → FaultKind → PlacedStep → List Fault
fault_if true kind at = step_fault kind at ∷ []
fault_if false kind at = []

-- Tuplets. Bars and whole measure rests end the open ones.
unfoldable pub ends_tuplets : Step → Bool
ends_tuplets (Step.Bar bar) = true
ends_tuplets (Step.Measures seen count) = true
ends_tuplets _ = false

-- the events that a tuplet at the place could take
unfoldable pub sounds_after : Steps → ℕ
sounds_after following = count_by (λ s. is_sound s.step) (before_first (λ s. ends_tuplets s.step) following)

-- a tuplet that does not fit would be inside two, or has more events than the one around it still takes
abbrev pub misfit_of : OpenTuplets → FaultKind
misfit_of (OpenTuplets.Nested inner outer) = FaultKind.TooDeep
misfit_of _ = FaultKind.TupletCrosses

-- a tuplet that fits is short if the measure ends before it has its events
abbrev pub tuplet_faults : ℕ → OpenTuplets → PlacedStep → Steps → List Fault
tuplet_faults r open_ones at following =
    if fits r open_ones then fault_if (nat_lt (sounds_after following) r) FaultKind.TupletShort at
    else step_fault (misfit_of open_ones) at ∷ []

-- Heads. They range from 14 steps below the bottom line of the staff to 22 above it.
abbrev pub is_off : Clef → Head → Bool
is_off clef head = let height = height_of head.pitch clef in int_lt height lowest_head || int_lt highest_head height

abbrev pub any_off : Clef → List Head → Bool
any_off clef heads = list_any (is_off clef) heads

abbrev pub any_grace_off : Clef → List GraceChord → Bool
any_grace_off clef body = list_any (λ chord. any_off clef chord.heads) body

-- the graces pending for an event, each group at its own place, in the clef of the event
unfoldable pub grace_faults_of : Clef → PlacedStep → Step → List Fault
grace_faults_of clef at (Step.Grace slash body) = fault_if (any_grace_off clef body) FaultKind.StepRange at
grace_faults_of clef at _ = []

abbrev pub grace_faults : Clef → Steps → List Fault
grace_faults clef waits = flat_map (λ s. grace_faults_of clef s s.step) waits

-- a measure past the two thousandth, counted from 0
abbrev pub is_past : ℕ → Bool
is_past measure = nat_le measure_limit measure

abbrev pub is_free : Meter → Bool
is_free Meter.Free = true
is_free _ = false

-- a note, a chord or a rest, without its graces: it is undrawable if its length has no parts
abbrev pub sound_faults_if : Bool → VoiceState → PlacedStep → WrittenSound → List Fault
sound_faults_if undrawable now at s =
    fault_if undrawable FaultKind.Undrawable at
    ++ fault_if (any_off now.force.clef s.heads) FaultKind.StepRange at
    ++ fault_if (is_past (measure_of now)) FaultKind.TooManyMeasures at

unfoldable pub sound_faults : VoiceState → Steps → PlacedStep → WrittenSound → Steps → List Fault
sound_faults now before at s following =
    let length = written_length now.force.unit s before following in
    sound_faults_if (is_none (parts_list length.num length.den)) now at s

-- whole measure rests, without their graces: the last of them must be in a good measure too
abbrev pub rest_faults : VoiceState → PlacedStep → ℕ → List Fault
rest_faults now at count =
    fault_if (is_free now.force.meter) FaultKind.RestWithoutMeter at
    ++ fault_if (is_past (measure_of now + (count - 1))) FaultKind.TooManyMeasures at

unfoldable pub faults_of : VoiceState → Steps → PlacedStep → Steps → Step → List Fault
faults_of now before at following (Step.Sound s) =
    sound_faults now before at s following ++ grace_faults now.force.clef (since_event before)
faults_of now before at following (Step.Measures seen count) =
    rest_faults now at count ++ grace_faults now.force.clef (since_event before)
faults_of now before at following (Step.Tuplet p q r) = tuplet_faults (or_default p r) now.taking at following
faults_of now before at following (Step.Broken right dots) =
    fault_if (not (has_left before && has_right following)) FaultKind.BrokenAlone at
faults_of now before at following _ = []

abbrev pub faults_in : InForce → Steps → Steps → List Fault
faults_in first before [] = []
faults_in first before (at ∷ following) =
    faults_of (state_at first before) before at following at.step ++ faults_in first (at ∷ before) following

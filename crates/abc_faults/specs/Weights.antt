-- How many heads and rests are at each place, and where there are too many of them so far.
use Rattle.mus_score.specs.Limits.{head_limit}
use Rattle.std.specs.Prelude.{◌≡◌, ⊤, false, ℕ, ◌*◌, List, [], ◌∷◌, ◌++◌, length, max, min, Bool, nat_lt, if◌then◌else◌}
use Rattle.std.specs.Prelude.{sum_by, flat_map, Option, Some, None}
use Rattle.std.specs.List.{AllByRecursion}
use Rattle.mus_units.specs.declared.value.Value.{Value}
use Rattle.mus_units.specs.Parts.{parts_list}
use Rattle.abc_lines.specs.declared.fault.FaultKind.{FaultKind}
use Rattle.abc_lines.specs.declared.fault.Fault.{Fault}
use Rattle.abc_notes.specs.declared.part.GraceChord.{GraceChord}
use Rattle.abc_steps.specs.declared.step.WrittenSound.{WrittenSound}
use Rattle.abc_steps.specs.declared.step.Step.{Step}
use Rattle.abc_steps.specs.declared.step.PlacedStep.{PlacedStep}
use Rattle.abc_steps.specs.declared.force.InForce.{InForce}
use Rattle.abc_steps.specs.Looks.{Steps, since_event}
use Rattle.abc_steps.specs.Lengths.{written_length}
use Rattle.abc_steps.specs.declared.state.VoiceState.{VoiceState}
use Rattle.abc_steps.specs.Places.{state_at}
use Rattle.abc_faults.specs.{declared.weights.Weight.Weight, First.is_below_or_tied}

abbrev pub weight_at : ℕ → PlacedStep → Weight
weight_at count at = record { line = at.line; column = at.column; count = count }

-- a weight as it is stored: no place counts for more than one above the limit
abbrev pub capped : Weight → Weight
capped w = record { line = w.line; column = w.column; count = min w.count 50001 }

-- a length without parts counts as one part
abbrev pub count_parts : Option (List Value) → ℕ
count_parts None = 1
count_parts (Some values) = length values

-- the heads of a note or a chord, or the one rest, times its parts
unfoldable pub sound_count : VoiceState → Steps → WrittenSound → Steps → ℕ
sound_count now before s following =
    let whole = written_length now.force.unit s before following in
    max 1 (length s.heads) * count_parts (parts_list whole.num whole.den)

abbrev pub grace_count : List GraceChord → ℕ
grace_count body = sum_by (λ chord. length chord.heads) body

-- the pending groups of graces, each at its own place
unfoldable pub grace_weights_of : PlacedStep → Step → List Weight
grace_weights_of at (Step.Grace slash body) = weight_at (grace_count body) at ∷ []
grace_weights_of at _ = []

abbrev pub grace_weights : Steps → List Weight
grace_weights waits = flat_map (λ s. grace_weights_of s s.step) waits

unfoldable pub weights_of : VoiceState → Steps → PlacedStep → Steps → Step → List Weight
weights_of now before at following (Step.Sound s) =
    grace_weights (since_event before) ++ weight_at (sound_count now before s following) at ∷ []
weights_of now before at following (Step.Measures seen count) =
    grace_weights (since_event before) ++ weight_at count at ∷ []
weights_of now before at following _ = []

-- each step of a voice in turn, with the steps before it, the nearest first, and the steps after it
abbrev pub weights_in : InForce → Steps → Steps → List Weight
weights_in first before [] = []
weights_in first before (at ∷ following) =
    weights_of (state_at first before) before at following at.step ++ weights_in first (at ∷ before) following

-- whether one weight comes before the other in the text, whatever their voices
unfoldable pub stands_before : Weight → Weight → Bool
stands_before v w = is_below_or_tied v.line w.line (nat_lt v.column w.column)

-- in the order of the text: no weight comes before one that is listed earlier
abbrev pub IsAfter : Weight → Weight → Type 0
IsAfter w v = stands_before v w ≡ false

abbrev pub AreInOrder : List Weight → Type 0
AreInOrder [] = ⊤
AreInOrder (w ∷ ws) = AllByRecursion (IsAfter w) ws × AreInOrder ws

-- the count at places up to that of a weight, including the weight itself
abbrev pub count_up_to : Weight → Weight → ℕ
count_up_to w v = if stands_before w v then 0 else v.count

abbrev pub crowd_up_to : List Weight → Weight → ℕ
crowd_up_to weights w = sum_by (count_up_to w) weights

-- a tune has at most 50,000 heads and rests
abbrev pub crowd_fault : Weight → Fault
crowd_fault w = record { kind = FaultKind.TooManyEvents; line = w.line; column = w.column }

abbrev pub crowd_faults_at : List Weight → Weight → List Fault
crowd_faults_at weights w = if nat_lt head_limit (crowd_up_to weights w) then crowd_fault w ∷ [] else []

abbrev pub crowded : List Weight → List Fault
crowded weights = flat_map (crowd_faults_at weights) weights

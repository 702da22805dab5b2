-- The clef, key, meter and unit in force at a place: those of the last field before it that names them, or else those
-- with which the voice begins.
use Rattle.std.specs.Prelude.{ℕ, ◌*◌, ◌/◌, List, [], ◌∷◌, Bool, true, false, if◌then◌else◌, Option, Some, None, is_some}
use Rattle.std.specs.Prelude.{unwrap_or}
use Rattle.std.specs.List.{list_any}
use Rattle.mus_units.specs.Value.{whole_note}
use Rattle.mus_units.specs.declared.key.Sign.{Sign}
use Rattle.mus_units.specs.declared.key.Meter.{Meter}
use Rattle.mus_score.specs.declared.score.Changes.{Changes}
use Rattle.abc_field.specs.Keys.{key_over}
use Rattle.abc_steps.specs.{declared.step.Step.Step, declared.force.InForce.InForce, Looks.Steps}

-- what is in force after a step
unfoldable pub force_after : Step → InForce → InForce
force_after (Step.Clef clef) now = record now { clef = clef }
force_after (Step.Key text) now =
    record now { clef = unwrap_or text.clef now.clef; key = record { signs = key_over now.key.signs text } }
force_after (Step.Meter meter) now = record now { meter = meter }
force_after (Step.Unit unit) now = record now { unit = unit }
force_after _ now = now

abbrev pub force_at : InForce → Steps → InForce
force_at first [] = first
force_at first (s ∷ before) = force_after s.step (force_at first before)

-- A text with accidentals or a whole key names a key; one with only a clef does not.
abbrev pub has_sign : List Sign → Bool
has_sign [] = false
has_sign (s ∷ ss) = true

unfoldable pub names_key : Step → Bool
names_key (Step.Key text) = if is_some text.key then true else has_sign text.adds
names_key _ = false

unfoldable pub names_clef : Step → Bool
names_clef (Step.Clef clef) = true
names_clef (Step.Key text) = is_some text.clef
names_clef _ = false

unfoldable pub names_meter : Step → Bool
names_meter (Step.Meter meter) = true
names_meter _ = false

abbrev pub some_if : {A : Type 0} → Bool → A → Option A
some_if true x = Some x
some_if false x = None

-- An event has a change exactly when a field that names it is pending for the event; the last such field counts.
unfoldable pub changes_at : InForce → Steps → Changes
changes_at now waits = record {
  clef = some_if (list_any (λ s. names_clef s.step) waits) now.clef;
  key = some_if (list_any (λ s. names_key s.step) waits) now.key;
  meter = some_if (list_any (λ s. names_meter s.step) waits) now.meter;
}

-- the ticks of a measure; free meter has none
abbrev pub meter_ticks : Meter → Option ℕ
meter_ticks Meter.Free = None
meter_ticks Meter.Common = Some whole_note
meter_ticks Meter.Cut = Some whole_note
meter_ticks (Meter.Ratio num den) = Some (num * whole_note / den)

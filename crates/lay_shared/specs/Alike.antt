-- Voices that can share a staff: they begin with the same clef, key and meter and have the same changes at the same
-- places.
use Rattle.std.specs.Prelude.{◌≡◌, ⊤, ℕ, ◌+◌, List, [], ◌∷◌, ◌++◌, Bool, ◌||◌, if◌then◌else◌, Option, is_some}
use Rattle.std.specs.Prelude.{slice_get}
use Rattle.std.specs.List.{AllByRecursion}
use Rattle.std.specs.Option.{option_map}
use Rattle.mus_score.specs.declared.score.Changes.{Changes}
use Rattle.mus_score.specs.declared.score.Flat.{Flat}
use Rattle.mus_score.specs.declared.score.Measure.{Measure}
use Rattle.mus_score.specs.declared.score.Score.{Score}
use Rattle.mus_score.specs.declared.score.Voice.{Voice}
use Rattle.mus_score.specs.Times.{flats_of}
use Rattle.lay_shared.specs.declared.plan.Plan.{Plan}
use Rattle.lay_shared.specs.declared.plan.PlannedStaff.{PlannedStaff}
use Rattle.lay_shared.specs.declared.changes.TimedChange.{TimedChange}
use Rattle.lay_shared.specs.declared.changes.VoiceChanges.{VoiceChanges}

abbrev pub has_change : Changes → Bool
has_change changes = is_some changes.clef || is_some changes.key || is_some changes.meter

-- the changes of events that follow that many ticks of their measure
abbrev pub event_changes : ℕ → ℕ → List Flat → List TimedChange
event_changes measure tick [] = []
event_changes measure tick (f ∷ fs) =
    (if has_change f.event.changes then record { measure = measure; tick = tick; changes = f.event.changes } ∷ []
    else [])
    ++ event_changes measure (tick + f.duration) fs

-- the changes of measures, the first of which has this number
abbrev pub changes_from : ℕ → List Measure → List TimedChange
changes_from k [] = []
changes_from k (m ∷ ms) = event_changes k 0 (flats_of m.body) ++ changes_from (k + 1) ms

abbrev pub story_of : Voice → VoiceChanges
story_of v = record { clef = v.clef; key = v.key; meter = v.meter; changes = changes_from 0 v.measures }

abbrev pub story_at : List Voice → ℕ → Option VoiceChanges
story_at voices place = option_map story_of (slice_get voices place)

-- no two of the voices differ: each is like the first
abbrev pub HaveSameChanges : List Voice → List ℕ → Type 0
HaveSameChanges voices [] = ⊤
HaveSameChanges voices (v ∷ vs) = AllByRecursion (λ w. story_at voices v ≡ story_at voices w) vs

-- no two voices of one staff differ
abbrev pub DoShare : Score → Plan → Type 0
DoShare s plan = AllByRecursion (λ (staff : PlannedStaff). HaveSameChanges s.voices staff.voices) plan.staves

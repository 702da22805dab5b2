-- The statements that the parts of the proof share: what ink says, and drawn measures that come from the score's.
use Rattle.std.specs.Prelude.{⊤, ◌≡◌, ℕ, suc, ◌+◌, ◌≤◌, ◌<◌, ℤ, false, List, [], ◌∷◌, map, flat_map, Option, Some, None}
use Rattle.std.specs.List.{All, AllByRecursion, Contains}
use Rattle.mus_units.specs.declared.note.Head.{Head}
use Rattle.mus_score.specs.declared.score.Flat.{Flat}
use Rattle.mus_score.specs.declared.score.Measure.{Measure}
use Rattle.mus_score.specs.GoodScore.{IsInReach, clef_at}
use Rattle.mus_score.specs.Seats.{is_lower}
use Rattle.mus_score.specs.Times.{flats_of}
use Rattle.mus_onsets.specs.declared.keys.ColumnKey.{ColumnKey}
use Rattle.mus_laid.specs.declared.drawn.LaneInk.{LaneInk}
use Rattle.mus_laid.specs.declared.drawn.Ink.{Ink}
use Rattle.mus_time.specs.Columns.{note_key}
use Rattle.mus_drawn.specs.declared.drawn.DrawnEvent.{DrawnEvent}
use Rattle.mus_drawn.specs.declared.drawn.DrawnMeasure.{DrawnMeasure}
use Rattle.mus_drawn.specs.declared.standing.StaffState.{StaffState}
use Rattle.mus_drawn.specs.Drawn.{old_signs, standing_after, staff_state_after}
use Rattle.ps_heard.specs.declared.column.HeardGlyph.{HeardGlyph}
use Rattle.ps_heard.specs.Columns.{noted}
use Rattle.ps_heard.specs.Roles.{role_of}
use Rattle.law_voice_sound.specs.Columns.{state_shown}

-- what ink says, wherever it is
abbrev pub ink_notes : Ink → List HeardGlyph
ink_notes (Ink.Glyph glyph dx dy) = noted (role_of glyph dy) dy
ink_notes _ = []

abbrev pub drawn_notes : List LaneInk → List HeardGlyph
drawn_notes ds = flat_map (λ d. ink_notes d.ink) ds

-- each written sign has a place, and each head a shift
abbrev pub AreSigned : List Head → List (Option ℤ) → Type 0
AreSigned [] dxs = ⊤
AreSigned (h ∷ hs) [] = ⊥
AreSigned (h ∷ hs) (None ∷ dxs) = (h.sign ≡ None) × AreSigned hs dxs
AreSigned (h ∷ hs) (Some dx ∷ dxs) = AreSigned hs dxs

abbrev pub AreShifted : List Head → List ℤ → Type 0
AreShifted [] dxs = ⊤
AreShifted (h ∷ hs) [] = ⊥
AreShifted (h ∷ hs) (dx ∷ dxs) = AreShifted hs dxs

-- an event drawn alone on its staff, after what is in force
pub record IsDrawn (now : StaffState) (e : DrawnEvent) : Type 0 where
  pub first : is_lower e.seat ≡ false
  pub clef : e.clef ≡ clef_at now.clef e.flat.event
  pub old : e.old ≡ old_signs now.key e.flat.event.changes.key
  pub signs : AreSigned e.flat.event.heads e.plan.signs
  pub shifts : AreShifted e.flat.event.heads e.plan.shifts
  pub graces : All (λ g. All (IsInReach e.clef) g.heads) e.flat.graces

abbrev pub EventsDrawn : StaffState → List DrawnEvent → Type 0
EventsDrawn now [] = ⊤
EventsDrawn now (e ∷ es) = IsDrawn now e × EventsDrawn (standing_after now e.flat.event.changes) es

-- drawn events, as the score has them
abbrev pub flats_in : List DrawnEvent → List Flat
flats_in es = map (λ e. e.flat) es

module _ (keys : List ColumnKey) (a b : ℕ) where
  -- an event of measure m has at least this id and tick, a column in the system of measures a to b - 1, if it is
  -- there, and heads in reach
  pub record IsSeated (m least low : ℕ) (e : DrawnEvent) : Type 0 where
    pub id : least ≤ e.flat.event.id
    pub tick : low ≤ e.tick
    pub column : a ≤ m → m < b → Contains keys (note_key m e)
    pub heads : AllByRecursion (IsInReach e.clef) e.flat.event.heads

  -- those of a measure, whose ids and ticks rise
  abbrev pub AreSeated : ℕ → ℕ → ℕ → List DrawnEvent → Type 0
  AreSeated m id tick [] = ⊤
  AreSeated m id tick (e ∷ es) = IsSeated m id tick e × AreSeated m (suc e.flat.event.id) (suc e.tick) es

  pub record IsMeasureOf (m : ℕ) (now : StaffState) (x : Measure) (d : DrawnMeasure) : Type 0 where
    pub first : is_lower d.seat ≡ false
    pub bar : d.bar ≡ x.bar
    pub flats : flats_in d.events ≡ flats_of x.body
    pub clef : d.opening.clef ≡ (state_shown now (flats_of x.body)).clef
    pub key : d.opening.key ≡ (state_shown now (flats_of x.body)).key
    pub events : EventsDrawn now d.events
    pub seats : AreSeated m 0 0 d.events

  -- from number m on
  abbrev pub MeasuresDrawn : ℕ → StaffState → List Measure → List DrawnMeasure → Type 0
  MeasuresDrawn m now [] [] = ⊤
  MeasuresDrawn m now (x ∷ xs) (d ∷ ds) =
      IsMeasureOf m now x d × MeasuresDrawn (m + 1) (staff_state_after now (flats_of x.body)) xs ds
  MeasuresDrawn m now _ _ = ⊥

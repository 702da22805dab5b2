-- The score drawn by a plan: the voices that it names, in order, each with its seat and the gap above its staff.
use Rattle.std.specs.Prelude.{ℕ, List, [], ◌∷◌, Bool, false, map, flat_map, slice_get, if◌then◌else◌}
use Rattle.std.specs.Option.{option_to_list}
use Rattle.mus_units.specs.declared.note.Bar.{Bar}
use Rattle.mus_score.specs.declared.score.Score.{Score}
use Rattle.mus_score.specs.declared.score.Seat.{Seat}
use Rattle.mus_score.specs.declared.score.Voice.{Voice}
use Rattle.mus_score.specs.Seats.{usual_gap, wide_gap}
use Rattle.lay_shared.specs.declared.{drawing.SeatedVoice.SeatedVoice, plan.Plan.Plan, plan.PlannedStaff.PlannedStaff}

abbrev pub sit : ℕ → Seat → Bool → SeatedVoice
sit place seat leads = record { place = place; seat = seat; leads = leads }

abbrev pub lower : Bool → ℕ → SeatedVoice
lower leads place = sit place Seat.Lower leads

-- the first voice of a staff is upper if the staff has others
abbrev pub leading : List ℕ → Seat
leading [] = Seat.Alone
leading (v ∷ vs) = Seat.Upper

abbrev pub staff_gap : Bool → ℕ
staff_gap leads = if leads then wide_gap else usual_gap

abbrev pub staff_sits : Bool → List ℕ → List SeatedVoice
staff_sits leads [] = []
staff_sits leads (v ∷ vs) = sit v (leading vs) leads ∷ map (lower leads) vs

abbrev pub sits_of : List PlannedStaff → List SeatedVoice
sits_of staves = flat_map (λ staff. staff_sits staff.leads staff.voices) staves

abbrev pub no_feature : Bar
no_feature =
    record { end = false; start = false; last = false; initial = false; double = false; dotted = false; unseen = false }

-- the first bar of a staff is drawn only for its first voice
abbrev pub first_bar : Seat → Bar → Bar
first_bar Seat.Lower bar = no_feature
first_bar _ bar = bar

abbrev pub seated : SeatedVoice → Voice → Voice
seated at v = record v { seat = at.seat; gap = staff_gap at.leads; first = first_bar at.seat v.first }

-- the voice at an index, with its seat
abbrev pub seated_voice : List Voice → SeatedVoice → List Voice
seated_voice voices at = map (seated at) (option_to_list (slice_get voices at.place))

abbrev pub drawn_of : Score → Plan → Score
drawn_of s plan = record s { voices = flat_map (seated_voice s.voices) (sits_of plan.staves) }

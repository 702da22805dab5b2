-- Sloped beams: in a beam the stems end on a line over the abscissas of their events. The line climbs by the last
-- event's own end less the first one's, at most `steepest`, and is as far out as the own ends of its events require.
use Rattle.std.specs.Prelude.{◌≡◌, ℤ, pos, ◌^◌, ◌+ℤ◌, ◌-ℤ◌, ◌*ℤ◌, ◌≤ℤ◌, ◌<ℤ◌, Bool, true, ◌==◌, ⊤, List, []}
use Rattle.std.specs.Prelude.{◌∷◌}
use Rattle.std.specs.Int.{int_min, int_max, int_div_euclid}
use Rattle.std.specs.List.{flat_map, AllByRecursion}
use Rattle.mus_stems.specs.declared.plans.StemPlan.{StemPlan}
use Rattle.mus_stems.specs.declared.slopes.SlopeInput.{SlopeInput}
use Rattle.mus_stems.specs.declared.slopes.BeamLine.{BeamLine}
use Rattle.mus_stems.specs.Distances.{steepest, steepest_down, least_end, greatest_end, least_base, greatest_base}
use Rattle.mus_stems.specs.Ends.{further_end}
use Rattle.mus_stems.specs.Runs.{runs}

-- what a slope needs of a plan, and the abscissa of its event
unfoldable pub slope_input : StemPlan → ℤ → SlopeInput
slope_input p x = record { up = p.up; own = p.own; group = p.group; x = x }

abbrev pub slope_inputs : List StemPlan → List ℤ → List SlopeInput
slope_inputs [] xs = []
slope_inputs (p ∷ ps) [] = []
slope_inputs (p ∷ ps) (x ∷ xs) = slope_input p x ∷ slope_inputs ps xs

-- events whose beam begins at one event are in one beam
unfoldable pub shares_beam : SlopeInput → SlopeInput → Bool
shares_beam a b = a.group == b.group

abbrev pub last_input : SlopeInput → List SlopeInput → SlopeInput
last_input a [] = a
last_input a (b ∷ bs) = last_input b bs

-- the line of a beam: from its first event to its last, climbing by the last own end less the first, clamped to
-- `steepest_down` to `steepest`
unfoldable pub slope_line : SlopeInput → SlopeInput → BeamLine
slope_line a b = record { first = a.x; last = b.x; climb = int_max (int_min (b.own -ℤ a.own) steepest) steepest_down }

-- how far a line has risen at an abscissa, rounded down
unfoldable pub rise_at : BeamLine → ℤ → ℤ
rise_at line x = int_div_euclid (line.climb *ℤ (x -ℤ line.first)) (line.last -ℤ line.first)

-- the base of a beam: for stems up the greatest own end less rise over its events, for stems down the least
abbrev pub base_along : Bool → BeamLine → ℤ → List SlopeInput → ℤ
base_along up line z [] = z
base_along up line z (a ∷ es) = base_along up line (further_end up z (a.own -ℤ rise_at line a.x)) es

-- an event's end is the base plus its rise
abbrev pub ends_along : BeamLine → ℤ → List SlopeInput → List ℤ
ends_along line base [] = []
ends_along line base (a ∷ es) = (base +ℤ rise_at line a.x) ∷ ends_along line base es

abbrev pub line_ends : BeamLine → SlopeInput → List SlopeInput → List ℤ
line_ends line a es = ends_along line (base_along a.up line (a.own -ℤ rise_at line a.x) es) (a ∷ es)

-- the ends of a beam; an event alone keeps its own end
abbrev pub beam_ends : List SlopeInput → List ℤ
beam_ends [] = []
beam_ends (a ∷ []) = a.own ∷ []
beam_ends (a ∷ b ∷ bs) = line_ends (slope_line a (last_input b bs)) a (b ∷ bs)

abbrev pub sloped_ends : List SlopeInput → List ℤ
sloped_ends es = flat_map beam_ends (runs shares_beam es)

-- a plan whose stem ends elsewhere
abbrev pub with_end : StemPlan → ℤ → StemPlan
with_end p to = record p { to = to }

abbrev pub with_ends : List StemPlan → List ℤ → List StemPlan
with_ends [] zs = []
with_ends (p ∷ ps) [] = []
with_ends (p ∷ ps) (z ∷ zs) = with_end p z ∷ with_ends ps zs

-- the plans with each end on its beam's line, over the abscissas of their events
unfoldable pub sloped : List StemPlan → List ℤ → List StemPlan
sloped ps xs = with_ends ps (sloped_ends (slope_inputs ps xs))

-- an abscissa is 0 to 2^40
abbrev pub IsAbscissa : ℤ → Type 0
IsAbscissa x = (pos 0 ≤ℤ x) × (x ≤ℤ pos (2 ^ 40))

abbrev pub ArePlaces : List ℤ → Type 0
ArePlaces xs = AllByRecursion IsAbscissa xs

-- within a beam the abscissas rise from event to event
abbrev pub RisesAfter : SlopeInput → List SlopeInput → Type 0
RisesAfter a [] = ⊤
RisesAfter a (b ∷ bs) = (shares_beam a b ≡ true → a.x <ℤ b.x) × RisesAfter b bs

abbrev pub RisesInBeams : List SlopeInput → Type 0
RisesInBeams [] = ⊤
RisesInBeams (a ∷ es) = RisesAfter a es

-- an event with its own end and its abscissa in range
abbrev pub IsAnchor : SlopeInput → Type 0
IsAnchor a = (least_end ≤ℤ a.own) × (a.own ≤ℤ greatest_end) × IsAbscissa a.x

abbrev pub AreAnchors : List SlopeInput → Type 0
AreAnchors es = AllByRecursion IsAnchor es

-- a line that goes to the right and climbs by at most `steepest`
pub record IsLine (line : BeamLine) : Type 0 where
  pub first : pos 0 ≤ℤ line.first
  pub rising : line.first <ℤ line.last
  pub last : line.last ≤ℤ pos (2 ^ 40)
  pub low : steepest_down ≤ℤ line.climb
  pub high : line.climb ≤ℤ steepest

-- an event within the extent of a line
pub record IsOver (line : BeamLine) (a : SlopeInput) : Type 0 where
  pub own_low : least_end ≤ℤ a.own
  pub own_high : a.own ≤ℤ greatest_end
  pub after : line.first ≤ℤ a.x
  pub before : a.x ≤ℤ line.last

abbrev pub AreOver : BeamLine → List SlopeInput → Type 0
AreOver line es = AllByRecursion (IsOver line) es

-- abscissas rise from event to event
abbrev pub RiseFrom : SlopeInput → List SlopeInput → Type 0
RiseFrom a [] = ⊤
RiseFrom a (b ∷ bs) = (a.x <ℤ b.x) × RiseFrom b bs

abbrev pub Rise : List SlopeInput → Type 0
Rise [] = ⊤
Rise (a ∷ es) = RiseFrom a es

-- a base of a beam in range
abbrev pub IsBeamBase : ℤ → Type 0
IsBeamBase z = (least_base ≤ℤ z) × (z ≤ℤ greatest_base)

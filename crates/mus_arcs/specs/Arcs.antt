-- The arcs of a voice: slurs from a start to the end that takes it, and ties to the very next event.
use Rattle.std.specs.Prelude.{◌≡◌, ◌<◌, ◌≤◌, ℕ, zero, suc, List, [], ◌∷◌, ◌++◌, Bool, true, false, ◌&&◌, ◌==◌, not}
use Rattle.std.specs.Prelude.{if◌then◌else◌, filter, reverse, drop, IsTrue, IsPermutation, MatchBool}
use Rattle.std.specs.List.{All, list_any}
use Rattle.std.specs.Ordering.{int_eq}
use Rattle.mus_units.specs.declared.note.Head.{Head}
use Rattle.mus_units.specs.declared.pitch.Pitch.{Pitch}
use Rattle.mus_units.specs.Good.{same_letter}
use Rattle.mus_arcs.specs.declared.events.ArcEvent.{ArcEvent}
use Rattle.mus_arcs.specs.declared.pairing.Arc.{Arc}
use Rattle.mus_arcs.specs.declared.pairing.SlurEnd.{SlurEnd}

abbrev pub spot : ArcEvent → SlurEnd
spot e = record { event = e.event; measure = e.measure }

abbrev pub slur_copies : ℕ → SlurEnd → List SlurEnd
slur_copies zero at = []
slur_copies (suc n) at = at ∷ slur_copies n at

-- a start and the end that takes it; on one event they are no arc
abbrev pub slur : SlurEnd → SlurEnd → List Arc
slur start end =
    if start.event == end.event then []
    else record { tie = false; first = start.event; last = end.event; head = 0; from = start.measure; to = end.measure }
    ∷ []

-- starts and ends paired in order, until one of the lists is used up
abbrev pub slurs : List SlurEnd → List SlurEnd → List Arc
slurs [] ends = []
slurs (start ∷ starts) [] = []
slurs (start ∷ starts) (end ∷ ends) = slur start end ++ slurs starts ends

-- Slurs by the rule: in the order of events, at one event the starts first, each end takes the last start that is not
-- taken. `starts` are the starts that are not taken before these events, the last first.
abbrev pub slurs_by_ends : List SlurEnd → List ArcEvent → List Arc
slurs_by_ends starts [] = []
slurs_by_ends starts (e ∷ events) =
    let unpaired = slur_copies e.begins (spot e) ++ starts in
    slurs unpaired (slur_copies e.ends (spot e)) ++ slurs_by_ends (drop e.ends unpaired) events

abbrev pub has_pitch : Pitch → Head → Bool
has_pitch p head = same_letter head.pitch.letter p.letter && int_eq head.pitch.octave p.octave

-- a tie goes from a tied head, at this place in its event, to the next event if that has a head of its pitch
abbrev pub tie : ArcEvent → ℕ → Head → ArcEvent → List Arc
tie e place head next =
    if head.tied && list_any (has_pitch head.pitch) next.heads
    then record { tie = true; first = e.event; last = next.event; head = place; from = e.measure; to = next.measure }
    ∷ []
    else []

-- the ties of heads; the first head has this place
abbrev pub ties_from : ArcEvent → ℕ → List Head → ArcEvent → List Arc
ties_from e place [] next = []
ties_from e place (head ∷ heads) next = tie e place head next ++ ties_from e (suc place) heads next

abbrev pub ties_at : ArcEvent → List ArcEvent → List Arc
ties_at e [] = []
ties_at e (next ∷ events) = ties_from e 0 e.heads next

abbrev pub ties_of : List ArcEvent → List Arc
ties_of [] = []
ties_of (e ∷ events) = ties_at e events ++ ties_of events

-- of two arcs that begin at one event, a slur comes before a tie, a slur that ends later before one that ends
-- earlier, and a tie of an earlier head before one of a later head
abbrev pub ComesFirst : Arc → Arc → Type 0
ComesFirst a b = MatchBool a.tie (IsTrue b.tie × (a.head < b.head)) (MatchBool b.tie (Unit {0}) (b.last ≤ a.last))

pub data ComesBefore (a b : Arc) : Type 0 where
  earlier : a.first < b.first → ComesBefore a b
  at_one : a.first ≡ b.first → ComesFirst a b → ComesBefore a b

abbrev pub AreOrdered : List Arc → Type 0
AreOrdered [] = Unit {0}
AreOrdered (a ∷ arcs) = All (ComesBefore a) arcs × AreOrdered arcs

-- The arcs of events: the slurs by the rule, the ties, and all of them in the order in which they are drawn.
pub record AreArcsOf (events : List ArcEvent) (arcs : List Arc) : Type 0 where
  pub slurs_are : IsPermutation (slurs_by_ends [] events) (filter (λ a. not a.tie) arcs)
  pub ties_are : filter (λ a. a.tie) arcs ≡ ties_of events
  pub in_order : AreOrdered arcs

-- ---- one list of arcs, found from the last event back; it links the definition to the code

-- the ends that no start at these events or between takes, the first end first
abbrev pub open_ends : List ArcEvent → List SlurEnd
open_ends [] = []
open_ends (e ∷ events) = drop e.begins (slur_copies e.ends (spot e) ++ open_ends events)

-- the slurs that begin at an event before these, the outer first: its last start takes the first end
abbrev pub slurs_at : ArcEvent → List ArcEvent → List Arc
slurs_at e events = reverse (slurs (slur_copies e.begins (spot e)) (slur_copies e.ends (spot e) ++ open_ends events))

abbrev pub arcs_of : List ArcEvent → List Arc
arcs_of [] = []
arcs_of (e ∷ events) = slurs_at e events ++ ties_at e events ++ arcs_of events

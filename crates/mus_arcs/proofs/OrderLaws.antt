-- The arcs that are found from the last event back are in order if the ids of the events rise.
use Rattle.std.proofs.Common.{◌≡◌, ◌<◌, ◌≤◌, ℕ, zero, suc, List, [], ◌∷◌, ◌++◌, map, true, false, ◌==◌, ◌&&◌, drop}
use Rattle.std.proofs.Common.{get_or, reverse, sym, ◌∙◌, subst, arith}
use Rattle.std.proofs.lemmas.List.{reverse-append}
use Rattle.std.proofs.lemmas.List.Elements.{All-nil, All-cons, All-head, All-tail, All-append, All-drop, All-weaker}
use Rattle.std.proofs.lemmas.List.Sorted.{All-permutation, IsPermutation-reverse}
use Rattle.std.proofs.lemmas.List.Concat.{flat_map-cons}
use Rattle.std.specs.Prelude.{if◌then◌else◌}
use Rattle.std.specs.List.{All, list_any}
use Rattle.mus_units.specs.declared.note.Head.{Head}
use Rattle.mus_score.specs.declared.score.Flat.{Flat}
use Rattle.mus_score.specs.declared.score.Measure.{Measure}
use Rattle.mus_score.specs.declared.score.Voice.{Voice}
use Rattle.mus_score.specs.GoodScore.{AreCounted, IsGoodVoice, events_of}
use Rattle.mus_score.specs.Times.{flats_of}
use Rattle.mus_arcs.specs.declared.events.ArcEvent.{ArcEvent}
use Rattle.mus_arcs.specs.declared.pairing.Arc.{Arc}
use Rattle.mus_arcs.specs.declared.pairing.SlurEnd.{SlurEnd}
use Rattle.mus_arcs.specs.Arcs.{AreOrdered, ComesBefore, ComesFirst, arcs_of, at_one, slur_copies, earlier, has_pitch}
use Rattle.mus_arcs.specs.Arcs.{open_ends, slur, slurs, slurs_at, spot, tie, ties_at, ties_from}
use Rattle.mus_arcs.specs.Events.{at_measure, events_from, events_of_voice}
use Rattle.mus_arcs.proofs.RuleLaws.{IsSlurFrom, IsTieAfter, IsTieFrom, slurs-are, slurs_at-are, tie-is, ties-are}
use Rattle.mus_arcs.proofs.RuleLaws.{ties_at-are}

all_across : (P Q : Arc → Type 0) (R : Arc → Arc → Type 0) (xs ys : List Arc)
    → ((x y : Arc) → P x → Q y → R x y) → All P xs → All Q ys → All (λ x. All (R x) ys) xs
all_across P Q R xs ys on p q =
    All-weaker P (λ x. All (R x) ys) (λ x px. All-weaker Q (R x) (λ y qy. on x y px qy) ys q) xs p

all_both : (P Q R : Arc → Type 0) (xs : List Arc) → ((x : Arc) → P x → Q x → R x) → All P xs → All Q xs → All R xs
all_both P Q R xs on p q = λ k d lt. on (get_or xs k d) (p k d lt) (q k d lt)

in_order-append : (xs ys : List Arc)
    → AreOrdered xs → AreOrdered ys → All (λ x. All (ComesBefore x) ys) xs → AreOrdered (xs ++ ys)
in_order-append [] ys x y across = y
in_order-append (a ∷ xs) ys x y across = (
  All-append (ComesBefore a) xs ys x.0 (All-head (λ z. All (ComesBefore z) ys) a xs across),
  in_order-append xs ys x.1 y (All-tail (λ z. All (ComesBefore z) ys) a xs across),
)

-- ---- the ids of events
AreRising : List ArcEvent → Type 0
AreRising [] = Unit {0}
AreRising (e ∷ events) = All (λ other. e.event < other.event) events × AreRising events

-- ids count from n on
AreNumbered : ℕ → List ArcEvent → Type 0
AreNumbered n [] = Unit {0}
AreNumbered n (e ∷ events) = (e.event ≡ n) × AreNumbered (suc n) events

numbered-from : (n : ℕ) (events : List ArcEvent) → AreNumbered n events → All (λ e. n ≤ e.event) events
unfolding AreNumbered
numbered-from n [] h = All-nil (λ e. n ≤ e.event)
numbered-from n (e ∷ events) h =
    All-cons (λ x. n ≤ x.event) e events (omega (arith, h.0))
    (All-weaker (λ x. suc n ≤ x.event) (λ x. n ≤ x.event) (λ x le. omega arith) events
    (numbered-from (suc n) events h.1))

numbered-rising : (n : ℕ) (events : List ArcEvent) → AreNumbered n events → AreRising events
unfolding AreNumbered AreRising
numbered-rising n [] h = tt
numbered-rising n (e ∷ events) h = (
  All-weaker (λ x. suc n ≤ x.event) (λ x. e.event < x.event) (λ x le. omega (arith, h.0)) events
      (numbered-from (suc n) events h.1),
  numbered-rising (suc n) events h.1,
)

body-numbered : (number n : ℕ) (flats more : List Flat) (events : List ArcEvent)
    → ((m : ℕ) → AreCounted m more → AreNumbered m events) → AreCounted n (flats ++ more)
    → AreNumbered n (map (at_measure number) (map (λ f. f.event) flats) ++ events)
unfolding AreNumbered
body-numbered number n [] more events on h = on n h
body-numbered number n (f ∷ flats) more events on h = (h.0, body-numbered number (suc n) flats more events on h.1)

measures-numbered : (number : ℕ) (measures : List Measure) (n : ℕ)
    → AreCounted n (events_of measures) → AreNumbered n (events_from number measures)
unfolding AreNumbered
measures-numbered number [] n h = tt
measures-numbered number (m ∷ ms) n h =
    body-numbered number n (flats_of m.body) (events_of ms) (events_from (suc number) ms)
    (measures-numbered (suc number) ms)
    (subst (AreCounted n) (flat_map-cons (λ x. flats_of x.body) m ms) h)

-- ---- ends in the order of their events
NotFalling : List SlurEnd → Type 0
NotFalling [] = Unit {0}
NotFalling (end ∷ ends) = All (λ other. end.event ≤ other.event) ends × NotFalling ends

copies-all : (P : SlurEnd → Type 0) (n : ℕ) (at : SlurEnd) → P at → All P (slur_copies n at)
copies-all P zero at p = All-nil P
copies-all P (suc n) at p = All-cons P at (slur_copies n at) p (copies-all P n at p)

copies-not_falling : (n : ℕ) (at : SlurEnd) (ends : List SlurEnd)
    → All (λ other. at.event ≤ other.event) ends → NotFalling ends → NotFalling (slur_copies n at ++ ends)
unfolding NotFalling
copies-not_falling zero at ends following h = h
copies-not_falling (suc n) at ends following h = (
  All-append (λ other. at.event ≤ other.event) (slur_copies n at) ends
      (copies-all (λ other. at.event ≤ other.event) n at (omega arith)) following,
  copies-not_falling n at ends following h,
)

drop-not_falling : (n : ℕ) (ends : List SlurEnd) → NotFalling ends → NotFalling (drop n ends)
unfolding NotFalling
drop-not_falling zero ends h = h
drop-not_falling (suc n) [] h = tt
drop-not_falling (suc n) (end ∷ ends) h = drop-not_falling n ends h.1

open_ends-following : (event : ℕ) (events : List ArcEvent)
    → All (λ e. event < e.event) events → All (λ end. event < end.event) (open_ends events)
open_ends-following event [] h = All-nil (λ end. event < end.event)
open_ends-following event (e ∷ events) h =
    All-drop (λ end. event < end.event) e.begins (slur_copies e.ends (spot e) ++ open_ends events)
    (All-append (λ end. event < end.event) (slur_copies e.ends (spot e)) (open_ends events)
    (copies-all (λ end. event < end.event) e.ends (spot e) (All-head (λ x. event < x.event) e events h))
    (open_ends-following event events (All-tail (λ x. event < x.event) e events h)))

ends-not_falling : (e : ArcEvent) (events : List ArcEvent)
    → All (λ other. e.event < other.event) events → NotFalling (open_ends events)
    → NotFalling (slur_copies e.ends (spot e) ++ open_ends events)
ends-not_falling e events following h =
    copies-not_falling e.ends (spot e) (open_ends events)
    (All-weaker (λ end. e.event < end.event) (λ end. e.event ≤ end.event) (λ end lt. omega arith) (open_ends events)
    (open_ends-following e.event events following))
    h

open_ends-not_falling : (events : List ArcEvent) → AreRising events → NotFalling (open_ends events)
unfolding AreRising NotFalling
open_ends-not_falling [] rising = tt
open_ends-not_falling (e ∷ events) rising =
    drop-not_falling e.begins (slur_copies e.ends (spot e) ++ open_ends events)
    (ends-not_falling e events rising.0 (open_ends-not_falling events rising.1))

-- ---- slurs from one event, the inner first
Widens : List Arc → Type 0
Widens [] = Unit {0}
Widens (a ∷ arcs) = All (λ other. a.last ≤ other.last) arcs × Widens arcs

slur-last : (k : ℕ) (start end : SlurEnd) → k ≤ end.event → All (λ a. k ≤ a.last) (slur start end)
slur-last k start end le =
    let arc : Arc =
    record { tie = false; first = start.event; last = end.event; head = 0; from = start.measure; to = end.measure } in
    elim (start.event == end.event) as (λ b. All (λ a. k ≤ a.last) (if b then [] else arc ∷ [])) [
      | true ↦ All-nil (λ a. k ≤ a.last)
      | false ↦ All-cons (λ a. k ≤ a.last) arc [] le (All-nil (λ a. k ≤ a.last))
    ]

slurs-last : (k n : ℕ) (at : SlurEnd) (ends : List SlurEnd)
    → All (λ end. k ≤ end.event) ends → All (λ a. k ≤ a.last) (slurs (slur_copies n at) ends)
slurs-last k zero at ends h = All-nil (λ a. k ≤ a.last)
slurs-last k (suc n) at [] h = All-nil (λ a. k ≤ a.last)
slurs-last k (suc n) at (end ∷ ends) h =
    All-append (λ a. k ≤ a.last) (slur at end) (slurs (slur_copies n at) ends)
    (slur-last k at end (All-head (λ x. k ≤ x.event) end ends h))
    (slurs-last k n at ends (All-tail (λ x. k ≤ x.event) end ends h))

slur-widens : (start end : SlurEnd) (arcs : List Arc)
    → All (λ a. end.event ≤ a.last) arcs → Widens arcs → Widens (slur start end ++ arcs)
unfolding Widens
slur-widens start end arcs following h =
    let arc : Arc =
    record { tie = false; first = start.event; last = end.event; head = 0; from = start.measure; to = end.measure } in
    elim (start.event == end.event) as (λ b. Widens ((if b then [] else arc ∷ []) ++ arcs)) [
      | true ↦ h
      | false ↦ (following, h)
    ]

slurs-widen : (n : ℕ) (at : SlurEnd) (ends : List SlurEnd) → NotFalling ends → Widens (slurs (slur_copies n at) ends)
unfolding NotFalling Widens
slurs-widen zero at ends h = tt
slurs-widen (suc n) at [] h = tt
slurs-widen (suc n) at (end ∷ ends) h =
    slur-widens at end (slurs (slur_copies n at) ends) (slurs-last end.event n at ends h.0) (slurs-widen n at ends h.1)

slur_first : (a b : Arc) → a.tie ≡ false → b.tie ≡ false → b.last ≤ a.last → ComesFirst a b
slur_first a b slur_a slur_b le = rw (slur_a, slur_b) le

tie_second : (a b : Arc) → a.tie ≡ false → b.tie ≡ true → ComesFirst a b
tie_second a b slur_a tie_b = rw (slur_a, tie_b) tt

tie_first : (a b : Arc) → a.tie ≡ true → b.tie ≡ true → a.head < b.head → ComesFirst a b
tie_first a b tie_a tie_b lt = rw tie_a (tie_b, lt)

turned : (event : ℕ) (arcs : List Arc) → Widens arcs → All (IsSlurFrom event) arcs → AreOrdered (reverse arcs)
unfolding Widens
turned event [] h are = tt
turned event (a ∷ arcs) h are =
    let own = All-head (IsSlurFrom event) a arcs are in let others = All-tail (IsSlurFrom event) a arcs are in
    let before = all_both (IsSlurFrom event) (λ x. a.last ≤ x.last) (λ x. All (ComesBefore x) (a ∷ [])) arcs
    (λ x s le.
    All-cons (ComesBefore x) a [] (at_one (s.first ∙ sym own.first) (slur_first x a s.slur own.slur le))
    (All-nil (ComesBefore x)))
    others h.0 in
    subst AreOrdered (sym (reverse-append (a ∷ []) arcs))
    (in_order-append (reverse arcs) (a ∷ []) (turned event arcs h.1 others) (All-nil (ComesBefore a), tt)
    (All-permutation (λ x. All (ComesBefore x) (a ∷ [])) arcs (reverse arcs) (IsPermutation-reverse arcs) before))

slurs_at-in_order : (e : ArcEvent) (events : List ArcEvent) → AreRising (e ∷ events) → AreOrdered (slurs_at e events)
unfolding AreRising
slurs_at-in_order e events rising =
    let ends = slur_copies e.ends (spot e) ++ open_ends events in
    turned e.event (slurs (slur_copies e.begins (spot e)) ends)
    (slurs-widen e.begins (spot e) ends (ends-not_falling e events rising.0 (open_ends-not_falling events rising.1)))
    (slurs-are e.begins (spot e) ends)

-- ---- ties, and all arcs
tie-in_order : (e : ArcEvent) (place : ℕ) (head : Head) (next : ArcEvent) → AreOrdered (tie e place head next)
tie-in_order e place head next =
    let arc : Arc =
    record { tie = true; first = e.event; last = next.event; head = place; from = e.measure; to = next.measure } in
    elim (head.tied && list_any (has_pitch head.pitch) next.heads) as (λ b. AreOrdered (if b then arc ∷ [] else [])) [
      | true ↦ (All-nil (ComesBefore arc), tt)
      | false ↦ tt
    ]

ties-in_order : (e : ArcEvent) (place : ℕ) (heads : List Head) (next : ArcEvent)
    → AreOrdered (ties_from e place heads next)
ties-in_order e place [] next = tt
ties-in_order e place (head ∷ heads) next =
    in_order-append (tie e place head next) (ties_from e (suc place) heads next) (tie-in_order e place head next)
    (ties-in_order e (suc place) heads next)
    (all_across (IsTieFrom e.event place) (IsTieAfter e.event (suc place)) ComesBefore (tie e place head next)
    (ties_from e (suc place) heads next)
    (λ a b t u. at_one (t.first ∙ sym u.first) (tie_first a b t.tie u.tie (omega (arith, t.head, u.head))))
    (tie-is e place head next) (ties-are e (suc place) heads next))

ties_at-in_order : (e : ArcEvent) (events : List ArcEvent) → AreOrdered (ties_at e events)
ties_at-in_order e [] = tt
ties_at-in_order e (next ∷ events) = ties-in_order e 0 e.heads next

at_event : (e : ArcEvent) (events : List ArcEvent)
    → All (λ a. a.first ≡ e.event) (slurs_at e events ++ ties_at e events)
at_event e events =
    All-append (λ a. a.first ≡ e.event) (slurs_at e events) (ties_at e events)
    (All-weaker (IsSlurFrom e.event) (λ a. a.first ≡ e.event) (λ a s. s.first) (slurs_at e events)
    (slurs_at-are e events))
    (All-weaker (IsTieAfter e.event 0) (λ a. a.first ≡ e.event) (λ a t. t.first) (ties_at e events)
    (ties_at-are e events))

arcs_of-following : (event : ℕ) (events : List ArcEvent)
    → All (λ e. event < e.event) events → All (λ a. event < a.first) (arcs_of events)
arcs_of-following event [] h = All-nil (λ a. event < a.first)
arcs_of-following event (e ∷ events) h =
    let lt : event < e.event = All-head (λ x. event < x.event) e events h in
    All-append (λ a. event < a.first) (slurs_at e events ++ ties_at e events) (arcs_of events)
    (All-weaker (λ a. a.first ≡ e.event) (λ a. event < a.first) (λ a is. omega arith)
    (slurs_at e events ++ ties_at e events) (at_event e events))
    (arcs_of-following event events (All-tail (λ x. event < x.event) e events h))

arcs_of-in_order : (events : List ArcEvent) → AreRising events → AreOrdered (arcs_of events)
unfolding AreRising
arcs_of-in_order [] rising = tt
arcs_of-in_order (e ∷ events) rising =
    in_order-append (slurs_at e events ++ ties_at e events) (arcs_of events)
    (in_order-append (slurs_at e events) (ties_at e events) (slurs_at-in_order e events rising)
    (ties_at-in_order e events)
    (all_across (IsSlurFrom e.event) (IsTieAfter e.event 0) ComesBefore (slurs_at e events) (ties_at e events)
    (λ a b s t. at_one (s.first ∙ sym t.first) (tie_second a b s.slur t.tie)) (slurs_at-are e events)
    (ties_at-are e events)))
    (arcs_of-in_order events rising.1)
    (all_across (λ a. a.first ≡ e.event) (λ a. e.event < a.first) ComesBefore (slurs_at e events ++ ties_at e events)
    (arcs_of events)
    (λ a b is lt. earlier (omega arith)) (at_event e events) (arcs_of-following e.event events rising.0))

pub voice-in_order : (v : Voice) → IsGoodVoice v → AreOrdered (arcs_of (events_of_voice v))
voice-in_order v good =
    arcs_of-in_order (events_of_voice v)
    (numbered-rising 0 (events_of_voice v) (measures-numbered 0 v.measures 0 good.ids))

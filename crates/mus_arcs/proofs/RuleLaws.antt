-- The slurs that are found from the last event back are those that the rule pairs, and the ties are found with them.
use Rattle.std.proofs.Common.{◌≡◌, ◌≤◌, ℕ, zero, suc, List, [], ◌∷◌, ◌++◌, Bool, true, false, not, ◌==◌, ◌&&◌, length}
use Rattle.std.proofs.Common.{drop, reverse, append_assoc, append-nil, refl, sym, ◌∙◌, ap, subst, arith}
use Rattle.std.proofs.lemmas.List.Sorted.{All-permutation, IsPermutation-refl, IsPermutation-trans}
use Rattle.std.proofs.lemmas.List.Sorted.{IsPermutation-append_comm, IsPermutation-append_left}
use Rattle.std.proofs.lemmas.List.Sorted.{IsPermutation-append_right, IsPermutation-reverse}
use Rattle.std.proofs.lemmas.List.Elements.{All-nil, All-cons, All-head, All-tail, All-append, All-weaker}
use Rattle.std.proofs.lemmas.List.Elements.{filter-append}
use Rattle.std.proofs.Math.Seq.{drop-nil}
use Rattle.std.specs.Prelude.{filter, IsPermutation, if◌then◌else◌}
use Rattle.std.specs.List.{All, list_any}
use Rattle.mus_units.specs.declared.note.Head.{Head}
use Rattle.mus_arcs.specs.declared.events.ArcEvent.{ArcEvent}
use Rattle.mus_arcs.specs.declared.pairing.Arc.{Arc}
use Rattle.mus_arcs.specs.declared.pairing.SlurEnd.{SlurEnd}
use Rattle.mus_arcs.specs.Arcs.{arcs_of, slur_copies, has_pitch, open_ends, slur, slurs, slurs_at, slurs_by_ends, spot}
use Rattle.mus_arcs.specs.Arcs.{tie, ties_at, ties_from, ties_of}
use Rattle.mus_arcs.proofs.ArcLaws.{slurs-none}

length-copies : (n : ℕ) (at : SlurEnd) → length (slur_copies n at) ≡ n
length-copies zero at = refl
length-copies (suc n) at = ap suc (length-copies n at)

-- pairs in order, with the starts and the ends split
slurs-starts : (starts more ends : List SlurEnd)
    → slurs (starts ++ more) ends ≡ slurs starts ends ++ slurs more (drop (length starts) ends)
slurs-starts [] more ends = refl
slurs-starts (start ∷ starts) more [] = sym (ap (slurs more) (drop-nil (suc (length starts))) ∙ slurs-none more)
slurs-starts (start ∷ starts) more (end ∷ ends) =
    ap (λ x. slur start end ++ x) (slurs-starts starts more ends)
    ∙ sym (append_assoc (slur start end) (slurs starts ends) (slurs more (drop (length starts) ends)))

slurs-ends : (starts ends more : List SlurEnd)
    → slurs starts (ends ++ more) ≡ slurs starts ends ++ slurs (drop (length ends) starts) more
slurs-ends starts [] more = ap (λ x. x ++ slurs starts more) (sym (slurs-none starts))
slurs-ends [] (end ∷ ends) more = ap (λ x. slurs x more) (sym (drop-nil (suc (length ends))))
slurs-ends (start ∷ starts) (end ∷ ends) more =
    ap (λ x. slur start end ++ x) (slurs-ends starts ends more)
    ∙ sym (append_assoc (slur start end) (slurs starts ends) (slurs (drop (length ends) starts) more))

-- the middle one of three parts moves to the front
to_front : (xs ys zs : List Arc) → IsPermutation (xs ++ (ys ++ zs)) (ys ++ (xs ++ zs))
to_front xs ys zs =
    subst (λ l. IsPermutation l (ys ++ (xs ++ zs))) (append_assoc xs ys zs)
    (subst (λ l. IsPermutation ((xs ++ ys) ++ zs) l) (append_assoc ys xs zs)
    (IsPermutation-append_left zs (xs ++ ys) (ys ++ xs) (IsPermutation-append_comm xs ys)))

slurs_of : List ArcEvent → List Arc
slurs_of [] = []
slurs_of (e ∷ events) = slurs_at e events ++ slurs_of events

-- one event: its ends and its starts take the same pairs
around_event : (b n : ℕ) (at : SlurEnd) (starts ends : List SlurEnd)
    → slurs (slur_copies b at ++ starts) (slur_copies n at) ++ slurs (drop n (slur_copies b at ++ starts)) ends
    ≡ slurs (slur_copies b at) (slur_copies n at ++ ends) ++ slurs starts (drop b (slur_copies n at ++ ends))
around_event b n at starts ends =
    let by_ends = slurs-ends (slur_copies b at ++ starts) (slur_copies n at) ends in
    let by_starts = slurs-starts (slur_copies b at) starts (slur_copies n at ++ ends) in
    ap (λ k. slurs (slur_copies b at ++ starts) (slur_copies n at) ++ slurs (drop k (slur_copies b at ++ starts)) ends)
    (sym (length-copies n at))
    ∙ sym by_ends
    ∙ by_starts
    ∙ ap (λ k. slurs (slur_copies b at) (slur_copies n at ++ ends) ++ slurs starts (drop k (slur_copies n at ++ ends)))
    (length-copies b at)

shuffled : (taken mine later rest mine_rest : List Arc)
    → taken ++ rest ≡ mine ++ mine_rest
    → IsPermutation (taken ++ (later ++ rest)) ((reverse mine ++ later) ++ mine_rest)
shuffled taken mine later rest mine_rest e =
    let front = to_front taken later rest in
    let same = subst (λ l. IsPermutation (taken ++ (later ++ rest)) (later ++ l)) e front in
    let back = to_front later mine mine_rest in
    let turned = IsPermutation-append_left (later ++ mine_rest) mine (reverse mine) (IsPermutation-reverse mine) in
    subst (λ l. IsPermutation (taken ++ (later ++ rest)) l) (sym (append_assoc (reverse mine) later mine_rest))
    (IsPermutation-trans _ _ _ same (IsPermutation-trans _ _ _ back turned))

by_rule : (starts : List SlurEnd) (events : List ArcEvent)
    → IsPermutation (slurs_by_ends starts events) (slurs_of events ++ slurs starts (open_ends events))
unfolding slurs_of
by_rule starts [] = subst (λ l. IsPermutation [] l) (sym (slurs-none starts)) (IsPermutation-refl [])
by_rule starts (e ∷ events) =
    let unpaired = slur_copies e.begins (spot e) ++ starts in
    let taken = slurs unpaired (slur_copies e.ends (spot e)) in
    let mine = slurs (slur_copies e.begins (spot e)) (slur_copies e.ends (spot e) ++ open_ends events) in
    let later = slurs_of events in
    IsPermutation-trans _ _ _
    (IsPermutation-append_right taken _ _ (by_rule (drop e.ends unpaired) events))
    (shuffled taken mine later (slurs (drop e.ends unpaired) (open_ends events)) (slurs starts (open_ends (e ∷ events)))
    (around_event e.begins e.ends (spot e) starts (open_ends events)))

-- ---- which arcs are slurs and which are ties
pub record IsSlurFrom (event : ℕ) (a : Arc) : Type 0 where
  pub slur : a.tie ≡ false
  pub first : a.first ≡ event

-- a tie from this event, of the head at this place
pub record IsTieFrom (event place : ℕ) (a : Arc) : Type 0 where
  pub tie : a.tie ≡ true
  pub first : a.first ≡ event
  pub head : a.head ≡ place

-- a tie from this event, of a head at this place or later
pub record IsTieAfter (event place : ℕ) (a : Arc) : Type 0 where
  pub tie : a.tie ≡ true
  pub first : a.first ≡ event
  pub head : place ≤ a.head

pub slur-is : (start end : SlurEnd) → All (IsSlurFrom start.event) (slur start end)
slur-is start end =
    let arc : Arc =
    record { tie = false; first = start.event; last = end.event; head = 0; from = start.measure; to = end.measure } in
    elim (start.event == end.event) as (λ b. All (IsSlurFrom start.event) (if b then [] else arc ∷ [])) [
      | true ↦ All-nil (IsSlurFrom start.event)
      | false ↦
          All-cons (IsSlurFrom start.event) arc [] (record { slur = refl; first = refl })
          (All-nil (IsSlurFrom start.event))
    ]

pub slurs-are : (n : ℕ) (at : SlurEnd) (ends : List SlurEnd) → All (IsSlurFrom at.event) (slurs (slur_copies n at) ends)
slurs-are zero at ends = All-nil (IsSlurFrom at.event)
slurs-are (suc n) at [] = All-nil (IsSlurFrom at.event)
slurs-are (suc n) at (end ∷ ends) =
    All-append (IsSlurFrom at.event) (slur at end) (slurs (slur_copies n at) ends) (slur-is at end)
    (slurs-are n at ends)

pub slurs_at-are : (e : ArcEvent) (events : List ArcEvent) → All (IsSlurFrom e.event) (slurs_at e events)
slurs_at-are e events =
    let mine = slurs (slur_copies e.begins (spot e)) (slur_copies e.ends (spot e) ++ open_ends events) in
    All-permutation (IsSlurFrom e.event) mine (reverse mine) (IsPermutation-reverse mine)
    (slurs-are e.begins (spot e) _)

pub tie-is : (e : ArcEvent) (place : ℕ) (head : Head) (next : ArcEvent)
    → All (IsTieFrom e.event place) (tie e place head next)
tie-is e place head next =
    let arc : Arc =
    record { tie = true; first = e.event; last = next.event; head = place; from = e.measure; to = next.measure } in
    elim (head.tied && list_any (has_pitch head.pitch) next.heads) as (λ b.
    All (IsTieFrom e.event place) (if b then arc ∷ [] else [])) [
      | true ↦
          All-cons (IsTieFrom e.event place) arc [] (record { tie = refl; first = refl; head = refl })
          (All-nil (IsTieFrom e.event place))
      | false ↦ All-nil (IsTieFrom e.event place)
    ]

pub ties-are : (e : ArcEvent) (place : ℕ) (heads : List Head) (next : ArcEvent)
    → All (IsTieAfter e.event place) (ties_from e place heads next)
ties-are e place [] next = All-nil (IsTieAfter e.event place)
ties-are e place (head ∷ heads) next =
    All-append (IsTieAfter e.event place) (tie e place head next) (ties_from e (suc place) heads next)
    (All-weaker (IsTieFrom e.event place) (IsTieAfter e.event place)
    (λ a t. record { tie = t.tie; first = t.first; head = omega (arith, t.head) }) (tie e place head next)
    (tie-is e place head next))
    (All-weaker (IsTieAfter e.event (suc place)) (IsTieAfter e.event place)
    (λ a t. record { tie = t.tie; first = t.first; head = omega (arith, t.head) }) (ties_from e (suc place) heads next)
    (ties-are e (suc place) heads next))

pub ties_at-are : (e : ArcEvent) (events : List ArcEvent) → All (IsTieAfter e.event 0) (ties_at e events)
ties_at-are e [] = All-nil (IsTieAfter e.event 0)
ties_at-are e (next ∷ events) = ties-are e 0 e.heads next

filter-all : (p : Arc → Bool) (arcs : List Arc) → All (λ a. p a ≡ true) arcs → filter p arcs ≡ arcs
filter-all p [] h = refl
filter-all p (a ∷ arcs) h =
    rw (All-head (λ x. p x ≡ true) a arcs h) (ap (λ x. a ∷ x) (filter-all p arcs (All-tail (λ x. p x ≡ true) a arcs h)))

filter-none : (p : Arc → Bool) (arcs : List Arc) → All (λ a. p a ≡ false) arcs → filter p arcs ≡ []
filter-none p [] h = refl
filter-none p (a ∷ arcs) h =
    rw (All-head (λ x. p x ≡ false) a arcs h) (filter-none p arcs (All-tail (λ x. p x ≡ false) a arcs h))

is_slur : Arc → Bool
is_slur a = not a.tie

arcs_of-slurs : (events : List ArcEvent) → filter is_slur (arcs_of events) ≡ slurs_of events
unfolding slurs_of is_slur
arcs_of-slurs [] = refl
arcs_of-slurs (e ∷ events) =
    filter-append is_slur (slurs_at e events ++ ties_at e events) (arcs_of events)
    ∙ ap (λ x. x ++ filter is_slur (arcs_of events))
    (filter-append is_slur (slurs_at e events) (ties_at e events)
    ∙ ap (λ x. x ++ filter is_slur (ties_at e events))
    (filter-all is_slur (slurs_at e events)
    (All-weaker (IsSlurFrom e.event) (λ a. is_slur a ≡ true) (λ a s. ap not s.slur) (slurs_at e events)
    (slurs_at-are e events)))
    ∙ ap (λ x. slurs_at e events ++ x)
    (filter-none is_slur (ties_at e events)
    (All-weaker (IsTieAfter e.event 0) (λ a. is_slur a ≡ false) (λ a t. ap not t.tie) (ties_at e events)
    (ties_at-are e events)))
    ∙ append-nil (slurs_at e events)) ∙ ap (λ x. slurs_at e events ++ x) (arcs_of-slurs events)

is_tie : Arc → Bool
is_tie a = a.tie

arcs_of-ties : (events : List ArcEvent) → filter is_tie (arcs_of events) ≡ ties_of events
unfolding is_tie
arcs_of-ties [] = refl
arcs_of-ties (e ∷ events) =
    filter-append is_tie (slurs_at e events ++ ties_at e events) (arcs_of events)
    ∙ ap (λ x. x ++ filter is_tie (arcs_of events))
    (filter-append is_tie (slurs_at e events) (ties_at e events)
    ∙ ap (λ x. x ++ filter is_tie (ties_at e events))
    (filter-none is_tie (slurs_at e events)
    (All-weaker (IsSlurFrom e.event) (λ a. is_tie a ≡ false) (λ a s. s.slur) (slurs_at e events)
    (slurs_at-are e events)))
    ∙ filter-all is_tie (ties_at e events)
    (All-weaker (IsTieAfter e.event 0) (λ a. is_tie a ≡ true) (λ a t. t.tie) (ties_at e events)
    (ties_at-are e events)))
    ∙ ap (λ x. ties_at e events ++ x) (arcs_of-ties events)

pub arcs_of-by_rule : (events : List ArcEvent)
    → IsPermutation (slurs_by_ends [] events) (filter (λ a. not a.tie) (arcs_of events))
unfolding is_slur
arcs_of-by_rule events =
    subst (IsPermutation (slurs_by_ends [] events)) (append-nil (slurs_of events) ∙ sym (arcs_of-slurs events))
    (by_rule [] events)

pub arcs_of-ties_are : (events : List ArcEvent) → filter (λ a. a.tie) (arcs_of events) ≡ ties_of events
unfolding is_tie
arcs_of-ties_are events = arcs_of-ties events

-- A walk over the nodes of a body gives its events.
use Rattle.std.proofs.Common.{◌≡◌, ℕ, suc, List, [], ◌∷◌, ◌++◌, ◌*◌, map, refl, sym, ◌∙◌, ap, subst}
use Rattle.std.proofs.lemmas.List.{map-append}
use Rattle.mus_score.specs.declared.score.Event.{Event}
use Rattle.mus_score.specs.declared.score.Measure.{Measure}
use Rattle.mus_score.specs.declared.score.Music.{Music, map-Music}
use Rattle.mus_score.specs.declared.score.Music.TheOpen.{Music-F}
use Rattle.mus_score.specs.declared.score.Music.TheViews.{roll-Music}
use Rattle.mus_score.specs.declared.score.Music.TheFolds.{fold-roll-Music, ind-Music}
use Rattle.mus_score.specs.declared.times.PendingLeaf.{PendingLeaf}
use Rattle.mus_score.specs.Times.{Leafing, in_row, leaves_step, leaves_within, no_pending_leaf}
use Rattle.mus_arcs.specs.Events.{at_measure, body_events, events_from, events_in, events_step, events_within, join}
use Rattle.mus_arcs.specs.Events.{walked_from}

Agrees : Music → Type 0
Agrees m = (qs ps : ℕ) (w : PendingLeaf) → map (λ f. f.event) (leaves_within m qs ps w).flats ≡ events_within m

in_row-events : (ms : List ((m : Music) × Agrees m)) (qs ps : ℕ) (w : PendingLeaf)
    → map (λ f. f.event) (in_row (map leaves_within (map (λ e. e.0) ms)) qs ps w).flats
    ≡ join (map events_within (map (λ e. e.0) ms))
unfolding Agrees
in_row-events [] qs ps w = refl
in_row-events (e ∷ ms) qs ps w =
    let first = leaves_within e.0 qs ps w in
    let others = in_row (map leaves_within (map (λ d. d.0) ms)) qs ps first.waits in
    map-append (λ f. f.event) first.flats others.flats
    ∙ ap (λ x. x ++ map (λ f. f.event) others.flats) (e.1 qs ps w)
    ∙ ap (λ x. events_within e.0 ++ x) (in_row-events ms qs ps first.waits)

-- a layer, given its nodes and what is known of them
layer : (y : Music-F ((m : Music) × Agrees m)) (qs ps : ℕ) (w : PendingLeaf)
    → let nodes = map-Music ((m : Music) × Agrees m) Music (λ e. e.0) y in
    map (λ f. f.event) (leaves_step (map-Music Music Leafing leaves_within nodes) qs ps w).flats
    ≡ events_step (map-Music Music (List Event) events_within nodes)
layer (Music-F.Note e) qs ps w = refl
layer (Music-F.Rest e) qs ps w = refl
layer (Music-F.Grace body slash) qs ps w = refl
layer (Music-F.Tuplet p q body) qs ps w =
    in_row-events body (qs * q) (ps * p) (record w { tuplets = w.tuplets ++ p ∷ [] })

rolled : (x : Music-F Music) (qs ps : ℕ) (w : PendingLeaf)
    → map (λ f. f.event) (leaves_step (map-Music Music Leafing leaves_within x) qs ps w).flats
    ≡ events_step (map-Music Music (List Event) events_within x)
    → map (λ f. f.event) (leaves_within (roll-Music x) qs ps w).flats ≡ events_within (roll-Music x)
rolled x qs ps w e =
    ap (λ z. map (λ f. f.event) (z qs ps w).flats) (fold-roll-Music Leafing leaves_step x)
    ∙ e
    ∙ sym (fold-roll-Music (List Event) events_step x)

agrees : (m : Music) → Agrees m
unfolding Agrees
agrees = ind-Music Agrees (λ x y is. λ qs ps w. rolled x qs ps w
    (subst (λ z.
    map (λ f. f.event) (leaves_step (map-Music Music Leafing leaves_within z) qs ps w).flats
    ≡ events_step (map-Music Music (List Event) events_within z))
    is (layer y qs ps w)))

-- nodes with what is known of each
all_agree : List Music → List ((m : Music) × Agrees m)
all_agree [] = []
all_agree (m ∷ ms) = (m, agrees m) ∷ all_agree ms

all_agree-nodes : (ms : List Music) → map (λ e. e.0) (all_agree ms) ≡ ms
unfolding all_agree
all_agree-nodes [] = refl
all_agree-nodes (m ∷ ms) = ap (λ x. m ∷ x) (all_agree-nodes ms)

pub body_events-walked : (body : List Music) → body_events body ≡ events_in body
body_events-walked body =
    subst (λ ms. body_events ms ≡ events_in ms) (all_agree-nodes body)
    (in_row-events (all_agree body) 1 1 no_pending_leaf)

pub walked : (number : ℕ) (measures : List Measure) → walked_from number measures ≡ events_from number measures
walked number [] = refl
walked number (m ∷ ms) =
    ap (λ x. map (at_measure number) x ++ walked_from (suc number) ms) (sym (body_events-walked m.body))
    ∙ ap (λ x. map (at_measure number) (body_events m.body) ++ x) (walked (suc number) ms)

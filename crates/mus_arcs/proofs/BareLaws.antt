-- If no slur and no tie begins at the events of a voice, the voice has no arcs.
use Rattle.std.proofs.Common.{◌≡◌, ℕ, suc, List, [], ◌∷◌, Bool, true, false, not, ◌&&◌, ◌==◌, map, refl, sym, ◌∙◌, ap}
use Rattle.std.proofs.Common.{subst, arith}
use Rattle.std.proofs.lemmas.Bool.{and_parts, eqb-true, false≢true}
use Rattle.std.proofs.lemmas.List.Elements.{All-nil, All-cons, All-head, All-tail, All-append, All-map}
use Rattle.std.specs.List.{All, list_all}
use Rattle.mus_units.specs.declared.note.Head.{Head}
use Rattle.mus_score.specs.declared.score.Event.{Event}
use Rattle.mus_score.specs.declared.score.Measure.{Measure}
use Rattle.mus_score.specs.declared.score.Voice.{Voice}
use Rattle.mus_score.specs.declared.score.Music.{Music, map-Music}
use Rattle.mus_score.specs.declared.score.Music.TheOpen.{Music-F}
use Rattle.mus_score.specs.declared.score.Music.TheFolds.{fold-roll-Music, ind-Music}
use Rattle.mus_score.specs.GoodScore.{IsGoodVoice}
use Rattle.mus_arcs.specs.declared.events.ArcEvent.{ArcEvent}
use Rattle.mus_arcs.specs.declared.pairing.Arc.{Arc}
use Rattle.mus_arcs.specs.Arcs.{AreArcsOf, arcs_of, ties_at, ties_from}
use Rattle.mus_arcs.specs.Events.{at_measure, bare_step, events_in, events_of_voice, events_step, events_within}
use Rattle.mus_arcs.specs.Events.{is_bare_music, is_bare_event, walked_from}
use Rattle.mus_arcs.proofs.EventLaws.{walked}
use Rattle.mus_arcs.proofs.OrderLaws.{voice-in_order}
use Rattle.mus_arcs.proofs.RuleLaws.{arcs_of-by_rule, arcs_of-ties_are}

abbrev IsBare : ArcEvent → Type 0
IsBare e = (e.begins == 0 && list_all (λ h. not h.tied) e.heads) ≡ true

untied : (e : ArcEvent) (place : ℕ) (heads : List Head) (next : ArcEvent)
    → list_all (λ h. not h.tied) heads ≡ true → ties_from e place heads next ≡ []
untied e place [] next h = refl
untied e place (head ∷ heads) next h =
    let parts = and_parts (not head.tied) (list_all (λ g. not g.tied) heads) h in
    let loose : head.tied ≡ false = grind (arith, parts.0) in rw loose (untied e (suc place) heads next parts.1)

no_ties : (e : ArcEvent) (events : List ArcEvent) → list_all (λ h. not h.tied) e.heads ≡ true → ties_at e events ≡ []
no_ties e [] h = refl
no_ties e (next ∷ events) h = untied e 0 e.heads next h

none_of : (events : List ArcEvent) → All IsBare events → arcs_of events ≡ []
none_of [] h = refl
none_of (e ∷ events) h =
    let parts = and_parts (e.begins == 0) (list_all (λ g. not g.tied) e.heads) (All-head IsBare e events h) in
    rw (eqb-true e.begins 0 parts.0, no_ties e events parts.1) (none_of events (All-tail IsBare e events h))

abbrev AllBare : List Event → Type 0
AllBare events = All (λ e. is_bare_event e ≡ true) events

layer : (x : Music-F Music)
    → bare_step (map-Music Music Bool is_bare_music x) ≡ true
    → AllBare (events_step (map-Music Music (List Event) events_within x))
layer (Music-F.Note e) h = All-cons (λ d. is_bare_event d ≡ true) e [] h (All-nil (λ d. is_bare_event d ≡ true))
layer (Music-F.Rest e) h = All-cons (λ d. is_bare_event d ≡ true) e [] h (All-nil (λ d. is_bare_event d ≡ true))
layer (Music-F.Grace body slash) h = absurd (false≢true h)
layer (Music-F.Tuplet p q body) h = absurd (false≢true h)

bare_node : (m : Music) → is_bare_music m ≡ true → AllBare (events_within m)
bare_node = ind-Music (λ m. is_bare_music m ≡ true → AllBare (events_within m)) (λ x y is h.
    subst AllBare (sym (fold-roll-Music (List Event) events_step x))
    (layer x (sym (fold-roll-Music Bool bare_step x) ∙ h)))

bare_body : (body : List Music) → list_all is_bare_music body ≡ true → AllBare (events_in body)
bare_body [] h = All-nil (λ e. is_bare_event e ≡ true)
bare_body (m ∷ ms) h =
    let parts = and_parts (is_bare_music m) (list_all is_bare_music ms) h in
    All-append (λ e. is_bare_event e ≡ true) (events_within m) (events_in ms) (bare_node m parts.0)
    (bare_body ms parts.1)

all_bare : (number : ℕ) (ms : List Measure)
    → list_all (λ m. list_all is_bare_music m.body) ms ≡ true → All IsBare (walked_from number ms)
all_bare number [] h = All-nil IsBare
all_bare number (m ∷ ms) h =
    let parts = and_parts (list_all is_bare_music m.body) (list_all (λ n. list_all is_bare_music n.body) ms) h in
    All-append IsBare (map (at_measure number) (events_in m.body)) (walked_from (suc number) ms)
    (All-map IsBare (at_measure number) (events_in m.body) (bare_body m.body parts.0))
    (all_bare (suc number) ms parts.1)

pub no_arcs : (v : Voice)
    → list_all (λ m. list_all is_bare_music m.body) v.measures ≡ true → arcs_of (events_of_voice v) ≡ []
no_arcs v h = ap arcs_of (sym (walked 0 v.measures)) ∙ none_of (walked_from 0 v.measures) (all_bare 0 v.measures h)

pub are_arcs : (v : Voice) (arcs : List Arc)
    → IsGoodVoice v → arcs ≡ arcs_of (events_of_voice v) → AreArcsOf (events_of_voice v) arcs
are_arcs v arcs good e =
    let all = events_of_voice v in
    subst (AreArcsOf all) (sym e)
    (record { slurs_are = arcs_of-by_rule all; ties_are = arcs_of-ties_are all; in_order = voice-in_order v good })

-- An event of a good body has no more heads than the whole body weighs.
use Rattle.mus_score.specs.Limits.{head_limit}
use Rattle.std.proofs.Common.{◌≤◌, ℕ, suc, ◌+◌, List, [], ◌∷◌, length, map, max, arith}
use Rattle.std.proofs.lemmas.List.Elements.{All-nil, All-cons, All-head, All-tail, All-append, All-map}
use Rattle.std.proofs.lemmas.List.Sums.{sum_by-cons}
use Rattle.std.specs.List.{All, sum_by}
use Rattle.mus_score.specs.declared.score.Flat.{Flat}
use Rattle.mus_score.specs.declared.score.Measure.{Measure}
use Rattle.mus_score.specs.declared.score.Voice.{Voice}
use Rattle.mus_score.specs.Good.{IsGoodBody, flat_weight, head_count}
use Rattle.mus_score.specs.Times.{flats_of}
use Rattle.mus_score.proofs.Bounds.{flats_weigh}
use Rattle.mus_arcs.specs.Events.{at_measure, body_events, events_from, events_of_voice}

few_in : (f : Flat) (n : ℕ)
    → max 1 (length f.event.heads) + head_count f.graces + n ≤ head_limit → length f.event.heads ≤ head_limit
few_in f n h = omega (arith, h)

flats_heads : (fs : List Flat)
    → sum_by flat_weight fs ≤ head_limit → All (λ e. length e.heads ≤ head_limit) (map (λ f. f.event) fs)
flats_heads [] few = All-nil (λ e. length e.heads ≤ head_limit)
flats_heads (f ∷ fs) few =
    let sum = sum_by-cons flat_weight f fs in
    All-cons (λ e. length e.heads ≤ head_limit) f.event (map (λ g. g.event) fs)
    (few_in f (sum_by flat_weight fs) (omega (arith, sum, few))) (flats_heads fs (omega (arith, sum, few)))

body_heads : (m : Measure) → IsGoodBody m.body → All (λ e. length e.heads ≤ head_limit) (body_events m.body)
body_heads m good =
    let weigh = flats_weigh m.body good in
    let few = good.few in flats_heads (flats_of m.body) (omega (arith, weigh, few))

measure_heads : (number : ℕ) (measures : List Measure)
    → All (λ m. IsGoodBody m.body) measures → All (λ e. length e.heads ≤ head_limit) (events_from number measures)
measure_heads number [] h = All-nil (λ e. length e.heads ≤ head_limit)
measure_heads number (m ∷ ms) h =
    All-append (λ e. length e.heads ≤ head_limit) (map (at_measure number) (body_events m.body))
    (events_from (suc number) ms)
    (All-map (λ e. length e.heads ≤ head_limit) (at_measure number) (body_events m.body)
    (body_heads m (All-head (λ x. IsGoodBody x.body) m ms h)))
    (measure_heads (suc number) ms (All-tail (λ x. IsGoodBody x.body) m ms h))

pub few_heads : (v : Voice)
    → All (λ m. IsGoodBody m.body) v.measures → All (λ e. length e.heads ≤ head_limit) (events_of_voice v)
few_heads v bodies = measure_heads 0 v.measures bodies

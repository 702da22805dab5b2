-- From measure to measure.
use Rattle.std.proofs.Common.{◌≡◌, ◌<◌, ℕ, suc, ◌+◌, List, [], ◌∷◌, ◌++◌, append_assoc, drop, drop-cons, length, get_or}
use Rattle.std.proofs.Common.{sym, ap, ◌∙◌, subst, arith}
use Rattle.mus_score.specs.declared.score.Measure.{Measure}
use Rattle.mus_score.specs.GoodScore.{AreInReach, events_of}
use Rattle.mus_score.specs.Times.{flats_of}
use Rattle.mus_drawn.specs.declared.drawn.DrawnMeasure.{DrawnMeasure}
use Rattle.mus_drawn.specs.declared.drawn.Style.{Style}
use Rattle.mus_drawn.specs.declared.standing.StaffState.{StaffState}
use Rattle.mus_drawn.specs.Drawn.{staff_state_after, drawn_measure, drawn_measures}
use Rattle.mus_drawn.specs.Good.{AllCanDraw}
use Rattle.mus_drawn.proofs.Reaches.{reach_cut}
use Rattle.mus_drawn.proofs.GoodLaws.{can_cut}

pub measures_cut : (ms : List Measure) (i : ℕ) (m : Measure)
    → i < length ms → m ≡ get_or ms i m → drop i ms ≡ m ∷ drop (i + 1) ms
measures_cut ms i m inside here =
    let one : suc i ≡ i + 1 = omega arith in
    drop-cons ms i m inside ∙ ap (λ x. x ∷ drop (suc i) ms) (sym here) ∙ ap (λ n. m ∷ drop n ms) one

pub reach_here : (now : StaffState) (ms : List Measure) (i : ℕ) (m : Measure)
    → i < length ms → m ≡ get_or ms i m → AreInReach now.clef (events_of (drop i ms))
    → AreInReach now.clef (flats_of m.body)
    × AreInReach (staff_state_after now (flats_of m.body)).clef (events_of (drop (i + 1) ms))
reach_here now ms i m inside here h =
    reach_cut now (flats_of m.body) (events_of (drop (i + 1) ms))
    (subst (λ x. AreInReach now.clef (events_of x)) (measures_cut ms i m inside here) h)

pub can_here : (ms : List Measure) (i : ℕ) (m : Measure)
    → i < length ms → m ≡ get_or ms i m → AllCanDraw (events_of (drop i ms))
    → AllCanDraw (flats_of m.body) × AllCanDraw (events_of (drop (i + 1) ms))
can_here ms i m inside here h =
    can_cut (flats_of m.body) (events_of (drop (i + 1) ms))
    (subst (λ x. AllCanDraw (events_of x)) (measures_cut ms i m inside here) h)

pub measures_step : (style : Style) (now first after : StaffState) (ms : List Measure) (i : ℕ) (m : Measure)
    (d : DrawnMeasure) (out new : List DrawnMeasure)
    → i < length ms → m ≡ get_or ms i m
    → new ≡ out ++ d ∷ [] → d ≡ drawn_measure style now m → after ≡ staff_state_after now (flats_of m.body)
    → out ++ drawn_measures style now (drop i ms) ≡ drawn_measures style first ms
    → new ++ drawn_measures style after (drop (i + 1) ms) ≡ drawn_measures style first ms
measures_step style now first after ms i m d out new inside here pushed made following so_far =
    ap (λ x. x ++ drawn_measures style after (drop (i + 1) ms)) pushed
    ∙ append_assoc out (d ∷ []) (drawn_measures style after (drop (i + 1) ms))
    ∙ ap (λ x. out ++ x ∷ drawn_measures style after (drop (i + 1) ms)) made
    ∙ ap (λ x. out ++ drawn_measure style now m ∷ drawn_measures style x (drop (i + 1) ms)) following
    ∙ ap (λ x. out ++ drawn_measures style now x) (sym (measures_cut ms i m inside here)) ∙ so_far

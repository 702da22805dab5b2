-- A good voice gives a good drawn voice.
use Rattle.mus_score.specs.Limits.{head_limit}
use Rattle.std.proofs.Common.{◌≡◌, ◌≤◌, ◌+◌, ℕ, List, [], ◌∷◌, ◌++◌, length, max, sym, subst, arith}
use Rattle.std.proofs.lemmas.List.Elements.{All-head, All-tail}
use Rattle.std.proofs.lemmas.List.Sums.{sum_by-cons}
use Rattle.std.specs.Prelude.{Option, Some, None, IfSome, unwrap_or}
use Rattle.std.specs.List.{All, sum_by}
use Rattle.mus_units.specs.declared.key.Key.{Key}
use Rattle.mus_units.specs.declared.pitch.Clef.{Clef}
use Rattle.mus_units.specs.Good.{AreGoodSigns, IsGoodKey}
use Rattle.mus_units.specs.declared.note.Bar.{Bar}
use Rattle.mus_score.specs.declared.score.Event.{Event}
use Rattle.mus_score.specs.declared.score.Flat.{Flat}
use Rattle.mus_score.specs.Good.{flat_count, flat_weight, head_count}
use Rattle.mus_score.specs.GoodScore.{AreInReach, IsInReach, IsGoodEvent, clef_at}
use Rattle.mus_stems.specs.{declared.plans.StemPlan.StemPlan, Plans.AllEndsNear}
use Rattle.mus_drawn.specs.declared.drawn.DrawnEvent.{DrawnEvent}
use Rattle.mus_drawn.specs.declared.drawn.SystemOpening.{SystemOpening}
use Rattle.mus_drawn.specs.declared.drawn.Style.{Style}
use Rattle.mus_drawn.specs.declared.standing.StaffState.{StaffState}
use Rattle.mus_drawn.specs.Drawn.{standing_after, staff_state_after, old_signs, opening_of, drawn_events}
use Rattle.mus_drawn.specs.Good.{AllCanDraw, AllCanGrace, AreGoodDrawn, IsGoodMeasure}
use Rattle.mus_drawn.proofs.Reaches.{near_of}

key_after : (key : Key) (new : Option Key) → IsGoodKey key → IfSome new IsGoodKey → IsGoodKey (unwrap_or new key)
key_after key None good h = good
key_after key (Some new) good h = h

pub key_left_after : (now : StaffState) (fs : List Flat)
    → IsGoodKey now.key → AllCanDraw fs → IsGoodKey (staff_state_after now fs).key
key_left_after now [] good h = good
key_left_after now (f ∷ fs) good h =
    key_left_after (standing_after now f.event.changes) fs (key_after now.key f.event.changes.key good h.0.key) h.1

opening_good : (now : StaffState) (fs : List Flat)
    → IsGoodKey now.key → AllCanDraw fs → IsGoodKey (opening_of now fs).key
opening_good now [] good h = good
opening_good now (f ∷ fs) good h = key_after now.key f.event.changes.key good h.0.key

old_good : (key : Key) (new : Option Key) → IsGoodKey key → AreGoodSigns (old_signs key new)
old_good key None good = λ letter. omega arith
old_good key (Some new) good = good

graces_good : (clef : Clef) (graces : List Event)
    → All (λ g. All (IsInReach clef) g.heads) graces → head_count graces ≤ head_limit → AllCanGrace clef graces
graces_good clef [] h few = tt
graces_good clef (g ∷ graces) h few =
    let sum = sum_by-cons (λ (e : Event). length e.heads) g graces in (
      record {
        near = near_of clef g.heads (All-head (λ e. All (IsInReach clef) e.heads) g graces h);
        few = omega (arith, sum, few);
      },
      graces_good clef graces (All-tail (λ e. All (IsInReach clef) e.heads) g graces h) (omega (arith, sum, few)),
    )

few_in : (f : Flat) (n : ℕ)
    → max 1 (length f.event.heads) + head_count f.graces + n ≤ head_limit → head_count f.graces ≤ head_limit
few_in f n h = omega (arith, h)

drawn_good : (style : Style) (tick : ℕ) (now : StaffState) (fs : List Flat) (ps : List StemPlan)
    → IsGoodKey now.key → AreInReach now.clef fs → AllCanDraw fs → AllEndsNear ps → sum_by flat_weight fs ≤ head_limit
    → sum_by flat_count fs ≤ head_limit
    → AreGoodDrawn (drawn_events style tick now fs ps)
drawn_good style tick now [] ps good reach can near few count = tt
drawn_good style tick now (f ∷ fs) [] good reach can near few count = tt
drawn_good style tick now (f ∷ fs) (p ∷ ps) good reach can near few count =
    let weights = sum_by-cons flat_weight f fs in
    let counts = sum_by-cons flat_count f fs in (
      record {
        old = old_good now.key f.event.changes.key good;
        key = can.0.key;
        graces =
            graces_good (clef_at now.clef f.event) f.graces reach.1
            (few_in f (sum_by flat_weight fs) (omega (arith, weights, few)));
        few_graces = omega (arith, counts, count);
        words = can.0.words;
        end = near.0;
      },
      drawn_good style (tick + f.duration) (standing_after now f.event.changes) fs ps
          (key_after now.key f.event.changes.key good can.0.key) reach.2 can.1 near.1 (omega (arith, weights, few))
          (omega (arith, counts, count)),
    )

pub measure_good : (style : Style) (now : StaffState) (fs flats : List Flat) (plans : List StemPlan) (o : SystemOpening)
    (es : List DrawnEvent) (bar : Bar)
    → flats ≡ fs → o ≡ opening_of now flats → es ≡ drawn_events style 0 now flats plans
    → IsGoodKey now.key → AreInReach now.clef fs → AllCanDraw fs → AllEndsNear plans
    → sum_by flat_weight flats ≤ head_limit
    → sum_by flat_count flats ≤ head_limit
    → IsGoodMeasure (record { seat = style.seat; opening = o; events = es; bar = bar })
measure_good style now fs flats plans o es bar same opens made good reach can near few count =
    let can_here = subst AllCanDraw (sym same) can in let reach_here = subst (AreInReach now.clef) (sym same) reach in
    record {
      opening = subst (λ x. IsGoodKey x.key) (sym opens) (opening_good now flats good can_here);
      events =
          subst AreGoodDrawn (sym made) (drawn_good style 0 now flats plans good reach_here can_here near few count);
    }

pub can_cut : (fs gs : List Flat) → AllCanDraw (fs ++ gs) → AllCanDraw fs × AllCanDraw gs
can_cut [] gs h = (tt, h)
can_cut (f ∷ fs) gs h = let r = can_cut fs gs h.1 in ((h.0, r.0), r.1)

pub voice_can_draw : (verses : ℕ) (fs : List Flat) → verses ≤ 8 → All (IsGoodEvent verses) fs → AllCanDraw fs
voice_can_draw verses [] few h = tt
voice_can_draw verses (f ∷ fs) few h =
    let own = All-head (IsGoodEvent verses) f fs h in (
      record { key = own.key; words = omega (arith, few, own.words) },
      voice_can_draw verses fs few (All-tail (IsGoodEvent verses) f fs h),
    )

-- Events within reach of the staff can be drawn.
use Rattle.mus_score.specs.Limits.{head_limit}
use Rattle.std.proofs.Common.{◌≤◌, ◌+◌, ℕ, List, [], ◌∷◌, ◌++◌, length, map, max, arith}
use Rattle.std.proofs.lemmas.List.Elements.{All-head, All-tail}
use Rattle.std.proofs.lemmas.List.Sums.{sum_by-cons}
use Rattle.std.specs.List.{All, sum_by}
use Rattle.mus_units.specs.declared.note.Head.{Head}
use Rattle.mus_units.specs.declared.pitch.Clef.{Clef}
use Rattle.mus_score.specs.declared.score.Flat.{Flat}
use Rattle.mus_score.specs.Good.{IsGoodFlat, flat_weight, head_count}
use Rattle.mus_score.specs.GoodScore.{AreInReach, IsInReach, clef_at}
use Rattle.mus_stems.specs.Heads.{AllNear, stand_of}
use Rattle.mus_stems.specs.Stills.{AllCanStand, clefs_from}
use Rattle.mus_drawn.specs.declared.standing.StaffState.{StaffState}
use Rattle.mus_drawn.specs.Drawn.{standing_after, staff_state_after}

pub near_of : (clef : Clef) (heads : List Head) → All (IsInReach clef) heads → AllNear (map (stand_of clef) heads)
unfolding stand_of
near_of clef [] h = tt
near_of clef (x ∷ heads) h =
    (All-head (IsInReach clef) x heads h, near_of clef heads (All-tail (IsInReach clef) x heads h))

few_heads : (f : Flat) (n : ℕ) → max 1 (length f.event.heads) + n ≤ head_limit → length f.event.heads ≤ head_limit
few_heads f n h = omega (arith, h)

pub can_stand : (clef : Clef) (fs : List Flat)
    → AreInReach clef fs → All IsGoodFlat fs → sum_by flat_weight fs ≤ head_limit → AllCanStand fs (clefs_from clef fs)
can_stand clef [] reach good few = tt
can_stand clef (f ∷ fs) reach good few =
    let sum = sum_by-cons flat_weight f fs in
    let own = All-head IsGoodFlat f fs good in (
      record {
        near = near_of (clef_at clef f.event) f.event.heads reach.0;
        few = few_heads f (head_count f.graces) (omega (arith, sum, few));
        dots = own.dots;
      },
      can_stand (clef_at clef f.event) fs reach.2 (All-tail IsGoodFlat f fs good) (omega (arith, sum, few)),
    )

pub reach_cut : (now : StaffState) (fs gs : List Flat)
    → AreInReach now.clef (fs ++ gs) → AreInReach now.clef fs × AreInReach (staff_state_after now fs).clef gs
reach_cut now [] gs h = (tt, h)
reach_cut now (f ∷ fs) gs h = let r = reach_cut (standing_after now f.event.changes) fs gs h.2 in ((h.0, h.1, r.0), r.1)

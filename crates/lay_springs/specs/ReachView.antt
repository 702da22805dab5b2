-- The reaches of a column, lane by lane.
use Rattle.std.specs.Prelude.{◌≡◌, ◌≢◌, ◌==◌, ℕ, ◌^◌, ◌<◌, ◌≤◌, if◌then◌else◌, min, List, Option, None, Some, IfSome}
use Rattle.std.specs.Prelude.{option_map, option_and_then, slice_get}
use Rattle.std.proofs.Common.{arith}
use Rattle.lay_springs.specs.declared.traits.{Reach.Reach, LaneReach.LaneReach, ReachView.ReachView}

-- no reach passes it
abbrev pub most_reach : ℕ
most_reach = 2 ^ 20

abbrev pub cut_reach : Reach → Reach
cut_reach reach = record { left = min reach.left most_reach; right = min reach.right most_reach }

-- None past the last lane
unfoldable pub reach_in : List (Option Reach) → ℕ → Option Reach
reach_in reaches lane = option_map cut_reach (option_and_then (λ reach. reach) (slice_get reaches lane))

pub reach_in_near : (reaches : List (Option Reach)) (lane : ℕ)
    → IfSome (reach_in reaches lane) (λ r. (r.left ≤ 2 ^ 20) × (r.right ≤ 2 ^ 20))
unfolding reach_in
reach_in_near reaches lane = near (option_and_then (λ reach. reach) (slice_get reaches lane))
  where
    near : (o : Option Reach) → IfSome (option_map cut_reach o) (λ r. (r.left ≤ 2 ^ 20) × (r.right ≤ 2 ^ 20))
    near None = tt
    near (Some r) = (omega arith, omega arith)

-- in one lane alone, or as given by a row
abbrev pub reach_in_view : ReachView → ℕ → Option Reach
reach_in_view (ReachView.OneLane stand) lane = if lane == stand.lane then Some stand.reach else None
reach_in_view (ReachView.EachLane row) lane = reach_in row.now lane

-- the view has the reach in each lane that can be counted
abbrev pub TellsReach : ReachView → (ℕ → Option Reach) → Type 0
TellsReach stands reach = (lane : ℕ) → lane < 4294967296 → reach_in_view stands lane ≡ reach lane

-- a column is in this lane, and in no other of the lanes that can be counted
pub record IsLone (reach : ℕ → Option Reach) (stand : LaneReach) : Type 0 where
  pub here : reach stand.lane ≡ Some stand.reach
  pub alone : (lane : ℕ) → lane < 4294967296 → lane ≢ stand.lane → reach lane ≡ None

-- The reach of a column in a lane: as far as the boxes of its marks there, to the left and to the right, at least 0,
-- and cut at 2^20.
use Rattle.std.specs.Prelude.{ℕ, ℤ, pos, negsuc, ◌+◌, min, Bool, true, false, ◌&&◌, ◌==◌, if◌then◌else◌, List, [], ◌∷◌}
use Rattle.std.specs.Prelude.{◌++◌, map, filter_map, Option, Some, None}
use Rattle.std.specs.List.{range_with_len}
use Rattle.mus_onsets.specs.Onsets.{greatest}
use Rattle.mus_onsets.specs.declared.keys.Class.{Class}
use Rattle.mus_laid.specs.Boxes.{sides_of}
use Rattle.mus_laid.specs.declared.boxes.Sides.{Sides}
use Rattle.mus_laid.specs.declared.laid.Mark.{Mark}
use Rattle.mus_laid.specs.declared.laid.Laid.{Laid}
use Rattle.mus_laid.specs.declared.laid.StaffMarks.{StaffMarks}
use Rattle.lay_springs.specs.declared.traits.Reach.{Reach}
use Rattle.lay_springs.specs.ReachView.{most_reach}
use Rattle.lay_reaches.specs.Lanes.{lane_count, lane_number}

-- how far a box extends to the left, and to the right, of its column
unfoldable pub left_of : ℤ → ℕ
left_of (pos n) = 0
left_of (negsuc n) = min (n + 1) most_reach

unfoldable pub right_of : ℤ → ℕ
right_of (pos n) = min n most_reach
right_of (negsuc n) = 0

-- a glyph and a text belong to one column
abbrev pub rank_of_mark : Mark → Option ℕ
rank_of_mark (Mark.Glyph glyph rank dx dy) = Some rank
rank_of_mark (Mark.Words size rank dx dy text) = Some rank
rank_of_mark (Mark.Stem rank dx from to) = None
rank_of_mark (Mark.Beam way first last from to) = None
rank_of_mark (Mark.Arc first last from to bulge) = None

abbrev pub is_lane_number : ℕ → Option ℕ → Bool
is_lane_number n None = false
is_lane_number n (Some m) = n == m

-- the box of a mark, if it is in a given column and lane of its staff
abbrev pub box_at : ℕ → ℕ → Laid → Option Sides
box_at rank lane laid =
    if is_lane_number rank (rank_of_mark laid.mark) && is_lane_number lane (lane_number laid.lane)
    then sides_of laid.mark
    else None

abbrev pub boxes_at : ℕ → ℕ → List Laid → List Sides
boxes_at rank lane marks = filter_map (box_at rank lane) marks

-- as far as the furthest box; none without a box
abbrev pub reach_over : List Sides → Option Reach
reach_over [] = None
reach_over (box ∷ boxes) =
    Some (record {
      left = greatest (map (λ s. left_of s.left) (box ∷ boxes));
      right = greatest (map (λ s. right_of s.right) (box ∷ boxes));
    })

abbrev pub drawn_reach : List Laid → ℕ → ℕ → Option Reach
drawn_reach marks rank lane = reach_over (boxes_at rank lane marks)

-- the reaches of a column in the lanes of a staff, by its marks alone
abbrev pub drawn_row : List Laid → ℕ → ℕ → List (Option Reach)
drawn_row marks lanes rank = map (drawn_reach marks rank) (range_with_len 0 lanes)

-- the head of a system, the bar before the first measure, and bars are in each lane
abbrev pub stands_always : Class → Bool
stands_always Class.Head = true
stands_always Class.First = true
stands_always Class.Change = false
stands_always Class.Grace = false
stands_always Class.Note = false
stands_always Class.Bar = true

abbrev pub standing : Bool → Option Reach → Option Reach
standing always (Some reach) = Some reach
standing true None = Some (record { left = 0; right = 0 })
standing false None = None

abbrev pub staff_reaches : Bool → ℕ → List Laid → ℕ → List (Option Reach)
staff_reaches always rank marks verses = map (standing always) (drawn_row marks (lane_count verses) rank)

-- the reaches of a column in the lanes of a system, staff by staff
abbrev pub reaches_of : Bool → ℕ → List StaffMarks → List ℕ → List (Option Reach)
reaches_of always rank [] verses = []
reaches_of always rank (staff ∷ staves) [] = []
reaches_of always rank (staff ∷ staves) (verses ∷ more) =
    staff_reaches always rank staff.marks verses ++ reaches_of always rank staves more

-- If columns are within less than 2^20, no reach is cut: the first and the last column are in each lane, and a cut
-- reach would push one of them out. So the boxes of marks stay apart as the reaches of their columns do.
use Rattle.std.proofs.Common.{◌≡◌, ◌∙◌, sym, ap, subst, inl, inr, ℕ, ◌+◌, ◌-◌, ◌^◌, ◌<◌, ℤ, pos, neg_ℤ, ◌+ℤ◌, ◌≤ℤ◌}
use Rattle.std.proofs.Common.{List, length, Option, Some, arith}
use Rattle.std.proofs.lemmas.Bool.{cases_lt}
use Rattle.std.proofs.lemmas.Int.{ints}
use Rattle.std.proofs.lemmas.List.Elements.{All-contains}
use Rattle.std.proofs.lemmas.Option.{none-some, same_Some}
use Rattle.std.specs.List.{Contains, slice_get}
use Rattle.mus_laid.specs.Boxes.{sides_of}
use Rattle.mus_laid.specs.declared.boxes.Sides.{Sides}
use Rattle.mus_laid.specs.declared.laid.Laid.{Laid}
use Rattle.mus_laid.specs.declared.laid.Mark.{Mark}
use Rattle.mus_laid.specs.declared.laid.StaffMarks.{StaffMarks}
use Rattle.lay_springs.specs.{declared.traits.Reach.Reach, Fit.StandsInAll, Place.StandApart, Place.reach_at}
use Rattle.lay_reaches.specs.declared.column.Column.{Column}
use Rattle.lay_reaches.specs.Columns.{CoverMarks, Covers, column_reach}
use Rattle.lay_reaches.specs.Lanes.{gaps_of, lane_count, lane_number, lane_start}
use Rattle.lay_reaches.specs.Reaches.{rank_of_mark}
use Rattle.law_marks_in_range.specs.Ranks.{AreMarksRanked, IsRanked}
use Rattle.lay_tune.specs.Systems.{x_at}
use Rattle.lay_tune.proofs.Within.{EndsWithin}
use Rattle.law_marks_apart.specs.Apart.{AreApart, IsBoxed, gap_of}
use Rattle.law_marks_apart.proofs.LaneGaps.{HasLane, number_of, place_of_lane}

-- columns that are apart within a width, of which the first and the last are in each lane
pub record StandBetween (n : ℕ) (reach : ℕ → ℕ → Option Reach) (gaps : List ℕ) (spring : ℕ → ℕ) (width : ℕ)
    (at : List ℤ) : Type 0 where
  pub apart : StandApart n reach gaps spring at
  pub ends : EndsWithin n reach gaps width at
  pub first : StandsInAll (reach 0) (length gaps)
  pub last : StandsInAll (reach (n - 1)) (length gaps)

-- ---- reaches
module _ (n : ℕ) (reach : ℕ → ℕ → Option Reach) (gaps : List ℕ) (spring : ℕ → ℕ) (width : ℕ) (at : List ℤ)
    (h : StandBetween n reach gaps spring width at) where
  left_inside : (k lane : ℕ) (r : Reach) → k < n → lane < length gaps → reach k lane ≡ Some r → pos r.left ≤ℤ x_at at k
  left_inside k lane r l m e = elim (cases_lt 0 k) [
    | inl later ↦
        let s = h.first lane m in
        let c = h.apart.lanes 0 k later l lane s.0 r m s.1 e in
        let b = h.apart.begins (omega arith) in
        omega (arith, ints)
    | inr here ↦
        let z : k ≡ 0 = omega arith in
        subst (λ i. pos r.left ≤ℤ x_at at i) (sym z)
        (h.apart.head (omega arith) lane r m (subst (λ i. reach i lane ≡ Some r) z e))
  ]

  right_inside : (k lane : ℕ) (r : Reach)
      → k < n → lane < length gaps → reach k lane ≡ Some r → (x_at at k +ℤ pos r.right) ≤ℤ pos width
  right_inside k lane r l m e = elim (cases_lt k (n - 1)) [
    | inl before ↦
        let s = h.last lane m in
        let c = h.apart.lanes k (n - 1) before (omega arith) lane r s.0 m e s.1 in
        let p = h.ends.past in
        omega (arith, ints)
    | inr there ↦
        let z : k ≡ n - 1 = omega arith in
        subst (λ i. (x_at at i +ℤ pos r.right) ≤ℤ pos width) (sym z)
        (h.ends.reaches lane r m (subst (λ i. reach i lane ≡ Some r) z e))
  ]

  -- a reach that is cut would pass the width
  covered : (k lane : ℕ) (r : Reach) (box : Sides)
      → width < 2 ^ 20 → k < n → lane < length gaps → reach k lane ≡ Some r → Covers r box
      → (neg_ℤ box.left ≤ℤ pos r.left) × (box.right ≤ℤ pos r.right)
  covered k lane r box small l m e c =
      let low = left_inside k lane r l m e in
      let high = right_inside k lane r l m e in (
        elim c.0 [ inl is ↦ is | inr cut ↦ absurd (omega (arith, ints, low, high, small, cut)) ],
        elim c.1 [ inl is ↦ is | inr cut ↦ absurd (omega (arith, ints, low, high, small, cut)) ],
      )

-- ---- boxes
clear_boxes : (x y first second : ℤ) (right gap left : ℕ)
    → (x +ℤ pos (right + gap + left)) ≤ℤ y → first ≤ℤ pos right → neg_ℤ second ≤ℤ pos left
    → ((x +ℤ first) +ℤ pos gap) ≤ℤ (y +ℤ second)
clear_boxes x y first second right gap left clear l m = omega (arith, ints)

box_low : (x left : ℤ) (reach : ℕ) → pos reach ≤ℤ x → neg_ℤ left ≤ℤ pos reach → pos 0 ≤ℤ (x +ℤ left)
box_low x left reach inside l = omega (arith, ints)

box_high : (x right : ℤ) (reach width : ℕ)
    → (x +ℤ pos reach) ≤ℤ pos width → right ≤ℤ pos reach → (x +ℤ right) ≤ℤ pos width
box_high x right reach width inside l = omega (arith, ints)

-- a mark that has a box is at one of the columns
ranked_below : (n r : ℕ) (mark : Mark) → IsRanked n mark → rank_of_mark mark ≡ Some r → r < n
ranked_below n r (Mark.Glyph glyph rank dx dy) below e = subst (λ k. k < n) (same_Some rank r e) below
ranked_below n r (Mark.Words size rank dx dy text) below e = subst (λ k. k < n) (same_Some rank r e) below
ranked_below n r (Mark.Stem rank dx from to) below e = absurd (none-some r e)
ranked_below n r (Mark.Beam way first last from to) below e = absurd (none-some r e)
ranked_below n r (Mark.Arc first last from to bulge) below e = absurd (none-some r e)

-- a staff of columns that cover their marks
module _ (staves : List StaffMarks) (verses : List ℕ) (columns : List Column) (spring : ℕ → ℕ) (width : ℕ) (at : List ℤ)
    (h : StandBetween (length columns) (reach_at column_reach columns) (gaps_of verses) spring width at)
    (small : width < 2 ^ 20) (cover : CoverMarks staves verses columns) (s count : ℕ) (staff : StaffMarks)
    (at_staff : slice_get staves s ≡ Some staff) (at_count : slice_get verses s ≡ Some count)
    (laned : (x : Laid) → Contains staff.marks x → HasLane count x.lane)
    (ranked : AreMarksRanked (length columns) staff.marks) where
  below : (x : Laid) (r : ℕ) → Contains staff.marks x → rank_of_mark x.mark ≡ Some r → r < length columns
  below x r inside e =
      ranked_below (length columns) r x.mark
      (All-contains (λ laid. IsRanked (length columns) laid.mark) staff.marks x ranked inside) e

  -- the reach of the column of a box in a lane of the staff, by the number of the lane
  pub record HasReach (r number : ℕ) (box : Sides) : Type 0 where
    pub reach : Reach
    pub is : reach_at column_reach columns r (lane_start verses s + number) ≡ Some reach
    pub left : neg_ℤ box.left ≤ℤ pos reach.left
    pub right : box.right ≤ℤ pos reach.right
    pub inside : pos reach.left ≤ℤ x_at at r
    pub ends : (x_at at r +ℤ pos reach.right) ≤ℤ pos width

  has_reach : (x : Laid) (r number : ℕ) (box : Sides)
      → Contains staff.marks x → rank_of_mark x.mark ≡ Some r → sides_of x.mark ≡ Some box
      → lane_number x.lane ≡ Some number → number < lane_count count
      → HasReach r number box
  has_reach x r number box inside at_rank at_box at_lane low =
      let place = place_of_lane verses s count number at_count low in
      let l = below x r inside at_rank in
      let c = cover s r number count staff x box at_staff at_count inside at_rank l at_lane low at_box in
      let lane = lane_start verses s + number in
      let reach = reach_at column_reach columns in
      let both = covered (length columns) reach (gaps_of verses) spring width at h r lane c.0 box small l place.inside
      c.1 c.2 in
      record {
        reach = c.0;
        is = c.1;
        left = both.0;
        right = both.1;
        inside = left_inside (length columns) reach (gaps_of verses) spring width at h r lane c.0 l place.inside c.1;
        ends = right_inside (length columns) reach (gaps_of verses) spring width at h r lane c.0 l place.inside c.1;
      }

  two_apart : (x y : Laid) (r q : ℕ) (first second : Sides)
      → Contains staff.marks x → Contains staff.marks y → IsBoxed x r first → IsBoxed y q second
      → x.lane ≡ y.lane → r < q → ((x_at at r +ℤ first.right) +ℤ pos (gap_of x.lane)) ≤ℤ (x_at at q +ℤ second.left)
  two_apart x y r q first second in_x in_y at_x at_y same order =
      let number = number_of count x.lane at_x.keeps (laned x in_x) in
      let place = place_of_lane verses s count number.0 at_count number.1.low in
      let from = has_reach x r number.0 first in_x at_x.rank_is at_x.box_is number.1.is number.1.low in
      let to = has_reach y q number.0 second in_y at_y.rank_is at_y.box_is (ap lane_number (sym same) ∙ number.1.is)
      number.1.low in
      let clear = h.apart.lanes r q order (below y q in_y at_y.rank_is) (lane_start verses s + number.0) from.reach
      to.reach place.inside from.is to.is in
      clear_boxes (x_at at r) (x_at at q) first.right second.left from.reach.right (gap_of x.lane) to.reach.left
      (subst (λ gap. (x_at at r +ℤ pos (from.reach.right + gap + to.reach.left)) ≤ℤ x_at at q)
      (place.gap ∙ number.1.gap) clear)
      from.right to.left

  one_within : (x : Laid) (r : ℕ) (box : Sides)
      → Contains staff.marks x → IsBoxed x r box
      → (pos 0 ≤ℤ (x_at at r +ℤ box.left)) × ((x_at at r +ℤ box.right) ≤ℤ pos width)
  one_within x r box in_x at_x =
      let number = number_of count x.lane at_x.keeps (laned x in_x) in
      let has = has_reach x r number.0 box in_x at_x.rank_is at_x.box_is number.1.is number.1.low in (
        box_low (x_at at r) box.left has.reach.left has.inside has.left,
        box_high (x_at at r) box.right has.reach.right width has.ends has.right,
      )

  pub staff_apart : AreApart width at staff.marks
  staff_apart = record { apart = two_apart; within = one_within }

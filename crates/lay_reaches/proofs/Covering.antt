-- The reach of a column in a lane covers the boxes of its marks there.
use Rattle.std.proofs.Common.{◌≡◌, ℕ, zero, suc, ℤ, pos, negsuc, neg_ℤ, ◌≤ℤ◌, ◌⊎◌, ◌+◌, ◌<◌, ◌≤◌, Bool, List, [], ◌∷◌}
use Rattle.std.proofs.Common.{◌++◌, map, length, Option, Some, None, refl, sym, ap, ◌∙◌, subst, arith, inl, inr}
use Rattle.std.proofs.Common.{option_and_then, option_map, slice_get, get_or}
use Rattle.std.proofs.lemmas.Bool.{cases_lt}
use Rattle.std.proofs.lemmas.Int.{ints}
use Rattle.std.proofs.lemmas.List.{length-map}
use Rattle.std.proofs.lemmas.List.FromFn.{length-map-range_with_len, get_or-map-range_with_len}
use Rattle.std.proofs.lemmas.Option.{none-some, same_Some, slice_get-get_or, slice_get-map}
use Rattle.std.specs.List.{Contains}
use Rattle.mus_onsets.specs.Onsets.{greatest}
use Rattle.mus_onsets.specs.declared.keys.ColumnKey.{ColumnKey}
use Rattle.mus_laid.specs.declared.boxes.Sides.{Sides}
use Rattle.mus_laid.specs.declared.laid.Laid.{Laid}
use Rattle.mus_laid.specs.declared.laid.StaffMarks.{StaffMarks}
use Rattle.lay_springs.specs.declared.traits.Reach.{Reach}
use Rattle.lay_springs.specs.Place.{reach_at}
use Rattle.lay_springs.specs.ReachView.{most_reach, reach_in}
use Rattle.lay_springs.proofs.Longer.{get_front}
use Rattle.lay_reaches.specs.declared.column.Column.{Column}
use Rattle.lay_reaches.specs.Columns.{column_reach, columns_from, CoverMarks, Covers}
use Rattle.lay_reaches.specs.Lanes.{lane_count, lane_start}
use Rattle.lay_reaches.specs.Reaches.{box_at, boxes_at, drawn_reach, drawn_row, left_of, reach_over, reaches_of}
use Rattle.lay_reaches.specs.Reaches.{right_of, staff_reaches, standing, stands_always}
use Rattle.lay_reaches.proofs.Facts.{near_all, near_over, reach_same}
use Rattle.lay_reaches.proofs.Rows.{box_is}

-- ---- boxes
abbrev taken : List Sides → Option Sides → List Sides
taken boxes None = boxes
taken boxes (Some box) = box ∷ boxes

boxes_first : (rank lane : ℕ) (m : Laid) (marks : List Laid)
    → boxes_at rank lane (m ∷ marks) ≡ taken (boxes_at rank lane marks) (box_at rank lane m)
boxes_first rank lane m marks = by (box_at rank lane m) refl
  where
    by : (o : Option Sides)
        → box_at rank lane m ≡ o → boxes_at rank lane (m ∷ marks) ≡ taken (boxes_at rank lane marks) o
    by None e = rw e refl
    by (Some box) e = rw e refl

furthest : (f : Sides → ℕ) (rank lane : ℕ) (box : Sides) (marks : List Laid) (k : ℕ) (d : Laid)
    → k < length marks → box_at rank lane (get_or marks k d) ≡ Some box
    → f box ≤ greatest (map f (boxes_at rank lane marks))
furthest f rank lane box [] k d l e = grind (arith, l)
furthest f rank lane box (m ∷ marks) zero d l e = rw (boxes_first rank lane m marks, e) (omega arith)
furthest f rank lane box (m ∷ marks) (suc k) d l e =
    let h = furthest f rank lane box marks k d (omega (arith, l)) e in
    rw (boxes_first rank lane m marks) (by (box_at rank lane m) h)
  where
    by : (o : Option Sides) → f box ≤ greatest (map f (boxes_at rank lane marks))
        → f box ≤ greatest (map f (taken (boxes_at rank lane marks) o))
    by None h = h
    by (Some b) h = omega (arith, h)

some_box : (rank lane : ℕ) (box : Sides) (marks : List Laid) (k : ℕ) (d : Laid)
    → k < length marks → box_at rank lane (get_or marks k d) ≡ Some box
    → (b : Sides) × (bs : List Sides) × (boxes_at rank lane marks ≡ b ∷ bs)
some_box rank lane box [] k d l e = absurd (none l)
  where
    none : k < 0 → ⊥
    none l = omega (arith, l)
some_box rank lane box (m ∷ marks) zero d l e =
    (box, boxes_at rank lane marks, boxes_first rank lane m marks ∙ ap (taken (boxes_at rank lane marks)) e)
some_box rank lane box (m ∷ marks) (suc k) d l e =
    by (box_at rank lane m) refl (some_box rank lane box marks k d (omega (arith, l)) e)
  where
    by : (o : Option Sides) → box_at rank lane m ≡ o
        → (b : Sides) × (bs : List Sides) × (boxes_at rank lane marks ≡ b ∷ bs)
        → (b : Sides) × (bs : List Sides) × (boxes_at rank lane (m ∷ marks) ≡ b ∷ bs)
    by None q (b, bs, h) = (b, bs, boxes_first rank lane m marks ∙ ap (taken (boxes_at rank lane marks)) q ∙ h)
    by (Some first) q h =
        (first, boxes_at rank lane marks, boxes_first rank lane m marks ∙ ap (taken (boxes_at rank lane marks)) q)

left_covers : (z : ℤ) (left : ℕ) → left_of z ≤ left → left ≤ most_reach → (neg_ℤ z ≤ℤ pos left) ⊎ (left ≡ most_reach)
unfolding left_of
left_covers (pos n) left h near = inl (omega (arith, ints))
left_covers (negsuc n) left h near = elim (cases_lt left most_reach) [
  | inl lt ↦ let m : n + 1 ≤ left = omega (arith, h, lt) in inl (omega (arith, ints, m))
  | inr ge ↦ inr (omega (arith, near, ge))
]

right_covers : (z : ℤ) (right : ℕ) → right_of z ≤ right → right ≤ most_reach → (z ≤ℤ pos right) ⊎ (right ≡ most_reach)
unfolding right_of
right_covers (negsuc n) right h near = inl (omega (arith, ints))
right_covers (pos n) right h near = elim (cases_lt right most_reach) [
  | inl lt ↦ let m : n ≤ right = omega (arith, h, lt) in inl (omega (arith, ints, m))
  | inr ge ↦ inr (omega (arith, near, ge))
]

covered : (rank lane : ℕ) (box : Sides) (marks : List Laid) (laid : Laid)
    → Contains marks laid → box_at rank lane laid ≡ Some box
    → (reach : Reach) × (drawn_reach marks rank lane ≡ Some reach) × Covers reach box
covered rank lane box marks laid (k, l, at) e =
    let e' : box_at rank lane (get_or marks k laid) ≡ Some box = ap (box_at rank lane) at ∙ e in
    let left = furthest (λ s. left_of s.left) rank lane box marks k laid l e' in
    let right = furthest (λ s. right_of s.right) rank lane box marks k laid l e' in
    by (some_box rank lane box marks k laid l e') left right
  where
    by : (b : Sides) × (bs : List Sides) × (boxes_at rank lane marks ≡ b ∷ bs)
        → left_of box.left ≤ greatest (map (λ s. left_of s.left) (boxes_at rank lane marks))
        → right_of box.right ≤ greatest (map (λ s. right_of s.right) (boxes_at rank lane marks))
        → (reach : Reach) × (drawn_reach marks rank lane ≡ Some reach) × Covers reach box
    by (b, bs, q) left right =
        let near = near_over (b ∷ bs) in
        let left' = subst (λ t. left_of box.left ≤ greatest (map (λ s. left_of s.left) t)) q left in
        let right' = subst (λ t. right_of box.right ≤ greatest (map (λ s. right_of s.right) t)) q right in (
          record {
            left = greatest (map (λ s. left_of s.left) (b ∷ bs));
            right = greatest (map (λ s. right_of s.right) (b ∷ bs));
          },
          ap reach_over q,
          (left_covers box.left _ left' near.0, right_covers box.right _ right' near.1),
        )

-- ---- the lanes of a staff among those of the system
get_right : {X : Type 0} (xs ys : List X) (k : ℕ) → slice_get (xs ++ ys) (length xs + k) ≡ slice_get ys k
get_right [] ys k = ap (λ t. slice_get ys t) (omega arith)
get_right (x ∷ xs) ys k =
    let e : suc (length xs) + k ≡ suc (length xs + k) = omega arith in
    ap (λ t. slice_get (x ∷ (xs ++ ys)) t) e ∙ get_right xs ys k

pub row_long : (always : Bool) (rank : ℕ) (marks : List Laid) (verses : ℕ)
    → length (staff_reaches always rank marks verses) ≡ lane_count verses
row_long always rank marks verses =
    length-map (drawn_row marks (lane_count verses) rank) (standing always)
    ∙ length-map-range_with_len (drawn_reach marks rank) 0 (lane_count verses)

row_at : (always : Bool) (rank lane : ℕ) (marks : List Laid) (verses : ℕ)
    → lane < lane_count verses
    → slice_get (staff_reaches always rank marks verses) lane ≡ Some (standing always (drawn_reach marks rank lane))
row_at always rank lane marks verses l =
    let long : lane < length (drawn_row marks (lane_count verses) rank) =
    subst (λ t. lane < t) (sym (length-map-range_with_len (drawn_reach marks rank) 0 (lane_count verses))) l in
    slice_get-map (standing always) (drawn_row marks (lane_count verses) rank) lane
    ∙ ap (λ t. option_map (standing always) t)
    (slice_get-get_or (drawn_row marks (lane_count verses) rank) lane None long
    ∙ ap (λ t. Some t)
    (get_or-map-range_with_len (drawn_reach marks rank) 0 (lane_count verses) lane lane None l (omega arith)))

lane_at : (always : Bool) (rank : ℕ) (staves : List StaffMarks) (verses : List ℕ) (s lane count : ℕ)
    (staff : StaffMarks)
    → slice_get staves s ≡ Some staff → slice_get verses s ≡ Some count → lane < lane_count count
    → slice_get (reaches_of always rank staves verses) (lane_start verses s + lane)
    ≡ Some (standing always (drawn_reach staff.marks rank lane))
lane_at always rank [] verses s lane count staff e f l = absurd (none-some staff e)
lane_at always rank (x ∷ staves) [] s lane count staff e f l = absurd (none-some count f)
lane_at always rank (x ∷ staves) (v ∷ verses) zero lane count staff e f l =
    let x_is = same_Some x staff e in
    let v_is = same_Some v count f in
    let l' : lane < lane_count v = subst (λ t. lane < lane_count t) (sym v_is) l in
    let long : lane < length (staff_reaches always rank x.marks v) =
    subst (λ t. lane < t) (sym (row_long always rank x.marks v)) l' in
    let place : 0 + lane ≡ lane = omega arith in
    ap (λ t. slice_get (staff_reaches always rank x.marks v ++ reaches_of always rank staves verses) t) place
    ∙ get_front (staff_reaches always rank x.marks v) (reaches_of always rank staves verses) lane long
    ∙ row_at always rank lane x.marks v l'
    ∙ ap (λ t. Some (standing always (drawn_reach t.marks rank lane))) x_is
lane_at always rank (x ∷ staves) (v ∷ verses) (suc s) lane count staff e f l =
    let long = row_long always rank x.marks v in
    let place : lane_count v + lane_start verses s + lane ≡ length (staff_reaches always rank x.marks v) +
    (lane_start verses s + lane) = omega (arith, long) in
    ap (λ t. slice_get (staff_reaches always rank x.marks v ++ reaches_of always rank staves verses) t) place
    ∙ get_right (staff_reaches always rank x.marks v) (reaches_of always rank staves verses)
    (lane_start verses s + lane)
    ∙ lane_at always rank staves verses s lane count staff e f l

-- ---- the columns
module _ (staves : List StaffMarks) (lengths verses : List ℕ) where
  column_there : (first i : ℕ) (keys : List ColumnKey) → i < length (columns_from first keys staves lengths verses)
      → (c : Column)
      × (always : Bool)
      × (slice_get (columns_from first keys staves lengths verses) i ≡ Some c)
      × (c.reaches ≡ reaches_of always (first + i) staves verses)
  column_there first i [] l = absurd (none l)
    where
      none : i < 0 → ⊥
      none l = omega (arith, l)
  column_there first zero (key ∷ following) l =
      (_, stands_always key.class, refl, ap (λ t. reaches_of (stands_always key.class) t staves verses) (omega arith))
  column_there first (suc i) (key ∷ following) l = by (column_there (first + 1) i following (omega (arith, l)))
    where
      by : (c : Column)
          × (always : Bool)
          × (slice_get (columns_from (first + 1) following staves lengths verses) i ≡ Some c)
          × (c.reaches ≡ reaches_of always (first + 1 + i) staves verses)
          → (c : Column)
          × (always : Bool)
          × (slice_get (columns_from (first + 1) following staves lengths verses) i ≡ Some c)
          × (c.reaches ≡ reaches_of always (first + suc i) staves verses)
      by (c, always, e, f) = (c, always, e, f ∙ ap (λ t. reaches_of always t staves verses) (omega arith))

  pub columns_cover : (keys : List ColumnKey) → CoverMarks staves verses (columns_from 0 keys staves lengths verses)
  columns_cover keys s rank lane count staff laid box at_staff at_count in_marks at_rank inside at_lane lane_inside
      at_box =
      by (column_there 0 rank keys inside) (covered rank lane box staff.marks laid in_marks boxed)
    where
      start : 0 + rank ≡ rank
      start = omega arith

      boxed : box_at rank lane laid ≡ Some box
      boxed = box_is rank lane rank lane box laid at_rank at_lane at_box ∙ grind arith

      by : (c : Column)
          × (always : Bool)
          × (slice_get (columns_from 0 keys staves lengths verses) rank ≡ Some c)
          × (c.reaches ≡ reaches_of always (0 + rank) staves verses)
          → (reach : Reach) × (drawn_reach staff.marks rank lane ≡ Some reach) × Covers reach box
          → (reach : Reach)
          × (reach_at column_reach (columns_from 0 keys staves lengths verses) rank (lane_start verses s + lane)
          ≡ Some reach)
          × Covers reach box
      by (c, always, at_column, reaches) (reach, drawn, covers) = (
        reach,
        ap (λ t. option_and_then (λ c. column_reach c (lane_start verses s + lane)) t) at_column
            ∙ ap (λ t. reach_in t (lane_start verses s + lane))
            (reaches ∙ ap (λ t. reaches_of always t staves verses) start)
            ∙ reach_same (reaches_of always rank staves verses) (lane_start verses s + lane)
            (near_all always rank staves verses)
            ∙ ap (λ t. option_and_then (λ o. o) t)
            (lane_at always rank staves verses s lane count staff at_staff at_count lane_inside)
            ∙ ap (standing always) drawn,
        covers,
      )

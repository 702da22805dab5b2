-- Facts of each column: it is small, has an entry per lane, and is in each lane where it must be.
use Rattle.std.proofs.Common.{◌≡◌, ℕ, ℤ, pos, negsuc, ◌+◌, ◌-◌, ◌*◌, ◌/◌, ◌^◌, ◌≤◌, min, Bool, true, false, List, []}
use Rattle.std.proofs.Common.{◌∷◌, map, length, Option, Some, None, IfSome, refl, sym, ap, ◌∙◌, subst, arith}
use Rattle.std.proofs.Common.{if◌then◌else◌, option_and_then, slice_get, get_or}
use Rattle.std.proofs.lemmas.List.{length-append, length-map, length-replicate}
use Rattle.std.proofs.lemmas.List.Elements.{All-append, All-cons, All-map, All-nil}
use Rattle.std.proofs.lemmas.List.FromFn.{length-map-range_with_len}
use Rattle.std.proofs.lemmas.Option.{slice_get-get_or, slice_get_within, get_or_from_slice_get}
use Rattle.std.specs.List.{All, find, range_with_len}
use Rattle.mus_onsets.specs.Onsets.{greatest}
use Rattle.mus_onsets.specs.declared.keys.ColumnKey.{ColumnKey}
use Rattle.mus_laid.specs.declared.boxes.Sides.{Sides}
use Rattle.mus_laid.specs.declared.laid.Laid.{Laid}
use Rattle.mus_laid.specs.declared.laid.StaffMarks.{StaffMarks}
use Rattle.lay_springs.specs.{declared.traits.Reach.Reach, Fit.StandsInAll, ReachView.{cut_reach, most_reach, reach_in}}
use Rattle.lay_reaches.specs.declared.column.Column.{Column}
use Rattle.lay_reaches.specs.Column.{spring_length}
use Rattle.lay_reaches.specs.Columns.{columns_from, IsNearReach, IsSmall, IsUncut, StandsWhereDue}
use Rattle.lay_reaches.specs.Distances.{most_length, other_gap}
use Rattle.lay_reaches.specs.Lanes.{gaps_of, lane_count, staff_gaps}
use Rattle.lay_reaches.specs.Naturals.{is_note_key, is_note_of, natural_for, natural_of, tick_or_end}
use Rattle.lay_reaches.specs.Reaches.{drawn_reach, drawn_row, left_of, reach_over, reaches_of, right_of, staff_reaches}
use Rattle.lay_reaches.specs.Reaches.{standing, stands_always}

-- ---- small
left_near : (z : ℤ) → left_of z ≤ most_reach
unfolding left_of
left_near (pos n) = omega arith
left_near (negsuc n) = omega arith

right_near : (z : ℤ) → right_of z ≤ most_reach
unfolding right_of
right_near (pos n) = omega arith
right_near (negsuc n) = omega arith

greatest_near : {X : Type 0} (f : X → ℕ) (most : ℕ)
    → ((x : X) → f x ≤ most) → (xs : List X) → greatest (map f xs) ≤ most
greatest_near f most h [] = omega arith
greatest_near f most h (x ∷ xs) = let a = h x in let b = greatest_near f most h xs in grind (arith, a, b)

pub near_over : (boxes : List Sides) → IfSome (reach_over boxes) IsNearReach
near_over [] = tt
near_over (box ∷ boxes) = (
  greatest_near (λ s. left_of s.left) most_reach (λ s. left_near s.left) (box ∷ boxes),
  greatest_near (λ s. right_of s.right) most_reach (λ s. right_near s.right) (box ∷ boxes),
)

near_standing : (always : Bool) (o : Option Reach) → IfSome o IsNearReach → IfSome (standing always o) IsNearReach
near_standing always (Some reach) h = h
near_standing true None h = (omega arith, omega arith)
near_standing false None h = tt

pub near_row : (always : Bool) (rank : ℕ) (marks : List Laid) (verses : ℕ)
    → All (λ o. IfSome o IsNearReach) (staff_reaches always rank marks verses)
near_row always rank marks verses =
    All-map (λ o. IfSome o IsNearReach) (standing always) (drawn_row marks (lane_count verses) rank)
    (All-map (λ o. IfSome (standing always o) IsNearReach) (drawn_reach marks rank)
    (range_with_len 0 (lane_count verses))
    (λ k d l. near_standing always _ (near_over _)))

pub near_all : (always : Bool) (rank : ℕ) (staves : List StaffMarks) (verses : List ℕ)
    → All (λ o. IfSome o IsNearReach) (reaches_of always rank staves verses)
near_all always rank [] verses = All-nil (λ o. IfSome o IsNearReach)
near_all always rank (staff ∷ staves) [] = All-nil (λ o. IfSome o IsNearReach)
near_all always rank (staff ∷ staves) (v ∷ verses) =
    All-append (λ o. IfSome o IsNearReach) (staff_reaches always rank staff.marks v)
    (reaches_of always rank staves verses)
    (near_row always rank staff.marks v) (near_all always rank staves verses)

natural_near : (ticks : ℕ) → natural_for ticks ≤ most_length
natural_near ticks = grind arith

natural_small : (key : ColumnKey) (following : List ColumnKey) (lengths : List ℕ)
    → natural_of key following lengths ≤ most_length
natural_small key following lengths = by (is_note_key key)
  where
    by : (b : Bool)
        → (if b then natural_for (tick_or_end key.measure (find (is_note_of key.measure) following) lengths - key.tick)
        else 0)
        ≤ most_length
    by true = natural_near (tick_or_end key.measure (find (is_note_of key.measure) following) lengths - key.tick)
    by false = omega arith

-- ---- uncut
cut_same : (reach : Reach) → IsNearReach reach → cut_reach reach ≡ reach
cut_same reach h =
    let l : min reach.left most_reach ≡ reach.left = let n = h.0 in omega (arith, n) in
    let r : min reach.right most_reach ≡ reach.right = let n = h.1 in omega (arith, n) in
    rw (l, r) refl

pub reach_same : (reaches : List (Option Reach)) (lane : ℕ)
    → All (λ o. IfSome o IsNearReach) reaches
    → reach_in reaches lane ≡ option_and_then (λ o. o) (slice_get reaches lane)
unfolding reach_in
reach_same reaches lane all = by (slice_get reaches lane) refl
  where
    by : (o : Option (Option Reach)) → slice_get reaches lane ≡ o → reach_in reaches lane ≡ option_and_then (λ o. o) o
    by None e = rw e refl
    by (Some None) e = rw e refl
    by (Some (Some reach)) e =
        let near : IfSome (get_or reaches lane (Some reach)) IsNearReach =
        all lane (Some reach) (slice_get_within reaches lane (Some reach) e) in
        let here =
        subst (λ t. IfSome t IsNearReach) (get_or_from_slice_get reaches lane (Some reach) (Some reach) e) near in
        rw e (ap (λ t. Some t) (cut_same reach here))

pub spring_same : (natural force : ℕ) → natural ≤ most_length → spring_length natural force ≡ natural * force / 256
unfolding spring_length
spring_same natural force h = let e : min natural most_length ≡ natural = omega (arith, h) in rw e refl

-- ---- an entry per lane
staff_long : (always : Bool) (rank : ℕ) (marks : List Laid) (verses : ℕ)
    → length (staff_reaches always rank marks verses) ≡ length (staff_gaps verses)
staff_long always rank marks verses =
    let a = length-map (drawn_row marks (lane_count verses) rank) (standing always) in
    let b = length-map-range_with_len (drawn_reach marks rank) 0 (lane_count verses) in
    let c = length-replicate {A = ℕ} (2 + verses) other_gap in grind (arith, a, b, c)

pub reaches_long : (always : Bool) (rank : ℕ) (staves : List StaffMarks) (verses : List ℕ)
    → length verses ≡ length staves → length (reaches_of always rank staves verses) ≡ length (gaps_of verses)
reaches_long always rank [] [] h = refl
reaches_long always rank [] (v ∷ verses) h = grind (arith, h)
reaches_long always rank (staff ∷ staves) [] h = refl
reaches_long always rank (staff ∷ staves) (v ∷ verses) h =
    let a = staff_long always rank staff.marks v in let b = reaches_long always rank staves verses (omega (arith, h)) in
    let c = length-append (staff_reaches always rank staff.marks v) (reaches_of always rank staves verses) in
    let d = length-append (staff_gaps v) (gaps_of verses) in
    grind (arith, a, b, c, d)

-- ---- in each lane where it must be
abbrev Stands : Option Reach → Type 0
Stands o = (reach : Reach) × (o ≡ Some reach)

stands_true : (o : Option Reach) → Stands (standing true o)
stands_true (Some reach) = (reach, refl)
stands_true None = (record { left = 0; right = 0 }, refl)

stands_all : (rank : ℕ) (staves : List StaffMarks) (verses : List ℕ) → All Stands (reaches_of true rank staves verses)
stands_all rank [] verses = All-nil Stands
stands_all rank (staff ∷ staves) [] = All-nil Stands
stands_all rank (staff ∷ staves) (v ∷ verses) =
    All-append Stands (staff_reaches true rank staff.marks v) (reaches_of true rank staves verses)
    (All-map Stands (standing true) (drawn_row staff.marks (lane_count v) rank) (λ k d l. stands_true _))
    (stands_all rank staves verses)

stands_in : (reaches : List (Option Reach)) → All Stands reaches → StandsInAll (reach_in reaches) (length reaches)
unfolding reach_in
stands_in reaches all lane l =
    let here = all lane None l in
    let e : slice_get reaches lane ≡ Some (Some here.0) =
    slice_get-get_or reaches lane None l ∙ ap (λ t. Some t) here.1 in
    (cut_reach here.0, rw e refl)

-- ---- each column
module _ (staves : List StaffMarks) (lengths verses : List ℕ) where
  abbrev column_at : ℕ → ColumnKey → List ColumnKey → Column
  column_at rank key following = record {
    key = key;
    reaches = reaches_of (stands_always key.class) rank staves verses;
    natural = natural_of key following lengths;
  }

  all_columns : (P : Column → Type 0)
      → ((rank : ℕ) (key : ColumnKey) (following : List ColumnKey) → P (column_at rank key following))
      → (rank : ℕ) (keys : List ColumnKey)
      → All P (columns_from rank keys staves lengths verses)
  all_columns P h rank [] = All-nil P
  all_columns P h rank (key ∷ following) =
      All-cons P (column_at rank key following) (columns_from (rank + 1) following staves lengths verses)
      (h rank key following)
      (all_columns P h (rank + 1) following)

  pub columns_keys : (rank : ℕ) (keys : List ColumnKey)
      → map (λ c. c.key) (columns_from rank keys staves lengths verses) ≡ keys
  columns_keys rank [] = refl
  columns_keys rank (key ∷ following) = ap (λ t. key ∷ t) (columns_keys (rank + 1) following)

  pub columns_small : (keys : List ColumnKey) → All IsSmall (columns_from 0 keys staves lengths verses)
  columns_small keys =
      all_columns IsSmall
      (λ rank key following. record {
        natural = natural_small key following lengths;
        reaches = near_all (stands_always key.class) rank staves verses;
      }) 0 keys

  pub columns_uncut : (keys : List ColumnKey) → All IsUncut (columns_from 0 keys staves lengths verses)
  columns_uncut keys = all_columns IsUncut (λ rank key following. record {
    reach = λ lane. reach_same _ lane (near_all (stands_always key.class) rank staves verses);
    spring = λ force. spring_same _ force (natural_small key following lengths);
  }) 0 keys

  pub columns_long : (keys : List ColumnKey)
      → length verses ≡ length staves
      → All (λ c. length c.reaches ≡ length (gaps_of verses)) (columns_from 0 keys staves lengths verses)
  columns_long keys h = all_columns (λ c. length c.reaches ≡ length (gaps_of verses))
      (λ rank key following. reaches_long (stands_always key.class) rank staves verses h) 0 keys

  pub columns_stand : (keys : List ColumnKey)
      → length verses ≡ length staves → All (StandsWhereDue verses) (columns_from 0 keys staves lengths verses)
  columns_stand keys h = all_columns (StandsWhereDue verses) by 0 keys
    where
      by : (rank : ℕ) (key : ColumnKey) (following : List ColumnKey)
          → StandsWhereDue verses (column_at rank key following)
      by rank key following always =
          subst (λ n. StandsInAll (reach_in (reaches_of (stands_always key.class) rank staves verses)) n)
          (reaches_long (stands_always key.class) rank staves verses h)
          (stands_in (reaches_of (stands_always key.class) rank staves verses)
          (subst (λ b. All Stands (reaches_of b rank staves verses)) (sym always) (stands_all rank staves verses)))

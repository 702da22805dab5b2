-- Bare columns, widened by the marks of each staff, have the reaches of their marks.
use Rattle.std.proofs.Common.{◌≡◌, ◌≢◌, ℕ, zero, suc, ◌+◌, ◌<◌, ◌≤◌, ◌&&◌, ◌==◌, max, Bool, true, false, List, [], ◌∷◌}
use Rattle.std.proofs.Common.{◌++◌, map, length, replicate, Option, Some, None, refl, sym, ap, ◌∙◌, subst, arith}
use Rattle.std.proofs.Common.{if◌then◌else◌, nat_lt}
use Rattle.std.proofs.Math.ListN.{get_or-append}
use Rattle.std.proofs.lemmas.List.{append-nil, append_assoc, length-append, length-map, replicate-append-replicate}
use Rattle.std.proofs.lemmas.List.{set-append_left}
use Rattle.std.specs.List.{range_with_len}
use Rattle.mus_laid.specs.Boxes.{sides_of}
use Rattle.mus_laid.specs.declared.boxes.Sides.{Sides}
use Rattle.mus_laid.specs.declared.laid.Laid.{Laid}
use Rattle.mus_laid.specs.declared.laid.StaffMarks.{StaffMarks}
use Rattle.mus_onsets.specs.declared.keys.ColumnKey.{ColumnKey}
use Rattle.lay_springs.specs.declared.traits.Reach.{Reach}
use Rattle.lay_reaches.specs.declared.column.Column.{Column}
use Rattle.lay_reaches.specs.Columns.{columns_from, columns_of}
use Rattle.lay_reaches.specs.Lanes.{lane_count, lane_number, lanes_of}
use Rattle.lay_reaches.specs.Naturals.{natural_of}
use Rattle.lay_reaches.specs.Reaches.{box_at, drawn_row, left_of, rank_of_mark, reaches_of, right_of, staff_reaches}
use Rattle.lay_reaches.specs.Reaches.{standing, stands_always}
use Rattle.lay_reaches.specs.Widened.{bare_columns, place_of_lane, reach_widened, widened_at, widened_by}
use Rattle.lay_reaches.specs.Widened.{widened_by_mark, widened_by_marks, widened_by_staves, widened_row, with_widened}
use Rattle.lay_reaches.proofs.Covering.{row_long}
use Rattle.lay_reaches.proofs.Rows.{box_is, none_more, row_length, row_more}

-- ---- one entry of a row
row_next : (x : Option Reach) (row : List (Option Reach)) (place : ℕ) (box : Sides)
    → widened_row (x ∷ row) (suc place) box ≡ x ∷ widened_row row place box
row_next x row place box = by (nat_lt place (length row)) refl
  where
    by : (b : Bool)
        → nat_lt place (length row) ≡ b → widened_row (x ∷ row) (suc place) box ≡ x ∷ widened_row row place box
    by true e = let f : nat_lt (suc place) (length (x ∷ row)) ≡ true = grind (arith, e) in rw (e, f) refl
    by false e = let f : nat_lt (suc place) (length (x ∷ row)) ≡ false = grind (arith, e) in rw (e, f) refl

inside : (n : ℕ) → nat_lt 0 (suc n) ≡ true
inside n = grind arith

row_prefix : (row back : List (Option Reach)) (place : ℕ) (box : Sides)
    → place < length row → widened_row (row ++ back) place box ≡ widened_row row place box ++ back
row_prefix row back place box l =
    let long = length-append row back in
    let yes : nat_lt place (length row) ≡ true = grind (arith, l) in
    let all : nat_lt place (length (row ++ back)) ≡ true = grind (arith, l, long) in
    rw (yes, all, get_or-append row back None place l) (set-append_left row back place _ l)

row_after : (prefix row : List (Option Reach)) (place : ℕ) (box : Sides)
    → widened_row (prefix ++ row) (length prefix + place) box ≡ prefix ++ widened_row row place box
row_after [] row place box = ap (λ t. widened_row row t box) (omega arith)
row_after (x ∷ prefix) row place box =
    let e : suc (length prefix) + place ≡ suc (length prefix + place) = omega arith in
    ap (λ t. widened_row (x ∷ (prefix ++ row)) t box) e
    ∙ row_next x (prefix ++ row) (length prefix + place) box
    ∙ ap (λ t. x ∷ t) (row_after prefix row place box)

widened_stood : (always : Bool) (o : Option Reach) (box : Sides)
    → reach_widened (standing always o) box ≡ reach_widened o box
widened_stood always (Some reach) box = refl
widened_stood false None box = refl
widened_stood true None box =
    let l : max 0 (left_of box.left) ≡ left_of box.left = omega arith in
    let r : max 0 (right_of box.right) ≡ right_of box.right = omega arith in
    rw (l, r) refl

row_stood : (always : Bool) (row : List (Option Reach)) (place : ℕ) (box : Sides)
    → widened_row (map (standing always) row) place box ≡ map (standing always) (widened_row row place box)
row_stood always [] place box = let e : nat_lt place 0 ≡ false = grind arith in rw e refl
row_stood always (o ∷ row) zero box =
    rw (inside (length (map (standing always) row)), inside (length row))
    (ap (λ t. Some t ∷ map (standing always) row) (widened_stood always o box))
row_stood always (o ∷ row) (suc place) box =
    row_next (standing always o) (map (standing always) row) place box
    ∙ ap (λ t. standing always o ∷ t) (row_stood always row place box)
    ∙ sym (ap (λ t. map (standing always) t) (row_next o row place box))

-- ---- columns whose reaches depend on their rank
module _ (lengths : List ℕ) where
  abbrev made : (ℕ → Bool → List (Option Reach)) → ℕ → List ColumnKey → List Column
  made f rank [] = []
  made f rank (key ∷ following) =
      record { key = key; reaches = f rank (stands_always key.class); natural = natural_of key following lengths }
      ∷ made f (rank + 1) following

  made_same : (f g : ℕ → Bool → List (Option Reach)) (rank : ℕ) (keys : List ColumnKey)
      → ((k : ℕ) (always : Bool) → rank ≤ k → f k always ≡ g k always) → made f rank keys ≡ made g rank keys
  made_same f g rank [] h = refl
  made_same f g rank (key ∷ following) h =
      let here = h rank (stands_always key.class) (omega arith) in
      let rest = made_same f g (rank + 1) following (λ k always l. h k always (omega (arith, l))) in
      rw (here, rest) refl

  at_next : (c : Column) (columns : List Column) (rank place : ℕ) (box : Sides) (o : Option Column)
      → with_widened (c ∷ columns) (suc rank) place box o ≡ c ∷ with_widened columns rank place box o
  at_next c columns rank place box None = refl
  at_next c columns rank place box (Some column) = refl

  made_widened : (f g : ℕ → Bool → List (Option Reach)) (r place : ℕ) (box : Sides)
      → ((always : Bool) → widened_row (f r always) place box ≡ g r always)
      → ((k : ℕ) (always : Bool) → k ≢ r → f k always ≡ g k always)
      → (first i : ℕ) (keys : List ColumnKey) → first + i ≡ r
      → widened_at (made f first keys) i place box ≡ made g first keys
  made_widened f g r place box here apart first zero [] e = refl
  made_widened f g r place box here apart first (suc i) [] e = refl
  made_widened f g r place box here apart first zero (key ∷ following) e =
      let at : first ≡ r = omega (arith, e) in
      let head : widened_row (f first (stands_always key.class)) place box ≡ g first (stands_always key.class) =
      subst (λ t. widened_row (f t (stands_always key.class)) place box ≡ g t (stands_always key.class)) (sym at)
      (here (stands_always key.class)) in
      let rest = made_same f g (first + 1) following (λ k always l. apart k always (omega (arith, l, at))) in
      rw (head, rest) refl
  made_widened f g r place box here apart first (suc i) (key ∷ following) e =
      let head = apart first (stands_always key.class) (omega (arith, e)) in
      let rest = made_widened f g r place box here apart (first + 1) i following (omega (arith, e)) in
      at_next _ (made f (first + 1) following) i place box _ ∙ rw (head, rest) refl

  -- ---- the lanes of a staff, with those before and after them
  module _ (keys : List ColumnKey) (prefix : ℕ → Bool → List (Option Reach)) (back : Bool → List (Option Reach))
      (start lanes : ℕ) (long : (k : ℕ) (always : Bool) → length (prefix k always) ≡ start) where
    abbrev framed : List Laid → ℕ → Bool → List (Option Reach)
    framed marks k always = prefix k always ++ (map (standing always) (drawn_row marks lanes k) ++ back always)

    frame_same : (marks more : List Laid) (k : ℕ) (always : Bool)
        → drawn_row marks lanes k ≡ drawn_row more lanes k → framed marks k always ≡ framed more k always
    frame_same marks more k always e = ap (λ t. prefix k always ++ (map (standing always) t ++ back always)) e

    frame_widened : (marks more : List Laid) (k place : ℕ) (box : Sides) (always : Bool)
        → place < lanes → widened_row (drawn_row marks lanes k) place box ≡ drawn_row more lanes k
        → widened_row (framed marks k always) (start + place) box ≡ framed more k always
    frame_widened marks more k place box always l e =
        let stood = map (standing always) (drawn_row marks lanes k) in
        let inside : place < length stood = subst (λ t. place < t)
        (sym (length-map (drawn_row marks lanes k) (standing always) ∙ row_length marks lanes k)) l in
        ap (λ t. widened_row (framed marks k always) (t + place) box) (sym (long k always))
        ∙ row_after (prefix k always) (stood ++ back always) place box
        ∙ ap (λ t. prefix k always ++ t) (row_prefix stood (back always) place box inside)
        ∙ ap (λ t. prefix k always ++ (t ++ back always))
        (row_stood always (drawn_row marks lanes k) place box ∙ ap (λ t. map (standing always) t) e)

    still : (marks : List Laid) (laid : Laid)
        → ((rank lane : ℕ) → lane < lanes → box_at rank lane laid ≡ None)
        → made (framed marks) 0 keys ≡ made (framed (marks ++ laid ∷ [])) 0 keys
    still marks laid none = made_same (framed marks) (framed (marks ++ laid ∷ [])) 0 keys
        (λ k always l. frame_same marks (marks ++ laid ∷ []) k always (none_more marks laid lanes k (none k)))

    box_more : (marks : List Laid) (laid : Laid) (r l : ℕ) (box : Sides)
        → ((rank lane : ℕ) → box_at rank lane laid ≡ (if (rank == r) && (lane == l) then Some box else None))
        → widened_by (made (framed marks) 0 keys) (Some r) (place_of_lane start lanes (Some l)) (Some box)
        ≡ made (framed (marks ++ laid ∷ [])) 0 keys
    box_more marks laid r l box is = by (nat_lt l lanes) refl
      where
        apart : (k lane : ℕ) → k ≢ r → (if (k == r) && (lane == l) then Some box else None) ≡ None
        apart k lane ne = grind (arith, ne)

        past : (k lane : ℕ)
            → lane < lanes → nat_lt l lanes ≡ false → (if (k == r) && (lane == l) then Some box else None) ≡ None
        past k lane m e = grind (arith, m, e)

        by : (b : Bool) → nat_lt l lanes ≡ b
            → widened_by (made (framed marks) 0 keys) (Some r) (place_of_lane start lanes (Some l)) (Some box)
            ≡ made (framed (marks ++ laid ∷ [])) 0 keys
        by false e = rw e (still marks laid (λ k lane m. is k lane ∙ past k lane m e))
        by true e =
            let lt : l < lanes = grind (arith, e) in
            rw e (made_widened (framed marks) (framed (marks ++ laid ∷ [])) r (start + l) box
            (λ always.
            frame_widened marks (marks ++ laid ∷ []) r l box always lt (row_more marks laid lanes r l box is lt))
            (λ k always ne.
            frame_same marks (marks ++ laid ∷ []) k always
            (none_more marks laid lanes k (λ lane m. is k lane ∙ apart k lane ne)))
            0 r keys (omega arith))

    mark_more : (marks : List Laid) (laid : Laid)
        → widened_by_mark (made (framed marks) 0 keys) start lanes laid ≡ made (framed (marks ++ laid ∷ [])) 0 keys
    mark_more marks laid = by (rank_of_mark laid.mark) refl (lane_number laid.lane) refl (sides_of laid.mark) refl
      where
        no_lane : (b : Bool) → (b && false) ≡ false
        no_lane true = refl
        no_lane false = refl

        no_box : (b : Bool) → ◌≡◌ {A = Option Sides} (if b then None else None) None
        no_box true = refl
        no_box false = refl

        boxless : (r : ℕ) (o : Option ℕ)
            → widened_by (made (framed marks) 0 keys) (Some r) o None ≡ made (framed marks) 0 keys
        boxless r None = refl
        boxless r (Some place) = refl

        by : (r : Option ℕ) → rank_of_mark laid.mark ≡ r → (l : Option ℕ) → lane_number laid.lane ≡ l
            → (s : Option Sides)
            → sides_of laid.mark ≡ s
            → widened_by (made (framed marks) 0 keys) r (place_of_lane start lanes l) s
            ≡ made (framed (marks ++ laid ∷ [])) 0 keys
        by None e l f s g = still marks laid (λ rank lane m. rw e refl)
        by (Some r) e None f s g = still marks laid (λ rank lane m. rw (e, f, no_lane (rank == r)) refl)
        by (Some r) e (Some l) f None g =
            boxless r (place_of_lane start lanes (Some l))
            ∙ still marks laid (λ rank lane m. rw (e, f, g) (no_box ((rank == r) && (lane == l))))
        by (Some r) e (Some l) f (Some box) g =
            box_more marks laid r l box (λ rank lane. box_is rank lane r l box laid e f g)

    marks_from : (done marks : List Laid)
        → widened_by_marks (made (framed done) 0 keys) start lanes marks ≡ made (framed (done ++ marks)) 0 keys
    marks_from done [] = ap (λ t. made (framed t) 0 keys) (sym (append-nil done))
    marks_from done (laid ∷ marks) =
        ap (λ t. widened_by_marks t start lanes marks) (mark_more done laid) ∙ marks_from (done ++ laid ∷ []) marks
        ∙ ap (λ t. made (framed t) 0 keys) (append_assoc done (laid ∷ []) marks)

  -- ---- staff by staff
  bare_row : (always : Bool) (lanes k : ℕ)
      → replicate lanes (standing always None) ≡ map (standing always) (drawn_row [] lanes k)
  bare_row always lanes k = stood 0 lanes
    where
      stood : (a n : ℕ)
          → replicate n (standing always None) ≡ map (standing always) (map (λ k. None) (range_with_len a n))
      stood a zero = refl
      stood a (suc n) = ap (λ t. standing always None ∷ t) (stood (a + 1) n)

  staves_from : (keys : List ColumnKey) (prefix : ℕ → Bool → List (Option Reach)) (start : ℕ)
      → ((k : ℕ) (always : Bool) → length (prefix k always) ≡ start)
      → (staves : List StaffMarks) (verses : List ℕ) → length verses ≡ length staves
      → widened_by_staves
      (made (λ k always. prefix k always ++ replicate (lanes_of verses) (standing always None)) 0 keys) start staves
      verses
      ≡ made (λ k always. prefix k always ++ reaches_of always k staves verses) 0 keys
  staves_from keys prefix start long [] [] h = refl
  staves_from keys prefix start long [] (v ∷ verses) h = grind (arith, h)
  staves_from keys prefix start long (staff ∷ staves) [] h = grind (arith, h)
  staves_from keys prefix start long (staff ∷ staves) (v ∷ verses) h =
      ap (λ t.
      widened_by_staves (widened_by_marks t start (lane_count v) staff.marks) (start + lane_count v) staves verses)
      (made_same _ (framed keys prefix back start (lane_count v) long []) 0 keys
      (λ k always l.
      ap (λ t. prefix k always ++ t)
      (sym (replicate-append-replicate (lane_count v) (lanes_of verses) (standing always None))
      ∙ ap (λ t. t ++ back always) (bare_row always (lane_count v) k))))
      ∙ ap (λ t. widened_by_staves t (start + lane_count v) staves verses)
      (marks_from keys prefix back start (lane_count v) long [] staff.marks)
      ∙ ap (λ t. widened_by_staves t (start + lane_count v) staves verses)
      (made_same _ (λ k always. prefix' k always ++ back always) 0 keys
      (λ k always l. sym (append_assoc (prefix k always) (staff_reaches always k staff.marks v) (back always))))
      ∙ staves_from keys prefix' (start + lane_count v) long' staves verses (omega (arith, h))
      ∙ made_same _ _ 0 keys (λ k always l.
      append_assoc (prefix k always) (staff_reaches always k staff.marks v) (reaches_of always k staves verses))
    where
      back : Bool → List (Option Reach)
      back always = replicate (lanes_of verses) (standing always None)

      prefix' : ℕ → Bool → List (Option Reach)
      prefix' k always = prefix k always ++ staff_reaches always k staff.marks v

      long' : (k : ℕ) (always : Bool) → length (prefix' k always) ≡ start + lane_count v
      long' k always =
          let a = length-append (prefix k always) (staff_reaches always k staff.marks v) in
          let b = long k always in
          let c = row_long always k staff.marks v in
          omega (arith, a, b, c)

  bare_made : (n rank : ℕ) (keys : List ColumnKey)
      → bare_columns keys lengths n ≡ made (λ k always. replicate n (standing always None)) rank keys
  bare_made n rank [] = refl
  bare_made n rank (key ∷ following) = let e = bare_made n (rank + 1) following in rw e refl

  from_made : (staves : List StaffMarks) (verses : List ℕ) (rank : ℕ) (keys : List ColumnKey)
      → made (λ k always. reaches_of always k staves verses) rank keys ≡ columns_from rank keys staves lengths verses
  from_made staves verses rank [] = refl
  from_made staves verses rank (key ∷ following) = let e = from_made staves verses (rank + 1) following in rw e refl

  pub bare_long : (n : ℕ) (keys : List ColumnKey) → length (bare_columns keys lengths n) ≡ length keys
  bare_long n [] = refl
  bare_long n (key ∷ following) = ap (λ t. suc t) (bare_long n following)

  pub columns_many : (staves : List StaffMarks) (verses : List ℕ) (rank : ℕ) (keys : List ColumnKey)
      → length (columns_from rank keys staves lengths verses) ≡ length keys
  columns_many staves verses rank [] = refl
  columns_many staves verses rank (key ∷ following) = ap (λ t. suc t) (columns_many staves verses (rank + 1) following)

  pub columns_are : (keys : List ColumnKey) (staves : List StaffMarks) (verses : List ℕ) → length verses ≡ length staves
      → widened_by_staves (bare_columns keys lengths (lanes_of verses)) 0 staves verses
      ≡ columns_of keys staves lengths verses
  columns_are keys staves verses h =
      ap (λ t. widened_by_staves t 0 staves verses) (bare_made (lanes_of verses) 0 keys)
      ∙ staves_from keys (λ k always. []) 0 (λ k always. refl) staves verses h
      ∙ from_made staves verses 0 keys

-- Columns by key. If the marks of each staff have given boxes in the column of each key, the columns depend on these
-- boxes alone, whatever the ranks are. So columns of some measures and those of later ones come one after the other.
use Rattle.std.proofs.Common.{◌≡◌, ℕ, suc, ◌+◌, ◌-◌, ◌<◌, ◌≤◌, ◌==◌, Bool, true, false, List, [], ◌∷◌, ◌++◌, map}
use Rattle.std.proofs.Common.{length, Option, Some, None, refl, ap, ◌∙◌, arith, if◌then◌else◌}
use Rattle.std.proofs.lemmas.List.Elements.{Contains-get_or}
use Rattle.std.proofs.lemmas.List.Folds.{find-append}
use Rattle.std.specs.List.{AllByRecursion, Contains, find, range_with_len, slice_index_or}
use Rattle.std.specs.Option.{option_or}
use Rattle.mus_onsets.specs.declared.keys.ColumnKey.{ColumnKey}
use Rattle.mus_onsets.specs.Order.{Rises, key_rank}
use Rattle.mus_onsets.proofs.RankLaws.{rank_at_place}
use Rattle.mus_laid.specs.declared.boxes.Sides.{Sides}
use Rattle.mus_laid.specs.declared.laid.Laid.{Laid}
use Rattle.mus_laid.specs.declared.laid.StaffMarks.{StaffMarks}
use Rattle.lay_springs.specs.declared.traits.Reach.{Reach}
use Rattle.lay_reaches.specs.declared.column.Column.{Column}
use Rattle.lay_reaches.specs.Columns.{columns_from, columns_of}
use Rattle.lay_reaches.specs.Lanes.{lane_count}
use Rattle.lay_reaches.specs.Naturals.{is_note_key, is_note_of, natural_for, natural_of, tick_or_end}
use Rattle.lay_reaches.specs.Reaches.{boxes_at, drawn_reach, reach_over, reaches_of, standing, stands_always}
use Rattle.lay_reaches.proofs.Rows.{same_range}

-- the marks of a staff have these boxes, by key and lane, in the columns of some keys
abbrev pub HasBoxes : List ColumnKey → List Laid → (ColumnKey → ℕ → List Sides) → Type 0
HasBoxes keys marks boxes =
    (k : ColumnKey) (lane : ℕ) → Contains keys k → boxes_at (key_rank keys k) lane marks ≡ boxes k lane

-- reaches and columns of staves from their boxes
abbrev pub keyed_reaches : {X : Type 0} → (X → ColumnKey → ℕ → List Sides)
    → ColumnKey → List X → List ℕ → List (Option Reach)
keyed_reaches boxes key [] verses = []
keyed_reaches boxes key (x ∷ staves) [] = []
keyed_reaches boxes key (x ∷ staves) (count ∷ verses) =
    map (standing (stands_always key.class))
    (map (λ lane. reach_over (boxes x key lane)) (range_with_len 0 (lane_count count)))
    ++ keyed_reaches boxes key staves verses

abbrev pub keyed_columns : {X : Type 0} → (X → ColumnKey → ℕ → List Sides)
    → List ColumnKey → List X → List ℕ → List ℕ → List Column
keyed_columns boxes [] staves lengths verses = []
keyed_columns boxes (key ∷ following) staves lengths verses = record {
  key = key;
  reaches = keyed_reaches boxes key staves verses;
  natural = natural_of key following lengths;
} ∷ keyed_columns boxes following staves lengths verses

-- ---- a key of an earlier measure has its natural length by keys of earlier measures
none_of : (b m : ℕ) (more : List ColumnKey)
    → m < b → AllByRecursion (λ l. b ≤ l.measure) more → find (is_note_of m) more ≡ None
none_of b m [] before from = refl
none_of b m (key ∷ more) before from = by (is_note_key key) refl (none_of b m more before from.1)
  where
    by : (c : Bool) → is_note_key key ≡ c → find (is_note_of m) more ≡ None → find (is_note_of m) (key ∷ more) ≡ None
    by true e rest =
        let late = from.0 in
        let no : (key.measure == m) ≡ false = grind (arith, before, late) in
        rw (e, no) rest
    by false e rest = rw e rest

natural_more : (lengths : List ℕ) (b : ℕ) (key : ColumnKey) (keys more : List ColumnKey)
    → key.measure < b → AllByRecursion (λ l. b ≤ l.measure) more
    → natural_of key (keys ++ more) lengths ≡ natural_of key keys lengths
natural_more lengths b key keys more before from =
    ap (λ t. if is_note_key key then natural_for (tick_or_end key.measure t lengths - key.tick) else 0)
    (find-append (is_note_of key.measure) keys more
    ∙ ap (option_or (find (is_note_of key.measure) keys)) (none_of b key.measure more before from)
    ∙ by (find (is_note_of key.measure) keys))
  where
    by : (o : Option ColumnKey) → option_or o None ≡ o
    by None = refl
    by (Some key) = refl

module _ {X : Type 0} (lengths : List ℕ) where
  -- ---- columns by rank are columns by key
  module _ (marks : X → StaffMarks) (boxes : X → ColumnKey → ℕ → List Sides) (keys : List ColumnKey) where
    reaches_keyed : (k : ColumnKey) (staves : List X) (verses : List ℕ)
        → Contains keys k → AllByRecursion (λ x. HasBoxes keys (marks x).marks (boxes x)) staves
        → reaches_of (stands_always k.class) (key_rank keys k) (map marks staves) verses
        ≡ keyed_reaches boxes k staves verses
    reaches_keyed k [] verses has all = refl
    reaches_keyed k (x ∷ staves) [] has all = refl
    reaches_keyed k (x ∷ staves) (count ∷ verses) has all =
        let own = same_range (drawn_reach (marks x).marks (key_rank keys k)) (λ lane. reach_over (boxes x k lane))
        (lane_count count) None (λ lane inside. ap reach_over (all.0 k lane has)) in
        rw (own, reaches_keyed k staves verses has all.1) refl

    from_rank : (rank : ℕ) (ks : List ColumnKey) (staves : List X) (verses : List ℕ)
        → AllByRecursion (λ x. HasBoxes keys (marks x).marks (boxes x)) staves
        → ((i : ℕ) (d : ColumnKey) → i < length ks
        → (key_rank keys (slice_index_or ks i d) ≡ rank + i) × Contains keys (slice_index_or ks i d))
        → columns_from rank ks (map marks staves) lengths verses ≡ keyed_columns boxes ks staves lengths verses
    from_rank rank [] staves verses all at = refl
    from_rank rank (k ∷ ks) staves verses all at =
        let here = at 0 k (omega arith) in
        let rank_is : rank ≡ key_rank keys k = let e = here.0 in omega (arith, e) in
        let own = ap (λ r. reaches_of (stands_always k.class) r (map marks staves) verses) rank_is
        ∙ reaches_keyed k staves verses here.1 all in
        let more = from_rank (rank + 1) ks staves verses all (λ i d inside.
        let next = at (suc i) d (omega (arith, inside)) in (let e = next.0 in omega (arith, e), next.1)) in
        rw (own, more) refl

    pub columns_keyed : (staves : List X) (verses : List ℕ)
        → Rises keys → AllByRecursion (λ x. HasBoxes keys (marks x).marks (boxes x)) staves
        → columns_of keys (map marks staves) lengths verses ≡ keyed_columns boxes keys staves lengths verses
    columns_keyed staves verses rise all =
        from_rank 0 keys staves verses all
        (λ i d inside.
        let r = rank_at_place keys i d rise inside in (omega (arith, r), Contains-get_or keys i d inside))

  -- ---- where boxes are the same
  module _ (f g : X → ColumnKey → ℕ → List Sides) where
    same_reaches : (k : ColumnKey) (staves : List X) (verses : List ℕ)
        → AllByRecursion (λ x. (lane : ℕ) → f x k lane ≡ g x k lane) staves
        → keyed_reaches f k staves verses ≡ keyed_reaches g k staves verses
    same_reaches k [] verses all = refl
    same_reaches k (x ∷ staves) [] all = refl
    same_reaches k (x ∷ staves) (count ∷ verses) all =
        let own = same_range (λ lane. reach_over (f x k lane)) (λ lane. reach_over (g x k lane)) (lane_count count) None
        (λ lane inside. ap reach_over (all.0 lane)) in
        rw (own, same_reaches k staves verses all.1) refl

    pub keyed_same : (ks : List ColumnKey) (staves : List X) (verses : List ℕ)
        → AllByRecursion (λ k. AllByRecursion (λ x. (lane : ℕ) → f x k lane ≡ g x k lane) staves) ks
        → keyed_columns f ks staves lengths verses ≡ keyed_columns g ks staves lengths verses
    keyed_same [] staves verses all = refl
    keyed_same (k ∷ ks) staves verses all =
        rw (same_reaches k staves verses all.0, keyed_same ks staves verses all.1) refl

  pub keyed_append : (boxes : X → ColumnKey → ℕ → List Sides) (b : ℕ) (keys more : List ColumnKey) (staves : List X)
      (verses : List ℕ)
      → AllByRecursion (λ k. k.measure < b) keys → AllByRecursion (λ l. b ≤ l.measure) more
      → keyed_columns boxes (keys ++ more) staves lengths verses
      ≡ keyed_columns boxes keys staves lengths verses ++ keyed_columns boxes more staves lengths verses
  keyed_append boxes b [] more staves verses before from = refl
  keyed_append boxes b (k ∷ keys) more staves verses before from =
      rw (
        natural_more lengths b k keys more before.0 from,
        keyed_append boxes b keys more staves verses before.1 from,
      ) refl

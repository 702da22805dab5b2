-- The columns of a span that fits are set to the width, and the marks of its system are tilted over them.
use Rattle.std.specs.List.{range_with_len}
use Rattle.std.proofs.Common.{◌≡◌, refl, sym, ap, ℕ, suc, ◌+◌, ◌-◌, ◌*◌, ◌/◌, ◌<◌, ◌≤◌, ◌==◌, if◌then◌else◌, inl, inr}
use Rattle.std.proofs.Common.{Bool, true, false, ℤ, pos, negsuc, ◌+ℤ◌, ◌≤ℤ◌, List, length, map, Option, slice_index}
use Rattle.std.proofs.Common.{slice_index_or, arith, ◌∙◌, subst}
use Rattle.std.proofs.lemmas.Bool.{cases_lt, true≢false}
use Rattle.std.proofs.lemmas.Int.{ints}
use Rattle.std.proofs.lemmas.List.FromFn.{get_or-map-range_with_len, length-map-range_with_len}
use Rattle.mus_score.specs.declared.score.Score.{Score}
use Rattle.mus_score.specs.GoodScore.{IsGoodScore}
use Rattle.mus_onsets.specs.Onsets.{timeline_of}
use Rattle.mus_laid.specs.declared.laid.SystemMarks.{SystemMarks}
use Rattle.mus_marks.specs.System.{drawn_staves}
use Rattle.mus_marks.specs.Tilt.{IsTilted, tilted_staff}
use Rattle.mus_marks.proofs.Alike.{tilted_alike}
use Rattle.lay_springs.specs.declared.margin.Placed.{Placed}
use Rattle.lay_springs.specs.declared.traits.Reach.{Reach}
use Rattle.lay_springs.specs.Place.{IsPlace, StandApart, length_at, reach_at}
use Rattle.lay_springs.specs.Fit.{Fits, IsSet, is_ragged, IsEndOf, counted}
use Rattle.lay_springs.proofs.Longer.{fewer_apart}
use Rattle.lay_springs.proofs.Made.{has_place}
use Rattle.lay_springs.proofs.Moved.{set_apart}
use Rattle.lay_tune.specs.Spans.{IsForceOf, IsSpanCost, column_length, score_gaps, system_columns, verses_of}
use Rattle.lay_tune.specs.Systems.{IsJustified, IsSetSystem, IsPlaced}
use Rattle.lay_tune.proofs.Called.{has_system}
use Rattle.lay_tune.proofs.Within.{placed_ends}
use Rattle.law_one_outcome.proofs.Spans.{columns_near, columns_short}
use Rattle.std.proofs.lemmas.List.{ext_get_or}
use Rattle.lay_reaches.specs.declared.column.Column.{Column}
use Rattle.lay_reaches.specs.Columns.{column_reach}
use Rattle.lay_springs.proofs.Unique.{one_place}
use Rattle.lay_tune.proofs.Breakings.{one_force}
use Rattle.lay_reaches.{specs.{declared.column.Column.Column, Columns.column_reach}, proofs.Gaps.gaps_narrow}

-- what a width leaves past an end
rest_of : (e : ℤ) (width : ℕ) → e ≤ℤ pos width → (rest : ℕ) × ((e +ℤ pos rest) ≡ pos width)
rest_of (pos k) width l = (width - k, omega (arith, ints, l))
rest_of (negsuc k) width l = (width + suc k, omega (arith, ints))

-- columns that fit a width are set to it
has_set : (n : ℕ) (reach : ℕ → ℕ → Option Reach) (gaps : List ℕ) (spring : ℕ → ℕ → ℕ) (width force : ℕ)
    → Fits n reach gaps spring width force
    → (at : List ℤ) × IsSet n reach gaps spring width force at × StandApart n reach gaps (spring force) at
has_set n reach gaps spring width force (e, ends, l) = elim (cases_lt 1 n) [
  | inl several ↦
      let rest = rest_of e width l in
      let f = λ (k : ℕ). slice_index_or ends.x k (pos 0) +ℤ pos (rest.0 * k / (n - 1)) in
      let is : IsSet n reach gaps spring width force (map f (range_with_len 0 n)) = record {
        x = ends.x;
        place = ends.place;
        count = length-map-range_with_len f 0 n;
        alone = λ one. absurd (omega (arith, one, several));
        moved =
            λ _.
            (e, rest.0, ends.end, rest.1, λ k less. get_or-map-range_with_len f 0 n k k (pos 0) less (omega arith));
      } in
      (map f (range_with_len 0 n), is, set_apart n reach gaps spring width force _ (omega (arith, several)) is)
  | inr few ↦ (
    ends.x,
    record {
      x = ends.x;
      place = ends.place;
      count = ends.place.count;
      alone = λ _. refl;
      moved = λ several. absurd (omega (arith, few, several));
    },
    ends.place.apart,
  )
]

-- columns at their greatest force
module _ (columns : List Column) (gaps : List ℕ) (width force : ℕ)
    (narrow : (lane : ℕ) → lane < length gaps → slice_index gaps lane ≤ 1048576)
    (h : IsForceOf gaps width columns force) where
  -- they have a place at the natural force, even if there are none
  has_natural : (x : List ℤ)
      × IsPlace (length columns) (reach_at column_reach columns) gaps (length_at column_length columns 256) x
  has_natural = elim (cases_lt 0 (length columns)) [
    | inl some ↦
        has_place (length columns) (reach_at column_reach columns) gaps (length_at column_length columns 256)
        (λ k lane _. columns_near columns k lane) narrow
        (λ i. columns_short columns 256 i (omega arith)) some
    | inr none ↦
        let place = h.fits.1.place in
        let apart = fewer_apart (length columns) (length columns) _ _ gaps (length_at column_length columns 256)
        (length_at column_length columns force) h.fits.1.x (omega arith)
        (λ i lane l. refl) (λ i l. absurd (omega (arith, none, l))) place.apart in
        (h.fits.1.x, record { count = place.count; apart = apart; least = λ y a k l. absurd (omega (arith, none, l)) })
  ]

  -- and they are justified
  has_justified : (last : Bool) → (p : Placed) × IsJustified gaps width last columns p
  has_justified last = by (is_ragged last force) refl
    where
      by : (b : Bool) → is_ragged last force ≡ b → (p : Placed) × IsJustified gaps width last columns p
      by true e = (
        record { force = 256; ragged = true; at = has_natural.0 },
        record {
          pressed = (force, h, sym (ap (λ b. if b then 256 else force) e), sym e);
          loose = λ _. has_natural.1;
          set = λ is. absurd (true≢false is);
          apart = has_natural.1.apart;
        },
      )
      by false e =
          let set = has_set (length columns) (reach_at column_reach columns) gaps (length_at column_length columns)
          width force h.fits in (
            record { force = force; ragged = false; at = set.0 },
            record {
              pressed = (force, h, sym (ap (λ b. if b then 256 else force) e), sym e);
              loose = λ is. absurd (true≢false (sym is));
              set = λ _. set.1;
              apart = set.2;
            },
          )

-- a span that has a cost has a system, set to the width
pub has_set_system : (s : Score) (width a b v : ℕ)
    → IsGoodScore s → (0 < s.measures → 1 ≤ length s.voices) → a < b → b ≤ s.measures → IsSpanCost s width a b v
    → (m : SystemMarks) × (p : Placed) × IsSetSystem s width a b m p
has_set_system s width a b v good heard rises within cost =
    let flat = has_system s a b in
    let placed = has_justified (system_columns s flat.0) (score_gaps s) width cost.pressed.0
    (λ lane l. gaps_narrow (verses_of s) lane 0 l) (cost.pressed.2 flat.0 flat.1) (flat.0.b == s.measures) in
    let keys = flat.0.keys in
    let m : SystemMarks = record {
      a = a;
      b = b;
      keys = keys;
      staves = map (tilted_staff keys (timeline_of s).lengths placed.0.at a b) (drawn_staves s);
    } in
    let tilted : IsTilted s (timeline_of s) a b placed.0.at m =
    record { from = refl; to = refl; keys = flat.1.keys; staves = refl } in (
      m,
      placed.0,
      record {
        flat = flat.0;
        called = flat.1;
        placed = placed.1;
        ends = placed_ends s width a b flat.0 placed.0 good heard rises within flat.1 placed.1;
        tilted = tilted;
        alike = tilted_alike s (timeline_of s) a b placed.0.at m tilted flat.0 flat.1;
      },
    )

-- ---- columns set to a width
-- a column has one end
one_end : (reach : ℕ → Option Reach) (lanes : ℕ) (at d e : ℤ)
    → IsEndOf reach lanes at d → IsEndOf reach lanes at e → d ≡ e
one_end reach lanes at d e h k =
    let a = h.least e k.past k.reaches in let b = k.least d h.past h.reaches in omega (arith, ints)

-- x moved right by the parts of the width left past its end
abbrev IsMoved : ℕ → (ℕ → Option Reach) → ℕ → ℕ → List ℤ → List ℤ → Type 0
IsMoved n reach lanes width x at =
    (e : ℤ) × (rest : ℕ) × IsEndOf reach lanes (slice_index_or x (n - 1) (pos 0)) e × ((e +ℤ pos rest) ≡ pos width)
    × ((k : ℕ) → k < n → slice_index_or at k (pos 0) ≡ (slice_index_or x k (pos 0) +ℤ pos (rest * k / (n - 1))))

moved_alike : (n : ℕ) (reach : ℕ → Option Reach) (lanes width : ℕ) (x at to : List ℤ)
    → IsMoved n reach lanes width x at → IsMoved n reach lanes width x to
    → (k : ℕ) → k < n → slice_index_or at k (pos 0) ≡ slice_index_or to k (pos 0)
moved_alike n reach lanes width x at to (d, rest, end, whole, stand) (e, more, other, full, fall) k less =
    let same = one_end reach lanes (slice_index_or x (n - 1) (pos 0)) d e end other in
    let left : rest ≡ more = omega (arith, ints) in
    stand k less ∙ sym (fall k less ∙ rw (← left) refl)

-- columns are set to a width in only one way
one_set : (n : ℕ) (reach : ℕ → ℕ → Option Reach) (gaps : List ℕ) (spring : ℕ → ℕ → ℕ) (width force : ℕ) (at to : List ℤ)
    → IsSet n reach gaps spring width force at → IsSet n reach gaps spring width force to → at ≡ to
one_set n reach gaps spring width force at to h g =
    let same = one_place n reach gaps (spring force) h.x g.x h.place g.place in let count = h.count in
    ext_get_or (pos 0) at to (h.count ∙ sym g.count) (λ k less. elim (cases_lt 1 n) [
      | inl some ↦
          moved_alike n (reach (n - 1)) (length gaps) width h.x at to (h.moved some)
          (subst (λ x. IsMoved n (reach (n - 1)) (length gaps) width x to) (sym same) (g.moved some)) k
          (omega (arith, less, count))
      | inr few ↦
          let lone : n ≡ 1 = omega (arith, less, count, few) in
          ap (λ l. slice_index_or l k (pos 0)) (h.alone lone ∙ (same ∙ sym (g.alone lone)))
    ])

-- ---- justified columns
abbrev placed_at : ℕ → Bool → List ℤ → Placed
placed_at force ragged at = record { force = force; ragged = ragged; at = at }

-- columns at one force are placed in only one way
one_at : (gaps : List ℕ) (width : ℕ) (last : Bool) (columns : List Column) (force : ℕ) (ragged : Bool) (at to : List ℤ)
    → IsJustified gaps width last columns (placed_at force ragged at)
    → IsJustified gaps width last columns (placed_at force ragged to)
    → at ≡ to
one_at gaps width last columns force true at to h k =
    one_place (length columns) (reach_at column_reach columns) gaps (length_at column_length columns force) at to
    (h.loose refl) (k.loose refl)
one_at gaps width last columns force false at to h k =
    one_set (length columns) (reach_at column_reach columns) gaps (length_at column_length columns) width force at to
    (h.set refl) (k.set refl)

one_justified : (gaps : List ℕ) (width : ℕ) (last : Bool) (columns : List Column) (p q : Placed)
    → IsJustified gaps width last columns p → IsJustified gaps width last columns q → p ≡ q
one_justified gaps width last columns p q h k =
    let forces = one_force gaps width columns h.pressed.0 k.pressed.0 h.pressed.1 k.pressed.1 in
    let force : p.force ≡ q.force = h.pressed.2 ∙ ap (counted last) forces ∙ sym k.pressed.2 in
    let ragged : p.ragged ≡ q.ragged = h.pressed.3 ∙ ap (is_ragged last) forces ∙ sym k.pressed.3 in
    let under : placed_at p.force p.ragged q.at ≡ q =
    (let made : placed_at p.force p.ragged q.at ≡ placed_at q.force q.ragged q.at = cc in made) in
    let at = one_at gaps width last columns p.force p.ragged p.at q.at h
    (subst (IsJustified gaps width last columns) (sym under) k) in
    let made : placed_at p.force p.ragged p.at ≡ placed_at p.force p.ragged q.at = cc in made ∙ under

-- the columns of a system are placed in only one way
pub one_placed : (s : Score) (width : ℕ) (m : SystemMarks) (p q : Placed)
    → IsPlaced s width m p → IsPlaced s width m q → p ≡ q
one_placed s width m p q h k = one_justified (score_gaps s) width (m.b == s.measures) (system_columns s m) p q h k

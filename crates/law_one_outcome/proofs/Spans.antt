-- Every score has a list of the spans that fit a width.
use Rattle.std.proofs.Common.{◌≡◌, ℕ, zero, suc, ◌+◌, ◌-◌, ◌<◌, ◌≤◌, ◌^◌, ◌⊎◌, inl, inr, Bool, true, false, List, []}
use Rattle.std.proofs.Common.{◌∷◌, ◌++◌, length, length-append, IfSome, slice_index, refl, subst, arith, ◌∙◌}
use Rattle.std.proofs.Common.{if◌then◌else◌, Option, Some, None, sym, ap}
use Rattle.std.specs.List.{All}
use Rattle.mus_score.specs.declared.score.Score.{Score}
use Rattle.mus_score.specs.GoodScore.{IsGoodScore}
use Rattle.lay_breaks.specs.declared.costs.Span.{Span}
use Rattle.lay_breaks.specs.Spans.{AreSpans, IsNextSpan, SpansFrom, ends_are, has_ends, has_these, listed}
use Rattle.lay_rows.specs.Tables.{IsForceTable}
use Rattle.lay_springs.specs.Place.{length_at, reach_at}
use Rattle.lay_springs.specs.ReachView.{reach_in_near}
use Rattle.lay_springs.proofs.Ends.{lengths_short}
use Rattle.lay_springs.proofs.Extending.{near_at}
use Rattle.lay_reaches.specs.declared.column.Column.{Column}
use Rattle.lay_reaches.specs.Column.{length_short}
use Rattle.lay_reaches.specs.Columns.{column_reach}
use Rattle.lay_reaches.proofs.Gaps.{gaps_narrow}
use Rattle.lay_spans.specs.Columns.{AreMeasures, span_columns}
use Rattle.lay_spans.specs.Forced.{is_forced}
use Rattle.lay_spans.specs.Rows.{IsRowFrom, rows_spans}
use Rattle.lay_spans.specs.SpanList.{HasForce}
use Rattle.lay_spans.proofs.Adding.{columns_some}
use Rattle.lay_spans.proofs.Growing.{forces_more, free_more, rows_are_spans, rows_tell_spans, stops_at, stops_after}
use Rattle.lay_tune.specs.Spans.{AreSpansOf, CanStandIn, IsForceOf, column_length, score_gaps, verses_of}
use Rattle.lay_tune.proofs.Open.{spans_read, some_of}
use Rattle.law_one_outcome.proofs.Columns.{has_each, have_measures}
use Rattle.law_one_outcome.proofs.Forced.{has_force}
use Rattle.std.proofs.lemmas.Option.{none-some, same_Some}
use Rattle.lay_tune.proofs.Breakings.{cost_can_be, one_cost}
use Rattle.lay_tune.proofs.Called.{has_system}

-- the reaches and the springs of any columns are small
pub columns_near : (columns : List Column) (k lane : ℕ)
    → IfSome (reach_at column_reach columns k lane) (λ r. (r.left ≤ 1048576) × (r.right ≤ 1048576))
columns_near columns k lane =
    near_at column_reach columns (λ r. (r.left ≤ 1048576) × (r.right ≤ 1048576)) lane
    (λ c. reach_in_near c.reaches lane) k

pub columns_short : (columns : List Column) (force i : ℕ)
    → force ≤ 2048 → length_at column_length columns force i ≤ 1048576
columns_short columns force i bound =
    lengths_short column_length columns force i (λ c. length_short c.natural force (omega (arith, bound)))

module _ (gaps : List ℕ) (width : ℕ) (narrow : All (λ g. g ≤ 2 ^ 20) gaps) where
  pub has_force_in : (columns : List Column)
      → 0 < length columns → ((force : ℕ) × IsForceOf gaps width columns force) ⊎ (CanStandIn gaps width columns → ⊥)
  has_force_in columns some =
      has_force (length columns) (reach_at column_reach columns) gaps (length_at column_length columns) width some
      (λ k lane l. columns_near columns k lane) (λ lane l. narrow lane 0 l) (columns_short columns)

  -- the row of bar a
  module _ (starts others : List (List Column)) (forced : ℕ → Bool)
      (measures : AreMeasures column_reach (length gaps) starts others) (a : ℕ) (inside : a < length starts) where
    abbrev IsRow : List ℕ → Type 0
    IsRow row = IsRowFrom column_reach column_length gaps width starts others forced a row

    abbrev Has : ℕ → ℕ → Type 0
    Has b force = HasForce column_reach column_length gaps width starts others forced a b force

    -- the part of it up to bar m, after which d measures are left
    row_on : (d m : ℕ) (row : List ℕ)
        → m + d ≡ length starts → a + length row ≡ m
        → ((k : ℕ) → k < length row → Has (a + 1 + k) (slice_index row k))
        → ((f : ℕ) → a < f → f < m + 1 → forced f ≡ true → ⊥) → (row : List ℕ) × IsRow row
    row_on zero m row left count each free = (
      row,
      record {
        within = omega (arith, left, count);
        each = each;
        stops = λ b past within. absurd (omega (arith, left, count, past, within));
      },
    )
    row_on (suc d) m row left count each free =
        elim (has_force_in (span_columns starts others a (m + 1))
        (columns_some starts others a (m + 1) (omega (arith, count)) (measures.begun a inside))) [
          | inr never ↦ (
            row,
            stops_at column_reach column_length gaps width starts others forced a m row measures inside
                (omega (arith, left)) count each never,
          )
          | inl pressed ↦
              let more =
              forces_more column_reach column_length gaps width starts others forced a m row pressed.0 count each
              (record { free = λ h. free h.0 h.1 h.2 h.3; pressed = pressed.1 }) in
              let next : List ℕ = row ++ pressed.0 ∷ [] in
              let grown = length-append row (pressed.0 ∷ []) in
              let longer : a + length next ≡ m + 1 = omega (arith, count, grown) in
              (elim (forced (m + 1)) as (λ t. forced (m + 1) ≡ t → (row : List ℕ) × IsRow row) [
                | true ↦ λ is. (
                  next,
                  stops_after column_reach column_length gaps width starts others forced a m next (omega (arith, left))
                      longer (omega (arith, count)) more is,
                )
                | false ↦ λ is. row_on d (m + 1) next (omega (arith, left)) longer more (free_more forced a m is free)
              ]) refl
        ]

    pub has_row : (row : List ℕ) × IsRow row
    has_row =
        row_on (length starts - a) a [] (omega (arith, inside)) (omega arith) (λ k l. absurd (omega (arith, l)))
        (λ f l k is. absurd (omega (arith, l, k)))

pub has_spans : (s : Score) (width : ℕ)
    → IsGoodScore s → (0 < s.measures → 1 ≤ length s.voices)
    → (spans : List Span) × AreSpans s.measures spans × AreSpansOf s width spans
has_spans s width good heard =
    let c = have_measures s good heard in let forced = is_forced (length c.starts) s.forced in
    let rows = has_each [] (IsRowFrom column_reach column_length (score_gaps s) width c.starts c.others forced)
    (length c.starts)
    (λ a l. has_row (score_gaps s) width (gaps_narrow (verses_of s)) c.starts c.others forced c.measures a l) in
    let table : IsForceTable
    (λ a row. IsRowFrom column_reach column_length (score_gaps s) width c.starts c.others forced a row)
    (length c.starts) rows.0 = record { count = rows.1; each = rows.2 } in (
      rows_spans (length c.starts) 0 rows.0,
      subst (λ n. AreSpans n (rows_spans (length c.starts) 0 rows.0)) c.count
          (rows_are_spans column_reach column_length (score_gaps s) width c.starts c.others forced rows.0 table),
      spans_read s width c.starts c.others (rows_spans (length c.starts) 0 rows.0) (score_gaps s) s.forced c.count
          refl refl c.join
          (rows_tell_spans column_reach column_length (score_gaps s) width c.starts c.others forced rows.0 table),
    )

-- a listed span is the first of the list, or listed after it
data Found (s : Span) (ss : List Span) (a b v : ℕ) : Type 0 where
  is_first : s.a ≡ a → s.b ≡ b → s.badness ≡ v → Found s ss a b v
  is_later : listed ss a b ≡ Some v → Found s ss a b v

found : (s : Span) (ss : List Span) (a b v : ℕ) → listed (s ∷ ss) a b ≡ Some v → Found s ss a b v
found s ss a b v e = at (has_ends a b s) refl e
  where
    at : (t : Bool) → has_ends a b s ≡ t → (if t then Some s.badness else listed ss a b) ≡ Some v → Found s ss a b v
    at true is e = let ends = ends_are a b s is in is_first ends.0 ends.1 (same_Some s.badness v e)
    at false is e = is_later e

-- ---- a list in order has each span once
abbrev IsPast : Span → ℕ → ℕ → Type 0
IsPast p a b = (p.a ≤ a) × (p.a ≡ a → p.b < b)

-- the span after p is past it
next_past : (p s : Span) → IsNextSpan p s → IsPast p s.a s.b
next_past p s (inl h) = let l = h.0 in (omega (arith, l), λ e. omega (arith, l, e))
next_past p s (inr h) = let l = h.0 in let m = h.1 in (omega (arith, l), λ e. omega (arith, m))

-- and so is any span past that
far_past : (p s : Span) (a b : ℕ) → IsPast p s.a s.b → IsPast s a b → IsPast p a b
far_past p s a b h k =
    let l = h.0 in let m = k.0 in let n = h.1 in let o = k.1 in (omega (arith, l, m), λ e. omega (arith, l, m, n, o, e))

-- a span listed after p is past p
listed_past : (n : ℕ) (p : Span) (ss : List Span)
    → SpansFrom n (Some p) ss → (a b v : ℕ) → listed ss a b ≡ Some v → IsPast p a b
listed_past n p [] h a b v e = absurd (none-some v e)
listed_past n p (s ∷ ss) h a b v e = elim (found s ss a b v e) [
  | is_first from to cost ↦ subst (λ x. IsPast p x b) from (subst (λ y. IsPast p s.a y) to (next_past p s h.0.follows))
  | is_later more ↦ far_past p s a b (next_past p s h.0.follows) (listed_past n s ss h.1 a b v more)
]

-- p is not listed after itself
not_again : (n : ℕ) (p : Span) (ss : List Span) → SpansFrom n (Some p) ss → listed ss p.a p.b ≡ None
not_again n p ss h = at (listed ss p.a p.b) refl
  where
    at : (o : Option ℕ) → listed ss p.a p.b ≡ o → o ≡ None
    at None e = refl
    at (Some v) e =
        absurd (let past = listed_past n p ss h p.a p.b v e in let less = past.1 refl in omega (arith, less))

-- ---- lists in order with the same members are equal
abbrev span_of : ℕ → ℕ → ℕ → Span
span_of a b badness = record { a = a; b = b; badness = badness }

first_listed : (s : Span) (ss : List Span) → listed (s ∷ ss) s.a s.b ≡ Some s.badness
first_listed s ss = rw (has_these s.a s.b s refl refl) refl

-- lists that each list the first of the other begin alike
same_first : (n : ℕ) (p s : Span) (ps ss : List Span)
    → SpansFrom n (Some p) ps → SpansFrom n (Some s) ss → Found p ps s.a s.b s.badness → Found s ss p.a p.b p.badness
    → p ≡ s
same_first n p s ps ss h k (is_first from to cost) other =
    let made : span_of p.a p.b p.badness ≡ span_of s.a s.b s.badness = cc in made
same_first n p s ps ss h k (is_later more) (is_first from to cost) =
    let made : span_of p.a p.b p.badness ≡ span_of s.a s.b s.badness = cc in made
same_first n p s ps ss h k (is_later more) (is_later others) =
    let past = listed_past n p ps h s.a s.b s.badness more in
    let back = listed_past n s ss k p.a p.b p.badness others in
    let l = past.0 in
    let m = back.0 in
    let e : p.a ≡ s.a = omega (arith, l, m) in
    let o = past.1 e in
    let q = back.1 (sym e) in
    absurd (omega (arith, o, q))

-- the members of the lists after the same span
following : (n : ℕ) (s : Span) (xs ys : List Span)
    → SpansFrom n (Some s) xs → SpansFrom n (Some s) ys → (a b : ℕ) → listed (s ∷ xs) a b ≡ listed (s ∷ ys) a b
    → listed xs a b ≡ listed ys a b
following n s xs ys h k a b e = at (has_ends a b s) refl e
  where
    at : (t : Bool) → has_ends a b s ≡ t
        → (if t then Some s.badness else listed xs a b) ≡ (if t then Some s.badness else listed ys a b)
        → listed xs a b ≡ listed ys a b
    at true is e = let ends = ends_are a b s is in rw (← ends.0, ← ends.1, not_again n s xs h, not_again n s ys k) refl
    at false is e = e

same_listed : (n : ℕ) (last past : Option Span) (xs ys : List Span)
    → SpansFrom n last xs → SpansFrom n past ys → ((a b : ℕ) → listed xs a b ≡ listed ys a b) → xs ≡ ys
same_listed n last past [] [] h k same = refl
same_listed n last past [] (y ∷ ys) h k same = absurd (none-some y.badness (same y.a y.b ∙ first_listed y ys))
same_listed n last past (x ∷ xs) [] h k same = absurd (none-some x.badness (sym (same x.a x.b) ∙ first_listed x xs))
same_listed n last past (x ∷ xs) (y ∷ ys) h k same =
    let e = same_first n x y xs ys h.1 k.1 (found x xs y.a y.b y.badness (same y.a y.b ∙ first_listed y ys))
    (found y ys x.a x.b x.badness (sym (same x.a x.b) ∙ first_listed x xs)) in
    let form = subst (λ z. SpansFrom n (Some z) ys) (sym e) k.1 in
    let more = same_listed n (Some x) (Some x) xs ys h.1 form
    (λ a b. following n x xs ys h.1 form a b (same a b ∙ ap (λ z. listed (z ∷ ys) a b) (sym e))) in
    cc

-- ---- the spans of a score
pub listed_within : (n : ℕ) (last : Option Span) (ss : List Span)
    → SpansFrom n last ss → (a b v : ℕ) → listed ss a b ≡ Some v → (a < b) × (b ≤ n)
listed_within n last [] h a b v e = absurd (none-some v e)
listed_within n last (s ∷ ss) h a b v e = elim (found s ss a b v e) [
  | is_first from to cost ↦
      (let rises = h.0.rises in let within = h.0.within in (omega (arith, rises, from, to), omega (arith, within, to)))
  | is_later more ↦ listed_within n (Some s) ss h.1 a b v more
]

agree : (o p : Option ℕ) → ((v : ℕ) → o ≡ Some v → p ≡ Some v) → ((v : ℕ) → p ≡ Some v → o ≡ Some v) → o ≡ p
agree None None on back = refl
agree None (Some v) on back = back v refl
agree (Some v) p on back = sym (on v refl)

-- a span that is in one list is in the other
also : (s : Score) (width : ℕ) (xs ys : List Span)
    → AreSpans s.measures xs → AreSpansOf s width xs → AreSpansOf s width ys → (a b v : ℕ) → listed xs a b ≡ Some v
    → listed ys a b ≡ Some v
also s width xs ys form exact others a b v e =
    let within = listed_within s.measures None xs form a b v e in
    let cost = exact.each a b v within.0 within.1 e in
    let system = has_system s a b in
    let stand = (cost_can_be s width a b v cost).stands system.0 system.1 in
    let some = some_of (listed ys a b) (others.fits a b system.0 within.0 within.1 cost.free system.1 stand) in
    some.1 ∙ ap Some (one_cost s width a b some.0 v (others.each a b some.0 within.0 within.1 some.1) cost)

-- a score has one list of the spans that fit a width
pub one_list : (s : Score) (width : ℕ) (xs ys : List Span)
    → AreSpans s.measures xs → AreSpans s.measures ys → AreSpansOf s width xs → AreSpansOf s width ys → xs ≡ ys
one_list s width xs ys formed ordered exact others =
    same_listed s.measures None None xs ys formed ordered (λ a b. agree (listed xs a b) (listed ys a b)
    (λ v. also s width xs ys formed exact others a b v) (λ v. also s width ys xs ordered others exact a b v))

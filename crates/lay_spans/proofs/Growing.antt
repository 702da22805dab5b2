-- The row of a bar, and the rows, while they grow.
use Rattle.std.proofs.Common.{◌≡◌, ◌==◌, ℕ, ◌+◌, ◌-◌, ◌<◌, ◌≤◌, ℤ, Bool, List, [], ◌∷◌, ◌++◌, length, map, take}
use Rattle.std.proofs.Common.{Option, None, Some, IsSome, slice_index, slice_index_or, get_or, true, false, arith}
use Rattle.std.proofs.Common.{sym, ◌∙◌, ap, subst, refl, inl, inr, length-append}
use Rattle.std.proofs.Math.Seq.{get_or-append_seam}
use Rattle.std.proofs.lemmas.Bool.{cases_lt, cases_eq, true≢false}
use Rattle.std.proofs.lemmas.List.{get_or_append_left, length-map, take_all}
use Rattle.std.proofs.lemmas.Option.{none-some, same_Some}
use Rattle.lay_springs.specs.declared.traits.Reach.{Reach}
use Rattle.lay_springs.specs.declared.progress.Progress.{Progress}
use Rattle.lay_springs.specs.Place.{reach_at, length_at, HasPlaced}
use Rattle.lay_springs.proofs.Clear.{below_or_at}
use Rattle.lay_springs.proofs.Longer.{placed_on}
use Rattle.lay_breaks.specs.Spans.{AreSpans, listed}
use Rattle.lay_rows.specs.{Badness.{badness_of}, Tables.{IsForceTable}}
use Rattle.lay_spans.specs.Columns.{measures_from, span_columns, AreMeasures}
use Rattle.lay_spans.specs.Forced.{ForcedInside}
use Rattle.lay_spans.specs.SpanList.{FitsAtForce, HasForce, IsCost, IsNoSpan, IsSpanList}
use Rattle.lay_spans.specs.Rows.{HaveForces, IsRowFrom, rows_spans}
use Rattle.lay_spans.specs.Single.{force_cost}
use Rattle.lay_spans.proofs.Adding.{columns_some, columns_more}
use Rattle.lay_spans.proofs.Fitting.{longer_stands, seen_as}
use Rattle.lay_spans.proofs.Listing.{force_entry, in_rows, past_rows, rows_form}

-- the borrowed columns, with one more measure
pub seen_more : {D C : Type 0} (f : D → C) (old new : List D) (starts others : List (List C)) (a m : ℕ)
    → a ≤ m → m < length starts → length others ≡ length starts
    → map f old ≡ span_columns starts others a m
    → map f new ≡ map f old ++ slice_index_or (measures_from starts others a) (m - a) []
    → map f new ≡ span_columns starts others a (m + 1)
seen_more f old new starts others a m l k same e added =
    added
    ∙ ap (λ cs. cs ++ slice_index_or (measures_from starts others a) (m - a) []) e
    ∙ sym (columns_more starts others a m l k same)

-- columns that are placed are placed among the borrowed ones with one more measure
pub placed_more : {D C : Type 0} (f : D → C) (reach : C → ℕ → Option Reach) (len : C → ℕ → ℕ) (gaps : List ℕ)
    (p : Progress) (x x' more fronts : List ℤ) (seen : List D) (starts others : List (List C)) (a m : ℕ)
    → a ≤ m → m < length starts → length others ≡ length starts
    → map f seen ≡ span_columns starts others a (m + 1) → length x ≡ length (span_columns starts others a m)
    → x' ≡ take (length seen) x ++ more
    → HasPlaced (length (span_columns starts others a m)) (reach_at reach (span_columns starts others a m)) gaps
    (length_at len (span_columns starts others a m)) p x fronts
    → HasPlaced (length seen) (reach_at (λ s lane. reach (f s) lane) seen) gaps
    (length_at (λ s force. len (f s) force) seen) p x' fronts
placed_more f reach len gaps p x x' more fronts seen starts others a m l k same e room grown h =
    let next = slice_index_or (measures_from starts others a) (m - a) [] in
    let longer = columns_more starts others a m l k same in
    let within : length x ≤ length seen =
    let n = length-map seen f in
    let count = ap (λ cs. length cs) (e ∙ longer) in
    let sum =
    length-append (span_columns starts others a m) (slice_index_or (measures_from starts others a) (m - a) []) in
    omega arith in
    let at : x' ≡ x ++ more = grown ∙ ap (λ at. at ++ more) (take_all (length seen) x within) in
    rw at (subst (λ T. T)
    (sym (seen_as f reach len (λ n r l. HasPlaced n r gaps l p (x ++ more) fronts) seen
    (span_columns starts others a (m + 1)) e))
    (subst (λ cs. HasPlaced (length cs) (reach_at reach cs) gaps (length_at len cs) p (x ++ more) fronts) (sym longer)
    (placed_on reach len (span_columns starts others a m) next gaps p x more fronts (omega arith) h)))

-- what holds at each index of a list holds at each once one more is added
pub each_more : {X : Type 0} (P : ℕ → X → Type 0) (xs : List X) (x d : X)
    → ((k : ℕ) → k < length xs → P k (get_or xs k d)) → P (length xs) x → (k : ℕ) → k < length (xs ++ x ∷ [])
    → P k (get_or (xs ++ x ∷ []) k d)
each_more P xs x d each here k l =
    let n = length-append xs (x ∷ []) in
    below_or_at (λ k. P k (get_or (xs ++ x ∷ []) k d)) k (length xs) (omega arith)
    (λ lt. subst (λ y. P k y) (sym (get_or_append_left xs (x ∷ []) d k lt)) (each k lt))
    (subst (λ y. P (length xs) y) (sym (get_or-append_seam xs x [] d)) here)

pub forces_more : {C : Type 0} (reach : C → ℕ → Option Reach) (len : C → ℕ → ℕ) (gaps : List ℕ) (width : ℕ)
    (starts others : List (List C)) (forced : ℕ → Bool)
    (a m : ℕ) (row : List ℕ) (force : ℕ)
    → a + length row ≡ m
    → ((k : ℕ) → k < length row → HasForce reach len gaps width starts others forced a (a + 1 + k) (slice_index row k))
    → HasForce reach len gaps width starts others forced a (m + 1) force
    → (k : ℕ) → k < length (row ++ force ∷ [])
    → HasForce reach len gaps width starts others forced a (a + 1 + k) (slice_index (row ++ force ∷ []) k)
forces_more reach len gaps width starts others forced a m row force e each here =
    let same : m + 1 ≡ a + 1 + length row = omega arith in
    each_more (λ k f. HasForce reach len gaps width starts others forced a (a + 1 + k) f) row force 0 each
    (subst (λ b. HasForce reach len gaps width starts others forced a b force) same here)

pub free_more : (forced : ℕ → Bool) (a m : ℕ)
    → forced (m + 1) ≡ false → ((f : ℕ) → a < f → f < m + 1 → forced f ≡ true → ⊥) → (f : ℕ) → a < f → f < m + 1 + 1
    → forced f ≡ true
    → ⊥
free_more forced a m free before f l k is =
    below_or_at (λ f. a < f → forced f ≡ true → ⊥) f (m + 1) k
    (λ lt l is. before f l lt is)
    (λ l is. absurd (true≢false (sym is ∙ free)))
    l is

-- the row ends if the next span doesn't fit
pub stops_at : {C : Type 0} (reach : C → ℕ → Option Reach) (len : C → ℕ → ℕ) (gaps : List ℕ) (width : ℕ)
    (starts others : List (List C)) (forced : ℕ → Bool)
    (a m : ℕ) (row : List ℕ)
    → AreMeasures reach (length gaps) starts others → a < length starts → m < length starts → a + length row ≡ m
    → ((k : ℕ) → k < length row → HasForce reach len gaps width starts others forced a (a + 1 + k) (slice_index row k))
    → (FitsAtForce reach len gaps width 0 (span_columns starts others a (m + 1)) → ⊥)
    → IsRowFrom reach len gaps width starts others forced a row
stops_at reach len gaps width starts others forced a m row h inside l e each never = record {
  within = omega arith;
  each = each;
  stops = λ b past within. inr (λ stands. elim (cases_eq (m + 1) b) [
    | inl same ↦
        never (subst (λ b. FitsAtForce reach len gaps width 0 (span_columns starts others a b)) (sym same) stands)
    | inr d ↦
        let lt : m + 1 < b = grind arith in
        never (longer_stands reach len gaps width 0 starts others a (m + 1) b h (omega arith) lt within
        (columns_some starts others a (m + 1) (omega arith) (h.begun a inside)) stands)
  ]);
}

-- or after a forced bar
pub stops_after : {C : Type 0} (reach : C → ℕ → Option Reach) (len : C → ℕ → ℕ) (gaps : List ℕ) (width : ℕ)
    (starts others : List (List C)) (forced : ℕ → Bool)
    (a m : ℕ) (row : List ℕ) → m < length starts → a + length row ≡ m + 1 → a ≤ m
    → ((k : ℕ) → k < length row → HasForce reach len gaps width starts others forced a (a + 1 + k) (slice_index row k))
    → forced (m + 1) ≡ true
    → IsRowFrom reach len gaps width starts others forced a row
stops_after reach len gaps width starts others forced a m row l e k each is =
    record { within = omega arith; each = each; stops = λ b past within. inl (m + 1, omega arith, omega arith, is) }

-- the rows as a list of spans
module _ {C : Type 0} (reach : C → ℕ → Option Reach) (len : C → ℕ → ℕ) (gaps : List ℕ) (width : ℕ)
    (starts others : List (List C)) (forced : ℕ → Bool) (rows : List (List ℕ))
    (h : IsForceTable (λ a row. IsRowFrom reach len gaps width starts others forced a row) (length starts) rows) where
  pub rows_are_spans : AreSpans (length starts) (rows_spans (length starts) 0 rows)
  rows_are_spans =
      let c = h.count in
      rows_form (length starts) 0 None rows
      (λ k l. let w = (h.each k (omega arith)).within in omega arith)
      (λ k i l m. ((h.each k (omega arith)).each i m).pressed.bound)
      tt

  pub rows_have_forces : HaveForces reach len gaps width starts others forced rows
  rows_have_forces a b force l m is =
      let entry = force_entry rows a b force l is in
      let same : a + 1 + (b - a - 1) ≡ b = omega arith in
      subst (λ f. HasForce reach len gaps width starts others forced a b f) (sym entry.1)
      (subst (λ b'.
      HasForce reach len gaps width starts others forced a b' (slice_index (slice_index_or rows a []) (b - a - 1)))
      same ((h.each a (omega arith)).each (b - a - 1) entry.0))

  out : (a b : ℕ)
      → a < b → a + length (slice_index_or rows a []) < b → listed (rows_spans (length starts) 0 rows) a b ≡ None
  out a b l past =
      let z : a - 0 ≡ a = omega arith in
      past_rows (length starts) 0 rows a b (omega arith)
      (subst (λ i. a + length (slice_index_or rows i []) < b) (sym z) past)

  inside : (a b : ℕ) → a < b → b ≤ a + length (slice_index_or rows a [])
      → listed (rows_spans (length starts) 0 rows) a b
      ≡ Some (badness_of (b == length starts) (slice_index (slice_index_or rows a []) (b - (a + 1))))
  inside a b l within =
      let z : a - 0 ≡ a = omega arith in
      in_rows (length starts) 0 rows a b (omega arith) l
      (subst (λ i. b ≤ a + length (slice_index_or rows i [])) (sym z) within)
      ∙ ap (λ i. Some (badness_of (b == length starts) (slice_index (slice_index_or rows i []) (b - (a + 1))))) z

  stopped : (a b : ℕ) → a < b → b ≤ length starts → listed (rows_spans (length starts) 0 rows) a b ≡ None
      → IsNoSpan reach len gaps width starts others forced a b
  stopped a b l m is =
      let from = h.each a (omega arith) in
      elim (cases_lt (a + length (slice_index_or rows a [])) b) [
        | inl past ↦ from.stops b past m
        | inr within ↦ absurd (none-some _ (sym is ∙ inside a b l within))
      ]

  costed : (a b v : ℕ) → a < b → b ≤ length starts → listed (rows_spans (length starts) 0 rows) a b ≡ Some v
      → IsCost reach len gaps width starts others forced a b v
  costed a b v l m is = elim (cases_lt (a + length (slice_index_or rows a [])) b) [
    | inl past ↦ absurd (none-some v (sym (out a b l past) ∙ is))
    | inr within ↦
        let force = slice_index (slice_index_or rows a []) (b - (a + 1)) in
        let same : a + 1 + (b - (a + 1)) ≡ b = omega arith in
        subst (λ v. IsCost reach len gaps width starts others forced a b v)
        (same_Some _ _ (sym (inside a b l within) ∙ is))
        (force_cost reach len gaps width starts others forced a b force
        (subst (λ b'. HasForce reach len gaps width starts others forced a b' force) same
        ((h.each a (omega arith)).each (b - (a + 1)) (omega arith))))
  ]

  fitting : (a b : ℕ) (o : Option ℕ)
      → listed (rows_spans (length starts) 0 rows) a b ≡ o
      → (listed (rows_spans (length starts) 0 rows) a b ≡ None → IsNoSpan reach len gaps width starts others forced a b)
      → (ForcedInside forced a b → ⊥)
      → FitsAtForce reach len gaps width 0 (span_columns starts others a b)
      → IsSome (listed (rows_spans (length starts) 0 rows) a b)
  fitting a b (Some v) e stop free stands = rw e refl
  fitting a b None e stop free stands = elim (stop e) [ inl f ↦ absurd (free f) | inr never ↦ absurd (never stands) ]

  pub rows_tell_spans : IsSpanList reach len gaps width starts others forced (rows_spans (length starts) 0 rows)
  rows_tell_spans = record {
    each = costed;
    fits = λ a b l m. fitting a b (listed (rows_spans (length starts) 0 rows) a b) refl (stopped a b l m);
    stops = stopped;
  }

-- Which spans fit.
use Rattle.std.proofs.Common.{◌≡◌, ℕ, ◌+◌, ◌-◌, ◌<◌, ◌≤◌, List, [], ◌++◌, length, map, Option, None, Some, IfNone}
use Rattle.std.proofs.Common.{option_map, option_and_then, unwrap_or, slice_get, slice_index_or, arith, sym, ◌∙◌, ap}
use Rattle.std.proofs.Common.{subst, refl, inl, inr, length-append}
use Rattle.std.proofs.Math.Path.{fun_ext}
use Rattle.std.proofs.lemmas.Bool.{cases_lt}
use Rattle.std.proofs.lemmas.Option.{slice_get-map}
use Rattle.std.proofs.lemmas.List.{append_assoc, length-map}
use Rattle.lay_springs.specs.declared.traits.Reach.{Reach}
use Rattle.lay_springs.specs.Place.{reach_at, length_at}
use Rattle.lay_springs.specs.Fit.{Fits, Passes, CanStandWithin, StandsInAll}
use Rattle.lay_springs.proofs.Longer.{cannot_stand, longer_fits_less}
use Rattle.lay_spans.specs.Columns.{span_columns, AreMeasures}
use Rattle.lay_spans.specs.SpanList.{FitsAtForce, IsForce}
use Rattle.lay_spans.proofs.Adding.{columns_some, columns_continue, ends_so}

-- a longer span can't be within a width if a shorter one can't
pub longer_stands : {C : Type 0} (reach : C → ℕ → Option Reach) (len : C → ℕ → ℕ) (gaps : List ℕ) (width force : ℕ)
    (starts others : List (List C)) (a b c : ℕ)
    → AreMeasures reach (length gaps) starts others → a < b → b < c → c ≤ length starts
    → 0 < length (span_columns starts others a b)
    → FitsAtForce reach len gaps width force (span_columns starts others a c)
    → FitsAtForce reach len gaps width force (span_columns starts others a b)
longer_stands reach len gaps width force starts others a b c h l m n some stands =
    let d : ℕ = c - b - 1 in
    let same : b + (c - b - 1) + 1 ≡ c = omega arith in
    let longer = columns_continue starts others a b (c - b - 1) l (omega arith) h.same in
    let last = slice_index_or others (b + (c - b - 1)) [] in
    let ends = h.ended (b + (c - b - 1)) (omega arith) in
    let rest = longer.0 ++ last in
    let is : span_columns starts others a c ≡ span_columns starts others a b ++ rest =
    sym (ap (λ i. span_columns starts others a i) same) ∙ longer.1 in
    longer_fits_less reach len (span_columns starts others a b) rest gaps width force some
    (let n = length-append longer.0 last in let k = ends.some in omega arith)
    (subst (λ columns. StandsInAll (reach_at reach columns (length columns - 1)) (length gaps))
    (append_assoc (span_columns starts others a b) longer.0 last)
    (ends_so reach (length gaps) (span_columns starts others a b ++ longer.0) last ends))
    (subst (λ columns. FitsAtForce reach len gaps width force columns) is stands)

-- a force that is too great for a span is too great for the span with one more measure
pub still_above : {C : Type 0} (reach : C → ℕ → Option Reach) (len : C → ℕ → ℕ) (gaps : List ℕ) (width most : ℕ)
    (starts others : List (List C)) (a m : ℕ)
    → AreMeasures reach (length gaps) starts others → a < length starts → m < length starts
    → ((g : ℕ)
    → most < g → g ≤ 2048 → (a < m) × (FitsAtForce reach len gaps width g (span_columns starts others a m) → ⊥))
    → (g : ℕ) → most < g → g ≤ 2048 → FitsAtForce reach len gaps width g (span_columns starts others a (m + 1)) → ⊥
still_above reach len gaps width most starts others a m h inside l before g past within stands =
    let shorter = before g past within in let some = shorter.0 in
    shorter.1 (longer_stands reach len gaps width g starts others a m (m + 1) h some (omega arith) (omega arith)
    (columns_some starts others a m some (h.begun a inside)) stands)

-- Columns in another type, with the same reaches and springs.
seen_reach : {D C : Type 0} (f : D → C) (reach : C → ℕ → Option Reach) (seen : List D)
    → reach_at (λ s lane. reach (f s) lane) seen ≡ reach_at reach (map f seen)
seen_reach f reach seen = fun_ext (λ i. fun_ext (λ lane.
    at (slice_get seen i) lane ∙ sym (ap (λ o. option_and_then (λ c. reach c lane) o) (slice_get-map f seen i))))
  where
    at : (o : Option _) (lane : ℕ)
        → option_and_then (λ s. reach (f s) lane) o ≡ option_and_then (λ c. reach c lane) (option_map f o)
    at None lane = refl
    at (Some s) lane = refl

seen_length : {D C : Type 0} (f : D → C) (len : C → ℕ → ℕ) (seen : List D)
    → length_at (λ s force. len (f s) force) seen ≡ length_at len (map f seen)
seen_length f len seen = fun_ext (λ force. fun_ext (λ i.
    at (slice_get seen i) force
    ∙ sym (ap (λ o. unwrap_or (option_map (λ c. len c force) o) 0) (slice_get-map f seen i))))
  where
    at : (o : Option _) (force : ℕ)
        → unwrap_or (option_map (λ s. len (f s) force) o) 0
        ≡ unwrap_or (option_map (λ c. len c force) (option_map f o)) 0
    at None force = refl
    at (Some s) force = refl

pub seen_as : {D C : Type 0} (f : D → C) (reach : C → ℕ → Option Reach) (len : C → ℕ → ℕ)
    (P : ℕ → (ℕ → ℕ → Option Reach) → (ℕ → ℕ → ℕ) → Type 0)
    (seen : List D) (columns : List C)
    → map f seen ≡ columns
    → P (length seen) (reach_at (λ s lane. reach (f s) lane) seen) (length_at (λ s force. len (f s) force) seen)
    ≡ P (length columns) (reach_at reach columns) (length_at len columns)
seen_as f reach len P seen columns e =
    ap (λ n. P n (reach_at (λ s lane. reach (f s) lane) seen) (length_at (λ s force. len (f s) force) seen))
    (sym (length-map seen f))
    ∙ ap (λ r. P (length (map f seen)) r (length_at (λ s force. len (f s) force) seen)) (seen_reach f reach seen)
    ∙ ap (λ l. P (length (map f seen)) (reach_at reach (map f seen)) l) (seen_length f len seen)
    ∙ ap (λ columns. P (length columns) (reach_at reach columns) (length_at len columns)) e

pub force_of : {D C : Type 0} (f : D → C) (reach : C → ℕ → Option Reach) (len : C → ℕ → ℕ) (gaps : List ℕ)
    (width most : ℕ) (seen : List D) (columns : List C) (force : ℕ) → map f seen ≡ columns → most ≤ 2048 → force ≤ most
    → Fits (length seen) (reach_at (λ s lane. reach (f s) lane) seen) gaps (length_at (λ s g. len (f s) g) seen) width
    force
    → ((g : ℕ) → force < g → g ≤ most
    → CanStandWithin (length seen) (reach_at (λ s lane. reach (f s) lane) seen) gaps
    (length_at (λ s g. len (f s) g) seen) width g
    → ⊥)
    → ((g : ℕ) → most < g → g ≤ 2048 → FitsAtForce reach len gaps width g columns → ⊥)
    → IsForce reach len gaps width columns force
force_of f reach len gaps width most seen columns force e small bound fits greatest above = record {
  bound = omega arith;
  fits = subst (λ T. T) (seen_as f reach len (λ n r l. Fits n r gaps l width force) seen columns e) fits;
  greatest = λ g l m stands. elim (cases_lt most g) [
    | inl past ↦ above g past m stands
    | inr k ↦
        greatest g l k
        (subst (λ T. T) (sym (seen_as f reach len (λ n r l. CanStandWithin n r gaps l width g) seen columns e)) stands)
  ];
  none = tt;
}

-- columns whose end passes the width can't be within it
pub passes_never : {C : Type 0} (reach : C → ℕ → Option Reach) (len : C → ℕ → ℕ) (gaps : List ℕ) (width : ℕ)
    (columns : List C) (force : Option ℕ)
    → 0 < length columns
    → IfNone force (Passes (length columns) (reach_at reach columns) gaps (length_at len columns) width 0)
    → IfNone force (FitsAtForce reach len gaps width 0 columns → ⊥)
passes_never reach len gaps width columns (Some f) some h = tt
passes_never reach len gaps width columns None some h =
    cannot_stand (length columns) (reach_at reach columns) gaps (length_at len columns) width 0 0 some
    (λ i. omega arith) h

pub never_stands : {D C : Type 0} (f : D → C) (reach : C → ℕ → Option Reach) (len : C → ℕ → ℕ) (gaps : List ℕ)
    (width : ℕ) (seen : List D) (columns : List C)
    → map f seen ≡ columns
    → (FitsAtForce (λ s lane. reach (f s) lane) (λ s g. len (f s) g) gaps width 0 seen → ⊥)
    → FitsAtForce reach len gaps width 0 columns
    → ⊥
never_stands f reach len gaps width seen columns e never stands =
    never (subst (λ T. T) (sym (seen_as f reach len (λ n r l. CanStandWithin n r gaps l width 0) seen columns e))
    stands)

-- The columns of a span, and how they grow by one measure.
use Rattle.std.proofs.Common.{◌≡◌, ℕ, zero, suc, ◌+◌, ◌-◌, ◌<◌, ◌≤◌, List, [], ◌∷◌, ◌++◌, length, take, drop, flat_map}
use Rattle.std.proofs.Common.{slice_index_or, get_or, Option, option_and_then, slice_get, arith, sym, ◌∙◌, ap, subst}
use Rattle.std.proofs.Common.{length-append}
use Rattle.std.proofs.lemmas.List.{take_more, get_or-drop, append-nil, append_assoc, length-drop}
use Rattle.std.proofs.lemmas.List.Concat.{flat_map-append}
use Rattle.lay_springs.specs.declared.traits.Reach.{Reach}
use Rattle.lay_springs.specs.Place.{reach_at}
use Rattle.lay_springs.specs.Fit.{StandsInAll}
use Rattle.lay_spans.specs.Columns.{measures_from, span_columns, EndsInAll}

-- a span has the columns of its first measure
pub columns_some : {C : Type 0} (starts others : List (List C)) (a b : ℕ)
    → a < b → 0 < length (slice_index_or starts a []) → 0 < length (span_columns starts others a b)
columns_some {C} starts others a b l some =
    let e : b - a ≡ suc (b - (a + 1)) = omega arith in
    let n = length-append (slice_index_or starts a [])
    (flat_map (λ measure. measure) (take (b - (a + 1)) (drop (a + 1) others))) in
    subst (λ k. 0 < length (flat_map (λ measure. measure) (take k (measures_from starts others a)))) (sym e)
    (omega arith)

-- one more measure
pub columns_more : {C : Type 0} (starts others : List (List C)) (a m : ℕ)
    → a ≤ m → m < length starts → length others ≡ length starts
    → span_columns starts others a (m + 1)
    ≡ span_columns starts others a m ++ slice_index_or (measures_from starts others a) (m - a) []
columns_more {C} starts others a m l k e =
    let e1 : m + 1 - a ≡ m - a + 1 = omega arith in
    let next = slice_index_or (measures_from starts others a) (m - a) [] in
    let grown : take (m - a + 1) (measures_from starts others a)
    ≡ take (m - a) (measures_from starts others a) ++ next ∷ [] =
    take_more (measures_from starts others a) (m - a) [] (let d = length-drop (a + 1) others in omega arith) in
    rw e1 (ap (λ ms. flat_map (λ measure. measure) ms) grown
    ∙ flat_map-append (λ measure. measure) (take (m - a) (measures_from starts others a)) (next ∷ [])
    ∙ ap (λ r. flat_map (λ measure. measure) (take (m - a) (measures_from starts others a)) ++ r) (append-nil next))

-- a measure that doesn't begin the system
pub later_measure : {C : Type 0} (starts others : List (List C)) (a m : ℕ)
    → a < m → slice_index_or (measures_from starts others a) (m - a) [] ≡ slice_index_or others m []
later_measure starts others a m l =
    let e : m - a ≡ suc (m - (a + 1)) = omega arith in let f : a + 1 + (m - (a + 1)) ≡ m = omega arith in
    ap (λ i. slice_index_or (measures_from starts others a) i []) e
    ∙ get_or-drop (a + 1) others (m - (a + 1)) []
    ∙ ap (λ i. get_or others i []) f

-- the columns of a longer span continue those of a shorter one, by d measures and one more
pub columns_continue : {C : Type 0} (starts others : List (List C)) (a b d : ℕ)
    → a < b → b + d < length starts → length others ≡ length starts
    → (front : List C)
    × (span_columns starts others a (b + d + 1)
    ≡ span_columns starts others a b ++ (front ++ slice_index_or others (b + d) []))
columns_continue {C} starts others a b zero l k e =
    let same : b + zero ≡ b = omega arith in (
      [],
      rw same (columns_more starts others a b (omega arith) (omega arith) e
          ∙ ap (λ r. span_columns starts others a b ++ r) (later_measure starts others a b l)),
    )
columns_continue {C} starts others a b (suc d) l k e =
    let ih = columns_continue starts others a b d l (omega arith) e in
    let same : b + suc d ≡ b + d + 1 = omega arith in
    let here = columns_more starts others a (b + d + 1) (omega arith) (omega arith) e in
    let last = later_measure starts others a (b + d + 1) (omega arith) in (
      ih.0 ++ slice_index_or others (b + d) [],
      rw same (here ∙ ap (λ r. r ++ slice_index_or (measures_from starts others a) (b + d + 1 - a) []) ih.1
          ∙ append_assoc (span_columns starts others a b) (ih.0 ++ slice_index_or others (b + d) [])
          (slice_index_or (measures_from starts others a) (b + d + 1 - a) [])
          ∙ ap (λ r. span_columns starts others a b ++ ((ih.0 ++ slice_index_or others (b + d) []) ++ r)) last),
    )

-- a list of columns that ends with some has their last
get_back : {C : Type 0} (xs ys : List C) (i : ℕ) → slice_get (xs ++ ys) (length xs + i) ≡ slice_get ys i
get_back [] ys i = let e : zero + i ≡ i = omega arith in ap (λ k. slice_get ys k) e
get_back (x ∷ xs) ys i =
    let e : suc (length xs) + i ≡ suc (length xs + i) = omega arith in
    ap (λ k. slice_get (x ∷ (xs ++ ys)) k) e ∙ get_back xs ys i

pub ends_so : {C : Type 0} (reach : C → ℕ → Option Reach) (lanes : ℕ) (xs ys : List C)
    → EndsInAll reach lanes ys → StandsInAll (reach_at reach (xs ++ ys) (length (xs ++ ys) - 1)) lanes
ends_so reach lanes xs ys h = λ lane l.
    let s = h.last lane l in let some = h.some in let total = length-append xs ys in
    let e : length (xs ++ ys) - 1 ≡ length xs + (length ys - 1) = omega arith in (
      s.0,
      ap (λ i. option_and_then (λ c. reach c lane) (slice_get (xs ++ ys) i)) e
          ∙ ap (λ o. option_and_then (λ c. reach c lane) o) (get_back xs ys (length ys - 1))
          ∙ s.1,
    )

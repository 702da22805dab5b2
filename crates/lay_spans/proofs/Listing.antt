-- Rows of forces as a list of spans.
use Rattle.std.proofs.Common.{◌≡◌, ◌==◌, ℕ, suc, ◌+◌, ◌-◌, ◌<◌, ◌≤◌, ◌⊎◌, List, [], ◌∷◌, ◌++◌, length, Option, None}
use Rattle.std.proofs.Common.{Some, MatchOption, slice_index, slice_index_or, nat_lt, option_and_then, option_map}
use Rattle.std.proofs.Common.{slice_get, false, arith, sym, ◌∙◌, ap, subst, refl, inl, inr}
use Rattle.std.proofs.lemmas.Bool.{cases_eq, cases_lt}
use Rattle.std.proofs.lemmas.Bool.Decides.{nat_tests}
use Rattle.std.proofs.lemmas.List.{get_or_past}
use Rattle.std.proofs.lemmas.Option.{get_or_from_slice_get, slice_get_past, slice_get_within, slice_get-get_or}
use Rattle.lay_breaks.specs.declared.costs.Span.{Span}
use Rattle.lay_breaks.specs.Spans.{AreSpans, SpansFrom, listed, has_ends, has_these}
use Rattle.lay_rows.specs.Badness.{badness_of}
use Rattle.lay_rows.specs.Costs.{badness_small, cost_in, force_in, force_of_rising}
use Rattle.lay_spans.specs.Rows.{row_spans, rows_spans}

pub listed_here : (a b : ℕ) (s : Span) (ss : List Span) → s.a ≡ a → s.b ≡ b → listed (s ∷ ss) a b ≡ Some s.badness
listed_here a b s ss e f = rw (has_these a b s e f) refl

pub listed_after : (a b : ℕ) (s : Span) (ss : List Span)
    → (s.a ≡ a → s.b ≡ b → ⊥) → listed (s ∷ ss) a b ≡ listed ss a b
listed_after a b s ss h = let t : has_ends a b s ≡ false = grind (arith, nat_tests) in rw t refl

-- the list of the spans of rows; the last bar is n
module _ (n : ℕ) where
  -- the span from bar a to bar b with a force
  abbrev span : ℕ → ℕ → ℕ → Span
  span a b force = record { a = a; b = b; badness = badness_of (b == n) force }

  -- the spans of a row
  in_row : (a b : ℕ) (row : List ℕ) (rest : List Span) (c : ℕ) → b ≤ c → c < b + length row
      → listed (row_spans n a b row ++ rest) a c ≡ Some (badness_of (c == n) (slice_index row (c - b)))
  in_row a b [] rest c l m = absurd (omega arith)
  in_row a b (f ∷ fs) rest c l m = elim (cases_eq b c) [
    | inl e ↦
        let z : c - b ≡ 0 = omega arith in
        rw z (listed_here a c (span a b f) (row_spans n a (b + 1) fs ++ rest) refl e
        ∙ ap (λ bar. Some (badness_of (bar == n) f)) e)
    | inr d ↦
        let lt : b + 1 ≤ c = grind arith in let s : c - b ≡ suc (c - (b + 1)) = omega arith in
        rw s (listed_after a c (span a b f) (row_spans n a (b + 1) fs ++ rest) (λ e g. d g)
        ∙ in_row a (b + 1) fs rest c lt (omega arith))
  ]

  past_row : (a b : ℕ) (row : List ℕ) (rest : List Span) (c : ℕ)
      → b + length row ≤ c → listed (row_spans n a b row ++ rest) a c ≡ listed rest a c
  past_row a b [] rest c l = refl
  past_row a b (f ∷ fs) rest c l =
      listed_after a c (span a b f) (row_spans n a (b + 1) fs ++ rest) (λ e g. omega arith)
      ∙ past_row a (b + 1) fs rest c (omega arith)

  other_row : (m b : ℕ) (row : List ℕ) (rest : List Span) (a c : ℕ)
      → (m ≡ a → ⊥) → listed (row_spans n m b row ++ rest) a c ≡ listed rest a c
  other_row m b [] rest a c d = refl
  other_row m b (f ∷ fs) rest a c d =
      listed_after a c (span m b f) (row_spans n m (b + 1) fs ++ rest) (λ e g. d e) ∙ other_row m (b + 1) fs rest a c d

  -- the spans of the rows from m on
  before_rows : (m : ℕ) (rows : List (List ℕ)) (a c : ℕ) → a < m → listed (rows_spans n m rows) a c ≡ None
  before_rows m [] a c l = refl
  before_rows m (row ∷ rows) a c l =
      other_row m (m + 1) row (rows_spans n (m + 1) rows) a c (λ e. omega arith)
      ∙ before_rows (m + 1) rows a c (omega arith)

  pub in_rows : (m : ℕ) (rows : List (List ℕ)) (a c : ℕ)
      → m ≤ a → a < c → c ≤ a + length (slice_index_or rows (a - m) [])
      → listed (rows_spans n m rows) a c
      ≡ Some (badness_of (c == n) (slice_index (slice_index_or rows (a - m) []) (c - (a + 1))))
  in_rows m [] a c l k w = absurd (omega arith)
  in_rows m (row ∷ rows) a c l k w = elim (cases_eq m a) [
    | inl e ↦ let z : a - m ≡ 0 = omega arith in let w' = rw z at w in
        rw z (subst
        (λ i.
        listed (row_spans n i (i + 1) row ++ rows_spans n (i + 1) rows) a c
        ≡ Some (badness_of (c == n) (slice_index row (c - (a + 1)))))
        (sym e)
        (in_row a (a + 1) row (rows_spans n (a + 1) rows) c (omega arith) (omega arith)))
    | inr d ↦
        let lt : m + 1 ≤ a = grind arith in
        let s : a - m ≡ suc (a - (m + 1)) = omega arith in
        let w' = rw s at w in
        rw s (other_row m (m + 1) row (rows_spans n (m + 1) rows) a c d ∙ in_rows (m + 1) rows a c lt k w')
  ]

  pub past_rows : (m : ℕ) (rows : List (List ℕ)) (a c : ℕ)
      → m ≤ a → a + length (slice_index_or rows (a - m) []) < c → listed (rows_spans n m rows) a c ≡ None
  past_rows m [] a c l w = refl
  past_rows m (row ∷ rows) a c l w = elim (cases_eq m a) [
    | inl e ↦ let z : a - m ≡ 0 = omega arith in let w' = rw z at w in
        subst (λ i. listed (row_spans n i (i + 1) row ++ rows_spans n (i + 1) rows) a c ≡ None) (sym e)
        (past_row a (a + 1) row (rows_spans n (a + 1) rows) c (omega arith)
        ∙ before_rows (a + 1) rows a c (omega arith))
    | inr d ↦
        let lt : m + 1 ≤ a = grind arith in
        let s : a - m ≡ suc (a - (m + 1)) = omega arith in
        let w' = rw s at w in
        other_row m (m + 1) row (rows_spans n (m + 1) rows) a c d ∙ past_rows (m + 1) rows a c lt w'
  ]

-- the last span so far begins before bar m
abbrev pub Before : ℕ → Option Span → Type 0
Before m last = MatchOption last (Unit {0}) (λ p. p.a < m)

-- a span from a to b may come after the last so far
abbrev pub MayBegin : Option Span → ℕ → ℕ → Type 0
MayBegin last a b = MatchOption last (b ≡ a + 1) (λ p. ((p.a < a) × (b ≡ a + 1)) ⊎ ((a ≡ p.a) × (b ≡ p.b + 1)))

row_form : (n a b : ℕ) (last : Option Span) (row : List ℕ) (rest : List Span)
    → a < b → b + length row ≤ n + 1 → ((k : ℕ) → k < length row → slice_index row k ≤ 2048)
    → MayBegin last a b → Before (a + 1) last
    → ((last : Option Span) → Before (a + 1) last → SpansFrom n last rest)
    → SpansFrom n last (row_spans n a b row ++ rest)
row_form n a b last [] rest l room low follows before more = more last before
row_form n a b last (f ∷ fs) rest l room low follows before more = (
  record { rises = l; within = omega arith; small = badness_small (b == n) f (low 0 (omega arith)); follows = follows },
  row_form n a (b + 1) (Some (span n a b f)) fs rest (omega arith) (omega arith)
      (λ k m. low (suc k) (omega arith)) (inr (refl, refl)) (omega arith) more,
)

begins : (last : Option Span) (m : ℕ) → Before m last → MayBegin last m (m + 1)
begins None m h = refl
begins (Some p) m h = inl (h, refl)

later : (last : Option Span) (m : ℕ) → Before m last → Before (m + 1) last
later None m h = tt
later (Some p) m h = let l = h in omega arith

pub rows_form : (n m : ℕ) (last : Option Span) (rows : List (List ℕ))
    → ((k : ℕ) → k < length rows → m + k + length (slice_index_or rows k []) ≤ n)
    → ((k i : ℕ)
    → k < length rows → i < length (slice_index_or rows k []) → slice_index (slice_index_or rows k []) i ≤ 2048)
    → Before m last
    → SpansFrom n last (rows_spans n m rows)
rows_form n m last [] within low before = tt
rows_form n m last (row ∷ rows) within low before =
    let w = within 0 (omega arith) in
    row_form n m (m + 1) last row (rows_spans n (m + 1) rows) (omega arith) (omega arith)
    (λ i l. low 0 i (omega arith) l)
    (begins last m before) (later last m before)
    (λ last before. rows_form n (m + 1) last rows
    (λ k l. let w = within (suc k) (omega arith) in omega arith)
    (λ k i l j. low (suc k) i (omega arith) j)
    before)

-- a span begins before it ends, which is at bar n or before it
pub none_falls : (n : ℕ) (last : Option Span) (ss : List Span)
    → SpansFrom n last ss → (a b : ℕ) → b ≤ a → listed ss a b ≡ None
none_falls n last [] h a b l = refl
none_falls n last (s ∷ ss) h a b l =
    let r = h.0.rises in listed_after a b s ss (λ e g. omega arith) ∙ none_falls n (Some s) ss h.1 a b l

-- an entry of a list, with what is made of it
made_of : (f : ℕ → ℕ) (xs : List ℕ) (i : ℕ)
    → i < length xs → option_map f (slice_get xs i) ≡ Some (f (slice_index xs i))
made_of f xs i l = ap (λ o. option_map f o) (slice_get-get_or xs i 0 l)

made_past : (f : ℕ → ℕ) (xs : List ℕ) (i : ℕ) → length xs ≤ i → option_map f (slice_get xs i) ≡ None
made_past f xs i l = ap (λ o. option_map f o) (slice_get_past xs i l)

in_row_or_past : (n : ℕ) (rows : List (List ℕ)) (a b : ℕ) → a < b
    → option_map (λ force. badness_of (b == n) force) (slice_get (slice_index_or rows a []) (b - a - 1))
    ≡ listed (rows_spans n 0 rows) a b
in_row_or_past n rows a b l =
    let z : a - 0 ≡ a = omega arith in
    let row = slice_index_or rows a [] in
    let same : b - (a + 1) ≡ b - a - 1 = omega arith in
    elim (cases_lt (a + length (slice_index_or rows a [])) b) [
      | inl past ↦
          made_past (λ force. badness_of (b == n) force) row (b - a - 1) (omega arith)
          ∙ sym (past_rows n 0 rows a b (omega arith)
          (subst (λ i. a + length (slice_index_or rows i []) < b) (sym z) past))
      | inr within ↦
          made_of (λ force. badness_of (b == n) force) row (b - a - 1) (omega arith)
          ∙ sym (in_rows n 0 rows a b (omega arith) l
          (subst (λ i. b ≤ a + length (slice_index_or rows i [])) (sym z) within)
          ∙ ap (λ i. Some (badness_of (b == n) (slice_index (slice_index_or rows i []) (b - (a + 1))))) z
          ∙ ap (λ k. Some (badness_of (b == n) (slice_index row k))) same)
    ]

pub row_of : (rows : List (List ℕ)) (a k : ℕ)
    → option_and_then (λ row. slice_get row k) (slice_get rows a) ≡ slice_get (slice_index_or rows a []) k
row_of rows a k = elim (cases_lt a (length rows)) [
  | inl l ↦ ap (λ o. option_and_then (λ row. slice_get row k) o) (slice_get-get_or rows a [] l)
  | inr g ↦
      ap (λ o. option_and_then (λ row. slice_get row k) o) (slice_get_past rows a g)
      ∙ sym (ap (λ row. slice_get row k) (get_or_past rows a [] g) ∙ slice_get_past [] k (omega arith))
]

-- what is listed is what the rows have
pub rows_listed : (n : ℕ) (rows : List (List ℕ))
    → length rows ≡ n → AreSpans n (rows_spans n 0 rows)
    → (a b : ℕ) → cost_in rows a b ≡ listed (rows_spans n 0 rows) a b
rows_listed n rows count h a b =
    ap (λ bars. option_map (λ force. badness_of (b == bars) force) (force_in rows a b)) count ∙ of_bars (cases_lt a b)
  where
    of_bars : (a < b) ⊎ (b ≤ a)
        → option_map (λ force. badness_of (b == n) force) (force_in rows a b) ≡ listed (rows_spans n 0 rows) a b
    of_bars (inl l) =
        ap (λ o. option_map (λ force. badness_of (b == n) force) o)
        (force_of_rising rows a b l ∙ row_of rows a (b - a - 1))
        ∙ in_row_or_past n rows a b l
    of_bars (inr g) =
        let t : nat_lt a b ≡ false = grind (arith, nat_tests) in
        rw t (sym (none_falls n None (rows_spans n 0 rows) h a b g))

-- a force that the rows have is an entry of the row of its bar
pub force_entry : (rows : List (List ℕ)) (a b force : ℕ)
    → a < b → force_in rows a b ≡ Some force
    → (b - a - 1 < length (slice_index_or rows a [])) × (force ≡ slice_index (slice_index_or rows a []) (b - a - 1))
force_entry rows a b force l is =
    let row = slice_index_or rows a [] in
    let entry : slice_get (slice_index_or rows a []) (b - a - 1) ≡ Some force =
    sym (force_of_rising rows a b l ∙ row_of rows a (b - a - 1)) ∙ is in
    (slice_get_within row (b - a - 1) force entry, sym (get_or_from_slice_get row (b - a - 1) force 0 entry))

-- The rows that were made of parts of the bars, in order, are the table.
use Rattle.std.proofs.Common.{◌≡◌, ℕ, ◌+◌, ◌-◌, ◌<◌, ◌≤◌, List, [], ◌∷◌, ◌++◌, All, flat_map, slice_index_or}
use Rattle.std.proofs.Common.{arith, refl, subst, sym, ◌∙◌}
use Rattle.std.proofs.lemmas.List.Elements.{All-cons, All-from_get_or, All-nil}
use Rattle.std.specs.List.{AllZip}
use Rattle.{lay_breaks.specs.Rows.{AreWithin}, lay_rows.specs.declared.ranges.BarRange.{BarRange}}
use Rattle.lay_rows.specs.{Parts.{AreBars}, Tables.{AreRowsOf, IsForceTable, rows_none, rows_append}}

-- parts that end with bar `to` end no later
pub bars_order : (parts : List BarRange) (from to : ℕ) → AreBars from to parts → from ≤ to
bars_order [] from to h = omega (arith, h)
bars_order (part ∷ parts) from to h =
    let first = h.0 in let order = part.order in let rest = bars_order parts part.to to h.1 in omega arith

pub bars_within : (parts : List BarRange) (from to : ℕ) → AreBars from to parts → All (λ part. part.to ≤ to) parts
bars_within [] from to h = All-nil (λ part. part.to ≤ to)
bars_within (part ∷ parts) from to h =
    All-cons (λ part. part.to ≤ to) part parts (bars_order parts part.to to h.1) (bars_within parts part.to to h.1)

-- one part more
pub bars_more : (parts : List BarRange) (from to : ℕ) (part : BarRange)
    → AreBars from to parts → part.from ≡ to → AreBars from part.to (parts ++ part ∷ [])
bars_more [] from to part h e = (e ∙ sym h, refl)
bars_more (first ∷ parts) from to part h e = (h.0, bars_more parts first.to to part h.1 e)

pub rows_of_parts : (is_row : ℕ → List ℕ → Type 0)
    (parts : List BarRange) (made : List (List (List ℕ))) (from to : ℕ)
    → AreBars from to parts → AllZip (λ part rows. AreRowsOf is_row part.from (part.to - part.from) rows) parts made
    → AreRowsOf is_row from (to - from) (flat_map (λ part. part) made)
rows_of_parts is_row [] [] from to h each =
    let none : to - from ≡ 0 = omega (arith, h) in rw none (rows_none is_row from)
rows_of_parts is_row [] (rows ∷ made) from to h each = absurd each
rows_of_parts is_row (part ∷ parts) [] from to h each = absurd each
rows_of_parts is_row (part ∷ parts) (rows ∷ made) from to h each =
    let first = h.0 in let order = part.order in let later = bars_order parts part.to to h.1 in
    let count : (part.to - from) + (to - part.to) ≡ to - from = omega arith in
    let next : part.to ≡ from + (part.to - from) = omega arith in
    subst (λ n. AreRowsOf is_row from n (rows ++ flat_map (λ part. part) made)) count
    (rows_append is_row from (part.to - from) (to - part.to) rows (flat_map (λ part. part) made)
    (subst (λ a. AreRowsOf is_row a (part.to - a) rows) first each.0)
    (subst (λ a. AreRowsOf is_row a (to - part.to) (flat_map (λ part. part) made)) next
    (rows_of_parts is_row parts made part.to to h.1 each.1)))

-- the rows of all bars are the table
pub table_of_rows : (is_row : ℕ → List ℕ → Type 0) (n : ℕ) (rows : List (List ℕ))
    → AreRowsOf is_row 0 (n - 0) rows → IsForceTable is_row n rows
table_of_rows is_row n rows h = record {
  count = let count = h.count in omega arith;
  each = λ a l. subst (λ bar. is_row bar (slice_index_or rows a [])) (omega arith) (h.each a (omega arith));
}

pub table_low : (is_row : ℕ → List ℕ → Type 0) (n : ℕ) (rows : List (List ℕ))
    → ((a : ℕ) (row : List ℕ) → a < n → is_row a row → All (λ force. force ≤ 2048) row)
    → IsForceTable is_row n rows
    → AreWithin 2048 rows
table_low is_row n rows low h =
    All-from_get_or (λ row. All (λ force. force ≤ 2048) row) rows []
    (λ a l. let count = h.count in low a (slice_index_or rows a []) (omega arith) (h.each a (omega arith)))

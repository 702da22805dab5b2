-- The items of each page are good and in order: only a block that begins a tune has a title.
use Rattle.std.proofs.Common.{ℕ, zero, suc, ℤ, Bool, true, false, cond, List, [], ◌∷◌, ◌++◌, map, Option, Some, None}
use Rattle.std.proofs.lemmas.List.Elements.{All-append, All-cons, All-head, All-nil, All-tail}
use Rattle.std.specs.Prelude.{◌==◌, ⊤, All, Result, Ok, Err}
use Rattle.std.specs.List.{AllZip}
use Rattle.abc_lines.specs.declared.fault.Fault.{Fault}
use Rattle.lay_springs.specs.declared.margin.Placed.{Placed}
use Rattle.lay_pages.specs.declared.filling.Spot.{Spot}
use Rattle.lay_pages.specs.declared.stacking.Heights.{Heights}
use Rattle.lay_pages.specs.declared.titles.TitleRow.{TitleRow}
use Rattle.mus_laid.specs.declared.laid.SystemMarks.{SystemMarks}
use Rattle.ps_text.specs.declared.sheet.Item.{Item}
use Rattle.ps_text.specs.Range.{InOrder, IsAfter, IsItem, IsPage}
use Rattle.set_tune.specs.declared.tune.SetTune.{SetTune}
use Rattle.{set_book.specs.declared.outcome.Outcome.{Outcome}, set_staves.specs.Marks.{system_at}}
use Rattle.set_pages.specs.Drawings.{Content, Drawing, title, system, all_drawings, content_items, drawings_from, drawn}
use Rattle.set_pages.specs.Drawings.{outcome_drawings, result_drawings, title_item_at, system_contents, systems_of}
use Rattle.set_pages.specs.Drawings.{title_contents, tune_items}
use Rattle.set_pages.specs.Ready.{IsDrawnInRange}
use Rattle.set_pages.specs.Sheet.{items_on, pages_from}

-- each may follow any item
abbrev pub BeginsFree : List Item → Type 0
BeginsFree [] = ⊤
BeginsFree (j ∷ rest) = (i : Item) → IsAfter i j

pub record IsOrdered (xs : List Item) : Type 0 where
  pub order : InOrder xs
  pub free : BeginsFree xs

order_append : (xs ys : List Item) → InOrder xs → InOrder ys → BeginsFree ys → InOrder (xs ++ ys)
order_append [] ys prefix back free = back
order_append (i ∷ []) [] prefix back free = tt
order_append (i ∷ []) (j ∷ ys) prefix back free = (free i, back)
order_append (i ∷ j ∷ xs) ys prefix back free = (prefix.0, order_append (j ∷ xs) ys prefix.1 back free)

free_append : (xs ys : List Item) → BeginsFree xs → BeginsFree ys → BeginsFree (xs ++ ys)
free_append [] ys prefix back = back
free_append (i ∷ xs) ys prefix back = prefix

ordered_append : (xs ys : List Item) → IsOrdered xs → IsOrdered ys → IsOrdered (xs ++ ys)
ordered_append xs ys prefix back = record {
  order = order_append xs ys prefix.order back.order back.free;
  free = free_append xs ys prefix.free back.free;
}

free_tune : (ordinal : ℕ) (i : Item) → IsAfter i (Item.Tune ordinal)
free_tune ordinal (Item.Tune other) = tt
free_tune ordinal i = tt

free_system : (width : ℕ) (top : ℤ) (m : SystemMarks) (at bases : List ℤ) (i : Item)
    → IsAfter i (system_at width at top m bases)
free_system width top m at bases (Item.Tune other) = tt
free_system width top m at bases i = tt

-- a block with a title begins a tune
abbrev pub begun : Option ℕ → Content → Type 0
begun None (title rows) = ⊥
begun _ _ = ⊤

abbrev pub IsBegun : Drawing → Type 0
IsBegun d = begun d.begins d.content

titles_order : (top : ℤ) (i : Item) (rows : List TitleRow)
    → ((row : TitleRow) → IsAfter i (title_item_at top row)) → InOrder (i ∷ map (title_item_at top) rows)
titles_order top i [] after = tt
titles_order top i (row ∷ rows) after = (after row, titles_order top (title_item_at top row) rows (λ next. tt))

drawn_ordered : (width : ℕ) (top : ℤ) (begins : Option ℕ) (content : Content)
    → begun begins content → IsOrdered (tune_items begins ++ content_items width top content)
drawn_ordered width top None (title rows) h = absurd h
drawn_ordered width top None (system m at bases) h = record { order = tt; free = free_system width top m at bases }
drawn_ordered width top (Some ordinal) (title rows) h =
    record { order = titles_order top (Item.Tune ordinal) rows (λ row. tt); free = free_tune ordinal }
drawn_ordered width top (Some ordinal) (system m at bases) h = record { order = (tt, tt); free = free_tune ordinal }

if_put : (P : List Item → Type 0) (b : Bool) (xs ys : List Item)
    → (P xs → P ys → P (xs ++ ys)) → P xs → P ys → P (cond b xs [] ++ ys)
if_put P true xs ys join prefix back = join prefix back
if_put P false xs ys join prefix back = back

pub items_ordered : (width page : ℕ) (ds : List Drawing) (ss : List Spot)
    → All IsBegun ds → IsOrdered (items_on width page ds ss)
items_ordered width page (d ∷ ds) (s ∷ ss) all =
    if_put IsOrdered (s.page == page) (drawn width s.top d) (items_on width page ds ss)
    (ordered_append (drawn width s.top d) (items_on width page ds ss))
    (drawn_ordered width s.top d.begins d.content (All-head IsBegun d ds all))
    (items_ordered width page ds ss (All-tail IsBegun d ds all))
items_ordered width page ds ss all = record { order = tt; free = tt }

items_good : (width page : ℕ) (ds : List Drawing) (ss : List Spot)
    → AllZip (IsDrawnInRange width) ds ss → All IsItem (items_on width page ds ss)
items_good width page (d ∷ ds) (s ∷ ss) good =
    if_put (All IsItem) (s.page == page) (drawn width s.top d) _ (All-append IsItem (drawn width s.top d) _) good.0
    (items_good width page ds ss good.1)
items_good width page ds ss good = All-nil IsItem

pub pages_good : (width : ℕ) (ds : List Drawing) (ss : List Spot) (k n : ℕ)
    → AllZip (IsDrawnInRange width) ds ss → All IsBegun ds → All IsPage (pages_from width ds ss k n)
pages_good width ds ss k zero good begun = All-nil IsPage
pages_good width ds ss k (suc n) good begun =
    All-cons IsPage (record { items = items_on width k ds ss }) (pages_from width ds ss (suc k) n)
    (record { items = items_good width k ds ss good; order = (items_ordered width k ds ss begun).order })
    (pages_good width ds ss (suc k) n good begun)

-- each title of a tune begins it
systems_begun : (begins : Option ℕ) (systems : List SystemMarks) (placed : List Placed) (heights : List Heights)
    → All IsBegun (drawings_from begins (system_contents systems placed heights))
systems_begun None (m ∷ systems) (p ∷ placed) (h ∷ heights) =
    All-cons IsBegun _ _ tt (systems_begun None systems placed heights)
systems_begun (Some ordinal) (m ∷ systems) (p ∷ placed) (h ∷ heights) =
    All-cons IsBegun _ _ tt (systems_begun None systems placed heights)
systems_begun begins systems placed heights = All-nil IsBegun

tune_begun : (ordinal : ℕ) (rows : List TitleRow) (t : SetTune)
    → All IsBegun (drawings_from (Some ordinal) (title_contents rows ++ systems_of t))
tune_begun ordinal [] t = systems_begun (Some ordinal) t.systems t.placed t.heights
tune_begun ordinal (row ∷ rows) t = All-cons IsBegun _ _ tt (systems_begun None t.systems t.placed t.heights)

result_begun : (ordinal : ℕ) (r : Result SetTune Fault) → All IsBegun (result_drawings ordinal r)
result_begun ordinal (Ok t) = tune_begun ordinal t.title.rows t
result_begun ordinal (Err fault) = All-nil IsBegun

pub all_begun : (outcomes : List Outcome) → All IsBegun (all_drawings outcomes)
all_begun [] = All-nil IsBegun
all_begun (o ∷ outcomes) =
    All-append IsBegun (outcome_drawings o) (all_drawings outcomes) (result_begun o.ordinal o.result)
    (all_begun outcomes)

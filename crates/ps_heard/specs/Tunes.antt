-- What the tunes of a sheet sound. The systems of a tune are those after its Tune item and before the next one. A
-- staff is heard through all of them in order, if they have it. There are as many staves as the largest of these
-- systems has.
use Rattle.std.specs.Prelude.{ℕ, ℤ, max, List, [], ◌∷◌, length, map, flat_map, slice_get, Option, Some, None}
use Rattle.std.specs.List.{range_with_len}
use Rattle.mus_units.specs.declared.key.Spread.{Spread}
use Rattle.ps_text.specs.Ranks.{anchors}
use Rattle.ps_text.specs.declared.sheet.Item.{Item}
use Rattle.ps_text.specs.declared.sheet.Page.{Page}
use Rattle.ps_text.specs.declared.sheet.Sheet.{Sheet}
use Rattle.ps_text.specs.declared.sheet.Staff.{Staff}
use Rattle.ps_heard.specs.declared.column.HeardColumn.{HeardColumn}
use Rattle.ps_heard.specs.declared.column.Heard.{Heard}
use Rattle.ps_heard.specs.declared.tunes.SheetTune.{SheetTune}
use Rattle.ps_heard.specs.Columns.{heard_columns_of}
use Rattle.ps_heard.specs.Hearing.{heard_of}

-- the items of a sheet, page by page
abbrev pub items_of : Sheet → List Item
items_of s = flat_map (λ (p : Page). p.items) s.pages

-- the systems before the next tune
abbrev pub systems_till : List Item → List (List Staff)
systems_till [] = []
systems_till (Item.Tune ordinal ∷ rest) = []
systems_till (Item.Title x y size text ∷ rest) = systems_till rest
systems_till (Item.System a b staves ∷ rest) = staves ∷ systems_till rest

-- the tunes in order: for each its ordinal and its systems
abbrev pub tunes_of : List Item → List SheetTune
tunes_of [] = []
tunes_of (Item.Tune ordinal ∷ rest) = record { ordinal = ordinal; systems = systems_till rest } ∷ tunes_of rest
tunes_of (Item.Title x y size text ∷ rest) = tunes_of rest
tunes_of (Item.System a b staves ∷ rest) = tunes_of rest

-- the columns of staff k of a system, if it has that staff
abbrev pub columns_if : List ℤ → Option Staff → List HeardColumn
columns_if places None = []
columns_if places (Some staff) = heard_columns_of places staff.marks

abbrev pub heard_staff_columns : ℕ → List Staff → List HeardColumn
heard_staff_columns k staves = columns_if (anchors staves) (slice_get staves k)

abbrev pub staff_heard : Spread → List (List Staff) → ℕ → List Heard
staff_heard spread systems k = heard_of spread (flat_map (heard_staff_columns k) systems)

-- the number of staves of the largest of these systems
abbrev pub most_staves : List (List Staff) → ℕ
most_staves [] = 0
most_staves (staves ∷ rest) = max (length staves) (most_staves rest)

-- what is heard, staff by staff
abbrev pub staves_heard : Spread → List (List Staff) → List (List Heard)
staves_heard spread systems = map (staff_heard spread systems) (range_with_len 0 (most_staves systems))

abbrev pub part_heard : Spread → Option SheetTune → List (List Heard)
part_heard spread None = []
part_heard spread (Some part) = staves_heard spread part.systems

-- what the tune at an index among the tunes of a sheet sounds; nothing if there is no such tune
abbrev pub heard_in : Sheet → ℕ → Spread → List (List Heard)
heard_in s tune spread = part_heard spread (slice_get (tunes_of (items_of s)) tune)

-- The measures of a voice: each has the tree of its leaves, and its bar.
use Rattle.std.specs.Prelude.{ℕ, ◌==◌, List, map, filter, length, slice_index_or}
use Rattle.std.specs.List.{range_with_len}
use Rattle.mus_units.specs.declared.note.Bar.{Bar}
use Rattle.mus_score.specs.declared.score.Measure.{Measure}
use Rattle.abc_signs.specs.declared.written.TreeItem.{TreeItem}
use Rattle.abc_events.specs.Leaf.{Leaf}
use Rattle.abc_events.specs.Bars.{plain_bar}
use Rattle.abc_events.specs.Leaves.{Words, leaves_of}
use Rattle.abc_events.specs.Nesting.{tree_of}

abbrev pub leaf_measure : Leaf → ℕ
leaf_measure (Leaf.Event measure nodes) = measure
leaf_measure (Leaf.Opens measure p q r) = measure

abbrev pub leaves_in : ℕ → List Leaf → List Leaf
leaves_in measure leaves = filter (λ l. leaf_measure l == measure) leaves

abbrev pub measure_of_leaves : List Leaf → List Bar → ℕ → Measure
measure_of_leaves leaves bars k = record { body = tree_of (leaves_in k leaves); bar = slice_index_or bars k plain_bar }

-- as many measures as there are bars
abbrev pub measures_in : List Leaf → List Bar → List Measure
measures_in leaves bars = map (measure_of_leaves leaves bars) (range_with_len 0 (length bars))

abbrev pub measures_of : List TreeItem → List Words → List Bar → List Measure
measures_of signs words bars = measures_in (leaves_of words signs) bars

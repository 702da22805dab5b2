-- The order of column keys: by measure, then tick, then class, then place.
use Rattle.std.specs.Prelude.{ℕ, ◌+◌, Bool, true, ◌&&◌, ◌||◌, ◌==◌, nat_lt, if◌then◌else◌, List, [], ◌∷◌, ◌≡◌}
use Rattle.mus_onsets.specs.{declared.keys.Class.Class, declared.keys.ColumnKey.ColumnKey}

-- the place of a class in the order of classes
abbrev pub class_number : Class → ℕ
class_number Class.Head = 0
class_number Class.First = 1
class_number Class.Change = 2
class_number Class.Grace = 3
class_number Class.Note = 4
class_number Class.Bar = 5

-- the first numbers decide; if they are equal, the others do
abbrev pub is_below_or_tied : ℕ → ℕ → Bool → Bool
is_below_or_tied x y rest = nat_lt x y || ((x == y) && rest)

-- whether a column comes before another
unfoldable pub is_below : ColumnKey → ColumnKey → Bool
is_below k l =
    is_below_or_tied k.measure l.measure
    (is_below_or_tied k.tick l.tick
    (is_below_or_tied (class_number k.class) (class_number l.class)
    (nat_lt k.place l.place)))

-- whether two keys belong to one column
unfoldable pub same_key : ColumnKey → ColumnKey → Bool
same_key k l =
    (k.measure == l.measure)
    && (k.tick == l.tick)
    && (class_number k.class == class_number l.class)
    && (k.place == l.place)

abbrev pub BelowAll : ColumnKey → List ColumnKey → Type 0
BelowAll k [] = Unit {0}
BelowAll k (l ∷ ls) = (is_below k l ≡ true) × BelowAll k ls

-- each key is below all that follow it
abbrev pub Rises : List ColumnKey → Type 0
Rises [] = Unit {0}
Rises (k ∷ ks) = BelowAll k ks × Rises ks

-- the rank of a key: the number of smaller keys
abbrev pub key_rank : List ColumnKey → ColumnKey → ℕ
key_rank [] k = 0
key_rank (l ∷ ls) k = if is_below l k then 1 + key_rank ls k else key_rank ls k

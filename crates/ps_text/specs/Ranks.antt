-- Ranks read off a page: the marks of a staff, each abscissa replaced by the number of smaller anchors of its system.
use Rattle.std.specs.Prelude.{ℕ, ℤ, pos, ◌+◌, Bool, ◌&&◌, not, int_lt, int_le, if◌then◌else◌, List, [], ◌∷◌, flat_map}
use Rattle.std.specs.Prelude.{Option, Some, None}
use Rattle.std.specs.List.{list_any}
use Rattle.ps_text.specs.{declared.marks.PageMark.PageMark, declared.sheet.Staff.Staff}

-- a step that may return nothing
infixl 10 ◌>>=◌
abbrev pub ◌>>=◌ : {A B : Type 0} → Option A → (A → Option B) → Option B
None >>= f = None
(Some x) >>= f = f x

-- glyphs, words and stems are at an anchor; beams and arcs go between anchors
abbrev pub anchor_of : PageMark → List ℤ
anchor_of (PageMark.Glyph glyph x dx dy) = x ∷ []
anchor_of (PageMark.Words size x dx dy words) = x ∷ []
anchor_of (PageMark.Stem x dx from to) = x ∷ []
anchor_of (PageMark.Beam way x1 x2 from to) = []
anchor_of (PageMark.Arc x1 x2 from to bulge) = []

-- the anchors of all staves of a system, with repetitions
unfoldable pub anchors : List Staff → List ℤ
anchors staves = flat_map (λ (s : Staff). flat_map anchor_of s.marks) staves

abbrev pub is_same : ℤ → ℤ → Bool
is_same a b = int_le a b && int_le b a

-- the number of different numbers of a list that are below x
abbrev pub count_below : ℤ → List ℤ → ℕ
count_below x [] = 0
count_below x (a ∷ rest) =
    if int_lt a x && not (list_any (is_same a) rest) then count_below x rest + 1 else count_below x rest

-- the rank of an abscissa that is an anchor
unfoldable pub rank_of : List ℤ → ℤ → Option ℤ
rank_of all x = if list_any (is_same x) all then Some (pos (count_below x all)) else None

-- a mark with ranks in place of its abscissas
abbrev pub ranked : List ℤ → PageMark → Option PageMark
ranked all (PageMark.Glyph glyph x dx dy) = rank_of all x >>= λ r. Some (PageMark.Glyph glyph r dx dy)
ranked all (PageMark.Words size x dx dy words) = rank_of all x >>= λ r. Some (PageMark.Words size r dx dy words)
ranked all (PageMark.Stem x dx from to) = rank_of all x >>= λ r. Some (PageMark.Stem r dx from to)
ranked all (PageMark.Beam way x1 x2 from to) =
    rank_of all x1 >>= λ r. rank_of all x2 >>= λ t. Some (PageMark.Beam way r t from to)
ranked all (PageMark.Arc x1 x2 from to bulge) =
    rank_of all x1 >>= λ r. rank_of all x2 >>= λ t. Some (PageMark.Arc r t from to bulge)

abbrev pub all_ranked : List ℤ → List PageMark → Option (List PageMark)
all_ranked all [] = Some []
all_ranked all (m ∷ rest) = ranked all m >>= λ r. all_ranked all rest >>= λ rs. Some (r ∷ rs)

-- the ranks of a staff of a system; none if some abscissa is no anchor
unfoldable pub ranks : List Staff → Staff → Option (List PageMark)
ranks staves s = all_ranked (anchors staves) s.marks

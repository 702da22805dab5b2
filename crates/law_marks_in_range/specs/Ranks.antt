-- The columns of marks, by their ranks.
use Rattle.std.specs.{Prelude.{ℕ, ◌<◌, ◌==◌, IsTrue, List, All, flat_map}, List.{filter_map, list_any}}
use Rattle.mus_laid.specs.declared.laid.Mark.{Mark}
use Rattle.mus_laid.specs.declared.laid.Laid.{Laid}
use Rattle.mus_laid.specs.declared.laid.StaffMarks.{StaffMarks}
use Rattle.mus_laid.specs.Ranked.{anchor_rank}

-- a mark is at one of n columns; a beam or an arc goes from one of them to a later one
abbrev pub IsRanked : ℕ → Mark → Type 0
IsRanked n (Mark.Glyph glyph rank dx dy) = rank < n
IsRanked n (Mark.Words size rank dx dy text) = rank < n
IsRanked n (Mark.Stem rank dx from to) = rank < n
IsRanked n (Mark.Beam way first last from to) = (first < last) × (last < n)
IsRanked n (Mark.Arc first last from to bulge) = (first < last) × (last < n)

abbrev pub AreMarksRanked : ℕ → List Laid → Type 0
AreMarksRanked n all = All (λ laid. IsRanked n laid.mark) all

-- the ranks of glyphs, words and stems
abbrev pub marks_ranks : List Laid → List ℕ
marks_ranks all = filter_map (λ laid. anchor_rank laid.mark) all

-- of all staves of a system
abbrev pub staves_ranks : List StaffMarks → List ℕ
staves_ranks staves = flat_map (λ s. marks_ranks s.marks) staves

-- each of n columns is the column of some rank of a list
abbrev pub AreAnchored : ℕ → List ℕ → Type 0
AreAnchored n all = (k : ℕ) → k < n → IsTrue (list_any (λ r. k == r) all)

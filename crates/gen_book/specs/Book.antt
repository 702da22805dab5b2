-- The generated book of n tunes. Each tune has its number, a title, common time, eighths, one of four keys, and 16
-- lines of four measures. Its letters come from a number that starts as the tune's.
use Rattle.std.specs.Prelude.{ℕ, zero, suc, ◌+◌, ◌*◌, ◌/◌, ◌%◌, ◌^◌, List, [], ◌∷◌, ◌++◌, codes, decimal, slice_index}

-- the number after a number
unfoldable pub next_number : ℕ → ℕ
next_number s = (s * 1103515245 + 12345) % 2 ^ 31

-- the letter of a number, one of seven
unfoldable pub letter_of_note : ℕ → ℕ
letter_of_note s = slice_index (codes "GABcdef") ((s / 65536) % 7)

-- the number this many steps after a number
abbrev pub number_after_steps : ℕ → ℕ → ℕ
number_after_steps zero s = s
number_after_steps (suc k) s = next_number (number_after_steps k s)

-- the four letters after a number
unfoldable pub half_after : ℕ → List ℕ
half_after s =
    letter_of_note (number_after_steps 1 s) ∷ letter_of_note (number_after_steps 2 s)
    ∷ letter_of_note (number_after_steps 3 s) ∷ letter_of_note (number_after_steps 4 s) ∷ []

-- a measure: four letters, a space, four letters, a bar
unfoldable pub measure_after : ℕ → List ℕ
measure_after s = half_after s ++ 32 ∷ half_after (number_after_steps 4 s) ++ 124 ∷ []

-- this many measures, with nothing between
abbrev pub measures_after : ℕ → ℕ → List ℕ
measures_after zero s = []
measures_after (suc k) s = measure_after s ++ measures_after k (number_after_steps 8 s)

-- a line of four measures
unfoldable pub line_after : ℕ → List ℕ
line_after s = measures_after 4 s ++ 10 ∷ []

-- this many lines
abbrev pub lines_after : ℕ → ℕ → List ℕ
lines_after zero s = []
lines_after (suc k) s = line_after s ++ lines_after k (number_after_steps 32 s)

-- the key of a tune by its number: C, G, D, F in turn
unfoldable pub key_of_tune : ℕ → ℕ
key_of_tune i = slice_index (codes "CGDF") (i % 4)

-- the lines of a tune before its music
unfoldable pub heading_of_tune : ℕ → List ℕ
heading_of_tune i =
    codes "X:" ++ decimal i ++ codes "\nT:Tune " ++ decimal i ++ codes "\nM:4/4\nL:1/8\nK:" ++ key_of_tune i ∷ 10 ∷ []

-- a tune, and the empty line after it
unfoldable pub tune : ℕ → List ℕ
tune i = heading_of_tune i ++ lines_after 16 i ++ 10 ∷ []

-- this many tunes, the first with the number i
abbrev pub tunes : ℕ → ℕ → List ℕ
tunes zero i = []
tunes (suc k) i = tune i ++ tunes k (i + 1)

unfoldable pub book : ℕ → List ℕ
book n = tunes n 1

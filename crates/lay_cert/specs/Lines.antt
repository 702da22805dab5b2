-- The lines of a listing, as they are printed.
use Prim.Native.Char.{code}
use Rattle.std.specs.Prelude.{ℕ, List, ◌∷◌, ◌++◌, Option, Some, None, codes, decimal}
use Rattle.lay_cert.specs.declared.lines.ListingLine.{ListingLine}
use Rattle.eng_reader.specs.Grammar as lines
use Rattle.lay_cert.specs.declared.lines.ListingLine.TheVariants.{Listing, Tune, OneSpan, Choose, Total, Potential, End}

-- a sum, or the word none
abbrev pub sum_text : Option ℕ → List ℕ
sum_text None = codes "none"
sum_text (Some v) = decimal v

-- Words and numbers, separated by one space. Numbers are decimal, without leading zeros.
abbrev pub line_text : ListingLine → List ℕ
line_text Listing = codes "listing 1"
line_text (Tune tune bars) = codes "tune " ++ decimal tune ++ codes " measures " ++ decimal bars
line_text (OneSpan s) = codes "span " ++ decimal s.a ++ code " " ∷ decimal s.b ++ code " " ∷ decimal s.badness
line_text (Choose bar) = codes "choose " ++ decimal bar
line_text (Total total) = codes "total " ++ decimal total
line_text (Potential bar least) = codes "potential " ++ decimal bar ++ code " " ∷ sum_text least
line_text End = codes "end"

-- the lines, each ended by a line feed, and then what follows them
abbrev pub lines_then : List ListingLine → List ℕ → List ℕ
lines_then = lines.lines_then line_text

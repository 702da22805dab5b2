-- Good tokens, which are those that a music line can write: numbers within their bounds, a head in each chord, and a
-- head in each note or chord of a grace group.
use Rattle.std.specs.Prelude.{ℕ, ◌≤◌, ⊤, List, [], ◌∷◌}
use Rattle.mus_units.specs.declared.note.Head.{Head}
use Rattle.abc_notes.specs.declared.part.Len.{Len}
use Rattle.abc_notes.specs.declared.part.GraceChord.{GraceChord}
use Rattle.abc_pieces.specs.declared.token.Token.{Token}
use Rattle.abc_music.specs.declared.token.Placed.{Placed}

-- numbers of one to four digits, and not zero
pub record IsGoodLen (len : Len) : Type 0 where
  pub some : 1 ≤ len.num
  pub num_high : len.num ≤ 9999
  pub above : 1 ≤ len.den
  pub den_high : len.den ≤ 9999

abbrev pub AreGoodHeads : List (Head × Len) → Type 0
AreGoodHeads [] = ⊤
AreGoodHeads (h ∷ more) = IsGoodLen h.1 × AreGoodHeads more

-- a chord has a head
abbrev pub HasHead : List (Head × Len) → Type 0
HasHead [] = ⊥
HasHead (h ∷ more) = ⊤

-- a note or a chord of a grace group has a head
abbrev pub HasGraceHead : List Head → Type 0
HasGraceHead [] = ⊥
HasGraceHead (h ∷ more) = ⊤

abbrev pub AreGoodGraces : List GraceChord → Type 0
AreGoodGraces [] = ⊤
AreGoodGraces (chord ∷ more) = HasGraceHead chord.heads × AreGoodGraces more

-- p is 2 to 9; q is at most 9 and r at most 99, and 0 where it is left out
pub record IsGoodTuplet (p q r : ℕ) : Type 0 where
  pub p_low : 2 ≤ p
  pub p_high : p ≤ 9
  pub q_high : q ≤ 9
  pub r_high : r ≤ 99

abbrev pub IsGoodToken : Token → Type 0
IsGoodToken (Token.Note head len) = IsGoodLen len
IsGoodToken (Token.Rest seen len) = IsGoodLen len
IsGoodToken (Token.Measures seen count) = (1 ≤ count) × (count ≤ 999)
IsGoodToken (Token.Chord chord) = HasHead chord.heads × AreGoodHeads chord.heads × IsGoodLen chord.len
IsGoodToken (Token.Grace slash body) = AreGoodGraces body
IsGoodToken (Token.Tuplet p q r) = IsGoodTuplet p q r
IsGoodToken (Token.Broken right dots) = (1 ≤ dots) × (dots ≤ 3)
IsGoodToken _ = ⊤

abbrev pub AreGoodTokens : List Placed → Type 0
AreGoodTokens [] = ⊤
AreGoodTokens (placed ∷ more) = IsGoodToken placed.token × AreGoodTokens more

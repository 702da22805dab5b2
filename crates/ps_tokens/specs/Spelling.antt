-- One byte as words spell it.
use Prim.Native.Char.{code}
use Rattle.std.specs.Prelude.{◌≡◌, ℕ, Bool, ◌&&◌, not, IsTrue, List, ◌∷◌, ◌++◌, codes}
use Rattle.mus_units.specs.Bytes.{is_within}
use Rattle.ps_text.specs.Fields.{is_special, shown}
use Rattle.ps_text.specs.Range.{is_shown}
use Rattle.ps_tokens.specs.declared.string.Spelling.{Spelling}

-- a byte that stands for itself
abbrev pub is_bare : ℕ → Bool
is_bare b = is_within (codes " ~") b && not (is_special b)

-- 2 or 3, the first octal digit of a byte from A0 on
abbrev pub is_lead : ℕ → Bool
is_lead b = is_within (codes "23") b

abbrev pub is_octal : ℕ → Bool
is_octal b = is_within (codes "07") b

-- the text begins with a spelled byte
pub record IsByte (s : List ℕ) (b : ℕ) (rest : List ℕ) : Type 0 where
  pub good : IsTrue (is_shown b)
  pub spelled : s ≡ shown b ++ rest

-- all bytes to the end are a proper prefix of what spells some byte
pub record IsCut (s : List ℕ) : Type 0 where
  pub byte : ℕ
  pub first : ℕ
  pub more : List ℕ
  pub good : IsTrue (is_shown byte)
  pub spelled : s ++ first ∷ more ≡ shown byte

-- whatever follows these bytes, they begin with neither a spelled byte nor a `)`
pub record IsBroken (s : List ℕ) : Type 0 where
  pub no_byte : (b : ℕ) (t u : List ℕ) → IsTrue (is_shown b) → s ++ t ≡ shown b ++ u → ⊥
  pub no_close : (t u : List ℕ) → s ++ t ≡ code ")" ∷ u → ⊥

abbrev pub IsSpelling : List ℕ → Spelling → Type 0
IsSpelling s (Spelling.Byte b rest) = IsByte s b rest.now
IsSpelling s (Spelling.Close rest) = s ≡ code ")" ∷ rest.now
IsSpelling s Spelling.Cut = IsCut s
IsSpelling s Spelling.Broken = IsBroken s

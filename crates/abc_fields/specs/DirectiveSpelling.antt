-- The form of a directive: `%%` or `I:`, which mean the same, then optional blanks, then its name, then its text
-- between blanks.
use Rattle.std.specs.Prelude.{◌≡◌, ℕ, List, [], ◌∷◌, ◌++◌, IsTrue, ⊤, not, reverse, codes}
use Rattle.{abc_lines.specs.Kinds.{is_blank}, abc_field.specs.WordSpelling.{IsFirstWord, IsBetweenBlanks}}

pub data Lead : Type 0 where
  percents : Lead
  instruction : Lead

abbrev pub lead_spelled : Lead → List ℕ
lead_spelled percents = codes "%%"
lead_spelled instruction = codes "I:"

-- does not begin with a blank
abbrev pub BeginsBare : List ℕ → Type 0
BeginsBare [] = ⊤
BeginsBare (b ∷ s) = IsTrue (not (is_blank b))

-- has no blank at either end
abbrev pub HasBareEnds : List ℕ → Type 0
HasBareEnds s = BeginsBare s × BeginsBare (reverse s)

-- the line is a directive with that name and this text
pub record IsDirective (line name says : List ℕ) : Type 0 where
  pub lead : Lead
  pub text : List ℕ
  pub after : List ℕ
  pub led : line ≡ lead_spelled lead ++ text
  pub named : IsFirstWord text name after
  pub between : IsBetweenBlanks after says
  pub bare : HasBareEnds says

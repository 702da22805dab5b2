-- The texts of marks, as they can be printed.
use Rattle.std.specs.Prelude.{ℕ, ⊤, ◌≤◌, IsTrue, List, length, All}
use Rattle.std.specs.List.{list_all}
use Rattle.mus_laid.specs.{declared.laid.Mark.Mark, declared.laid.Laid.Laid, Printed.is_printable}

-- 1 to 60 characters, none of which is a control character
pub record IsPrinted (text : List ℕ) : Type 0 where
  pub printable : IsTrue (list_all is_printable text)
  pub some : 1 ≤ length text
  pub few : length text ≤ 60

abbrev pub HasPrinted : Mark → Type 0
HasPrinted (Mark.Words size rank dx dy text) = IsPrinted text
HasPrinted _ = ⊤

abbrev pub HavePrinted : List Laid → Type 0
HavePrinted all = All (λ laid. HasPrinted laid.mark) all

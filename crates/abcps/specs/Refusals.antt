-- The answer to a refused input: the status, and the line on errors.
use Rattle.std.specs.Prelude.{ℕ, List, ◌++◌, codes, decimal}
use Rattle.ps_reports.specs.PaintText.{halt_line}
use Rattle.abcps.specs.declared.refusing.Refusal.{Refusal}
use Rattle.abcps.specs.declared.status.Status.{Status}

abbrev pub not_pages_line : ℕ → List ℕ
not_pages_line line = codes "not pages at line " ++ decimal line ++ codes "\n"

abbrev pub refusal_status : Refusal → Status
refusal_status (Refusal.NotPages line) = Status.NotPages
refusal_status (Refusal.Halted token cause) = Status.Halted

abbrev pub refusal_line : Refusal → List ℕ
refusal_line (Refusal.NotPages line) = not_pages_line line
refusal_line (Refusal.Halted token cause) = halt_line token cause

-- a status with which an input is refused
abbrev pub IsRefusalStatus : Status → Type 0
IsRefusalStatus Status.NotPages = Unit {0}
IsRefusalStatus Status.Halted = Unit {0}
IsRefusalStatus _ = ⊥

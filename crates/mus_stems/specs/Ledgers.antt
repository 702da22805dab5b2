-- The ledger lines of an event.
use Rattle.std.specs.Prelude.{ℕ, zero, suc, ℤ, pos, negsuc, ◌+◌, ◌-◌, ◌*◌, ◌/◌, ◌+ℤ◌, ◌-ℤ◌, List, [], ◌∷◌, ◌++◌}
use Rattle.mus_stems.specs.Distances.{first_below, first_above, between_lines}

-- ledgers on even heights from -2 down to the lowest head, and from 10 up to the highest
unfoldable pub line_below : ℕ → ℤ
line_below k = first_below -ℤ pos (between_lines * k)

unfoldable pub line_above : ℕ → ℤ
line_above k = first_above +ℤ pos (between_lines * k)

-- n of them, from the k-th on
abbrev pub ledger_lines : (ℕ → ℤ) → ℕ → ℕ → List ℤ
ledger_lines line k zero = []
ledger_lines line k (suc n) = line k ∷ ledger_lines line (k + 1) n

abbrev pub lines_below : ℤ → ℕ
lines_below (negsuc n) = (n + 1) / 2
lines_below (pos n) = 0

abbrev pub lines_above : ℤ → ℕ
lines_above (pos n) = (n - 8) / 2
lines_above (negsuc n) = 0

unfoldable pub ledgers_of : ℤ → ℤ → List ℤ
ledgers_of low high = ledger_lines line_below 0 (lines_below low) ++ ledger_lines line_above 0 (lines_above high)

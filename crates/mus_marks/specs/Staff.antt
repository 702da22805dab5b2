-- The marks of a staff in a system, for the voices on it.
use Rattle.std.specs.Prelude.{ℕ, pos, ◌≤ℤ◌, List, map, sum}
use Rattle.mus_onsets.specs.declared.keys.ColumnKey.{ColumnKey}
use Rattle.mus_laid.specs.declared.laid.Laid.{Laid}
use Rattle.mus_laid.specs.declared.laid.StaffMarks.{StaffMarks}
use Rattle.mus_laid.specs.Boxes.{staff_heights}
use Rattle.mus_laid.specs.Distances.{top_line}
use Rattle.mus_ink.specs.Drawing.{cut_dy}
use Rattle.mus_drawn.specs.declared.drawn.DrawnVoice.{DrawnVoice}
use Rattle.mus_slots.specs.Staff.{staff_laid}
use Rattle.mus_slots.specs.Voice.{slots_of_voices}

-- the verses of a staff are those of its voices, one voice after another
abbrev pub verses_on : List DrawnVoice → ℕ
verses_on voices = sum (map (λ v. v.verses) voices)

-- marks, and how low and how high they reach
unfoldable pub staff_over : List Laid → StaffMarks
staff_over all = record { marks = all; low = cut_dy (staff_heights all).low; high = cut_dy (staff_heights all).high }

-- The marks of a staff in measures a to b - 1: column by column, in each what the slots of its voices have there one
-- after another; then what goes between columns, voice by voice. The head, the bar before the first measure, changes
-- and bars are the first voice's.
unfoldable pub staff_marks : List ColumnKey → List ℕ → ℕ → ℕ → List DrawnVoice → StaffMarks
staff_marks keys lengths a b voices =
    staff_over (staff_laid keys (verses_on voices) (slots_of_voices 0 lengths a b voices))

-- a staff covers at least its lines
abbrev pub CoversLines : StaffMarks → Type 0
CoversLines staff = (staff.low ≤ℤ pos 0) × (pos top_line ≤ℤ staff.high)

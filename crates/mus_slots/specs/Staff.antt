-- The marks of a staff from the slots of its voices: in the column of each key what its voices have there, one voice
-- after another; then what goes between columns, voice by voice.
use Rattle.std.specs.Prelude.{ℕ, ◌+◌, List, [], ◌∷◌, ◌++◌, filter, flat_map, length, map, Option, Some, None}
use Rattle.mus_onsets.specs.declared.keys.ColumnKey.{ColumnKey}
use Rattle.mus_onsets.specs.Order.{key_rank, same_key}
use Rattle.mus_laid.specs.declared.boxes.HeightRange.{HeightRange}
use Rattle.mus_laid.specs.declared.drawn.LaneInk.{LaneInk}
use Rattle.mus_laid.specs.declared.laid.Laid.{Laid}
use Rattle.mus_laid.specs.Boxes.{staff_heights}
use Rattle.mus_laid.specs.Ranked.{bridge_at, drawn_at}
use Rattle.mus_ink.specs.Drawing.{cut_dy}
use Rattle.mus_words.specs.declared.texts.TextPlace.{TextPlace}
use Rattle.mus_words.specs.Syllables.{syllables_from}
use Rattle.mus_words.specs.Texts.{above_from, below_from}
use Rattle.mus_slots.specs.declared.slots.Slot.{Slot}
use Rattle.mus_slots.specs.declared.slots.VoiceSlots.{VoiceSlots}
use Rattle.mus_slots.specs.declared.slots.Written.{Written}

-- what is in the column of a key
abbrev pub slots_at : ColumnKey → List Slot → List Slot
slots_at key slots = filter (λ s. same_key s.key key) slots

abbrev pub column_slots : ColumnKey → List (List Slot) → List Slot
column_slots key voices = flat_map (slots_at key) voices

-- words at their place
abbrev pub written_marks : TextPlace → Written → List LaneInk
written_marks place w =
    syllables_from place.low w.first w.syllables
    ++ (above_from place.high place.above w.above ++ below_from place.low place.verses place.below w.below)

-- marks, and after them words if these have a place
abbrev pub ink_with : Option TextPlace → List LaneInk → Written → List LaneInk
ink_with None drawn w = drawn
ink_with (Some place) drawn w = drawn ++ written_marks place w

-- all that a slot has in its column
abbrev pub slot_ink : Option TextPlace → Slot → List LaneInk
slot_ink place s = ink_with place s.drawn s.written

-- the same in its column of a system
abbrev pub slot_laid : List ColumnKey → Option TextPlace → Slot → List Laid
slot_laid keys place s = map (drawn_at (key_rank keys s.key)) (slot_ink place s)

abbrev pub slots_laid : List ColumnKey → Option TextPlace → List Slot → List Laid
slots_laid keys place slots = flat_map (slot_laid keys place) slots

-- the place of further texts in the column
abbrev pub place_after : TextPlace → Written → TextPlace
place_after place w =
    record place { above = place.above + length w.above; below = place.below + length w.below }

abbrev pub places_after : TextPlace → List Slot → TextPlace
places_after place [] = place
places_after place (s ∷ ss) = places_after (place_after place s.written) ss

-- the marks of slots of one column, texts outwards from slot to slot
abbrev pub column_marks : TextPlace → List Slot → List LaneInk
column_marks place [] = []
column_marks place (s ∷ ss) = slot_ink (Some place) s ++ column_marks (place_after place s.written) ss

-- all marks of a staff except syllables and texts
abbrev pub bare_slots : List ColumnKey → VoiceSlots → List Laid
bare_slots keys v = slots_laid keys None v.slots

abbrev pub bridges_at : List ColumnKey → List VoiceSlots → List Laid
bridges_at keys voices = map (bridge_at keys) (flat_map (λ v. v.bridges) voices)

abbrev pub bare_laid : List ColumnKey → List VoiceSlots → List Laid
bare_laid keys voices = flat_map (bare_slots keys) voices ++ bridges_at keys voices

-- the first words of a column are outside of the heights of all other marks of their staff, whose verses have this
-- number
abbrev pub place_over : ℕ → HeightRange → TextPlace
place_over verses heights =
    record { low = cut_dy heights.low; high = cut_dy heights.high; verses = verses; above = 0; below = 0 }

abbrev pub place_outside : ℕ → List Laid → TextPlace
place_outside verses others = place_over verses (staff_heights others)

abbrev pub column_at : List ColumnKey → TextPlace → List (List Slot) → ColumnKey → List Laid
column_at keys place voices key = map (drawn_at (key_rank keys key)) (column_marks place (column_slots key voices))

abbrev pub all_slots : List VoiceSlots → List (List Slot)
all_slots voices = map (λ v. v.slots) voices

abbrev pub staff_columns : List ColumnKey → ℕ → List VoiceSlots → List Laid
staff_columns keys verses voices =
    flat_map (column_at keys (place_outside verses (bare_laid keys voices)) (all_slots voices)) keys

unfoldable pub staff_laid : List ColumnKey → ℕ → List VoiceSlots → List Laid
staff_laid keys verses voices = staff_columns keys verses voices ++ bridges_at keys voices

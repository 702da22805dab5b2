-- The words of slots one after another: each at the place of further texts in its column, which then is past its own.
use Rattle.std.specs.Prelude.{ℕ, ◌+◌, List, [], ◌∷◌, ◌++◌, map, set, slice_get, Option, Some, None}
use Rattle.std.specs.List.{AllByRecursion, Contains}
use Rattle.mus_onsets.specs.declared.keys.ColumnKey.{ColumnKey}
use Rattle.mus_onsets.specs.Order.{Rises, key_rank}
use Rattle.mus_laid.specs.declared.drawn.LaneInk.{LaneInk}
use Rattle.mus_laid.specs.declared.laid.Laid.{Laid}
use Rattle.mus_laid.specs.Ranked.{drawn_at}
use Rattle.mus_words.specs.declared.texts.TextPlace.{TextPlace}
use Rattle.mus_drawn.specs.declared.drawn.DrawnEvent.{DrawnEvent}
use Rattle.mus_drawn.specs.declared.drawn.DrawnMeasure.{DrawnMeasure}
use Rattle.mus_drawn.specs.declared.drawn.DrawnVoice.{DrawnVoice}
use Rattle.mus_time.specs.Columns.{note_key}
use Rattle.mus_slots.specs.declared.slots.Slot.{Slot}
use Rattle.mus_slots.specs.declared.slots.VoiceSlots.{VoiceSlots}
use Rattle.mus_slots.specs.declared.slots.Written.{Written}
use Rattle.mus_slots.specs.Staff.{place_after, written_marks}
use Rattle.mus_slots.specs.Voice.{keys_of, slots_of_voice, written_of}

-- in a column that has a place for words
abbrev pub words_in : Option TextPlace → Written → List LaneInk
words_in None w = []
words_in (Some place) w = written_marks place w

-- the places of the columns of a system, by rank, after words in one of them
abbrev pub passed_in : List TextPlace → ℕ → Written → Option TextPlace → List TextPlace
passed_in places r w None = places
passed_in places r w (Some place) = set places r (place_after place w)

abbrev pub passed : List TextPlace → ℕ → Written → List TextPlace
passed places r w = passed_in places r w (slice_get places r)

abbrev pub all_passed : List ColumnKey → List TextPlace → List Slot → List TextPlace
all_passed keys places [] = places
all_passed keys places (s ∷ ss) = all_passed keys (passed places (key_rank keys s.key) s.written) ss

abbrev pub words_from : List ColumnKey → List TextPlace → List Slot → List Laid
words_from keys places [] = []
words_from keys places (s ∷ ss) =
    let r = key_rank keys s.key in
    map (drawn_at r) (words_in (slice_get places r) s.written) ++ words_from keys (passed places r s.written) ss

-- the words alone of events, and of measures from number m on
abbrev pub words_slot : ℕ → ℕ → DrawnEvent → Slot
words_slot first m e = record { key = note_key m e; drawn = []; written = written_of first e.flat }

abbrev pub words_slots : ℕ → ℕ → List DrawnMeasure → List Slot
words_slots first m [] = []
words_slots first m (d ∷ ds) = map (words_slot first m) d.events ++ words_slots first (m + 1) ds

-- the marks of voices, and after those of each voice its words
abbrev pub with_words : List ColumnKey → List TextPlace → List (List Laid) → List VoiceSlots → List (List Laid)
with_words keys places [] vs = []
with_words keys places (bare ∷ more) [] = []
with_words keys places (bare ∷ more) (v ∷ vs) =
    bare ∷ words_from keys places v.slots ∷ with_words keys (all_passed keys places v.slots) more vs

-- a voice whose columns rise and are among the keys of its system
abbrev pub IsInOrder : List ColumnKey → VoiceSlots → Type 0
IsInOrder keys v = Rises (keys_of v.slots) × AllByRecursion (λ s. Contains keys s.key) v.slots

-- the same for a drawn voice in measures a to b - 1, wherever its verses are on the staff
abbrev pub IsOrdered : List ColumnKey → List ℕ → ℕ → ℕ → DrawnVoice → Type 0
IsOrdered keys lengths a b v = (first : ℕ) → IsInOrder keys (slots_of_voice first lengths a b v)

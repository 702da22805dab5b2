-- Columns by rank are columns by key: those of a measure and those of a system are determined by the slots that the
-- voices of each staff have at each key.
use Rattle.std.proofs.Common.{◌≡◌, ◌∙◌, ℕ, ◌+◌, ◌<◌, ◌≤◌, Bool, true, Some, List, [], ◌∷◌, ◌++◌, length, map, refl}
use Rattle.std.proofs.Common.{sym, ap, subst, arith}
use Rattle.std.proofs.lemmas.List.Elements.{All-contains, All-from_recursion, filter_map-append, recursion_from_All}
use Rattle.std.specs.List.{AllByRecursion, Contains, flat_map}
use Rattle.mus_score.specs.declared.score.Score.{Score}
use Rattle.mus_score.specs.declared.score.Voice.{Voice}
use Rattle.mus_score.specs.GoodScore.{IsGoodScore}
use Rattle.mus_score.specs.Seats.{is_lower}
use Rattle.mus_onsets.specs.declared.keys.ColumnKey.{ColumnKey}
use Rattle.mus_onsets.specs.Keys.{AreKeys, called_keys}
use Rattle.mus_onsets.specs.Order.{Rises, key_rank}
use Rattle.mus_laid.specs.declared.boxes.Sides.{Sides}
use Rattle.mus_laid.specs.declared.laid.Laid.{Laid}
use Rattle.mus_laid.specs.declared.laid.StaffMarks.{StaffMarks}
use Rattle.mus_drawn.specs.declared.drawn.DrawnVoice.{DrawnVoice}
use Rattle.mus_drawn.specs.Drawn.{drawn_voice}
use Rattle.mus_time.specs.Columns.{keys_called, staff_columns}
use Rattle.mus_time.proofs.Called.{called_same, voices_same}
use Rattle.mus_time.proofs.Counts.{voice_count}
use Rattle.mus_slots.specs.declared.slots.Slot.{Slot}
use Rattle.mus_slots.specs.Staff.{all_slots, column_slots, slots_at, slots_laid}
use Rattle.mus_slots.specs.Voice.{keys_of, range_slots, slots_of_voices, voice_slots}
use Rattle.mus_slots.proofs.KeysOf.{IsSeated, range_keyed}
use Rattle.mus_slots.proofs.Marks.{all_weaker}
use Rattle.mus_slots.proofs.Ranges.{slice_long}
use Rattle.mus_marks.specs.System.{drawn_staves, is_drawn_lower}
use Rattle.mus_marks.proofs.Groups.{grouped_all}
use Rattle.mus_marks.proofs.Inside.{AreAmong, among_left, among_right, here, there}
use Rattle.mus_marks.specs.Staff.{staff_marks, staff_over, verses_on}
use Rattle.mus_marks.proofs.Placed.{voice_seated}
use Rattle.lay_reaches.specs.declared.column.Column.{Column}
use Rattle.lay_reaches.specs.Columns.{columns_of}
use Rattle.lay_reaches.specs.Reaches.{box_at, boxes_at}
use Rattle.lay_reaches.proofs.Keyed.{HasBoxes, columns_keyed, keyed_columns, keyed_same}
use Rattle.lay_columns.specs.Measures.{fixed_place, measure_staff, parts_from}
use Rattle.lay_columns.proofs.Boxes.{boxes_of, placed_ink, slots_both, slots_boxes, staff_boxes}

pub both_pass : {X : Type 0} (P Q : X → Type 0) (xs : List X)
    → AllByRecursion P xs → AllByRecursion Q xs → AllByRecursion (λ x. P x × Q x) xs
both_pass P Q [] p q = tt
both_pass P Q (x ∷ xs) p q = ((p.0, q.0), both_pass P Q xs p.1 q.1)

pub found : {X : Type 0} (P : X → Type 0) (xs : List X) (x : X) → AllByRecursion P xs → Contains xs x → P x
found P xs x all has = All-contains P xs x (All-from_recursion P xs all) has

-- the slots of each voice, given the number of its first verse
abbrev pub SlotsOf : Type 0
SlotsOf = ℕ → DrawnVoice → List Slot

-- what the voices of a staff have at a key, the verses of each after those of the voices before it
abbrev pub staff_at : SlotsOf → ColumnKey → ℕ → List DrawnVoice → List Slot
staff_at slots k first [] = []
staff_at slots k first (v ∷ vs) = slots_at k (slots first v) ++ staff_at slots k (first + v.verses) vs

abbrev pub key_boxes : SlotsOf → List DrawnVoice → ColumnKey → ℕ → List Sides
key_boxes slots vs k lane = slots_boxes lane (staff_at slots k 0 vs)

abbrev pub key_columns : SlotsOf → List ColumnKey → List (List DrawnVoice) → List ℕ → List ℕ → List Column
key_columns slots keys staves lengths verses = keyed_columns (key_boxes slots) keys staves lengths verses

-- ---- where the slots at each key are the same
module _ (slots other : SlotsOf) (k : ColumnKey) where
  abbrev pub SameAt : DrawnVoice → Type 0
  SameAt v = (first : ℕ) → slots_at k (slots first v) ≡ slots_at k (other first v)

  staff_same : (first : ℕ) (vs : List DrawnVoice)
      → AllByRecursion SameAt vs → staff_at slots k first vs ≡ staff_at other k first vs
  staff_same first [] same = refl
  staff_same first (v ∷ vs) same =
      ap (λ t. t ++ staff_at slots k (first + v.verses) vs) (same.0 first)
      ∙ ap (λ t. slots_at k (other first v) ++ t) (staff_same (first + v.verses) vs same.1)

pub columns_same : (slots other : SlotsOf) (P : ColumnKey → Type 0) (Q : DrawnVoice → Type 0)
    → ((k : ColumnKey) → P k → (v : DrawnVoice) → Q v → SameAt slots other k v)
    → (keys : List ColumnKey) (staves : List (List DrawnVoice)) (lengths verses : List ℕ)
    → AllByRecursion P keys → AllByRecursion (AllByRecursion Q) staves
    → key_columns slots keys staves lengths verses ≡ key_columns other keys staves lengths verses
columns_same slots other P Q same keys staves lengths verses known all =
    keyed_same lengths (key_boxes slots) (key_boxes other) keys staves verses
    (all_weaker P
    (λ k. AllByRecursion (λ vs. (lane : ℕ) → key_boxes slots vs k lane ≡ key_boxes other vs k lane) staves)
    (λ k p.
    all_weaker (AllByRecursion Q) (λ vs. (lane : ℕ) → key_boxes slots vs k lane ≡ key_boxes other vs k lane)
    (λ vs each lane.
    ap (slots_boxes lane)
    (staff_same slots other k 0 vs (all_weaker Q (SameAt slots other k) (λ v q. same k p v q) vs each)))
    staves all)
    keys known)

-- ---- the keys of the slots of each voice
-- a drawn voice of n measures, all of one seat
pub record IsWhole (n : ℕ) (v : DrawnVoice) : Type 0 where
  pub count : length v.measures ≡ n
  pub seated : AllByRecursion (IsSeated (is_lower v.seat)) v.measures

whole : (n : ℕ) (vs : List Voice)
    → AllByRecursion (λ v. length v.measures ≡ n) vs → AllByRecursion (IsWhole n) (map drawn_voice vs)
whole n [] same = tt
whole n (v ∷ vs) same = (record { count = voice_count v ∙ same.0; seated = voice_seated v }, whole n vs same.1)

pub voices_whole : (s : Score) → IsGoodScore s → AllByRecursion (IsWhole s.measures) (map drawn_voice s.voices)
voices_whole s good =
    whole s.measures s.voices (recursion_from_All (λ v. length v.measures ≡ s.measures) s.voices good.measures)

abbrev pub IsAmong : List ColumnKey → SlotsOf → DrawnVoice → Type 0
IsAmong keys slots v = (first : ℕ) → AllByRecursion (λ s. Contains keys s.key) (slots first v)

slots_among : (keys : List ColumnKey) (ss : List Slot)
    → AreAmong (keys_of ss) keys → AllByRecursion (λ s. Contains keys s.key) ss
slots_among keys [] among = tt
slots_among keys (s ∷ ss) among = (
  among s.key (here s.key (keys_of ss)),
  slots_among keys ss (λ k has. among k (there k s.key (keys_of ss) has)),
)

voices_among : (begins : Bool) (lengths : List ℕ) (a b n : ℕ) (keys : List ColumnKey) (vs : List DrawnVoice)
    → a < b → b ≤ n → AllByRecursion (IsWhole n) vs → AreAmong (flat_map (staff_columns begins lengths a b) vs) keys
    → AllByRecursion (IsAmong keys (range_slots begins lengths a b)) vs
voices_among begins lengths a b n keys [] order within all among = tt
voices_among begins lengths a b n keys (v ∷ vs) order within all among =
    let count = all.0.count in
    let long = slice_long a b v.measures (omega (arith, within, count)) in
    let own = staff_columns begins lengths a b v in
    let more = flat_map (staff_columns begins lengths a b) vs in (
      λ first.
          slots_among keys (range_slots begins lengths a b first v)
          (subst (λ ks. AreAmong ks keys)
          (sym (range_keyed begins first lengths a b v (omega (arith, long, order)) all.0.seated))
          (among_left own more keys among)),
      voices_among begins lengths a b n keys vs order within all.1 (among_right own more keys among),
    )

-- in a system, and in one measure
pub system_among : (s : Score) (lengths : List ℕ) (a b : ℕ) (keys : List ColumnKey)
    → IsGoodScore s → a < b → b ≤ s.measures → AreKeys keys (called_keys s lengths a b)
    → AllByRecursion (IsAmong keys (range_slots true lengths a b)) (map drawn_voice s.voices)
system_among s lengths a b keys good order within are =
    voices_among true lengths a b s.measures keys (map drawn_voice s.voices) order within (voices_whole s good)
    (subst (λ called. AreAmong called keys) (voices_same lengths a b s.voices) are.all)

pub measure_among : (begins : Bool) (s : Score) (lengths : List ℕ) (m : ℕ) (keys : List ColumnKey)
    → IsGoodScore s → m < s.measures → AreKeys keys (keys_called begins s lengths m)
    → AllByRecursion (IsAmong keys (range_slots begins lengths m (m + 1))) (map drawn_voice s.voices)
measure_among begins s lengths m keys good within are =
    voices_among begins lengths m (m + 1) s.measures keys (map drawn_voice s.voices) (omega arith)
    (omega (arith, within)) (voices_whole s good)
    (subst (λ called. AreAmong called keys) (called_same begins s lengths m) are.all)

-- ---- a measure
module _ (keys : List ColumnKey) (slots : SlotsOf) (k : ColumnKey) (lane : ℕ) (has : Contains keys k) where
  abbrev part : ℕ → DrawnVoice → List Laid
  part first v = slots_laid keys (Some fixed_place) (slots first v)

  parts_boxes : (first : ℕ) (vs : List DrawnVoice)
      → AllByRecursion (IsAmong keys slots) vs
      → boxes_at (key_rank keys k) lane (parts_from part first vs)
      ≡ slots_boxes lane (staff_at slots k first vs)
  parts_boxes first [] among = refl
  parts_boxes first (v ∷ vs) among =
      let r = key_rank keys k in
      let rest = parts_from part (first + v.verses) vs in
      filter_map-append (box_at r lane) (part first v) rest
      ∙ ap (λ t. t ++ boxes_at r lane rest)
      (boxes_of (λ s. s.key) placed_ink keys k lane has (slots first v) (among.0 first))
      ∙ ap (λ t. slots_boxes lane (slots_at k (slots first v)) ++ t) (parts_boxes (first + v.verses) vs among.1)
      ∙ sym (slots_both lane (slots_at k (slots first v)) (staff_at slots k (first + v.verses) vs))

pub measure_keyed : (begins : Bool) (s : Score) (lengths : List ℕ) (m : ℕ) (verses : List ℕ) (keys : List ColumnKey)
    → IsGoodScore s → m < s.measures → AreKeys keys (keys_called begins s lengths m)
    → columns_of keys (map (measure_staff begins keys lengths m) (drawn_staves s)) lengths verses
    ≡ key_columns (range_slots begins lengths m (m + 1)) keys (drawn_staves s) lengths verses
measure_keyed begins s lengths m verses keys good within are =
    let slots = range_slots begins lengths m (m + 1) in
    let staff = measure_staff begins keys lengths m in
    columns_keyed lengths staff (key_boxes slots) keys (drawn_staves s) verses are.rise
    (all_weaker (AllByRecursion (IsAmong keys slots)) (λ vs. HasBoxes keys (staff vs).marks (key_boxes slots vs))
    (λ vs each k lane has. parts_boxes keys slots k lane has 0 vs each) (drawn_staves s)
    (grouped_all is_drawn_lower (IsAmong keys slots) (map drawn_voice s.voices)
    (measure_among begins s lengths m keys good within are)))

-- ---- a system
voices_at : (lengths : List ℕ) (a b : ℕ) (k : ColumnKey) (first : ℕ) (vs : List DrawnVoice)
    → column_slots k (all_slots (slots_of_voices first lengths a b vs))
    ≡ staff_at (range_slots true lengths a b) k first vs
voices_at lengths a b k first [] = refl
voices_at lengths a b k first (v ∷ vs) =
    ap (λ t. slots_at k (voice_slots first lengths a b v) ++ t) (voices_at lengths a b k (first + v.verses) vs)

module _ (keys : List ColumnKey) (lengths : List ℕ) (a b : ℕ) (rise : Rises keys) where
  abbrev staff : List DrawnVoice → StaffMarks
  staff = staff_marks keys lengths a b

  abbrev boxes : List DrawnVoice → ColumnKey → ℕ → List Sides
  boxes = key_boxes (range_slots true lengths a b)

  slotted_boxes : (vs : List DrawnVoice) → HasBoxes keys (staff vs).marks (boxes vs)
  unfolding staff_marks staff_over
  slotted_boxes vs k lane has =
      staff_boxes keys k lane (verses_on vs) (slots_of_voices 0 lengths a b vs) rise has
      ∙ ap (slots_boxes lane) (voices_at lengths a b k 0 vs)

  all_slotted : (staves : List (List DrawnVoice))
      → AllByRecursion (λ vs. HasBoxes keys (staff vs).marks (boxes vs)) staves
  all_slotted [] = tt
  all_slotted (vs ∷ staves) = (slotted_boxes vs, all_slotted staves)

  pub system_keyed : (staves : List (List DrawnVoice)) (verses : List ℕ)
      → columns_of keys (map (staff_marks keys lengths a b) staves) lengths verses
      ≡ key_columns (range_slots true lengths a b) keys staves lengths verses
  system_keyed staves verses = columns_keyed lengths staff boxes keys staves verses rise (all_slotted staves)

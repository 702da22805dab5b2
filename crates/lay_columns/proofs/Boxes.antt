-- The boxes of slots: in the column of a key those of the slots at that key. The place of words changes their heights
-- only, and beams and arcs have no box.
use Rattle.std.proofs.Common.{◌≡◌, ◌∙◌, ℕ, ℤ, ◌+◌, ◌==◌, ◌&&◌, Bool, true, false, cond, if◌then◌else◌, List, [], ◌∷◌}
use Rattle.std.proofs.Common.{◌++◌, length, map, Option, Some, None, refl, sym, ap}
use Rattle.std.proofs.lemmas.Grind.{flat_map-append}
use Rattle.std.proofs.lemmas.List.{append-nil}
use Rattle.std.proofs.lemmas.List.Elements.{Contains-get_or, filter_map-append, recursion_from_All}
use Rattle.std.specs.List.{AllByRecursion, Contains, cons_option, filter_map, flat_map}
use Rattle.mus_onsets.specs.declared.keys.ColumnKey.{ColumnKey}
use Rattle.mus_onsets.specs.Order.{Rises, key_rank, same_key}
use Rattle.mus_laid.specs.declared.boxes.Sides.{Sides}
use Rattle.mus_laid.specs.declared.drawn.Bridge.{Bridge}
use Rattle.mus_laid.specs.declared.drawn.BridgeShape.{BridgeShape}
use Rattle.mus_laid.specs.declared.drawn.Ink.{Ink}
use Rattle.mus_laid.specs.declared.drawn.LaneInk.{LaneInk}
use Rattle.mus_laid.specs.Printed.{printed}
use Rattle.mus_laid.specs.Ranked.{bridge_at, drawn_at, ink_at}
use Rattle.mus_ink.specs.{Distances.half_character, Drawing.back}
use Rattle.mus_words.specs.declared.texts.TextPlace.{TextPlace}
use Rattle.mus_words.specs.Syllables.{syllable_dx, syllable_if, syllables_from, verse_dy}
use Rattle.mus_words.specs.Texts.{above_dy, above_from, below_dy, below_from}
use Rattle.mus_words.specs.Words.{words}
use Rattle.mus_slots.specs.declared.slots.Slot.{Slot}
use Rattle.mus_slots.specs.declared.slots.VoiceSlots.{VoiceSlots}
use Rattle.mus_slots.specs.declared.slots.Written.{Written}
use Rattle.mus_slots.specs.Staff.{all_slots, bare_laid, bridges_at, column_at, column_marks, column_slots, place_after}
use Rattle.mus_slots.specs.Staff.{place_outside, slot_ink, staff_laid, written_marks}
use Rattle.mus_slots.proofs.ByKey.{at, laid_at_key, once, rank_same}
use Rattle.lay_reaches.specs.Lanes.{lane_number}
use Rattle.lay_reaches.specs.Reaches.{box_at, boxes_at, is_lane_number}
use Rattle.lay_columns.specs.Measures.{fixed_place}
use Rattle.mus_laid.specs.declared.laid.Lane.TheVariants as lanes

-- the box of ink in a lane, in whichever column it is
abbrev pub ink_box : ℕ → LaneInk → Option Sides
ink_box lane d = box_at 0 lane (drawn_at 0 d)

abbrev pub ink_boxes : ℕ → List LaneInk → List Sides
ink_boxes lane ds = filter_map (ink_box lane) ds

abbrev pub placed_ink : Slot → List LaneInk
placed_ink = slot_ink (Some fixed_place)

abbrev pub slots_boxes : ℕ → List Slot → List Sides
slots_boxes lane slots = ink_boxes lane (flat_map placed_ink slots)

-- ---- by key
one_box : (r q lane : ℕ) (d : LaneInk) → box_at r lane (drawn_at q d) ≡ (if r == q then ink_box lane d else None)
one_box r q lane d = by d.ink
  where
    in_lane : (b c : Bool) (o : Option Sides)
        → (if b && c then o else None) ≡ (if b then (if c then o else None) else None)
    in_lane true c o = refl
    in_lane false c o = refl

    none : (b : Bool) (o : Option Sides) → None ≡ o → None ≡ (if b then o else None)
    none true o e = e
    none false o e = refl

    by : (i : Ink)
        → box_at r lane (record { mark = ink_at q i; lane = d.lane })
        ≡ (if r == q then box_at 0 lane (record { mark = ink_at 0 i; lane = d.lane }) else None)
    by (Ink.Glyph glyph dx dy) = in_lane (r == q) (is_lane_number lane (lane_number d.lane)) _
    by (Ink.Words size dx dy text) = in_lane (r == q) (is_lane_number lane (lane_number d.lane)) _
    by (Ink.Stem dx from to) = none (r == q) None refl

column_boxes : (r q lane : ℕ) (b : Bool) (ds : List LaneInk)
    → (r == q) ≡ b → boxes_at r lane (map (drawn_at q) ds) ≡ cond b (ink_boxes lane ds) []
column_boxes r q lane true [] e = refl
column_boxes r q lane false [] e = refl
column_boxes r q lane true (d ∷ ds) e =
    ap (λ o. cons_option o (boxes_at r lane (map (drawn_at q) ds)))
    (one_box r q lane d ∙ ap (λ c. if c then ink_box lane d else None) e)
    ∙ ap (cons_option (ink_box lane d)) (column_boxes r q lane true ds e)
column_boxes r q lane false (d ∷ ds) e =
    ap (λ o. cons_option o (boxes_at r lane (map (drawn_at q) ds)))
    (one_box r q lane d ∙ ap (λ c. if c then ink_box lane d else None) e)
    ∙ column_boxes r q lane false ds e

-- of things with keys among those of a system
module _ {S : Type 0} (key : S → ColumnKey) (ink : S → List LaneInk) (keys : List ColumnKey) (k : ColumnKey) (lane : ℕ)
    (has : Contains keys k) where
  pub boxes_of : (ss : List S)
      → AllByRecursion (λ s. Contains keys (key s)) ss
      → boxes_at (key_rank keys k) lane (flat_map (laid_at_key key keys ink) ss)
      ≡ ink_boxes lane (flat_map ink (at key k ss))
  boxes_of [] among = refl
  boxes_of (s ∷ ss) among =
      let r = key_rank keys k in
      let q = key_rank keys (key s) in
      let rest = flat_map (laid_at_key key keys ink) ss in
      filter_map-append (box_at r lane) (map (drawn_at q) (ink s)) rest
      ∙ ap (λ t. t ++ boxes_at r lane rest)
      (column_boxes r q lane (same_key (key s) k) (ink s) (rank_same keys k (key s) has among.0))
      ∙ ap (λ t. cond (same_key (key s) k) (ink_boxes lane (ink s)) [] ++ t) (boxes_of ss among.1)
      ∙ by (same_key (key s) k)
    where
      by : (b : Bool)
          → cond b (ink_boxes lane (ink s)) [] ++ ink_boxes lane (flat_map ink (at key k ss))
          ≡ ink_boxes lane (flat_map ink (cond b (s ∷ at key k ss) (at key k ss)))
      by true = sym (filter_map-append (ink_box lane) (ink s) (flat_map ink (at key k ss)))
      by false = refl

-- ---- words in another place
module _ (lane : ℕ) where
  both : (xs ys zs ws : List LaneInk)
      → ink_boxes lane xs ≡ ink_boxes lane ys → ink_boxes lane zs ≡ ink_boxes lane ws
      → ink_boxes lane (xs ++ zs) ≡ ink_boxes lane (ys ++ ws)
  both xs ys zs ws h g =
      filter_map-append (ink_box lane) xs zs
      ∙ ap (λ t. t ++ ink_boxes lane zs) h
      ∙ ap (λ t. ink_boxes lane ys ++ t) g
      ∙ sym (filter_map-append (ink_box lane) ys ws)

  syllable_same : (low high : ℤ) (n : ℕ) (w : Option (List ℕ))
      → ink_boxes lane (syllable_if low n w) ≡ ink_boxes lane (syllable_if high n w)
  syllable_same low high n None = refl
  syllable_same low high n (Some t) = by (length (printed t) == 0) (printed t)
    where
      by : (b : Bool) (t : List ℕ)
          → ink_boxes lane (if b then [] else words (lanes.Verse n) (syllable_dx (length t)) (verse_dy low n) t ∷ [])
          ≡ ink_boxes lane (if b then [] else words (lanes.Verse n) (syllable_dx (length t)) (verse_dy high n) t ∷ [])
      by true t = refl
      by false t = refl

  syllables_same : (low high : ℤ) (n : ℕ) (ws : List (Option (List ℕ)))
      → ink_boxes lane (syllables_from low n ws) ≡ ink_boxes lane (syllables_from high n ws)
  syllables_same low high n [] = refl
  syllables_same low high n (w ∷ ws) =
      both (syllable_if low n w) (syllable_if high n w) _ _ (syllable_same low high n w)
      (syllables_same low high (n + 1) ws)

  above_same : (low high : ℤ) (k l : ℕ) (ts : List (List ℕ))
      → ink_boxes lane (above_from low k ts) ≡ ink_boxes lane (above_from high l ts)
  above_same low high k l [] = refl
  above_same low high k l (t ∷ ts) =
      ap (cons_option (ink_box lane (words lanes.Above (back half_character) (above_dy low k) t)))
      (above_same low high (k + 1) (l + 1) ts)

  below_same : (low high : ℤ) (v w k l : ℕ) (ts : List (List ℕ))
      → ink_boxes lane (below_from low v k ts) ≡ ink_boxes lane (below_from high w l ts)
  below_same low high v w k l [] = refl
  below_same low high v w k l (t ∷ ts) =
      ap (cons_option (ink_box lane (words lanes.Below (back half_character) (below_dy low v k) t)))
      (below_same low high v w (k + 1) (l + 1) ts)

  words_same : (p q : TextPlace) (w : Written)
      → ink_boxes lane (written_marks p w) ≡ ink_boxes lane (written_marks q w)
  words_same p q w =
      both (syllables_from p.low w.first w.syllables) (syllables_from q.low w.first w.syllables) _ _
      (syllables_same p.low q.low w.first w.syllables)
      (both (above_from p.high p.above w.above) (above_from q.high q.above w.above) _ _
      (above_same p.high q.high p.above q.above w.above)
      (below_same p.low q.low p.verses q.verses p.below q.below w.below))

  column_same : (p : TextPlace) (ss : List Slot) → ink_boxes lane (column_marks p ss) ≡ slots_boxes lane ss
  column_same p [] = refl
  column_same p (s ∷ ss) =
      both (slot_ink (Some p) s) (placed_ink s) (column_marks (place_after p s.written) ss)
      (flat_map placed_ink ss)
      (both s.drawn s.drawn _ _ refl (words_same p fixed_place s.written))
      (column_same (place_after p s.written) ss)

  pub slots_both : (xs ys : List Slot) → slots_boxes lane (xs ++ ys) ≡ slots_boxes lane xs ++ slots_boxes lane ys
  slots_both xs ys =
      ap (ink_boxes lane) (flat_map-append placed_ink xs ys)
      ∙ filter_map-append (ink_box lane) (flat_map placed_ink xs) (flat_map placed_ink ys)

-- ---- a staff
bridge_none : (keys : List ColumnKey) (r lane : ℕ) (b : Bridge) → box_at r lane (bridge_at keys b) ≡ None
bridge_none keys r lane b = by b.span
  where
    by : (shape : BridgeShape)
        → box_at r lane (bridge_at keys (record { first = b.first; last = b.last; span = shape })) ≡ None
    by (BridgeShape.Beam way from to) = refl
    by (BridgeShape.Arc from to bulge) = refl

bridges_none : (keys : List ColumnKey) (r lane : ℕ) (bs : List Bridge) → boxes_at r lane (map (bridge_at keys) bs) ≡ []
bridges_none keys r lane [] = refl
bridges_none keys r lane (b ∷ bs) =
    ap (λ o. cons_option o (boxes_at r lane (map (bridge_at keys) bs))) (bridge_none keys r lane b)
    ∙ bridges_none keys r lane bs

pub staff_boxes : (keys : List ColumnKey) (k : ColumnKey) (lane verses : ℕ) (voices : List VoiceSlots)
    → Rises keys → Contains keys k
    → boxes_at (key_rank keys k) lane (staff_laid keys verses voices)
    ≡ slots_boxes lane (column_slots k (all_slots voices))
unfolding staff_laid
staff_boxes keys k lane verses voices rise has =
    let r = key_rank keys k in
    let place = place_outside verses (bare_laid keys voices) in
    let columns = flat_map (column_at keys place (all_slots voices)) keys in
    let ink = λ (l : ColumnKey). column_marks place (column_slots l (all_slots voices)) in
    filter_map-append (box_at r lane) columns (bridges_at keys voices)
    ∙ ap (λ t. boxes_at r lane columns ++ t) (bridges_none keys r lane (flat_map (λ v. v.bridges) voices))
    ∙ append-nil (boxes_at r lane columns)
    ∙ boxes_of (λ l. l) ink keys k lane has keys
    (recursion_from_All (λ l. Contains keys l) keys (λ i d inside. Contains-get_or keys i d inside))
    ∙ ap (λ ls. ink_boxes lane (flat_map ink ls)) (once k keys rise has)
    ∙ ap (ink_boxes lane) (append-nil (ink k))
    ∙ column_same lane place (column_slots k (all_slots voices))

-- The parts of a staff as they are drawn: voices without words, and their words, put together column by column.
use Rattle.std.proofs.Common.{◌≡◌, ◌∙◌, ◌<◌, ◌≤◌, ℕ, zero, suc, pos, ◌+◌, List, [], ◌∷◌, ◌++◌, drop, get_or, length}
use Rattle.std.proofs.Common.{map, append_assoc, Bool, ◌||◌, Option, None, true, false, refl, sym, ap, arith}
use Rattle.std.proofs.lemmas.Grind.{flat_map-append}
use Rattle.std.proofs.lemmas.List.{append-nil, drop_more}
use Rattle.std.proofs.lemmas.List.Elements.{recursion_from_All}
use Rattle.std.specs.List.{All, AllByRecursion, flat_map}
use Rattle.mus_score.specs.Seats.{is_lower}
use Rattle.mus_onsets.specs.declared.keys.ColumnKey.{ColumnKey}
use Rattle.mus_onsets.specs.Order.{Rises, key_rank}
use Rattle.mus_laid.specs.declared.boxes.HeightRange.{HeightRange}
use Rattle.mus_laid.specs.declared.drawn.Bridge.{Bridge}
use Rattle.mus_laid.specs.declared.laid.Laid.{Laid}
use Rattle.mus_laid.specs.declared.laid.StaffMarks.{StaffMarks}
use Rattle.mus_laid.specs.Boxes.{heights, heights_of, over_marks, staff_heights, union_of_heights}
use Rattle.mus_laid.specs.Distances.{top_line}
use Rattle.mus_laid.specs.Ranked.{bridge_at, by_columns, drawn_at}
use Rattle.mus_words.specs.declared.texts.TextPlace.{TextPlace}
use Rattle.mus_drawn.specs.declared.drawn.DrawnEvent.{DrawnEvent}
use Rattle.mus_drawn.specs.declared.drawn.DrawnMeasure.{DrawnMeasure}
use Rattle.mus_drawn.specs.declared.drawn.DrawnVoice.{DrawnVoice}
use Rattle.mus_bridges.specs.Bridges.{bridges_of}
use Rattle.mus_slots.specs.declared.slots.VoiceSlots.{VoiceSlots}
use Rattle.mus_time.specs.Columns.{note_key}
use Rattle.mus_slots.specs.Staff.{bare_laid, bare_slots, ink_with, place_outside, slot_laid, slots_laid}
use Rattle.mus_slots.specs.Staff.{staff_columns, staff_laid}
use Rattle.mus_slots.specs.Voice.{bar_slots, change_slots, event_marks, event_slots, events_slots, group_slots}
use Rattle.mus_slots.specs.Voice.{levels_after, levels_in, measures_slots, slots_of_voices, voice_slots, written_of}
use Rattle.mus_slots.proofs.Laid.{blank_laid, event_laid}
use Rattle.mus_slots.specs.Words.{IsInOrder, IsOrdered, all_passed, with_words, words_from, words_slot, words_slots}
use Rattle.mus_slots.proofs.InColumns.{columns_same, silent_same}
use Rattle.mus_slots.proofs.Words.{SameWords, blank_same, one_blank, passed_join, words_join}
use Rattle.mus_marks.specs.Silent.{is_silent, is_silent_staff}
use Rattle.mus_marks.specs.Staff.{staff_marks, staff_over, verses_on}
use Rattle.mus_marks.proofs.Silent.{staff_blank, written_blank}

-- heights over marks, and over further ones
pub over_more : (range : HeightRange) (xs ys : List Laid)
    → over_marks (over_marks range xs) ys ≡ over_marks range (xs ++ ys)
over_more range [] ys = refl
over_more range (x ∷ xs) ys = over_more (union_of_heights range (heights_of x.mark)) xs ys

abbrev joined : List (List Laid) → List Laid
joined parts = flat_map (λ part. part) parts

-- what is left of a list from an element on
pub from_here : {A : Type 0} (xs : List A) (i : ℕ) (x : A)
    → i < length xs → x ≡ get_or xs i x → drop i xs ≡ x ∷ drop (i + 1) xs
from_here xs i x inside at = drop_more xs i x inside ∙ ap (λ y. y ∷ drop (i + 1) xs) (sym at)

past_end : {A : Type 0} (xs : List A) (i : ℕ) → length xs ≤ i → drop i xs ≡ []
past_end [] zero h = refl
past_end [] (suc i) h = refl
past_end (x ∷ xs) zero h = absurd (omega (arith, h))
past_end (x ∷ xs) (suc i) h = past_end xs i (omega (arith, h))

pub heights_turn : (parts : List (List Laid)) (i : ℕ) (part : List Laid) (range next whole : HeightRange)
    → i < length parts → part ≡ get_or parts i part → next ≡ over_marks range part
    → over_marks range (joined (drop i parts)) ≡ whole
    → over_marks next (joined (drop (i + 1) parts)) ≡ whole
heights_turn parts i part range next whole inside at made so_far =
    ap (λ h. over_marks h (joined (drop (i + 1) parts))) made
    ∙ over_more range part (joined (drop (i + 1) parts))
    ∙ ap (λ t. over_marks range (joined t)) (sym (from_here parts i part inside at))
    ∙ so_far

pub heights_done : (parts : List (List Laid)) (i : ℕ) (between : List Laid) (range end : HeightRange)
    → length parts ≤ i → over_marks range (joined (drop i parts)) ≡ staff_heights (joined parts)
    → end ≡ over_marks range between
    → end ≡ staff_heights (joined parts ++ between)
heights_done parts i between range end past so_far made =
    made
    ∙ ap (λ h. over_marks h between)
    (ap (λ t. over_marks range (joined t)) (sym (past_end parts i past)) ∙ so_far)
    ∙ over_more (heights (pos 0) (pos top_line)) (joined parts) between

-- one place for each key
mapped_drop : {A K : Type 0} (x : A) (ks : List K) (i : ℕ)
    → i < length ks → map (λ k. x) (drop i ks) ≡ x ∷ map (λ k. x) (drop (i + 1) ks)
mapped_drop x [] i h = absurd (omega (arith, h))
mapped_drop x (k ∷ ks) zero h = refl
mapped_drop x (k ∷ ks) (suc i) h =
    let e : suc (i + 1) ≡ suc i + 1 = omega arith in
    mapped_drop x ks i (omega (arith, h)) ∙ ap (λ n. x ∷ map (λ l. x) (drop n (k ∷ ks))) e

pub place_turn : (keys : List ColumnKey) (place : TextPlace) (i : ℕ) (places new whole : List TextPlace)
    → i < length keys → new ≡ places ++ place ∷ []
    → places ++ map (λ k. place) (drop i keys) ≡ whole
    → new ++ map (λ k. place) (drop (i + 1) keys) ≡ whole
place_turn keys place i places new whole inside put so_far =
    ap (λ t. t ++ map (λ k. place) (drop (i + 1) keys)) put
    ∙ append_assoc places (place ∷ []) (map (λ k. place) (drop (i + 1) keys))
    ∙ ap (λ t. places ++ t) (sym (mapped_drop place keys i inside))
    ∙ so_far

-- ---- marks
module _ (keys : List ColumnKey) (place : Option TextPlace) (first m : ℕ) where
  pub event_turn : (in_head : Bool) (group flags before after : ℕ) (e : DrawnEvent) (es rest : List DrawnEvent)
      (old changed graced new whole : List Laid)
      → rest ≡ e ∷ es → before ≡ levels_in e.plan group flags → after ≡ levels_after e.plan es
      → changed ≡ old ++ slots_laid keys None (change_slots m (in_head || is_lower e.seat) e)
      → graced ≡ changed ++ slots_laid keys None (group_slots m e)
      → new
      ≡ graced
      ++ map (drawn_at (key_rank keys (note_key m e)))
      (ink_with place (event_marks before after e) (written_of first e.flat))
      → old ++ slots_laid keys place (events_slots first m in_head group flags rest) ≡ whole
      → new ++ slots_laid keys place (events_slots first m false e.plan.group e.plan.flags es) ≡ whole
  event_turn in_head group flags before after e es rest old changed graced new whole prefix levels levels_next
      put_change put_graces put so_far =
      let change = slots_laid keys None (change_slots m (in_head || is_lower e.seat) e) in
      let graces = slots_laid keys None (group_slots m e) in
      let ink = λ (before after : ℕ).
      map (drawn_at (key_rank keys (note_key m e)))
      (ink_with place (event_marks before after e) (written_of first e.flat)) in
      let own = event_slots first m in_head (levels_in e.plan group flags) (levels_after e.plan es) e in
      let rest_laid = slots_laid keys place (events_slots first m false e.plan.group e.plan.flags es) in
      ap (λ t. t ++ rest_laid)
      (put
      ∙ ap (λ t. t ++ ink before after) (put_graces ∙ ap (λ t. t ++ graces) put_change)
      ∙ ap (λ n. old ++ change ++ graces ++ ink n after) levels
      ∙ ap (λ n. old ++ change ++ graces ++ ink (levels_in e.plan group flags) n) levels_next
      ∙ ap (λ t. t ++ ink (levels_in e.plan group flags) (levels_after e.plan es)) (append_assoc old change graces)
      ∙ append_assoc old (change ++ graces) (ink (levels_in e.plan group flags) (levels_after e.plan es))
      ∙ ap (λ t. old ++ t) (event_laid keys place first m in_head _ _ e))
      ∙ append_assoc old (slots_laid keys place own) rest_laid
      ∙ ap (λ t. old ++ t)
      (sym
      (flat_map-append (slot_laid keys place) own (events_slots first m false e.plan.group e.plan.flags es)))
      ∙ ap (λ t. old ++ slots_laid keys place (events_slots first m in_head group flags t)) (sym prefix)
      ∙ so_far

module _ (keys : List ColumnKey) (place : Option TextPlace) (first : ℕ) (lengths : List ℕ) (m : ℕ) where
  pub measure_turn : (in_head : Bool) (d : DrawnMeasure) (ds rest : List DrawnMeasure) (old mid new whole : List Laid)
      → rest ≡ d ∷ ds → mid ≡ old ++ slots_laid keys place (events_slots first m in_head 0 0 d.events)
      → new ≡ mid ++ slots_laid keys None (bar_slots lengths m d)
      → old ++ slots_laid keys place (measures_slots first lengths m in_head rest) ≡ whole
      → new ++ slots_laid keys place (measures_slots first lengths (m + 1) false ds) ≡ whole
  measure_turn in_head d ds rest old mid new whole prefix put put_bar so_far =
      let own = events_slots first m in_head 0 0 d.events in
      let bar = bar_slots lengths m d in
      let more = measures_slots first lengths (m + 1) false ds in
      ap (λ t. t ++ slots_laid keys place more)
      (put_bar
      ∙ ap (λ t. mid ++ t) (blank_laid keys place bar (one_blank _ _ _))
      ∙ ap (λ t. t ++ slots_laid keys place bar) put
      ∙ append_assoc old (slots_laid keys place own) (slots_laid keys place bar)
      ∙ ap (λ t. old ++ t) (sym (flat_map-append (slot_laid keys place) own bar)))
      ∙ append_assoc old (slots_laid keys place (own ++ bar)) (slots_laid keys place more)
      ∙ ap (λ t. old ++ t) (sym (flat_map-append (slot_laid keys place) (own ++ bar) more))
      ∙ ap (λ t. old ++ slots_laid keys place (measures_slots first lengths m in_head t)) (sym prefix)
      ∙ so_far

-- ---- words
module _ (keys : List ColumnKey) (places : List TextPlace) (first m : ℕ) where
  module _ (e : DrawnEvent) (silent : is_silent e.flat ≡ true) where
    same_words : SameWords keys (words_slot first m e ∷ []) []
    same_words = blank_same keys (words_slot first m e ∷ []) (written_blank e.flat silent first, tt)

    pub silent_drawn : (marks : List Laid) → marks ≡ marks ++ words_from keys places (words_slot first m e ∷ [])
    silent_drawn marks = sym (append-nil marks) ∙ ap (λ t. marks ++ t) (sym (same_words.words places))

    pub silent_passed : places ≡ all_passed keys places (words_slot first m e ∷ [])
    silent_passed = sym (same_words.after places)

  pub words_turn : (next end : List TextPlace) (i : ℕ) (ms : List DrawnMeasure) (d : DrawnMeasure)
      (es : List DrawnEvent) (old new whole : List Laid)
      → i < length ms → d ≡ get_or ms i d → es ≡ d.events
      → new ≡ old ++ words_from keys places (map (words_slot first m) es)
      → next ≡ all_passed keys places (map (words_slot first m) es)
      → old ++ words_from keys places (words_slots first m (drop i ms)) ≡ whole
      → all_passed keys places (words_slots first m (drop i ms)) ≡ end
      → (new ++ words_from keys next (words_slots first (m + 1) (drop (i + 1) ms)) ≡ whole)
      × (all_passed keys next (words_slots first (m + 1) (drop (i + 1) ms)) ≡ end)
  words_turn next end i ms d es old new whole inside at same put after so_far passed_so =
      let here = from_here ms i d inside at in
      let own = map (words_slot first m) d.events in
      let rest = words_slots first (m + 1) (drop (i + 1) ms) in
      let added = put ∙ ap (λ t. old ++ words_from keys places (map (words_slot first m) t)) same in
      let left = after ∙ ap (λ t. all_passed keys places (map (words_slot first m) t)) same in (
        ap (λ t. t ++ words_from keys next rest) added
            ∙ append_assoc old (words_from keys places own) (words_from keys next rest)
            ∙ ap (λ p. old ++ (words_from keys places own ++ words_from keys p rest)) left
            ∙ ap (λ t. old ++ t) (sym (words_join keys places own rest))
            ∙ ap (λ t. old ++ words_from keys places (words_slots first m t)) (sym here)
            ∙ so_far,
        ap (λ p. all_passed keys p rest) left
            ∙ sym (passed_join keys places own rest)
            ∙ ap (λ t. all_passed keys places (words_slots first m t)) (sym here)
            ∙ passed_so,
      )

all_mapped : (f : VoiceSlots → List Laid) (vs : List VoiceSlots) → flat_map (λ part. part) (map f vs) ≡ flat_map f vs
all_mapped f [] = refl
all_mapped f (v ∷ vs) = ap (λ t. f v ++ t) (all_mapped f vs)

module _ (keys : List ColumnKey) (lengths : List ℕ) (a b : ℕ) where
  -- what voices have between columns
  between_same : (first : ℕ) (vs : List DrawnVoice)
      → flat_map (bridges_of lengths a b) vs ≡ flat_map (λ v. v.bridges) (slots_of_voices first lengths a b vs)
  between_same first [] = refl
  between_same first (v ∷ vs) = ap (λ t. bridges_of lengths a b v ++ t) (between_same (first + v.verses) vs)

  pub place_there : (vs : List DrawnVoice) (parts : List (List Laid)) (bridges : List Bridge) (place : TextPlace)
      → parts ≡ map (bare_slots keys) (slots_of_voices 0 lengths a b vs)
      → bridges ≡ flat_map (bridges_of lengths a b) vs
      → place ≡ place_outside (verses_on vs) (flat_map (λ part. part) parts ++ map (bridge_at keys) bridges)
      → place ≡ place_outside (verses_on vs) (bare_laid keys (slots_of_voices 0 lengths a b vs))
  place_there vs parts bridges place is are made =
      let voices = slots_of_voices 0 lengths a b vs in
      made
      ∙ ap (place_outside (verses_on vs))
      (ap (λ t. flat_map (λ part. part) t ++ map (bridge_at keys) bridges) is
      ∙ ap (λ t. t ++ map (bridge_at keys) bridges) (all_mapped (bare_slots keys) voices)
      ∙ ap (λ t. flat_map (bare_slots keys) voices ++ map (bridge_at keys) t) (are ∙ between_same 0 vs))

  in_order : (first : ℕ) (vs : List DrawnVoice)
      → AllByRecursion (IsOrdered keys lengths a b) vs
      → AllByRecursion (IsInOrder keys) (slots_of_voices first lengths a b vs)
  in_order first [] all = tt
  in_order first (v ∷ vs) all = (all.0 first, in_order (first + v.verses) vs all.1)

  -- a turn of the walk that puts words after the marks of each voice
  pub word_turn : (first : ℕ) (v : DrawnVoice) (following rest : List DrawnVoice) (places next : List TextPlace)
      (part words : List Laid) (more left all mid new whole : List (List Laid))
      → rest ≡ v ∷ following → left ≡ part ∷ more
      → words ≡ words_from keys places (voice_slots first lengths a b v)
      → next ≡ all_passed keys places (voice_slots first lengths a b v)
      → mid ≡ all ++ part ∷ [] → new ≡ mid ++ words ∷ []
      → all ++ with_words keys places left (slots_of_voices first lengths a b rest) ≡ whole
      → new ++ with_words keys next more (slots_of_voices (first + v.verses) lengths a b following) ≡ whole
  word_turn first v following rest places next part words more left all mid new whole prefix cut are after put put_too
      so_far =
      let own = voice_slots first lengths a b v in
      let others = slots_of_voices (first + v.verses) lengths a b following in
      let further = with_words keys next more others in
      ap (λ t. t ++ further) (put_too ∙ ap (λ t. t ++ words ∷ []) put)
      ∙ append_assoc (all ++ part ∷ []) (words ∷ []) further
      ∙ append_assoc all (part ∷ []) (words ∷ further)
      ∙ ap (λ t. all ++ part ∷ t ∷ further) are
      ∙ ap (λ p. all ++ part ∷ words_from keys places own ∷ with_words keys p more others) after
      ∙ ap (λ t. all ++ with_words keys places t (slots_of_voices first lengths a b (v ∷ following))) (sym cut)
      ∙ ap (λ t. all ++ with_words keys places left (slots_of_voices first lengths a b t)) (sym prefix)
      ∙ so_far

  pub staff_there : (vs : List DrawnVoice) (columns all : List Laid) (bridges : List Bridge) (staff : StaffMarks)
      → columns ≡ staff_columns keys (verses_on vs) (slots_of_voices 0 lengths a b vs)
      → bridges ≡ flat_map (bridges_of lengths a b) vs → all ≡ columns ++ map (bridge_at keys) bridges
      → staff ≡ staff_over all → staff ≡ staff_marks keys lengths a b vs
  unfolding staff_marks staff_laid
  staff_there vs columns all bridges staff is are put over =
      let voices = slots_of_voices 0 lengths a b vs in
      over
      ∙ ap staff_over (put
      ∙ ap (λ t. t ++ map (bridge_at keys) bridges) is
      ∙ ap (λ t. staff_columns keys (verses_on vs) voices ++ map (bridge_at keys) t)
      (are ∙ between_same 0 vs))

  module _ (rise : Rises keys) (vs : List DrawnVoice) (ordered : All (IsOrdered keys lengths a b) vs) where
    abbrev voices : List VoiceSlots
    voices = slots_of_voices 0 lengths a b vs

    each : AllByRecursion (IsInOrder keys) (slots_of_voices 0 lengths a b vs)
    each = in_order 0 vs (recursion_from_All (IsOrdered keys lengths a b) vs ordered)

    pub silent_columns : (parts : List (List Laid))
        → is_silent_staff a b vs ≡ true
        → parts ≡ map (bare_slots keys) voices
        → by_columns (length keys) parts ≡ staff_columns keys (verses_on vs) voices
    silent_columns parts silent is =
        ap (by_columns (length keys)) is
        ∙ silent_same keys rise (place_outside (verses_on vs) (bare_laid keys voices)) voices each
        (staff_blank 0 lengths a b vs silent)

    pub word_columns : (bare parts : List (List Laid)) (place : TextPlace)
        → bare ≡ map (bare_slots keys) voices
        → place ≡ place_outside (verses_on vs) (bare_laid keys voices)
        → parts ≡ with_words keys (map (λ k. place) keys) bare voices
        → by_columns (length keys) parts ≡ staff_columns keys (verses_on vs) voices
    word_columns bare parts place is here with =
        ap (by_columns (length keys)) (with
        ∙ ap (λ t. with_words keys (map (λ k. place) keys) t voices) is
        ∙ ap (λ p. with_words keys (map (λ k. p) keys) (map (bare_slots keys) voices) voices) here)
        ∙ columns_same keys rise (place_outside (verses_on vs) (bare_laid keys voices)) voices each

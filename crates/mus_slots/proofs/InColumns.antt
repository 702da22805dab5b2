-- Marks and words drawn voice by voice, put together column by column: what a staff has in the columns of its system.
use Rattle.std.proofs.Common.{◌≡◌, ◌≢◌, ◌∙◌, ℕ, ◌+◌, ◌<◌, inl, inr, Bool, true, false, cond, if◌then◌else◌, List}
use Rattle.std.proofs.Common.{[], ◌∷◌, ◌++◌, length, map, set, Option, Some, None, append_assoc, refl, sym, ap, subst}
use Rattle.std.proofs.Common.{arith}
use Rattle.std.proofs.lemmas.Bool.{eq-eqb}
use Rattle.std.proofs.lemmas.List.{append-nil, get_or-set_other, get_or-set_same, length-set, map-append}
use Rattle.std.proofs.lemmas.List.Elements.{Contains-get_or, filter-append}
use Rattle.std.proofs.lemmas.Option.{get_or_from_slice_get, slice_get-map, slice_get_read, slice_get_within}
use Rattle.std.proofs.lemmas.Option.{slice_get-get_or}
use Rattle.std.specs.List.{AllByRecursion, Contains, filter, flat_map, range_with_len, slice_get, slice_index_or}
use Rattle.std.specs.Option.{option_map}
use Rattle.mus_onsets.specs.declared.keys.ColumnKey.{ColumnKey}
use Rattle.mus_onsets.specs.Order.{Rises, key_rank, same_key}
use Rattle.mus_onsets.proofs.RankLaws.{rank_at_place}
use Rattle.mus_laid.specs.declared.drawn.LaneInk.{LaneInk}
use Rattle.mus_laid.specs.declared.laid.Laid.{Laid}
use Rattle.mus_laid.specs.Ranked.{at_rank, by_columns, drawn_at, stands_at_rank}
use Rattle.mus_words.specs.declared.texts.TextPlace.{TextPlace}
use Rattle.mus_slots.specs.declared.slots.Slot.{Slot}
use Rattle.mus_slots.specs.declared.slots.VoiceSlots.{VoiceSlots}
use Rattle.mus_slots.specs.declared.slots.Written.{Written}
use Rattle.mus_slots.specs.Staff.{all_slots, bare_slots, column_at, column_marks, column_slots, place_after}
use Rattle.mus_slots.specs.Staff.{places_after, slot_laid, slots_at, slots_laid, written_marks}
use Rattle.mus_slots.specs.Words.{IsInOrder, all_passed, passed, passed_in, with_words, words_from, words_in}
use Rattle.mus_slots.proofs.ByKey.{AtMostOne, along, column_kept, false_not_true, in_column, in_order, is_same, one_at}
use Rattle.mus_slots.proofs.ByKey.{rank_same}
use Rattle.mus_slots.proofs.Words.{AreBlank, blank_same}

abbrev pub key_of : Slot → ColumnKey
key_of s = s.key

-- ---- places by rank
module _ (places : List TextPlace) (r : ℕ) (place : TextPlace) (is : slice_get places r ≡ Some place) where
  at_own : (x : TextPlace) → slice_get (set places r x) r ≡ Some x
  at_own x =
      let inside = slice_get_within places r place is in
      slice_get_read (set places r x) (length (set places r x)) r x refl
      (omega (arith, inside, length-set places r x)) (sym (get_or-set_same places r x x inside))

  at_other : (q : ℕ) (x : TextPlace) → r ≢ q → slice_get (set places q x) r ≡ Some place
  at_other q x other =
      let inside = slice_get_within places r place is in
      slice_get_read (set places q x) (length (set places q x)) r place refl
      (omega (arith, inside, length-set places q x))
      (sym (get_or-set_other places q r x place other ∙ get_or_from_slice_get places r place place is))

  still_at : (q : ℕ) (w : Written) → r ≢ q → slice_get (passed places q w) r ≡ Some place
  still_at q w other = by (slice_get places q)
    where
      by : (o : Option TextPlace) → slice_get (passed_in places q w o) r ≡ Some place
      by None = is
      by (Some x) = at_other q (place_after x w) other

-- ---- the marks of a column
pub column_append : (p : TextPlace) (xs ys : List Slot)
    → column_marks p (xs ++ ys) ≡ column_marks p xs ++ column_marks (places_after p xs) ys
column_append p [] ys = refl
column_append p (x ∷ xs) ys =
    let own = x.drawn ++ written_marks p x.written in
    ap (λ t. own ++ t) (column_append (place_after p x.written) xs ys)
    ∙ sym (append_assoc own (column_marks (place_after p x.written) xs) _)

-- its words alone
abbrev column_words : TextPlace → List Slot → List LaneInk
column_words p [] = []
column_words p (s ∷ ss) = written_marks p s.written ++ column_words (place_after p s.written) ss

module _ (keys : List ColumnKey) (k : ColumnKey) (has : Contains keys k) where
  abbrev rank : ℕ
  rank = key_rank keys k

  module _ (places : List TextPlace) (p : TextPlace) (is : slice_get places (key_rank keys k) ≡ Some p) (s : Slot) where
    own_words : s.key ≡ k
        → map (drawn_at (key_rank keys s.key)) (words_in (slice_get places (key_rank keys s.key)) s.written)
        ≡ map (drawn_at rank) (written_marks p s.written)
    own_words same =
        ap (λ l. map (drawn_at (key_rank keys l)) (words_in (slice_get places (key_rank keys l)) s.written)) same
        ∙ ap (λ o. map (drawn_at rank) (words_in o s.written)) is

    place_own : s.key ≡ k
        → slice_get (passed places (key_rank keys s.key) s.written) rank ≡ Some (place_after p s.written)
    place_own same =
        ap (λ l. slice_get (passed places (key_rank keys l) s.written) rank) same
        ∙ ap (λ o. slice_get (passed_in places rank s.written o) rank) is
        ∙ at_own places rank p is (place_after p s.written)

    place_other : Contains keys s.key
        → same_key s.key k ≡ false → slice_get (passed places (key_rank keys s.key) s.written) rank ≡ Some p
    place_other own differs =
        still_at places rank p is (key_rank keys s.key) s.written
        (λ same.
        false_not_true (sym (rank_same keys k s.key has own ∙ differs) ∙ eq-eqb rank (key_rank keys s.key) same))

  words_here : (places : List TextPlace) (p : TextPlace) (ss : List Slot)
      → slice_get places rank ≡ Some p → AllByRecursion (λ s. Contains keys s.key) ss
      → filter (stands_at_rank rank) (words_from keys places ss)
      ≡ map (drawn_at rank) (column_words p (slots_at k ss))
  words_here places p [] is among = refl
  words_here places p (s ∷ ss) is among =
      let q = key_rank keys s.key in
      let own = words_in (slice_get places q) s.written in
      let rest = words_from keys (passed places q s.written) ss in
      filter-append (stands_at_rank rank) (map (drawn_at q) own) rest
      ∙ ap (λ t. t ++ filter (stands_at_rank rank) rest)
      (column_kept key_of keys (λ x. x.drawn) rank q (same_key s.key k) own (rank_same keys k s.key has among.0))
      ∙ by (same_key s.key k) refl (λ next here at. words_here next here ss at among.1)
    where
      by : (b : Bool) → same_key s.key k ≡ b
          → ((next : List TextPlace) (here : TextPlace)
          → slice_get next rank ≡ Some here
          → filter (stands_at_rank rank) (words_from keys next ss)
          ≡ map (drawn_at rank) (column_words here (slots_at k ss)))
          → (if b
          then map (drawn_at (key_rank keys s.key)) (words_in (slice_get places (key_rank keys s.key)) s.written)
          else [])
          ++ filter (stands_at_rank rank) (words_from keys (passed places (key_rank keys s.key) s.written) ss)
          ≡ map (drawn_at rank) (column_words p (cond b (s ∷ slots_at k ss) (slots_at k ss)))
      by true e more_here =
          let same = is_same s.key k e in
          let next = passed places (key_rank keys s.key) s.written in
          let more = column_words (place_after p s.written) (slots_at k ss) in
          ap (λ t. t ++ filter (stands_at_rank rank) (words_from keys next ss)) (own_words places p is s same)
          ∙ ap (λ t. map (drawn_at rank) (written_marks p s.written) ++ t)
          (more_here next (place_after p s.written) (place_own places p is s same))
          ∙ sym (map-append (drawn_at rank) (written_marks p s.written) more)
      by false e more_here =
          more_here (passed places (key_rank keys s.key) s.written) p (place_other places p is s among.0 e)

  place_here : (places : List TextPlace) (p : TextPlace) (ss : List Slot)
      → slice_get places rank ≡ Some p → AllByRecursion (λ s. Contains keys s.key) ss
      → slice_get (all_passed keys places ss) rank ≡ Some (places_after p (slots_at k ss))
  place_here places p [] is among = is
  place_here places p (s ∷ ss) is among =
      by (same_key s.key k) refl (λ next here at. place_here next here ss at among.1)
    where
      by : (b : Bool) → same_key s.key k ≡ b
          → ((next : List TextPlace) (here : TextPlace)
          → slice_get next rank ≡ Some here
          → slice_get (all_passed keys next ss) rank ≡ Some (places_after here (slots_at k ss)))
          → slice_get (all_passed keys (passed places (key_rank keys s.key) s.written) ss) rank
          ≡ Some (places_after p (cond b (s ∷ slots_at k ss) (slots_at k ss)))
      by true e more_here =
          more_here (passed places (key_rank keys s.key) s.written) (place_after p s.written)
          (place_own places p is s (is_same s.key k e))
      by false e more_here =
          more_here (passed places (key_rank keys s.key) s.written) p (place_other places p is s among.0 e)

  -- one slot: its marks, then its words
  one_column : (p : TextPlace) (found : List Slot) (more : List Laid) → AtMostOne key_of k found
      → slots_laid keys None found ++ (map (drawn_at rank) (column_words p found) ++ more)
      ≡ map (drawn_at rank) (column_marks p found) ++ more
  one_column p found more (inl e) =
      subst (λ t.
      slots_laid keys None t ++ (map (drawn_at rank) (column_words p t) ++ more)
      ≡ map (drawn_at rank) (column_marks p t) ++ more)
      (sym e) refl
  one_column p found more (inr (s, same, e)) =
      let words = written_marks p s.written in
      subst (λ t.
      slots_laid keys None t ++ (map (drawn_at rank) (column_words p t) ++ more)
      ≡ map (drawn_at rank) (column_marks p t) ++ more)
      (sym e)
      (ap (λ l.
      (map (drawn_at (key_rank keys l)) s.drawn ++ []) ++ (map (drawn_at rank) (words ++ []) ++ more))
      same
      ∙ ap (λ t. t ++ (map (drawn_at rank) (words ++ []) ++ more)) (append-nil (map (drawn_at rank) s.drawn))
      ∙ ap (λ t. map (drawn_at rank) s.drawn ++ (map (drawn_at rank) t ++ more)) (append-nil words)
      ∙ sym (append_assoc (map (drawn_at rank) s.drawn) (map (drawn_at rank) words) more)
      ∙ ap (λ t. t ++ more)
      (sym (map-append (drawn_at rank) s.drawn words) ∙ ap (map (drawn_at rank)) (sym (append-nil (s.drawn ++ words)))))

  voices_here : (places : List TextPlace) (p : TextPlace) (vs : List VoiceSlots)
      → slice_get places rank ≡ Some p → AllByRecursion (IsInOrder keys) vs
      → at_rank (with_words keys places (map (bare_slots keys) vs) vs) rank
      ≡ map (drawn_at rank) (column_marks p (column_slots k (all_slots vs)))
  voices_here places p [] is all = refl
  voices_here places p (v ∷ vs) is all =
      let found = slots_at k v.slots in
      let others = column_slots k (all_slots vs) in
      let after = places_after p found in
      let next = all_passed keys places v.slots in
      let words = filter (stands_at_rank rank) (words_from keys places v.slots) in
      let rest = at_rank (with_words keys next (map (bare_slots keys) vs) vs) rank in
      ap (λ t. t ++ (words ++ rest)) (in_column key_of keys (λ s. s.drawn) k v.slots has all.0.1)
      ∙ ap (λ t. slots_laid keys None found ++ (t ++ rest)) (words_here places p v.slots is all.0.1)
      ∙ one_column p found rest (one_at key_of k v.slots all.0.0)
      ∙ ap (λ t. map (drawn_at rank) (column_marks p found) ++ t)
      (voices_here next after vs (place_here places p v.slots is all.0.1) all.1)
      ∙ sym (map-append (drawn_at rank) (column_marks p found) (column_marks after others))
      ∙ ap (map (drawn_at rank)) (sym (column_append p found others))

-- ---- all columns
each_same : {A : Type 0} (f g : ColumnKey → List A)
    → ((k : ColumnKey) → f k ≡ g k) → (ks : List ColumnKey) → flat_map f ks ≡ flat_map g ks
each_same f g same [] = refl
each_same f g same (k ∷ ks) = ap (λ t. t ++ flat_map f ks) (same k) ∙ ap (λ t. g k ++ t) (each_same f g same ks)

module _ (keys : List ColumnKey) (rise : Rises keys) (p : TextPlace) where
  -- the same place in each column
  abbrev all_at : List TextPlace
  all_at = map (λ k. p) keys

  starts : (k : ColumnKey) (r : ℕ) → r < length keys → slice_get all_at r ≡ Some p
  starts k r inside = slice_get-map (λ l. p) keys r ∙ ap (option_map (λ l. p)) (slice_get-get_or keys r k inside)

  abbrev parts : List VoiceSlots → List (List Laid)
  parts vs = with_words keys all_at (map (bare_slots keys) vs) vs

  merged : (vs : List VoiceSlots)
      → AllByRecursion (IsInOrder keys) vs
      → flat_map (at_rank (parts vs)) (range_with_len 0 (length keys))
      ≡ flat_map (column_at keys p (all_slots vs)) keys
  merged vs all =
      along (at_rank (parts vs)) (column_at keys p (all_slots vs)) keys 0 (λ i d inside.
      let k = slice_index_or keys i d in
      let here = rank_at_place keys i d rise inside in
      let e : 0 + i ≡ key_rank keys k = omega (arith, here) in
      let less : key_rank keys k < length keys = omega (arith, here, inside) in
      ap (at_rank (parts vs)) e
      ∙ voices_here keys k (Contains-get_or keys i d inside) all_at p vs (starts d (key_rank keys k) less) all)

  pub columns_same : (vs : List VoiceSlots)
      → AllByRecursion (IsInOrder keys) vs
      → by_columns (length keys) (parts vs) ≡ flat_map (column_at keys p (all_slots vs)) keys
  columns_same [] all = merged [] all
  columns_same (v ∷ vs) all = merged (v ∷ vs) all

  -- a voice alone without words: its marks in their own order
  blank_column : (k : ColumnKey) (found : List Slot)
      → AtMostOne key_of k found → AreBlank found
      → slots_laid keys None found ≡ map (drawn_at (key_rank keys k)) (column_marks p (found ++ []))
  blank_column k found (inl e) blank =
      subst (λ t. slots_laid keys None t ≡ map (drawn_at (key_rank keys k)) (column_marks p (t ++ []))) (sym e)
      refl
  blank_column k found (inr (s, same, e)) blank =
      let none = (subst AreBlank e blank).0.marks p in
      subst (λ t. slots_laid keys None t ≡ map (drawn_at (key_rank keys k)) (column_marks p (t ++ []))) (sym e)
      (append-nil (slot_laid keys None s)
      ∙ ap (λ l. map (drawn_at (key_rank keys l)) s.drawn) same
      ∙ ap (map (drawn_at (key_rank keys k)))
      (sym
      (append-nil (s.drawn ++ written_marks p s.written) ∙ ap (λ t. s.drawn ++ t) none ∙ append-nil s.drawn)))

  found_blank : (k : ColumnKey) (ss : List Slot) → AreBlank ss → AreBlank (slots_at k ss)
  found_blank k [] blank = tt
  found_blank k (s ∷ ss) blank = by (same_key s.key k) (found_blank k ss blank.1)
    where
      by : (b : Bool) → AreBlank (slots_at k ss) → AreBlank (cond b (s ∷ slots_at k ss) (slots_at k ss))
      by true more = (blank.0, more)
      by false more = more

  alone_same : (v : VoiceSlots)
      → IsInOrder keys v → AreBlank v.slots
      → bare_slots keys v ≡ flat_map (column_at keys p (all_slots (v ∷ []))) keys
  alone_same v is blank =
      in_order key_of (slot_laid keys None) keys v.slots rise is.0 is.1
      ∙ each_same (λ k. slots_laid keys None (slots_at k v.slots)) (column_at keys p (all_slots (v ∷ [])))
      (λ k. blank_column k (slots_at k v.slots) (one_at key_of k v.slots is.0) (found_blank k v.slots blank))
      keys

  -- voices without words: their marks alone
  at_blank : (places : List TextPlace) (r : ℕ) (vs : List VoiceSlots)
      → AllByRecursion (λ v. AreBlank v.slots) vs
      → at_rank (map (bare_slots keys) vs) r ≡ at_rank (with_words keys places (map (bare_slots keys) vs) vs) r
  at_blank places r [] blank = refl
  at_blank places r (v ∷ vs) blank =
      let next = all_passed keys places v.slots in
      let rest = at_rank (with_words keys next (map (bare_slots keys) vs) vs) r in
      let bare = filter (stands_at_rank r) (bare_slots keys v) in
      ap (λ t. bare ++ t) (at_blank next r vs blank.1)
      ∙ ap (λ t. bare ++ (filter (stands_at_rank r) t ++ rest))
      (sym ((blank_same keys v.slots blank.0).words places))

  ranks_blank : (vs : List VoiceSlots)
      → AllByRecursion (λ v. AreBlank v.slots) vs → (ns : List ℕ)
      → flat_map (at_rank (map (bare_slots keys) vs)) ns ≡ flat_map (at_rank (parts vs)) ns
  ranks_blank vs blank [] = refl
  ranks_blank vs blank (n ∷ ns) =
      ap (λ t. t ++ flat_map (at_rank (map (bare_slots keys) vs)) ns) (at_blank all_at n vs blank)
      ∙ ap (λ t. at_rank (parts vs) n ++ t) (ranks_blank vs blank ns)

  pub silent_same : (vs : List VoiceSlots)
      → AllByRecursion (IsInOrder keys) vs → AllByRecursion (λ v. AreBlank v.slots) vs
      → by_columns (length keys) (map (bare_slots keys) vs) ≡ flat_map (column_at keys p (all_slots vs)) keys
  silent_same [] all blank = ranks_blank [] blank (range_with_len 0 (length keys)) ∙ merged [] all
  silent_same (v ∷ []) all blank = alone_same v all.0 blank.0
  silent_same (v ∷ w ∷ vs) all blank =
      ranks_blank (v ∷ w ∷ vs) blank (range_with_len 0 (length keys)) ∙ merged (v ∷ w ∷ vs) all

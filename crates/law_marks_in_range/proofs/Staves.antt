-- The marks of a staff are in columns of the system, and each column that its voices call for holds one.
use Rattle.std.proofs.Common.{◌≡◌, ℕ, zero, suc, ◌+◌, ◌<◌, ◌≤◌, inl, inr, List, [], ◌∷◌, ◌++◌, length, map}
use Rattle.std.proofs.Common.{refl, sym, subst, true, arith}
use Rattle.std.proofs.lemmas.List.{length-append}
use Rattle.std.proofs.lemmas.List.Elements.{Contains-append_cases, Contains-append_left, Contains-append_right}
use Rattle.std.proofs.lemmas.List.Elements.{filter_map-append}
use Rattle.std.specs.List.{AllByRecursion, Contains, flat_map}
use Rattle.std.specs.Prelude.{⊤}
use Rattle.mus_stems.proofs.RunLaws.{all_append}
use Rattle.mus_onsets.specs.declared.keys.ColumnKey.{ColumnKey}
use Rattle.mus_onsets.specs.Order.{key_rank, same_key}
use Rattle.mus_onsets.proofs.RankLaws.{rank_less}
use Rattle.mus_laid.specs.declared.drawn.Ink.{Ink}
use Rattle.mus_laid.specs.declared.drawn.LaneInk.{LaneInk}
use Rattle.mus_laid.specs.declared.laid.Laid.{Laid}
use Rattle.mus_laid.specs.Ranked.{anchor_rank, drawn_at, ink_at}
use Rattle.mus_words.specs.declared.texts.TextPlace.{TextPlace}
use Rattle.mus_drawn.specs.declared.drawn.DrawnVoice.{DrawnVoice}
use Rattle.mus_time.specs.Columns.{staff_columns}
use Rattle.mus_bridges.specs.Bridges.{bridges_of}
use Rattle.mus_slots.specs.declared.slots.Slot.{Slot}
use Rattle.mus_slots.specs.declared.slots.VoiceSlots.{VoiceSlots}
use Rattle.mus_slots.specs.Staff.{all_slots, bare_laid, bridges_at, column_at, column_marks, column_slots, place_after}
use Rattle.mus_slots.specs.Staff.{place_outside, slots_at, staff_laid, written_marks}
use Rattle.mus_slots.specs.Voice.{keys_of, slots_of_voices, voice_slots}
use Rattle.mus_slots.proofs.ByKey.{some_at}
use Rattle.mus_slots.proofs.Filled.{HasSome, IsFilled, IsPlannedEvent, left, slots_filled}
use Rattle.mus_slots.proofs.Marks.{all_kept, staff_each}
use Rattle.mus_slots.proofs.Parts.{voice_all}
use Rattle.law_marks_in_range.specs.Ranks.{IsRanked, marks_ranks}
use Rattle.law_marks_in_range.proofs.Between.{AreBetween, Ranked, both, bridges_ranked}
use Rattle.law_marks_in_range.proofs.Planned.{ArePlanned}

-- ---- marks in columns
ink_ranked : (n r : ℕ) (ink : Ink) → r < n → IsRanked n (ink_at r ink)
ink_ranked n r (Ink.Glyph glyph dx dy) less = less
ink_ranked n r (Ink.Words size dx dy text) less = less
ink_ranked n r (Ink.Stem dx from to) less = less

column_ranked : (n r : ℕ) (ds : List LaneInk) → r < n → AllByRecursion (λ d. IsRanked n (drawn_at r d).mark) ds
column_ranked n r [] less = tt
column_ranked n r (d ∷ ds) less = (ink_ranked n r d.ink less, column_ranked n r ds less)

pub staff_ranked : (keys : List ColumnKey) (verses : ℕ) (voices : List VoiceSlots)
    → AreBetween keys (flat_map (λ v. v.bridges) voices) → Ranked (length keys) (staff_laid keys verses voices)
staff_ranked keys verses voices between =
    staff_each (λ laid. IsRanked (length keys) laid.mark) keys verses voices
    (λ k has place. column_ranked (length keys) (key_rank keys k) _ (rank_less keys k has))
    (bridges_ranked keys (flat_map (λ v. v.bridges) voices) between)

pub all_between : (keys : List ColumnKey) (lengths : List ℕ) (a b first : ℕ) (voices : List DrawnVoice)
    → AllByRecursion (λ v. AreBetween keys (bridges_of lengths a b v)) voices
    → AreBetween keys (flat_map (λ v. v.bridges) (slots_of_voices first lengths a b voices))
all_between keys lengths a b first [] h = tt
all_between keys lengths a b first (v ∷ voices) h =
    both keys (bridges_of lengths a b v) _ h.0 (all_between keys lengths a b (first + v.verses) voices h.1)

-- ---- marks in each column
column_some : (place : TextPlace) (ss : List Slot)
    → 1 ≤ length ss → AllByRecursion IsFilled ss → HasSome (column_marks place ss)
column_some place [] some filled = absurd (omega (arith, some))
column_some place (s ∷ ss) some filled =
    left (s.drawn ++ written_marks place s.written) (column_marks (place_after place s.written) ss)
    (left s.drawn (written_marks place s.written) filled.0)

-- the rank of a column that has a mark is among the ranks of its marks
own_rank : (r : ℕ) (ds : List LaneInk) → HasSome ds → Contains (marks_ranks (map (drawn_at r) ds)) r
own_rank r [] some = absurd (grind (arith, some))
own_rank r (d ∷ ds) some = by d.ink
  where
    by : (ink : Ink) → Contains (marks_ranks (record { mark = ink_at r ink; lane = d.lane } ∷ map (drawn_at r) ds)) r
    by (Ink.Glyph glyph dx dy) = (0, omega arith, refl)
    by (Ink.Words size dx dy text) = (0, omega arith, refl)
    by (Ink.Stem dx from to) = (0, omega arith, refl)

rank_left : (r : ℕ) (xs ys : List Laid) → Contains (marks_ranks xs) r → Contains (marks_ranks (xs ++ ys)) r
rank_left r xs ys h =
    subst (λ t. Contains t r) (sym (filter_map-append (λ l. anchor_rank l.mark) xs ys))
    (Contains-append_left (marks_ranks xs) (marks_ranks ys) r h)

rank_right : (r : ℕ) (xs ys : List Laid) → Contains (marks_ranks ys) r → Contains (marks_ranks (xs ++ ys)) r
rank_right r xs ys h =
    subst (λ t. Contains t r) (sym (filter_map-append (λ l. anchor_rank l.mark) xs ys))
    (Contains-append_right (marks_ranks xs) (marks_ranks ys) r h)

module _ (keys : List ColumnKey) (lengths : List ℕ) (a b : ℕ) where
  abbrev pub own_columns : DrawnVoice → List ColumnKey
  own_columns v = staff_columns true lengths a b v

  -- a voice that has a slot in each of its columns, and planned stems
  pub record IsInside (v : DrawnVoice) : Type 0 where
    pub keyed : (first : ℕ) → keys_of (voice_slots first lengths a b v) ≡ own_columns v
    pub planned : ArePlanned v.measures

  abbrev at_key : ColumnKey → ℕ → List DrawnVoice → List Slot
  at_key k first voices = column_slots k (all_slots (slots_of_voices first lengths a b voices))

  slots_here : (k : ColumnKey) (first : ℕ) (voices : List DrawnVoice)
      → AllByRecursion IsInside voices → Contains (flat_map own_columns voices) k → 1 ≤ length (at_key k first voices)
  slots_here k first [] h (i, inside, is) = absurd (omega (arith, inside))
  slots_here k first (v ∷ voices) h has =
      let own = voice_slots first lengths a b v in
      let more = at_key k (first + v.verses) voices in
      let count = length-append (slots_at k own) more in
      elim (Contains-append_cases (own_columns v) (flat_map own_columns voices) k has) [
        | inl here ↦
            let some = some_at (λ s. s.key) k own (subst (λ ks. Contains ks k) (sym (h.0.keyed first)) here) in
            omega (arith, count, some)
        | inr there ↦ let some = slots_here k (first + v.verses) voices h.1 there in omega (arith, count, some)
      ]

  slots_are_filled : (k : ColumnKey) (first : ℕ) (voices : List DrawnVoice)
      → AllByRecursion IsInside voices → AllByRecursion IsFilled (at_key k first voices)
  slots_are_filled k first [] h = tt
  slots_are_filled k first (v ∷ voices) h =
      all_append IsFilled (slots_at k (voice_slots first lengths a b v)) (at_key k (first + v.verses) voices)
      (all_kept IsFilled (λ s. same_key s.key k) (voice_slots first lengths a b v)
      (voice_all first lengths IsFilled IsPlannedEvent (λ d. ⊤) (slots_filled first lengths) a b v h.0.planned))
      (slots_are_filled k (first + v.verses) voices h.1)

  along : (k : ColumnKey) (r : ℕ) (column : ColumnKey → List Laid) (ks : List ColumnKey)
      → Contains ks k → Contains (marks_ranks (column k)) r → Contains (marks_ranks (flat_map column ks)) r
  along k r column [] (i, inside, is) held = absurd (omega (arith, inside))
  along k r column (l ∷ ks) (zero, inside, is) held =
      rank_left r (column l) (flat_map column ks) (subst (λ c. Contains (marks_ranks (column c)) r) (sym is) held)
  along k r column (l ∷ ks) (suc i, inside, is) held =
      rank_right r (column l) (flat_map column ks) (along k r column ks (i, omega (arith, inside), is) held)

  pub staff_holds : (k : ColumnKey) (verses : ℕ) (voices : List DrawnVoice)
      → AllByRecursion IsInside voices → Contains keys k → Contains (flat_map own_columns voices) k
      → Contains (marks_ranks (staff_laid keys verses (slots_of_voices 0 lengths a b voices))) (key_rank keys k)
  unfolding staff_laid
  staff_holds k verses voices h inside has =
      let r = key_rank keys k in
      let slots = slots_of_voices 0 lengths a b voices in
      let place = place_outside verses (bare_laid keys slots) in
      let column = column_at keys place (all_slots slots) in
      rank_left r (flat_map column keys) (bridges_at keys slots)
      (along k r column keys inside
      (own_rank r (column_marks place (at_key k 0 voices))
      (column_some place (at_key k 0 voices) (slots_here k 0 voices h has) (slots_are_filled k 0 voices h))))

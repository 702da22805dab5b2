-- One walk over the marks of a staff: what holds of each kind of mark in a column, whatever the column, and of beams
-- and arcs, holds of all marks of the staff.
use Rattle.std.proofs.Common.{◌≡◌, ℕ, suc, ◌+◌, ◌≤◌, ◌<◌, ◌==◌, ◌||◌, Bool, true, false, cond, if◌then◌else◌, List, []}
use Rattle.std.proofs.Common.{◌∷◌, length, map, Option, Some, None, refl, arith}
use Rattle.std.proofs.lemmas.List.Sums.{sum_by-cons}
use Rattle.std.specs.List.{AllByRecursion, Contains, filter, flat_map}
use Rattle.std.specs.Prelude.{IfSome, sum}
use Rattle.mus_units.specs.declared.key.Meter.{Meter}
use Rattle.mus_units.specs.Good.{IsGoodMeter}
use Rattle.mus_score.specs.declared.score.Flat.{Flat}
use Rattle.mus_onsets.specs.declared.keys.ColumnKey.{ColumnKey}
use Rattle.mus_onsets.specs.Order.{key_rank, same_key}
use Rattle.mus_stems.proofs.RunLaws.{all_append}
use Rattle.mus_laid.specs.declared.drawn.Bridge.{Bridge}
use Rattle.mus_laid.specs.declared.drawn.LaneInk.{LaneInk}
use Rattle.mus_laid.specs.declared.laid.Laid.{Laid}
use Rattle.mus_laid.specs.Ranked.{bridge_at, drawn_at}
use Rattle.mus_ink.proofs.EachMark.{OfMarks, bar, change, grace, head, note}
use Rattle.mus_words.specs.declared.texts.TextPlace.{TextPlace}
use Rattle.mus_words.specs.Syllables.{syllables_from}
use Rattle.mus_words.specs.Texts.{text_marks}
use Rattle.mus_words.proofs.EachWord.{OfWords, syllables_all, texts_all}
use Rattle.mus_drawn.specs.declared.drawn.DrawnEvent.{DrawnEvent}
use Rattle.mus_drawn.specs.declared.drawn.DrawnMeasure.{DrawnMeasure}
use Rattle.mus_drawn.specs.declared.drawn.DrawnVoice.{DrawnVoice}
use Rattle.mus_drawn.specs.Drawn.{raise_of}
use Rattle.mus_slots.specs.declared.slots.Slot.{Slot}
use Rattle.mus_slots.specs.declared.slots.VoiceSlots.{VoiceSlots}
use Rattle.mus_slots.specs.Staff.{all_slots, bridges_at, column_at, column_marks, column_slots, place_after}
use Rattle.mus_slots.specs.Staff.{bare_laid, place_outside, slot_ink, slot_laid, slots_at, slots_laid, staff_laid}
use Rattle.mus_slots.specs.Staff.{written_marks}
use Rattle.mus_slots.specs.Voice.{range_slots, slots_of_voices, voice_slots, written_of}
use Rattle.mus_slots.proofs.Parts.{OfSlots, range_all, voice_all}

-- a measure with a good meter, and an event with a good meter and a place for each of some verses
abbrev pub HasMeter : DrawnMeasure → Type 0
HasMeter d = IsGoodMeter d.opening.meter

abbrev pub FitsEvent : ℕ → DrawnEvent → Type 0
FitsEvent verses e = IfSome e.flat.event.changes.meter IsGoodMeter × (length e.flat.event.words ≡ verses)

abbrev pub FitsMeasure : ℕ → DrawnMeasure → Type 0
FitsMeasure verses d = HasMeter d × AllByRecursion (FitsEvent verses) d.events

abbrev pub Fits : ℕ → List DrawnMeasure → Type 0
Fits verses = AllByRecursion (FitsMeasure verses)

abbrev pub FitsVoice : DrawnVoice → Type 0
FitsVoice v = Fits v.verses v.measures

-- ---- the marks of slots
module _ (P : LaneInk → Type 0) (w : OfMarks P) where
  if_meter : (b : Bool) (m : Meter) → IsGoodMeter m → IfSome (if b then Some m else None) IsGoodMeter
  if_meter true m good = good
  if_meter false m good = tt

  pub slots_drawn : (first verses : ℕ) (lengths : List ℕ)
      → OfSlots first lengths (λ s. AllByRecursion P s.drawn) (FitsEvent verses) HasMeter
  slots_drawn first verses lengths = record {
    of_head =
        λ a d good.
        head P w d.opening.clef d.opening.key.signs _ (if_meter ((a == 0) || d.opening.anew) d.opening.meter good);
    of_first = λ b. bar P w b;
    of_change = λ m e fits marked. change P w e.clef e.old e.flat.event.changes fits.0;
    of_grace = λ m tick clef group i g. grace P w clef group (i == 0) g;
    of_note = λ m before after e fits. note P w e.clef (raise_of e.seat) e.flat.event e.plan before after;
    of_bar = λ m d good. bar P w d.bar;
  }

-- with their words
module _ (IsVerse : ℕ → Type 0) (P : LaneInk → Type 0) (marks : OfMarks P) (words : OfWords IsVerse P) where
  abbrev Holds : Slot → Type 0
  Holds s = AllByRecursion P s.drawn × ((place : TextPlace) → AllByRecursion P (written_marks place s.written))

  written_all : (first : ℕ) (f : Flat) (place : TextPlace)
      → ((i : ℕ) → i < length f.event.words → IsVerse (first + i))
      → AllByRecursion P (written_marks place (written_of first f))
  unfolding text_marks
  written_all first f place verses =
      all_append P (syllables_from place.low first f.event.words) _
      (syllables_all IsVerse P words place.low first f.event.words verses) (texts_all IsVerse P words place f)

  pub slots_hold : (first verses : ℕ) (lengths : List ℕ) → ((i : ℕ) → i < verses → IsVerse (first + i))
      → OfSlots first lengths Holds (FitsEvent verses) HasMeter
  slots_hold first verses lengths known =
      let drawn = slots_drawn P marks first verses lengths in
      record {
        of_head = λ a d good. (drawn.of_head a d good, λ place. tt);
        of_first = λ b. (drawn.of_first b, λ place. tt);
        of_change = λ m e fits marked. (drawn.of_change m e fits marked, λ place. tt);
        of_grace = λ m tick clef group i g. (drawn.of_grace m tick clef group i g, λ place. tt);
        of_note = λ m before after e fits. (
          drawn.of_note m before after e fits,
          λ place.
              written_all first e.flat place
              (λ i inside. let count = fits.1 in known i (omega (arith, inside, count))),
        );
        of_bar = λ m d good. (drawn.of_bar m d good, λ place. tt);
      }

  pub ink_all : (place : Option TextPlace) (s : Slot) → Holds s → AllByRecursion P (slot_ink place s)
  ink_all None s holds = holds.0
  ink_all (Some place) s holds =
      all_append P s.drawn (written_marks place s.written) holds.0 (holds.1 place)

  column_all : (place : TextPlace) (ss : List Slot)
      → AllByRecursion Holds ss → AllByRecursion P (column_marks place ss)
  column_all place [] all = tt
  column_all place (s ∷ ss) all =
      all_append P (slot_ink (Some place) s) (column_marks (place_after place s.written) ss)
      (ink_all (Some place) s all.0) (column_all (place_after place s.written) ss all.1)

-- ---- a staff
-- the number of a verse of a staff
abbrev pub IsVerse : ℕ → ℕ → Type 0
IsVerse verses n = n < verses

-- what each kind of mark needs
pub record OfLaid (verses : ℕ) (keys : List ColumnKey) (P : Laid → Type 0) : Type 0 where
  pub of_marks : (r : ℕ) → OfMarks (λ d. P (drawn_at r d))
  pub of_words : (r : ℕ) → OfWords (IsVerse verses) (λ d. P (drawn_at r d))
  pub of_bridge : (b : Bridge) → P (bridge_at keys b)

pub all_weaker : {A : Type 0} (P Q : A → Type 0)
    → ((x : A) → P x → Q x) → (xs : List A) → AllByRecursion P xs → AllByRecursion Q xs
all_weaker P Q f [] all = tt
all_weaker P Q f (x ∷ xs) all = (f x all.0, all_weaker P Q f xs all.1)

pub all_kept : {A : Type 0} (P : A → Type 0) (test : A → Bool) (xs : List A)
    → AllByRecursion P xs → AllByRecursion P (filter test xs)
all_kept P test [] all = tt
all_kept P test (x ∷ xs) all = by (test x) (all_kept P test xs all.1)
  where
    by : (b : Bool)
        → AllByRecursion P (filter test xs) → AllByRecursion P (cond b (x ∷ filter test xs) (filter test xs))
    by true more = (all.0, more)
    by false more = more

pub all_mapped : {A B : Type 0} (P : B → Type 0) (f : A → B) (xs : List A)
    → AllByRecursion (λ x. P (f x)) xs → AllByRecursion P (map f xs)
all_mapped P f [] all = tt
all_mapped P f (x ∷ xs) all = (all.0, all_mapped P f xs all.1)

-- the columns of a staff and what goes between them
pub staff_each : (P : Laid → Type 0) (keys : List ColumnKey) (verses : ℕ) (voices : List VoiceSlots)
    → ((k : ColumnKey)
    → Contains keys k → (place : TextPlace)
    → AllByRecursion (λ d. P (drawn_at (key_rank keys k) d)) (column_marks place (column_slots k (all_slots voices))))
    → AllByRecursion P (bridges_at keys voices)
    → AllByRecursion P (staff_laid keys verses voices)
unfolding staff_laid
staff_each P keys verses voices columns bridges =
    all_append P (flat_map (column_at keys place (all_slots voices)) keys) (bridges_at keys voices)
    (along keys (λ k has. has)) bridges
  where
    place : TextPlace
    place = place_outside verses (bare_laid keys voices)

    along : (ks : List ColumnKey)
        → ((k : ColumnKey) → Contains ks k → Contains keys k)
        → AllByRecursion P (flat_map (column_at keys place (all_slots voices)) ks)
    along [] among = tt
    along (k ∷ ks) among =
        all_append P (column_at keys place (all_slots voices) k)
        (flat_map (column_at keys place (all_slots voices)) ks)
        (all_mapped P (drawn_at (key_rank keys k)) _ (columns k (among k (0, omega arith, refl)) place))
        (along ks (λ l (i, inside, is). among l (suc i, omega (arith, inside), is)))

module _ (verses : ℕ) (keys : List ColumnKey) (P : Laid → Type 0) (w : OfLaid verses keys P) (lengths : List ℕ)
    (a b : ℕ) where
  abbrev HoldsAt : ℕ → Slot → Type 0
  HoldsAt r = Holds (IsVerse verses) (λ d. P (drawn_at r d)) (w.of_marks r) (w.of_words r)

  own_verses : (r first own : ℕ) → first + own ≤ verses → OfSlots first lengths (HoldsAt r) (FitsEvent own) HasMeter
  own_verses r first own few =
      slots_hold (IsVerse verses) (λ d. P (drawn_at r d)) (w.of_marks r) (w.of_words r) first own lengths
      (λ i inside. omega (arith, inside, few))

  -- slots one after another, with their words at one place or nowhere
  laid_all : (place : Option TextPlace) (ss : List Slot)
      → ((r : ℕ) → AllByRecursion (HoldsAt r) ss) → AllByRecursion P (slots_laid keys place ss)
  laid_all place [] all = tt
  laid_all place (s ∷ ss) all =
      let r = key_rank keys s.key in
      all_append P (slot_laid keys place s) (slots_laid keys place ss)
      (all_mapped P (drawn_at r) (slot_ink place s)
      (ink_all (IsVerse verses) (λ d. P (drawn_at r d)) (w.of_marks r) (w.of_words r) place s (all r).0))
      (laid_all place ss (λ q. (all q).1))

  pub range_laid : (begins : Bool) (place : Option TextPlace) (first : ℕ) (v : DrawnVoice)
      → first + v.verses ≤ verses → FitsVoice v
      → AllByRecursion P (slots_laid keys place (range_slots begins lengths a b first v))
  range_laid begins place first v few fits =
      laid_all place (range_slots begins lengths a b first v)
      (λ r.
      range_all first lengths (HoldsAt r) (FitsEvent v.verses) HasMeter (own_verses r first v.verses few) begins a b v
      fits)

  voices_hold : (r : ℕ) (k : ColumnKey) (first : ℕ) (vs : List DrawnVoice)
      → first + sum (map (λ v. v.verses) vs) ≤ verses → AllByRecursion FitsVoice vs
      → AllByRecursion (HoldsAt r) (column_slots k (all_slots (slots_of_voices first lengths a b vs)))
  voices_hold r k first [] few fits = tt
  voices_hold r k first (v ∷ vs) few fits =
      let count = sum_by-cons (λ n. n) v.verses (map (λ w. w.verses) vs) in
      all_append (HoldsAt r) (slots_at k (voice_slots first lengths a b v)) _
      (all_kept (HoldsAt r) (λ s. same_key s.key k) (voice_slots first lengths a b v)
      (voice_all first lengths (HoldsAt r) (FitsEvent v.verses) HasMeter
      (own_verses r first v.verses (omega (arith, few, count))) a b v fits.0))
      (voices_hold r k (first + v.verses) vs (omega (arith, few, count)) fits.1)

  all_bridges : (bs : List Bridge) → AllByRecursion P (map (bridge_at keys) bs)
  all_bridges [] = tt
  all_bridges (b ∷ bs) = (w.of_bridge b, all_bridges bs)

  pub staff_all : (vs : List DrawnVoice)
      → sum (map (λ v. v.verses) vs) ≤ verses → AllByRecursion FitsVoice vs
      → AllByRecursion P (staff_laid keys (sum (map (λ v. v.verses) vs)) (slots_of_voices 0 lengths a b vs))
  staff_all vs few fits =
      staff_each P keys _ (slots_of_voices 0 lengths a b vs)
      (λ k has place.
      let r = key_rank keys k in
      column_all (IsVerse verses) (λ d. P (drawn_at r d)) (w.of_marks r) (w.of_words r) place _
      (voices_hold r k 0 vs (omega (arith, few)) fits))
      (all_bridges _)

-- A system that is one measure longer has the columns of the system, then those of the further measure: at the keys of
-- each measure it has the slots of the measure alone.
use Rattle.std.proofs.Common.{◌≡◌, ◌∙◌, ℕ, ◌+◌, ◌<◌, ◌≤◌, ◌==◌, true, false, List, [], ◌∷◌, ◌++◌, length, map, sym, ap}
use Rattle.std.proofs.Common.{subst, arith}
use Rattle.std.proofs.lemmas.Bool.Decides.{nat_tests}
use Rattle.std.proofs.lemmas.List.{append-nil, append_assoc}
use Rattle.std.proofs.lemmas.List.Elements.{recursion_from_All}
use Rattle.std.specs.List.{AllByRecursion, Contains}
use Rattle.mus_score.specs.declared.score.Score.{Score}
use Rattle.mus_score.specs.GoodScore.{IsGoodScore}
use Rattle.mus_onsets.specs.declared.keys.ColumnKey.{ColumnKey}
use Rattle.mus_onsets.specs.Keys.{AreKeys, called_keys, further_keys}
use Rattle.mus_onsets.specs.Onsets.{timeline_of}
use Rattle.mus_onsets.specs.Order.{same_key}
use Rattle.mus_onsets.proofs.Orders.{lower}
use Rattle.mus_onsets.proofs.Places.{further_places, places_of}
use Rattle.mus_laid.specs.declared.laid.SystemMarks.{SystemMarks}
use Rattle.mus_drawn.specs.declared.drawn.DrawnVoice.{DrawnVoice}
use Rattle.mus_drawn.specs.Drawn.{drawn_voice}
use Rattle.mus_slots.specs.Staff.{slots_at}
use Rattle.mus_slots.specs.Voice.{range_slots}
use Rattle.mus_slots.proofs.ByKey.{above_differs, at_after, at_before, below_differs}
use Rattle.mus_slots.proofs.Marks.{all_weaker}
use Rattle.mus_slots.proofs.Ranges.{voice_more}
use Rattle.mus_marks.specs.System.{IsCall, drawn_staves, is_drawn_lower}
use Rattle.mus_marks.proofs.Groups.{grouped_all}
use Rattle.mus_marks.proofs.OneList.{same_keys}
use Rattle.lay_reaches.specs.declared.column.Column.{Column}
use Rattle.lay_reaches.specs.Columns.{columns_of}
use Rattle.lay_reaches.proofs.Keyed.{keyed_append}
use Rattle.lay_columns.specs.Law.{AreColumnsFrom, MeasuresJoin, one_after_the_other}
use Rattle.lay_columns.specs.Measures.{AreMeasureColumns, keys_in}
use Rattle.lay_columns.proofs.Keyed.{IsAmong, IsWhole, SameAt, SlotsOf, both_pass, columns_same, found}
use Rattle.lay_columns.proofs.Keyed.{measure_among, measure_keyed, key_boxes, key_columns, system_among}
use Rattle.lay_columns.proofs.Keyed.{system_keyed, voices_whole}
use Rattle.lay_columns.proofs.Keys.{keys_grow}

itself : (a : ℕ) → (a == a) ≡ true
itself a = grind (arith, nat_tests)

apart : (a b : ℕ) → a < b → (a == b) ≡ false
apart a b h = grind (arith, nat_tests)

abbrev ticks : Score → List ℕ
ticks s = (timeline_of s).lengths

abbrev columns_by : Score → SlotsOf → List ColumnKey → List ℕ → List Column
columns_by s slots keys verses = key_columns slots keys (drawn_staves s) (ticks s) verses

-- ---- one more measure
module _ (s : Score) (good : IsGoodScore s) (a b : ℕ) (order : a < b) (within : b < s.measures)
    (keys more : List ColumnKey) (are : AreKeys keys (called_keys s (ticks s) a b))
    (further : AreKeys more (further_keys s (ticks s) b)) where
  abbrev system : SlotsOf
  system = range_slots true (ticks s) a b

  abbrev measure : SlotsOf
  measure = range_slots false (ticks s) b (b + 1)

  abbrev longer : SlotsOf
  longer = range_slots true (ticks s) a (b + 1)

  before : AllByRecursion (λ k. k.measure < b) keys
  before =
      recursion_from_All (λ k. k.measure < b) keys
      (λ i d inside. (places_of s a b keys good order (omega (arith, within)) are i d inside).to)

  from : AllByRecursion (λ k. b ≤ k.measure) more
  from =
      recursion_from_All (λ k. b ≤ k.measure) more
      (λ i d inside. (further_places s b more good within further i d inside).from)

  abbrev IsJoined : DrawnVoice → Type 0
  IsJoined v = IsWhole s.measures v × (IsAmong keys system v × IsAmong more measure v)

  first_same : (k : ColumnKey) → k.measure < b → (v : DrawnVoice) → IsJoined v → SameAt longer system k v
  first_same k early v is first =
      let count = is.0.count in
      ap (slots_at k) (voice_more first (ticks s) a b v order (omega (arith, within, count)))
      ∙ at_before (λ s. s.key) k (system first v) (measure first v)
      (all_weaker (λ s. Contains more s.key) (λ s. same_key s.key k ≡ false)
      (λ s has.
      let late = found (λ l. b ≤ l.measure) more s.key from has in
      below_differs k s.key (lower k s.key (omega (arith, early, late))))
      (measure first v) (is.1.1 first))

  second_same : (k : ColumnKey) → b ≤ k.measure → (v : DrawnVoice) → IsJoined v → SameAt longer measure k v
  second_same k late v is first =
      let count = is.0.count in
      ap (slots_at k) (voice_more first (ticks s) a b v order (omega (arith, within, count)))
      ∙ at_after (λ s. s.key) k (system first v) (measure first v)
      (all_weaker (λ s. Contains keys s.key) (λ s. same_key s.key k ≡ false)
      (λ s has.
      let early = found (λ l. l.measure < b) keys s.key before has in
      above_differs s.key k (lower s.key k (omega (arith, early, late))))
      (system first v) (is.1.0 first))

  joined : AllByRecursion (AllByRecursion IsJoined) (drawn_staves s)
  joined =
      let voices = map drawn_voice s.voices in
      grouped_all is_drawn_lower IsJoined voices
      (both_pass (IsWhole s.measures) (λ v. IsAmong keys system v × IsAmong more measure v) voices (voices_whole s good)
      (both_pass (IsAmong keys system) (IsAmong more measure) voices
      (system_among s (ticks s) a b keys good order (omega (arith, within)) are)
      (measure_among false s (ticks s) b more good within further)))

  keys_joined : AreKeys (keys ++ more) (called_keys s (ticks s) a (b + 1))
  keys_joined = keys_grow s (ticks s) a b keys more good order within before from are further

  columns_joined : (verses : List ℕ)
      → columns_by s longer (keys ++ more) verses ≡ columns_by s system keys verses ++ columns_by s measure more verses
  columns_joined verses =
      keyed_append (ticks s) (key_boxes longer) b keys more (drawn_staves s) verses before from
      ∙ ap (λ t. t ++ columns_by s longer more verses)
      (columns_same longer system (λ k. k.measure < b) IsJoined first_same keys (drawn_staves s) (ticks s) verses before
      joined)
      ∙ ap (λ t. columns_by s system keys verses ++ t)
      (columns_same longer measure (λ k. b ≤ k.measure) IsJoined second_same more (drawn_staves s) (ticks s) verses from
      joined)

-- ---- measure by measure
abbrev AreColumns : Score → ℕ → ℕ → List ℕ → List Column → Type 0
AreColumns s a b verses columns =
    (keys : List ColumnKey)
    × AreKeys keys (called_keys s (ticks s) a b)
    × (columns_by s (range_slots true (ticks s) a b) keys verses ≡ columns)

module _ (s : Score) (good : IsGoodScore s) (a : ℕ) (verses : List ℕ) where
  one_more : (b : ℕ) (columns further : List Column)
      → a < b → b < s.measures → AreColumns s a b verses columns
      → AreMeasureColumns (a == b) s (timeline_of s) b verses further
      → AreColumns s a (b + 1) verses (columns ++ further)
  one_more b columns further order within (keys, are, value) those =
      let more = keys_in further in
      let is =
      subst (λ begins. AreMeasureColumns begins s (timeline_of s) b verses further) (apart a b order) those in (
        keys ++ more,
        keys_joined s good a b order within keys more are is.keys,
        columns_joined s good a b order within keys more are is.keys verses
            ∙ ap (λ t. t ++ columns_by s (range_slots false (ticks s) b (b + 1)) more verses) value
            ∙ ap (λ t. columns ++ t)
            (sym (measure_keyed false s (ticks s) b verses more good within is.keys) ∙ sym is.value),
      )

  many_more : (b : ℕ) (columns : List Column) (measures : List (List Column))
      → a < b → b + length measures ≤ s.measures → AreColumns s a b verses columns
      → AreColumnsFrom s (timeline_of s) a b verses measures
      → AreColumns s a (b + length measures) verses (columns ++ one_after_the_other measures)
  many_more b columns [] order within are more =
      let e : b ≡ b + 0 = omega arith in
      subst (λ k. AreColumns s a k verses (columns ++ [])) e
      (subst (λ t. AreColumns s a b verses t) (sym (append-nil columns)) are)
  many_more b columns (c ∷ cs) order within are more =
      let e : b + 1 + length cs ≡ b + length (c ∷ cs) = omega arith in
      let next = one_more b columns c order (omega (arith, within)) are more.0 in
      let rest = many_more (b + 1) (columns ++ c) cs (omega (arith, order)) (omega (arith, within)) next more.1 in
      subst (λ k. AreColumns s a k verses (columns ++ one_after_the_other (c ∷ cs))) e
      (subst (λ t. AreColumns s a (b + 1 + length cs) verses t) (append_assoc columns c (one_after_the_other cs)) rest)

  system_columns : (b : ℕ) (m : SystemMarks) (columns : List Column)
      → a < b → b ≤ s.measures → IsCall s (timeline_of s) a b m → AreColumns s a b verses columns
      → columns_of m.keys m.staves (ticks s) verses ≡ columns
  system_columns b m columns order within call (keys, are, value) =
      ap (λ t. columns_of m.keys t (ticks s) verses) call.staves
      ∙ system_keyed m.keys (ticks s) a b call.keys.rise (drawn_staves s) verses
      ∙ ap (λ ks. columns_by s (range_slots true (ticks s) a b) ks verses)
      (same_keys m.keys keys (called_keys s (ticks s) a b) call.keys are)
      ∙ value

  joined_from : (b : ℕ) (m : SystemMarks) (measures : List (List Column))
      → a < b → a + length measures ≡ b → b ≤ s.measures → IsCall s (timeline_of s) a b m
      → AreColumnsFrom s (timeline_of s) a a verses measures
      → columns_of m.keys m.staves (ticks s) verses ≡ one_after_the_other measures
  joined_from b m [] order e within call all = absurd (omega (arith, order, e))
  joined_from b m (first ∷ further) order e within call all =
      let one = subst (λ begins. AreMeasureColumns begins s (timeline_of s) a verses first) (itself a) all.0 in
      let e' : a + 1 + length further ≡ b = omega (arith, e) in
      let some : a < s.measures = omega (arith, order, within) in
      system_columns b m (first ++ one_after_the_other further) order within call
      (subst (λ k. AreColumns s a k verses (first ++ one_after_the_other further)) e'
      (many_more (a + 1) first further (omega arith) (omega (arith, within, e')) (
        keys_in first,
        one.keys,
        sym (measure_keyed true s (ticks s) a verses (keys_in first) good some one.keys) ∙ sym one.value,
      ) all.1))

pub measures_join : MeasuresJoin
measures_join s t a b m verses measures good timed order e within call all =
    ap (λ z. columns_of m.keys m.staves z.lengths verses) timed
    ∙ joined_from s good a verses b m measures order e within (subst (λ z. IsCall s z a b m) timed call)
    (subst (λ z. AreColumnsFrom s z a a verses measures) timed all)

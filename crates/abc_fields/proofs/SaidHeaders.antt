-- The values that a header's lines say determine it: each relation of `HeaderValues` holds of one value alone.
use Rattle.std.proofs.Common.{◌≡◌, refl, sym, ap, ◌∙◌, subst, ℕ, ◌+◌, List, [], ◌∷◌, ◌++◌, inl, inr}
use Rattle.std.proofs.lemmas.Option.{same_Some}
use Rattle.std.specs.Prelude.{Option, Some, None, Result, Ok, Err, fold, is_some, map, unwrap_or}
use Rattle.std.specs.List.{AllByRecursion, filter_map}
use Rattle.abc_lines.specs.declared.book.Line.{Line}
use Rattle.abc_lines.specs.declared.book.TuneText.{TuneText}
use Rattle.abc_lines.specs.declared.fault.FaultKind.{FaultKind}
use Rattle.mus_units.specs.declared.note.Wish.{Wish}
use Rattle.abc_field.specs.declared.voice.VoiceDef.{VoiceDef}
use Rattle.abc_field.specs.declared.field.Field.{Field}
use Rattle.abc_field.specs.Fields.{field_of}
use Rattle.abc_field.proofs.FieldForms.{line-says, line-read}
use Rattle.abc_fields.specs.declared.defaults.Defaults.{Defaults}
use Rattle.abc_fields.specs.declared.header.Header.{Header}
use Rattle.abc_fields.specs.FileHeader.{AreSilent, AreStavesBy, AreStavesUpTo, IsLastIfAny, IsLastOf, IsLastOr}
use Rattle.abc_fields.specs.FileHeader.{StatesStaves}
use Rattle.abc_fields.specs.Headers.{title_in, composer_in, tempo_in, key_in, meter_in, unit_in, breaks_in, spread_in}
use Rattle.abc_fields.specs.Headers.{IsHeaderBy, IsHeaderOf, fields_of, first_line_number, head_lines, header_of}
use Rattle.abc_fields.specs.Headers.{key_clef, key_place, key_signs, put_field, staves_from, unit_by}
use Rattle.abc_fields.specs.HeaderValues.{AreAllSaid, AreValuesBy, AreValuesUpTo, AreVoicesBy, HasVoicesUpTo, IsVoiceBy}
use Rattle.abc_fields.specs.HeaderValues.{SaysHeader, SaysValue}
use Rattle.abc_fields.specs.HeaderValues.{no_more, one_said, none_said}
use Rattle.abc_fields.proofs.DirectiveForms.{directive-read}
use Rattle.abc_fields.proofs.FileHeaderLaws.{header_staves}
use Rattle.abc_fields.specs.Voicing.{clef_for, id_in, wish_for, with_id}
use Rattle.abc_fields.proofs.ValueLaws.{header_values, voices_by}

-- ---- one last value
module _ {X : Type 0} (States : Line → X → Type 0)
    (single : (line : Line) (x y : X) → States line x → States line y → x ≡ y) where
  not_silent : (before after : List Line) (line : Line) (x : X)
      → AreSilent States (before ++ line ∷ after) → States line x → ⊥
  not_silent [] after line x silent states = silent.0 x states
  not_silent (first ∷ before) after line x silent states = not_silent before after line x silent.1 states

  one_cut : (b c : List Line) (l m : Line) (s t : List Line) (x y : X)
      → b ++ l ∷ s ≡ c ++ m ∷ t → States l x → AreSilent States s → States m y → AreSilent States t → x ≡ y
  one_cut [] [] l m s t x y e one after two following =
      let same : l ≡ m = cc in single m x y (subst (λ l. States l x) same one) two
  one_cut [] (k ∷ c) l m s t x y e one after two following =
      let same : s ≡ c ++ m ∷ t = cc in
      absurd (not_silent c t m y (subst (AreSilent States) same after) two)
  one_cut (k ∷ b) [] l m s t x y e one after two following =
      let same : t ≡ b ++ l ∷ s = cc in
      absurd (not_silent b s l x (subst (AreSilent States) same following) one)
  one_cut (k ∷ b) (j ∷ c) l m s t x y e one after two following =
      let same : b ++ l ∷ s ≡ c ++ m ∷ t = cc in one_cut b c l m s t x y same one after two following

  one_last : (lines : List Line) (x y : X) → IsLastOf States lines x → IsLastOf States lines y → x ≡ y
  one_last lines x y a b =
      let same = sym a.cut ∙ b.cut in
      one_cut a.before b.before a.line b.line a.after b.after x y same a.states a.silent b.states b.silent

  none_last : (lines : List Line) (x : X) → AreSilent States lines → IsLastOf States lines x → ⊥
  none_last lines x silent last =
      not_silent last.before last.after last.line x (subst (AreSilent States) last.cut silent) last.states

  one_if_any : (lines : List Line) (o p : Option X)
      → IsLastIfAny States lines o → IsLastIfAny States lines p → o ≡ p
  one_if_any lines None None a b = refl
  one_if_any lines None (Some y) a b = absurd (none_last lines y a b)
  one_if_any lines (Some x) None a b = absurd (none_last lines x b a)
  one_if_any lines (Some x) (Some y) a b = ap Some (one_last lines x y a b)

  one_or : (default : X) (lines : List Line) (x y : X)
      → IsLastOr States default lines x → IsLastOr States default lines y → x ≡ y
  one_or default lines x y (inl a) (inl b) = one_last lines x y a b
  one_or default lines x y (inl a) (inr b) = absurd (none_last lines x b.0 a)
  one_or default lines x y (inr a) (inl b) = absurd (none_last lines y a.0 b)
  one_or default lines x y (inr a) (inr b) = a.1 ∙ sym b.1

-- ---- a line says one value of a kind
module _ {X : Type 0} (value : Field → Option X) where
  one_value : (line : Line) (x y : X) → SaysValue value line x → SaysValue value line y → x ≡ y
  one_value line x y a b =
      let one = line-read line.text a.0 a.1 in
      let other = line-read line.text b.0 b.1 in
      let same : a.0 ≡ b.0 = cc in
      same_Some x y (sym a.2 ∙ ap value same ∙ b.2)

  not_said : (line : Line) (read : Result Field FaultKind) (fs : List Field)
      → field_of line.text ≡ read → ((x : X) → SaysValue value line x → ⊥)
      → filter_map value (put_field read fs) ≡ filter_map value fs
  not_said line (Err kind) fs e none = refl
  not_said line (Ok field) fs e none = by (value field) refl where
    by : (o : Option X) → value field ≡ o → filter_map value (field ∷ fs) ≡ filter_map value fs
    by None is = rw is refl
    by (Some x) is = absurd (none x (field, line-says line.text field e, is))

  all_read : (lines : List Line) (xs : List X) → AreAllSaid value lines xs → xs ≡ filter_map value (fields_of lines)
  all_read _ _ no_more = refl
  all_read _ _ (one_said line lines x others said all) =
      rw (line-read line.text said.0 said.1, said.2) (ap (λ ys. x ∷ ys) (all_read lines others all))
  all_read _ _ (none_said line lines others none all) =
      all_read lines others all ∙ sym (not_said line (field_of line.text) (fields_of lines) refl none)

-- ---- a line states one plan of staves
one_staves : (line a b : Line) → StatesStaves line a → StatesStaves line b → a ≡ b
one_staves line a b first second =
    let one = directive-read line.text _ a.text first.directive in
    let other = directive-read line.text _ b.text second.directive in
    let text : a.text ≡ b.text = cc in
    let number : a.number ≡ b.number = first.number ∙ sym second.number in
    let same : record { number = a.number; text = a.text } ≡ b = rw (number, text) refl in
    same

same_staves : (lines : List Line) (first : ℕ) (other s t : Option Line)
    → AreStavesBy lines first other s → AreStavesBy lines first other t → s ≡ t
same_staves lines first other s t (inl a) (inl b) =
    a.2 ∙ ap Some (one_last StatesStaves one_staves lines a.0 b.0 a.1 b.1) ∙ sym b.2
same_staves lines first other s t (inl a) (inr b) = absurd (none_last StatesStaves one_staves lines a.0 b.0 a.1)
same_staves lines first other s t (inr a) (inl b) = absurd (none_last StatesStaves one_staves lines b.0 a.0 b.1)
same_staves lines first other s t (inr a) (inr b) = a.1 ∙ sym b.1

-- ---- the voices
module _ (lines : List Line) where
  one_voice : (a b : VoiceDef) → a.id ≡ b.id → IsVoiceBy lines a → IsVoiceBy lines b → a ≡ b
  one_voice a b id of_a of_b =
      let clef = one_if_any (SaysValue (clef_for b.id)) (one_value (clef_for b.id)) lines a.clef b.clef
      (subst (λ i. IsLastIfAny (SaysValue (clef_for i)) lines a.clef) id of_a.clef) of_b.clef in
      let said = one_if_any (SaysValue (wish_for b.id)) (one_value (wish_for b.id)) lines of_a.stem of_b.stem
      (subst (λ i. IsLastIfAny (SaysValue (wish_for i)) lines of_a.stem) id of_a.stem_said) of_b.stem_said in
      let stem : a.stem ≡ b.stem = of_a.stem_is ∙ ap (λ o. unwrap_or o Wish.Auto) said ∙ sym of_b.stem_is in
      let asks : a.asks ≡ b.asks = of_a.asks ∙ ap is_some said ∙ sym of_b.asks in
      let same : record { id = a.id; clef = a.clef; stem = a.stem; asks = a.asks } ≡ b =
      rw (id, clef, stem, asks) refl in
      same

  one_each : (vs ws : List VoiceDef)
      → map (λ (v : VoiceDef). v.id) vs ≡ map (λ (v : VoiceDef). v.id) ws
      → AllByRecursion (IsVoiceBy lines) vs → AllByRecursion (IsVoiceBy lines) ws → vs ≡ ws
  one_each [] [] e a b = refl
  one_each [] (w ∷ ws) e a b = cc
  one_each (v ∷ vs) [] e a b = cc
  one_each (v ∷ vs) (w ∷ ws) e a b =
      let id : v.id ≡ w.id = cc in
      let more : map (λ (v : VoiceDef). v.id) vs ≡ map (λ (v : VoiceDef). v.id) ws = cc in
      let first = one_voice v w id a.0 b.0 in
      let others = one_each vs ws more a.1 b.1 in cc

  same_voices : (vs ws : List VoiceDef) → AreVoicesBy lines vs → AreVoicesBy lines ws → vs ≡ ws
  same_voices vs ws a b =
      let named = all_read id_in lines a.named a.all_named ∙ sym (all_read id_in lines b.named b.all_named) in
      one_each vs ws (a.ids ∙ ap (fold with_id []) named ∙ sym b.ids) a.each b.each

-- ---- the header
module _ (lines : List Line) (defaults : Defaults) where
  last_same : {X : Type 0} (value : Field → Option X) (o p : Option X)
      → IsLastIfAny (SaysValue value) lines o → IsLastIfAny (SaysValue value) lines p → o ≡ p
  last_same value o p a b = one_if_any (SaysValue value) (one_value value) lines o p a b

  last_or_same : {X : Type 0} (value : Field → Option X) (default x y : X)
      → IsLastOr (SaysValue value) default lines x → IsLastOr (SaysValue value) default lines y → x ≡ y
  last_or_same value default x y a b = one_or (SaysValue value) (one_value value) default lines x y a b

  one_header : (a b : Header) → AreValuesBy lines defaults a → AreValuesBy lines defaults b
      → a.voices ≡ b.voices → a.staves ≡ b.staves → a.body ≡ b.body → a ≡ b
  one_header a b of_a of_b voices staves body =
      let titles = all_read title_in lines a.titles of_a.titles ∙ sym (all_read title_in lines b.titles of_b.titles) in
      let composers =
      all_read composer_in lines a.composers of_a.composers
      ∙ sym (all_read composer_in lines b.composers of_b.composers) in
      let tempo = last_same tempo_in a.tempo b.tempo of_a.tempo of_b.tempo in
      let key = last_same key_in of_a.key of_b.key of_a.key_said of_b.key_said in
      let signs : a.key.signs ≡ b.key.signs = of_a.signs ∙ ap key_signs key ∙ sym of_b.signs in
      let clef : a.clef ≡ b.clef = of_a.clef ∙ ap key_clef key ∙ sym of_b.clef in
      let meter = last_or_same meter_in defaults.meter a.meter b.meter of_a.meter of_b.meter in
      let own = last_same unit_in of_a.unit of_b.unit of_a.unit_said of_b.unit_said in
      let unit : a.unit ≡ b.unit =
      of_a.unit_is
      ∙ ap (λ o. unit_by o defaults.unit a.meter) own
      ∙ ap (unit_by of_b.unit defaults.unit) meter
      ∙ sym of_b.unit_is in
      let breaks = last_or_same breaks_in defaults.breaks a.breaks b.breaks of_a.breaks of_b.breaks in
      let spread = last_or_same spread_in defaults.spread a.spread b.spread of_a.spread of_b.spread in
      let same : record {
        titles = a.titles;
        composers = a.composers;
        tempo = a.tempo;
        key = record { signs = a.key.signs };
        clef = a.clef;
        meter = a.meter;
        unit = a.unit;
        voices = a.voices;
        breaks = a.breaks;
        spread = a.spread;
        staves = a.staves;
        body = a.body;
      }
      ≡ b = rw (titles, composers, tempo, signs, clef, meter, unit, voices, breaks, spread, staves, body) refl in
      same

header_up_to : (tune : TuneText) (defaults : Defaults) (header : Header) (place : Option ℕ)
    → key_place tune.lines ≡ place → AreValuesUpTo tune defaults place header
    → AreStavesUpTo tune defaults.staves place header.staves → HasVoicesUpTo tune place header
    → IsHeaderBy tune defaults header place
unfolding IsHeaderOf
header_up_to tune defaults header None e values staves voices = values
header_up_to tune defaults header (Some place) e values staves voices =
    let lines : List Line = head_lines tune place in
    let first : ℕ = first_line_number tune.lines in
    let read : Header = header_of (fields_of lines) defaults (staves_from lines defaults first) (place + 1) in
    let is : IsHeaderOf tune defaults read = subst (IsHeaderBy tune defaults read) (sym e) refl in
    let says : AreValuesBy lines defaults read =
    subst (λ p. AreValuesUpTo tune defaults p read) e (header_values tune defaults read is) in
    let seats : AreStavesBy lines first defaults.staves read.staves =
    subst (λ p. AreStavesUpTo tune defaults.staves p read.staves) e (header_staves tune defaults read is) in
    let voice = same_voices lines header.voices read.voices voices.0 (voices_by lines) in
    one_header lines defaults header read values says voice
    (same_staves lines first defaults.staves header.staves read.staves staves seats) voices.1

has_voices : (tune : TuneText) (defaults : Defaults) (header : Header) (place : Option ℕ)
    → IsHeaderBy tune defaults header place → HasVoicesUpTo tune place header
has_voices tune defaults header None is = is
has_voices tune defaults header (Some place) is = (
  subst (λ (h : Header). AreVoicesBy (head_lines tune place) h.voices) (sym is) (voices_by (head_lines tune place)),
  ap (λ (h : Header). h.body) is,
)

-- a header of a tune is what its lines say
pub header_says : (tune : TuneText) (defaults : Defaults) (header : Header)
    → IsHeaderOf tune defaults header → SaysHeader tune defaults header
unfolding IsHeaderOf
header_says tune defaults header is = record {
  values = header_values tune defaults header is;
  staves = header_staves tune defaults header is;
  voices = has_voices tune defaults header (key_place tune.lines) is;
}

-- and what its lines say is its header
pub header_is : (tune : TuneText) (defaults : Defaults) (header : Header)
    → SaysHeader tune defaults header → IsHeaderOf tune defaults header
unfolding IsHeaderOf
header_is tune defaults header says =
    header_up_to tune defaults header (key_place tune.lines) refl says.values says.staves says.voices

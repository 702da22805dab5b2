-- The function that the code follows and the intended relation agree: a line reads as a field exactly when it says
-- the field, and is refused exactly when it says nothing.
use Rattle.std.proofs.Common.{◌≡◌, refl, sym, ap, ◌∙◌, ℕ, List, false, ◌==◌, ◌||◌, Some, None, Result, Ok, Err}
use Rattle.std.proofs.Common.{MatchResult, IfSome, codes}
use Rattle.std.proofs.lemmas.Bool.{cond_both, not-true, or_parts}
use Rattle.std.proofs.lemmas.Option.{none-some, same_Some}
use Rattle.std.proofs.lemmas.Result.{MatchResult-at_ok, MatchResult-at_err}
use Rattle.mus_units.specs.declared.key.Spread.{Spread}
use Rattle.abc_lines.specs.declared.fault.FaultKind.{FaultKind}
use Rattle.abc_lines.specs.declared.fault.TuneError.{TuneError}
use Rattle.abc_lines.specs.declared.book.Line.{Line}
use Rattle.abc_lines.specs.{declared.kind.LineKind.LineKind, Kinds.{kind_of, field_text}}
use Rattle.abc_field.specs.Fields.{key_field, meter_field, unit_field, voice_field, named_field, breaks_field}
use Rattle.abc_field.specs.Fields.{spread_field, directive_field}
use Rattle.abc_field.specs.Fields.{field_by, field_of, IsErrorOfField, IsFaultOfLine}
use Rattle.abc_field.specs.declared.directive.Breaks.{Breaks}
use Rattle.abc_field.specs.declared.field.Field.{Field}
use Rattle.abc_field.specs.declared.field.FieldError.{FieldError}
use Rattle.abc_field.specs.Directives.{name_of, rest_of, names_breaks, breaks_of, spread_of}
use Rattle.abc_field.specs.Keys.{key_of}
use Rattle.abc_field.specs.{Meters.{meter_of, unit_of}, Voices.voice_of}
use Rattle.abc_field.specs.FieldSpelling.{SaysBreaks, SaysSpread, is_known, NamedSays, DirectiveSays, KindSays, Says}
use Rattle.abc_field.specs.FieldSpelling.{NamedBad, KindBad, IsBad}
use Rattle.abc_field.specs.FieldSpelling.{NamedRefuses, IsBadLine}
use Rattle.abc_field.proofs.{KeyForms.{key-says, key-read}, MeterForms.{meter-says, meter-read, unit-says, unit-read}}
use Rattle.abc_field.proofs.ReadLaws.{some_holds, option_case, byte_case, word_case, not_word, nothing}
use Rattle.abc_field.proofs.VoiceForms.{voice-says, voice-read}

-- A letter and a text say the field that is read from them, or are the fault.
module _ (letter : ℕ) (text : List ℕ) where
  abbrev Answers : Result Field FaultKind → Type 0
  Answers answer = MatchResult answer (NamedSays letter text) (NamedBad letter text)

  named-answers : Answers (named_field letter text)
  unfolding named_field
  named-answers =
      byte_case Answers letter 75 _ _
      (λ k. option_case (λ o. Answers (key_field o)) (key_of text)
      (λ key e. (k, key-says text key e)) (λ none. (k, λ key says. none-some key (sym none ∙ key-read text key says))))
      (λ not_k. byte_case Answers letter 77 _ _
      (λ m. option_case (λ o. Answers (meter_field o)) (meter_of text)
      (λ meter e. (m, meter-says text meter e))
      (λ none. (m, λ meter says. none-some meter (sym none ∙ meter-read text meter says))))
      (λ not_m. byte_case Answers letter 76 _ _
      (λ l. option_case (λ o. Answers (unit_field o)) (unit_of text)
      (λ unit e. (l, unit-says text unit e))
      (λ none. (l, λ unit says. none-some unit (sym none ∙ unit-read text unit says))))
      (λ not_l. byte_case Answers letter 86 _ _
      (λ v. option_case (λ o. Answers (voice_field o)) (voice_of text)
      (λ voice e. (v, voice-says text voice e))
      (λ none. (v, λ voice says. none-some voice (sym none ∙ voice-read text voice says))))
      (λ not_v. byte_case (NamedSays letter text) letter 119 _ _ (λ w. (w, refl))
      (λ not_w. byte_case (NamedSays letter text) letter 84 _ _ (λ t. (t, refl))
      (λ not_t. byte_case (NamedSays letter text) letter 67 _ _ (λ c. (c, refl))
      (λ not_c. byte_case (NamedSays letter text) letter 81 _ _ (λ q. (q, refl))
      (λ not_q. rw (not_k, not_m, not_l, not_v, not_w, not_t, not_c, not_q) refl))))))))

  pub named-says : (field : Field) → named_field letter text ≡ Ok field → NamedSays letter text field
  named-says field h = MatchResult-at_ok (NamedSays letter text) (NamedBad letter text) field h named-answers

  -- a refused letter and text are in no good form of that letter
  pub named-bad : (kind : FaultKind) → named_field letter text ≡ Err kind → NamedBad letter text kind
  named-bad kind h = MatchResult-at_err (NamedSays letter text) (NamedBad letter text) kind h named-answers

  -- What a letter and a text say is read.
  named-other : is_known letter ≡ false → named_field letter text ≡ Ok Field.Other
  unfolding named_field
  named-other un =
      let parts = or_parts ((letter == 75 || letter == 77) || (letter == 76 || letter == 86)) _ un in
      let read = or_parts (letter == 75 || letter == 77) (letter == 76 || letter == 86) parts.0 in
      let kept = or_parts (letter == 119 || letter == 84) (letter == 67 || letter == 81) parts.1 in
      let one = or_parts (letter == 75) (letter == 77) read.0 in
      let two = or_parts (letter == 76) (letter == 86) read.1 in
      let three = or_parts (letter == 119) (letter == 84) kept.0 in
      let four = or_parts (letter == 67) (letter == 81) kept.1 in
      rw (one.0, one.1, two.0, two.1, three.0, three.1, four.0, four.1) refl

  pub named-read : (field : Field) → NamedSays letter text field → named_field letter text ≡ Ok field
  unfolding named_field
  named-read (Field.Key key) says = rw (says.0, key-read text key says.1) refl
  named-read (Field.Meter meter) says = rw (says.0, meter-read text meter says.1) refl
  named-read (Field.Unit unit) says = rw (says.0, unit-read text unit says.1) refl
  named-read (Field.Voice voice) says = rw (says.0, voice-read text voice says.1) refl
  named-read Field.Other says = named-other (not-true (is_known letter) says)
  named-read (Field.Breaks breaks) says = absurd says
  named-read (Field.Spread spread) says = absurd says
  named-read (Field.Words words) says = rw (says.0, says.1) refl
  named-read (Field.Title title) says = rw (says.0, says.1) refl
  named-read (Field.Composer composer) says = rw (says.0, says.1) refl
  named-read (Field.Tempo tempo) says = rw (says.0, says.1) refl

  -- Text of such a letter in no good form is refused.
  pub named-refused : (kind : FaultKind) → NamedBad letter text kind → named_field letter text ≡ Err kind
  unfolding named_field
  named-refused FaultKind.BadKey bad = rw (bad.0, nothing (key_of text) (key-says text) bad.1) refl
  named-refused FaultKind.BadMeter bad = rw (bad.0, nothing (meter_of text) (meter-says text) bad.1) refl
  named-refused FaultKind.BadUnit bad = rw (bad.0, nothing (unit_of text) (unit-says text) bad.1) refl
  named-refused FaultKind.BadVoice bad = rw (bad.0, nothing (voice_of text) (voice-says text) bad.1) refl
  named-refused _ bad = absurd bad

-- Directives.
pub breaks-says : (text : List ℕ) (breaks : Breaks) → breaks_of text ≡ Some breaks → SaysBreaks text breaks
unfolding breaks_of
breaks-says text breaks h =
    cond_both (names_breaks text) _ None (λ o. o ≡ Some breaks → SaysBreaks text breaks)
    (λ some e. let same = same_Some _ breaks e in
    record {
      some = some;
      eol = ap (λ (b : Breaks). b.eol) (sym same);
      dollar = ap (λ (b : Breaks). b.dollar) (sym same);
      bang = ap (λ (b : Breaks). b.bang) (sym same);
    })
    (λ none e. absurd (none-some breaks e)) h

pub breaks-read : (text : List ℕ) (breaks : Breaks) → SaysBreaks text breaks → breaks_of text ≡ Some breaks
unfolding breaks_of
breaks-read text breaks says = rw (says.some, ← says.eol, ← says.dollar, ← says.bang) refl

pub spread-says : (text : List ℕ) (spread : Spread) → spread_of text ≡ Some spread → SaysSpread text spread
unfolding spread_of
spread-says text spread h =
    some_holds (SaysSpread text) h
    (word_case (λ o. IfSome o (SaysSpread text)) text (codes "not") _ _ (λ is. is)
    (λ _. word_case (λ o. IfSome o (SaysSpread text)) text (codes "octave") _ _ (λ is. is)
    (λ _. word_case (λ o. IfSome o (SaysSpread text)) text (codes "pitch") _ _ (λ is. is) (λ _. tt))))

pub spread-read : (text : List ℕ) (spread : Spread) → SaysSpread text spread → spread_of text ≡ Some spread
unfolding spread_of
spread-read text Spread.Not says = ap spread_of says
spread-read text _ says = ap spread_of says

-- a directive says what it reads as
pub directive-says : (name rest : List ℕ) → DirectiveSays name rest (directive_field name rest)
unfolding directive_field
directive-says name rest =
    word_case (DirectiveSays name rest) name (codes "linebreak") _ _
    (λ is.
    option_case (λ o. DirectiveSays name rest (breaks_field o)) (breaks_of rest)
    (λ breaks e. (is, breaks-says rest breaks e))
    (λ none. (
      λ breaks says. none-some breaks (sym none ∙ breaks-read rest breaks says.1),
      λ spread says. not_word {w = codes "linebreak"} refl (sym is ∙ says.0),
    )))
    (λ no_breaks. word_case (DirectiveSays name rest) name (codes "propagate-accidentals") _ _
    (λ is.
    option_case (λ o. DirectiveSays name rest (spread_field o)) (spread_of rest)
    (λ spread e. (is, spread-says rest spread e))
    (λ none. (
      λ breaks says. not_word no_breaks says.0,
      λ spread says. none-some spread (sym none ∙ spread-read rest spread says.1),
    )))
    (λ no_spread. (λ breaks says. not_word no_breaks says.0, λ spread says. not_word no_spread says.0)))

-- and it says nothing else
pub directive-read : (name rest : List ℕ) (field : Field)
    → DirectiveSays name rest field → directive_field name rest ≡ field
unfolding directive_field
directive-read name rest (Field.Breaks breaks) says = rw (says.0, breaks-read rest breaks says.1) refl
directive-read name rest (Field.Spread spread) says = rw (says.0, spread-read rest spread says.1) refl
directive-read name rest Field.Other says =
    word_case (λ field. field ≡ Field.Other) name (codes "linebreak") _ _
    (λ is. ap breaks_field (nothing (breaks_of rest) (λ breaks e. (is, breaks-says rest breaks e)) says.0))
    (λ _. word_case (λ field. field ≡ Field.Other) name (codes "propagate-accidentals") _ _
    (λ is. ap spread_field (nothing (spread_of rest) (λ spread e. (is, spread-says rest spread e)) says.1)) (λ _. refl))
directive-read name rest _ says = absurd says

-- Lines.
kind-answers : (line : List ℕ) (kind : LineKind)
    → MatchResult (field_by line kind) (KindSays line kind) (KindBad line kind)
kind-answers line (LineKind.Field letter) = named-answers letter (field_text line)
kind-answers line LineKind.Directive = directive-says (name_of (field_text line)) (rest_of (field_text line))
kind-answers line LineKind.Music = refl

-- a line reads as a field only if it says the field
pub line-says : (line : List ℕ) (field : Field) → field_of line ≡ Ok field → Says line field
unfolding field_of
line-says line field h =
    MatchResult-at_ok (KindSays line (kind_of line)) (KindBad line (kind_of line)) field h
    (kind-answers line (kind_of line))

kind-read : (line : List ℕ) (kind : LineKind) (field : Field) → KindSays line kind field → field_by line kind ≡ Ok field
kind-read line (LineKind.Field letter) field says = named-read letter (field_text line) field says
kind-read line LineKind.Directive field says =
    ap Ok (directive-read (name_of (field_text line)) (rest_of (field_text line)) field says)
kind-read line LineKind.Music field says = ap Ok (sym says)

-- and it does whenever it says the field
pub line-read : (line : List ℕ) (field : Field) → Says line field → field_of line ≡ Ok field
unfolding field_of
line-read line field says = kind-read line (kind_of line) field says

-- a line is refused only if its text is in no good form
pub line-bad : (line : List ℕ) (fault : FaultKind) → field_of line ≡ Err fault → IsBad line fault
unfolding field_of
line-bad line fault h =
    MatchResult-at_err (KindSays line (kind_of line)) (KindBad line (kind_of line)) fault h
    (kind-answers line (kind_of line))

kind-refused : (line : List ℕ) (kind : LineKind) (fault : FaultKind)
    → KindBad line kind fault → field_by line kind ≡ Err fault
kind-refused line (LineKind.Field letter) fault bad = named-refused letter (field_text line) fault bad
kind-refused line _ fault bad = absurd bad

-- and it is whenever its text is in no good form
pub line-refused : (line : List ℕ) (fault : FaultKind) → IsBad line fault → field_of line ≡ Err fault
unfolding field_of
line-refused line fault bad = kind-refused line (kind_of line) fault bad

-- The same for what a call returns.
pub named_refuses : (letter : ℕ) (text : List ℕ) (e : FieldError)
    → IsErrorOfField (named_field letter text) e → NamedRefuses letter text e
named_refuses letter text FieldError.Memory h = tt
named_refuses letter text (FieldError.Fault kind) h = named-bad letter text kind h

pub line_refuses : (line : Line) (e : TuneError) → IsFaultOfLine line e → IsBadLine line e
line_refuses line TuneError.Memory h = tt
line_refuses line (TuneError.Fault fault) h = (line-bad line.text fault.kind h.0, h.1, h.2)

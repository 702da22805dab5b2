-- Each field of a line or of a music line is good.
use Rattle.std.proofs.Common.{ℕ, List, Bool, arith}
use Rattle.std.proofs.lemmas.Bool.{cond_both}
use Rattle.std.specs.Prelude.{◌==◌, if◌then◌else◌, codes, Option, Some, None, IfSome, Result, Ok, IfOk}
use Rattle.std.specs.Str.{bytes_eq}
use Rattle.mus_units.specs.declared.key.Meter.{Meter}
use Rattle.mus_units.specs.declared.pitch.Letter.{Letter}
use Rattle.mus_units.specs.declared.key.Spread.{Spread}
use Rattle.mus_units.specs.declared.value.Frac.{Frac}
use Rattle.mus_units.specs.Good.{AreGoodSigns, IsGoodMeter, IsGoodUnit}
use Rattle.mus_pitch.specs.Circle.{signs_of}
use Rattle.mus_pitch.proofs.SignLaws.{laid_good, signs_of_good}
use Rattle.abc_lines.specs.declared.fault.FaultKind.{FaultKind}
use Rattle.abc_lines.specs.declared.kind.LineKind.{LineKind}
use Rattle.abc_lines.specs.Kinds.{field_text, kind_of}
use Rattle.abc_field.specs.declared.directive.Breaks.{Breaks}
use Rattle.abc_field.specs.declared.key.KeyText.{KeyText}
use Rattle.abc_field.specs.declared.key.KeyWord.{KeyWord}
use Rattle.abc_field.specs.declared.key.KeyStart.{KeyStart}
use Rattle.abc_field.specs.declared.voice.VoiceDef.{VoiceDef}
use Rattle.abc_field.specs.declared.field.Field.{Field}
use Rattle.abc_field.specs.Directives.{name_of, rest_of, breaks_of, spread_of}
use Rattle.abc_field.specs.Words.{words_of}
use Rattle.abc_field.proofs.GoodLaws.{meter_good, unit_good}
use Rattle.abc_field.specs.Keys.{key_by, key_from, key_of, key_words, first_words, start_with, listed_signs, pipe_signs}
use Rattle.abc_field.specs.Keys.{IsGoodKeyText}
use Rattle.abc_field.specs.Meters.{meter_of, unit_of}
use Rattle.abc_field.specs.Voices.{voice_of}
use Rattle.abc_field.specs.Fields.{key_field, meter_field, unit_field, voice_field, written_field, named_field}
use Rattle.abc_field.specs.Fields.{breaks_field, spread_field, directive_field, field_by, field_of, IsGoodField}

-- ---- keys
pipes_good : AreGoodSigns pipe_signs
pipes_good Letter.C = omega arith
pipes_good _ = omega arith

key_by_good : (start : KeyStart) (ks : List KeyWord) → IfSome (key_by start ks) (λ k. IsGoodKeyText k)
key_by_good (KeyStart.Sharps n) ks = laid_good (signs_of n) (listed_signs ks) (signs_of_good n)
key_by_good KeyStart.Pipes ks = laid_good pipe_signs (listed_signs ks) pipes_good
key_by_good _ ks = tt

key_from_good : (start : KeyStart) (words : Option (List KeyWord))
    → IfSome (key_from start words) (λ k. IsGoodKeyText k)
key_from_good start None = tt
key_from_good start (Some ks) = key_by_good (start_with start ks) ks

key_good : (text : List ℕ) → IfSome (key_of text) (λ k. IsGoodKeyText k)
unfolding key_of
key_good text = key_from_good (first_words (words_of text)).0 (key_words (first_words (words_of text)).1)

-- ---- the result of reading a text
abbrev pub GoodRead : Result Field FaultKind → Type 0
GoodRead read = IfOk read (λ f. IsGoodField f)

key_read : (o : Option KeyText) → IfSome o (λ k. IsGoodKeyText k) → GoodRead (key_field o)
key_read None good = tt
key_read (Some k) good = good

meter_read : (o : Option Meter) → IfSome o (λ m. IsGoodMeter m) → GoodRead (meter_field o)
meter_read None good = tt
meter_read (Some m) good = good

unit_read : (o : Option Frac) → IfSome o (λ u. IsGoodUnit u) → GoodRead (unit_field o)
unit_read None good = tt
unit_read (Some u) good = good

voice_read : (o : Option VoiceDef) → GoodRead (voice_field o)
voice_read None = tt
voice_read (Some v) = tt

-- either of two good results
either : {X : Type 0} (P : X → Type 0) (b : Bool) (x y : X) → P x → P y → P (if b then x else y)
either P b x y one other = cond_both b x y P (λ e. one) (λ e. other)

written_good : (letter : ℕ) (text : List ℕ) → IsGoodField (written_field letter text)
written_good letter text =
    either (λ f. IsGoodField f) (letter == 119) (Field.Words text) _ tt
    (either (λ f. IsGoodField f) (letter == 84) (Field.Title text) _ tt
    (either (λ f. IsGoodField f) (letter == 67) (Field.Composer text) _ tt
    (either (λ f. IsGoodField f) (letter == 81) (Field.Tempo text) Field.Other tt tt)))

pub named_good : (letter : ℕ) (text : List ℕ) → GoodRead (named_field letter text)
unfolding named_field
named_good letter text =
    either GoodRead (letter == 75) (key_field (key_of text)) _ (key_read (key_of text) (key_good text))
    (either GoodRead (letter == 77) (meter_field (meter_of text)) _ (meter_read (meter_of text) (meter_good text))
    (either GoodRead (letter == 76) (unit_field (unit_of text)) _ (unit_read (unit_of text) (unit_good text))
    (either GoodRead (letter == 86) (voice_field (voice_of text)) (Ok (written_field letter text))
    (voice_read (voice_of text)) (written_good letter text))))

breaks_good : (o : Option Breaks) → IsGoodField (breaks_field o)
breaks_good None = tt
breaks_good (Some b) = tt

spread_good : (o : Option Spread) → IsGoodField (spread_field o)
spread_good None = tt
spread_good (Some s) = tt

directive_good : (name rest : List ℕ) → IsGoodField (directive_field name rest)
unfolding directive_field
directive_good name rest =
    either (λ f. IsGoodField f) (bytes_eq name (codes "linebreak")) (breaks_field (breaks_of rest)) _
    (breaks_good (breaks_of rest))
    (either (λ f. IsGoodField f) (bytes_eq name (codes "propagate-accidentals")) (spread_field (spread_of rest))
    Field.Other (spread_good (spread_of rest)) tt)

field_by_good : (text : List ℕ) (kind : LineKind) → GoodRead (field_by text kind)
field_by_good text (LineKind.Field letter) = named_good letter (field_text text)
field_by_good text LineKind.Directive = directive_good (name_of (field_text text)) (rest_of (field_text text))
field_by_good text LineKind.Music = tt

pub field_good : (text : List ℕ) → GoodRead (field_of text)
unfolding field_of
field_good text = field_by_good text (kind_of text)

-- The values read from the lines of a header are those that they say: the last of each kind.
use Rattle.std.proofs.Common.{◌≡◌, refl, sym, ap, ◌∙◌, subst, ℕ, ◌+◌, List, [], ◌∷◌}
use Rattle.std.proofs.lemmas.Option.{none-some}
use Rattle.std.specs.Prelude.{Option, Some, None, IfSome, Result, Ok, Err, fold, map, unwrap_or}
use Rattle.std.specs.List.{AllByRecursion, filter_map}
use Rattle.std.specs.Option.{option_or}
use Rattle.abc_lines.specs.declared.book.Line.{Line}
use Rattle.abc_lines.specs.declared.book.TuneText.{TuneText}
use Rattle.abc_lines.specs.declared.fault.FaultKind.{FaultKind}
use Rattle.abc_field.specs.declared.field.Field.{Field}
use Rattle.abc_field.specs.declared.voice.VoiceDef.{VoiceDef}
use Rattle.abc_field.specs.FieldSpelling.{Says}
use Rattle.abc_field.specs.Fields.{field_of}
use Rattle.abc_field.specs.Last.{last_of}
use Rattle.abc_field.proofs.FieldForms.{line-says, line-read}
use Rattle.abc_fields.specs.declared.defaults.Defaults.{Defaults}
use Rattle.abc_fields.specs.declared.header.Header.{Header}
use Rattle.abc_fields.specs.FileHeader.{IsLastOr, IsLastIfAny}
use Rattle.abc_fields.specs.Headers.{title_in, composer_in, tempo_in, key_in, meter_in, unit_in, breaks_in, spread_in}
use Rattle.abc_fields.specs.Headers.{put_field, fields_of, header_of, staves_from, first_line_number, head_lines}
use Rattle.abc_fields.specs.Headers.{key_place, IsHeaderBy, IsHeaderOf}
use Rattle.abc_fields.specs.HeaderValues.{SaysValue, AreAllSaid, no_more, one_said, none_said, AreValuesBy}
use Rattle.abc_fields.specs.HeaderValues.{AreValuesUpTo, AreValuesOf, AreVoicesBy, IsVoiceBy}
use Rattle.abc_fields.specs.Voicing.{clef_for, id_in, ids_after, ids_of, voice_from, voices_of, wish_for, with_id}
use Rattle.abc_fields.proofs.FileHeaderLaws.{Reads, last-is, last-or}

module _ {X : Type 0} (value : Field → Option X) where
  -- the value of a line as it is read
  abbrev value_in : Result Field FaultKind → Option X
  value_in (Ok field) = value field
  value_in (Err kind) = None

  abbrev line_value : Line → Option X
  line_value line = value_in (field_of line.text)

  value_reads : Reads (SaysValue value) line_value
  value_reads = record { takes = takes; reaches = reaches } where
    by_field : (line : Line) (field : Field) (o : Option X)
        → value field ≡ o → Says line.text field → IfSome o (SaysValue value line)
    by_field line field None e says = tt
    by_field line field (Some x) e says = (field, says, e)

    by_reading : (line : Line) (read : Result Field FaultKind)
        → field_of line.text ≡ read → IfSome (value_in read) (SaysValue value line)
    by_reading line (Ok field) e = by_field line field (value field) refl (line-says line.text field e)
    by_reading line (Err kind) e = tt

    takes : (line : Line) → IfSome (line_value line) (SaysValue value line)
    takes line = by_reading line (field_of line.text) refl

    reaches : (line : Line) (x : X) → SaysValue value line x → line_value line ≡ Some x
    reaches line x said = ap value_in (line-read line.text said.0 said.1) ∙ said.2

  -- the last among the fields is the last among the lines
  last_put : (read : Result Field FaultKind) (fs : List Field)
      → last_of value (put_field read fs) ≡ option_or (last_of value fs) (value_in read)
  last_put (Ok field) fs = refl
  last_put (Err kind) fs = or_none (last_of value fs) where
    or_none : (o : Option X) → o ≡ option_or o None
    or_none None = refl
    or_none (Some x) = refl

  same_last : (lines : List Line) → last_of value (fields_of lines) ≡ last_of line_value lines
  same_last [] = refl
  same_last (line ∷ lines) =
      last_put (field_of line.text) (fields_of lines)
      ∙ ap (λ o. option_or o (line_value line)) (same_last lines)

  last_said : (lines : List Line) → IsLastIfAny (SaysValue value) lines (last_of value (fields_of lines))
  last_said lines = rw (same_last lines) (last-is (SaysValue value) line_value value_reads lines)

  last_said_or : (default : X) (lines : List Line)
      → IsLastOr (SaysValue value) default lines (unwrap_or (last_of value (fields_of lines)) default)
  last_said_or default lines = rw (same_last lines) (last-or (SaysValue value) line_value value_reads default lines)

  -- all of them, in order
  abbrev with_value : Option X → List X → List X
  with_value None xs = xs
  with_value (Some x) xs = x ∷ xs

  all_put : (read : Result Field FaultKind) (fs : List Field)
      → filter_map value (put_field read fs) ≡ with_value (value_in read) (filter_map value fs)
  all_put (Ok field) fs = by_value (value field) refl where
    by_value : (o : Option X) → value field ≡ o → filter_map value (field ∷ fs) ≡ with_value o (filter_map value fs)
    by_value None e = rw e refl
    by_value (Some x) e = rw e refl
  all_put (Err kind) fs = refl

  one_line : (line : Line) (lines : List Line) (o : Option X) (others : List X)
      → line_value line ≡ o → AreAllSaid value lines others → AreAllSaid value (line ∷ lines) (with_value o others)
  one_line line lines None others e all =
      none_said line lines others (λ x said. none-some x (sym e ∙ value_reads.reaches line x said)) all
  one_line line lines (Some x) others e all =
      one_said line lines x others (subst (λ o. IfSome o (SaysValue value line)) e (value_reads.takes line)) all

  all_said : (lines : List Line) → AreAllSaid value lines (filter_map value (fields_of lines))
  all_said [] = no_more
  all_said (line ∷ lines) =
      rw (all_put (field_of line.text) (fields_of lines))
      (one_line line lines (line_value line) (filter_map value (fields_of lines)) refl (all_said lines))

-- ---- the voices
ids_put : (ids : List (List ℕ)) (field : Field) (named : List (List ℕ))
    → fold with_id (ids_after ids field) named ≡ fold with_id ids (with_value id_in (id_in field) named)
ids_put ids (Field.Voice def) named = refl
ids_put ids _ named = refl

ids_named : (ids : List (List ℕ)) (fs : List Field) → fold ids_after ids fs ≡ fold with_id ids (filter_map id_in fs)
ids_named ids [] = refl
ids_named ids (field ∷ fs) =
    ids_named (ids_after ids field) fs ∙ ids_put ids field (filter_map id_in fs)
    ∙ ap (fold with_id ids) (sym (all_put id_in (Ok field) fs))

same_ids : (fs : List Field) (ids : List (List ℕ))
    → map (λ (voice : VoiceDef). voice.id) (map (voice_from fs) ids) ≡ ids
same_ids fs [] = refl
same_ids fs (id ∷ ids) = ap (λ more. id ∷ more) (same_ids fs ids)

each_voice : (lines : List Line) (ids : List (List ℕ))
    → AllByRecursion (IsVoiceBy lines) (map (voice_from (fields_of lines)) ids)
each_voice lines [] = tt
each_voice lines (id ∷ ids) = (
  record {
    clef = last_said (clef_for id) lines;
    stem = last_of (wish_for id) (fields_of lines);
    stem_said = last_said (wish_for id) lines;
    stem_is = refl;
    asks = refl;
  },
  each_voice lines ids,
)

pub voices_by : (lines : List Line) → AreVoicesBy lines (voices_of (fields_of lines))
voices_by lines = record {
  named = filter_map id_in (fields_of lines);
  all_named = all_said id_in lines;
  ids = same_ids (fields_of lines) (ids_of (fields_of lines)) ∙ ids_named [] (fields_of lines);
  each = each_voice lines (ids_of (fields_of lines));
}

-- ---- the header
values_by : (lines : List Line) (defaults : Defaults) (staves : Option Line) (body : ℕ)
    → AreValuesBy lines defaults (header_of (fields_of lines) defaults staves body)
values_by lines defaults staves body = record {
  titles = all_said title_in lines;
  composers = all_said composer_in lines;
  tempo = last_said tempo_in lines;
  key = last_of key_in (fields_of lines);
  key_said = last_said key_in lines;
  signs = refl;
  clef = refl;
  meter = last_said_or meter_in defaults.meter lines;
  unit = last_of unit_in (fields_of lines);
  unit_said = last_said unit_in lines;
  unit_is = refl;
  breaks = last_said_or breaks_in defaults.breaks lines;
  spread = last_said_or spread_in defaults.spread lines;
}

values_up_to : (tune : TuneText) (defaults : Defaults) (header : Header) (place : Option ℕ)
    → IsHeaderBy tune defaults header place → AreValuesUpTo tune defaults place header
values_up_to tune defaults header None h = h
values_up_to tune defaults header (Some place) h =
    let lines : List Line = head_lines tune place in
    subst (AreValuesBy lines defaults) (sym h)
    (values_by lines defaults (staves_from lines defaults (first_line_number tune.lines)) (place + 1))

pub header_values : (tune : TuneText) (defaults : Defaults) (header : Header)
    → IsHeaderOf tune defaults header → AreValuesOf tune defaults header
unfolding IsHeaderOf
header_values tune defaults header h = values_up_to tune defaults header (key_place tune.lines) h

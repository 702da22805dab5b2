-- The outcome of a tune may move to another thread, as each part of it may: from the plain types up to `Outcome`.
use denote.RattleType.{RattleType}
use denote.Hole.{as_row}
use denote.Hole.FixSend.{Sends, fix_send}
use denote.Struct.Field.{row_field, u8-field, bool-field}
use denote.Param.Send.{IsSend, view_send, sendable}
use denote.Param.SendFields.{as_row_send, declared_send, variants_send}
use Rattle.std.proofs.Crossing.{Vec-send}
use Rattle.std.specs.contracts.option.Option as Option
use Rattle.mus_units.specs.contracts as units
use Rattle.mus_score.specs.contracts.score as score
use Rattle.mus_onsets.specs.contracts.keys.ColumnKey as ColumnKey
use Rattle.mus_laid.specs.contracts.laid as laid
use Rattle.abc_lines.specs.contracts.fault.Fault as Fault
use Rattle.abc_lines.specs.contracts.book.Line as Line
use Rattle.abc_field.specs.contracts.voice.VoiceDef as VoiceDef
use Rattle.abc_fields.specs.contracts.header.Header as Header
use Rattle.set_tune.specs.contracts.tune.SetTune as SetTune
use Rattle.set_book.specs.contracts.outcome.Outcome as Outcome

-- ---- numbers and truths, as fields
u8_send : IsSend (as_row u8-field)
u8_send = search sendable depth 10

bool_send : IsSend (as_row bool-field)
bool_send = search sendable depth 10

-- ---- lists, texts and optional values, by themselves and as fields
pub row_send : (T : RattleType) → IsSend T → IsSend (units.text.Row.the_row T)
row_send T s =
    view_send _ _ _ _ _
    (declared_send (units.text.Row.TheInside.the_type T) (as_row_send (row_field _) (Vec-send T s), tt))

pub row : (T : RattleType) → IsSend T → IsSend (as_row (units.text.Row.the_field T))
row T s = as_row_send (units.text.Row.the_field T) (row_send T s)

text_send : IsSend units.text.Text.the_row
text_send =
    view_send _ _ _ _ _
    (declared_send units.text.Text.TheInside.the_type (as_row_send (row_field _) (Vec-send _ u8_send), tt))

option_send : (T : RattleType) → IsSend T → IsSend (Option.the_row T)
option_send T s = variants_send (Option.enum T) (search (sendable, s) depth 10)

-- ---- types made of these
ruleset parts = (sendable, row_send, row, text_send, option_send)

head_send : IsSend units.note.Head.the_row
head_send = search parts depth 100

key_send : IsSend units.key.Key.the_row
key_send = declared_send units.key.Key.the_type (row units.key.Sign.the_row (search parts depth 100), tt)

changes_send : IsSend score.Changes.the_row
changes_send = declared_send score.Changes.the_type (search (parts, key_send) depth 100)

value_send : IsSend units.value.Value.the_row
value_send = search parts depth 100

deco_send : IsSend units.note.Deco.the_row
deco_send = search parts depth 100

mention_send : IsSend score.Mention.the_row
mention_send = search parts depth 100

event_send : IsSend score.Event.the_row
event_send =
    declared_send score.Event.the_type
    (search (parts, head_send, value_send, changes_send, deco_send, mention_send) depth 200 fits 20000)

-- the tree of music where it occurs in itself, by one layer of it
music_layer : Sends score.Music.the_ring score.Music.the_member
music_layer = record {
  send = λ h s. let inner = as_row_send (row_field _) (row_send _ (s score.Music.the_member)) in
      variants_send (score.Music.TheKnot.type-Music (h score.Music.the_member) (h score.Music.the_member)) (
        (as_row_send (row_field _) event_send, tt),
        (
          (as_row_send (row_field _) event_send, tt),
          (
            (inner, (as_row_send (row_field _) bool_send, tt)),
            ((as_row_send (row_field _) u8_send, (as_row_send (row_field _) u8_send, (inner, tt))), tt),
          ),
        ),
      );
}

hole_send : IsSend score.Music.the_hole
hole_send =
    fix_send score.Music.the_ring (score.Music.by_members (Sends score.Music.the_ring) music_layer)
    score.Music.the_member

music_send : IsSend score.Music.the_row
music_send = let body = as_row_send (row_field _) (row_send _ hole_send) in
    variants_send score.Music.enum
    ((event_send, tt), ((event_send, tt), ((body, (bool_send, tt)), ((u8_send, (u8_send, (body, tt))), tt))))

measure_send : IsSend score.Measure.the_row
measure_send = declared_send score.Measure.the_type (search (parts, music_send) depth 100)

voice_send : IsSend score.Voice.the_row
voice_send = declared_send score.Voice.the_type (search (parts, key_send, measure_send) depth 200 fits 20000)

score_send : IsSend score.Score.the_row
score_send = declared_send score.Score.the_type (search (parts, voice_send) depth 100)

voice_def_send : IsSend VoiceDef.the_row
voice_def_send = declared_send VoiceDef.the_type (search parts depth 100)

line_send : IsSend Line.the_row
line_send = declared_send Line.the_type (search parts depth 100)

header_send : IsSend Header.the_row
header_send = declared_send Header.the_type (search (parts, key_send, voice_def_send, line_send) depth 200)

glyph_send : IsSend units.glyph.Glyph.the_row
glyph_send = variants_send units.glyph.Glyph.enum (search sendable depth 200 fits 20000)

mark_send : IsSend laid.Mark.the_row
mark_send = variants_send laid.Mark.enum (search (parts, glyph_send) depth 200)

laid_send : IsSend laid.Laid.the_row
laid_send = declared_send laid.Laid.the_type (search (parts, mark_send) depth 100)

staff_send : IsSend laid.StaffMarks.the_row
staff_send = declared_send laid.StaffMarks.the_type (row _ laid_send, search parts depth 50)

column_send : IsSend ColumnKey.the_row
column_send = search parts depth 100

system_send : IsSend laid.SystemMarks.the_row
system_send = declared_send laid.SystemMarks.the_type (search (parts, column_send, staff_send) depth 200)

set_tune_send : IsSend SetTune.the_row
set_tune_send = declared_send SetTune.the_type (search (parts, header_send, score_send, system_send) depth 200)

fault_send : IsSend Fault.the_row
fault_send = declared_send Fault.the_type (search parts depth 200 fits 20000)

pub outcome_send : IsSend Outcome.the_row
outcome_send = declared_send Outcome.the_type (search (parts, set_tune_send, fault_send) depth 200)

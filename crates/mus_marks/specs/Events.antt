-- What is said of single events.
use Rattle.std.specs.Prelude.{ℕ, Bool, ◌&&◌, is_none, List}
use Rattle.mus_score.specs.declared.score.Changes.{Changes}
use Rattle.mus_onsets.specs.declared.keys.ColumnKey.{ColumnKey}
use Rattle.mus_onsets.specs.Order.{key_rank}
use Rattle.mus_drawn.specs.declared.drawn.DrawnEvent.{DrawnEvent}
use Rattle.mus_time.specs.Columns.{note_key}

-- the rank of the column of an event itself
abbrev pub note_rank : List ColumnKey → ℕ → DrawnEvent → ℕ
note_rank keys m e = key_rank keys (note_key m e)

-- neither clef nor key nor meter
abbrev pub changes_nothing : Changes → Bool
changes_nothing changes = is_none changes.clef && is_none changes.key && is_none changes.meter

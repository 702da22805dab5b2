-- What a listener remembers, column by column from the left. This is how the program computes it; Hearing says what
-- the result is.
use Rattle.std.specs.Prelude.{if◌then◌else◌, List, [], ◌∷◌, ◌++◌}
use Rattle.mus_units.specs.declared.{key.Spread.Spread, pitch.Clef.Clef}
use Rattle.ps_heard.specs.declared.column.HeardColumn.{HeardColumn}
use Rattle.ps_heard.specs.declared.column.Listener.{Listener}
use Rattle.ps_heard.specs.declared.column.HeardGlyph.{HeardGlyph}
use Rattle.ps_heard.specs.Hearing.{clef_after, entries, gives_key, head_of_glyph, heard_of_glyph, last_or}
use Rattle.ps_heard.specs.Hearing.{heard_if_note, said_with}

-- a mark: a bar ends the measure; a head counts for its measure, and is listed unless it is a grace note's
abbrev pub hear_one : Spread → HeardColumn → Listener → HeardGlyph → Listener
hear_one spread col ear n = record ear {
  said = said_with n.role (head_of_glyph ear.clef n.dy col.notes) ear.said;
  here = ear.here ++ heard_if_note n.role (heard_of_glyph spread col ear.clef ear.key.signs ear.before ear.said n.dy);
}

abbrev pub hear_from : Spread → HeardColumn → Listener → List HeardGlyph → Listener
hear_from spread col ear [] = ear
hear_from spread col ear (n ∷ ns) = hear_from spread col (hear_one spread col ear n) ns

-- the clef and the key of a column
abbrev pub column_opened : Listener → HeardColumn → Listener
column_opened ear col = record ear {
  clef = clef_after ear.clef col.notes;
  key = record {
    signs = if gives_key col.leads col.notes then entries (clef_after ear.clef col.notes) col.notes else ear.key.signs;
  };
}

-- after a column its heads are the last ones, if it has any
abbrev pub column_closed : Listener → Listener
column_closed ear = record ear { before = last_or ear.before ear.here; here = []; heard = ear.heard ++ ear.here }

unfoldable pub hear_column : Spread → Listener → HeardColumn → Listener
hear_column spread ear col = column_closed (hear_from spread col (column_opened ear col) col.notes)

abbrev pub hear_columns : Spread → Listener → List HeardColumn → Listener
hear_columns spread ear [] = ear
hear_columns spread ear (col ∷ cols) = hear_columns spread (hear_column spread ear col) cols

-- the initial listener
abbrev pub fresh : Listener
fresh = record { clef = Clef.Treble; key = record { signs = [] }; said = []; before = []; here = []; heard = [] }

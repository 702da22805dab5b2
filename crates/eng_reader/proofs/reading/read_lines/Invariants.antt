use Rattle.std.proofs.Common.{◌+◌, ◌≤◌, length}
use Rattle.eng_reader.proofs.Ways.{IsReading}
use Rattle.eng_reader.proofs.reading.read_lines.Given as goal

abbrev pub invariant-loop-raw : goal.invariant-loop-raw
invariant-loop-raw g l = record {
  state : g.R.LineReader.grammar.State;
  at : g.R.LineReader.is_at l.reader state;
  reading : IsReading g.R.LineReader.grammar l.text state l.rest l.line;
  room : l.line + length l.rest ≤ length l.text + 1;
}

abbrev pub decreases-loop-raw : goal.decreases-loop-raw
decreases-loop-raw g l = length l.rest

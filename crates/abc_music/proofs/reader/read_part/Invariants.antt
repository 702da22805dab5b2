use Rattle.std.proofs.Common.{◌≤◌, ◌+◌, length}
use Rattle.abc_music.specs.Tokens.{LeadsTo, IsWithinLine}
use Rattle.abc_music.proofs.reader.read_part.Given as goal

abbrev pub invariant-pieces : goal.invariant-pieces
invariant-pieces l = record {
  leads : LeadsTo l.bang l.line l.fn.place l.tokens l.place;
  within : IsWithinLine l.line l.place;
  few : length l.tokens ≤ 1000;
  shorter : length l.tokens + length l.place.rest.now ≤ length l.fn.place.rest.now;
}

abbrev pub decreases-pieces : goal.decreases-pieces
decreases-pieces l = length l.place.rest.now

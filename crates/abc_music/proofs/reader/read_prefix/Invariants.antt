use Rattle.{std.proofs.Common.{length}, abc_music.{specs.Tokens.{IsWithinLine}, proofs.Line.{ReadTo}}}
use Rattle.abc_music.proofs.reader.read_prefix.Given as goal

abbrev pub invariant-loop-tokens : goal.invariant-loop-tokens
invariant-loop-tokens l = record { read : ReadTo l.bang l.line l.tokens l.place; within : IsWithinLine l.line l.place }

abbrev pub decreases-loop-tokens : goal.decreases-loop-tokens
decreases-loop-tokens l = length l.place.rest.now

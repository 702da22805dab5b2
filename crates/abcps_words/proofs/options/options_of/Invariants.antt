use Rattle.{std.proofs.Common.{string_bytes, map, length}, abcps_words.proofs.Flags.{IsRead}}
use Rattle.abcps_words.proofs.options.options_of.Given as goal

abbrev pub invariant-loop-rest : goal.invariant-loop-rest
invariant-loop-rest l = IsRead (map string_bytes l.fn.words) (map string_bytes l.rest) l.options

abbrev pub decreases-loop-rest : goal.decreases-loop-rest
decreases-loop-rest l = length l.rest

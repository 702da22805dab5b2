use Rattle.std.{proofs.Common.{◌≡◌, ◌++◌, drop, map, true, length}, specs.List.list_all}
use Rattle.mus_laid.specs.Printed.{printed_byte, is_printable}
use Rattle.mus_laid.proofs.printing.printed_within.Given as goal

abbrev pub invariant-loop-byte : goal.invariant-loop-byte
invariant-loop-byte l = record {
  value : l.out ++ map printed_byte (drop l.byte-index l.prefix) ≡ map printed_byte l.prefix;
  printable : list_all is_printable l.out ≡ true;
  count : length l.out ≡ l.byte-index;
}

use Rattle.std.proofs.Common.{◌≡◌, ◌+◌, drop, false}
use Rattle.abc_lines.specs.Lines.{comment_len}
use Rattle.abc_lines.proofs.reading.comment_len.Given as goal

abbrev pub invariant-loop-i : goal.invariant-loop-i
invariant-loop-i l = l.i + comment_len l.escaped (drop l.i l.text) ≡ comment_len false l.text

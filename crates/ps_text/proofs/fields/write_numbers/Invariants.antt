use Rattle.std.proofs.Common.{◌≡◌, ◌*◌, ◌≤◌, ◌++◌, drop}
use Rattle.glyph_paths.specs.Procedure.{numbers}
use Rattle.ps_text.proofs.fields.write_numbers.Given as goal

abbrev pub invariant-places : goal.invariant-places
invariant-places l = record {
  room : 21 * l.place ≤ l.start;
  within : l.start ≤ l.end;
  written : drop l.start l.line ≡ numbers (drop l.place l.zs) ++ drop l.end l.fn.line;
}

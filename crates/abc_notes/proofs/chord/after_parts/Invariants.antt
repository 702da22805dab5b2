use Rattle.std.proofs.Common.{◌≡◌, ◌≤◌, length}
use Rattle.abc_notes.specs.{Parts.walk, Items.inner_at}
use Rattle.abc_notes.proofs.chord.after_parts.Given as goal

abbrev pub invariant-parts : goal.invariant-parts
invariant-parts l = record {
  left : (walk (inner_at l.bang) l.rest).1 ≡ (walk (inner_at l.bang) l.bytes).1;
  within : length l.rest ≤ length l.bytes;
}

abbrev pub decreases-parts : goal.decreases-parts
decreases-parts l = length l.rest

use Rattle.std.proofs.Common.{◌≡◌, drop}
use Rattle.abc_items.specs.Voices.{first_clef}
use Rattle.abc_items.proofs.voices.first_clef.Given as goal

abbrev pub invariant-loop-item : goal.invariant-loop-item
invariant-loop-item l = first_clef l.id l.alone (drop l.item-index l.items) ≡ first_clef l.id l.undeclared l.items

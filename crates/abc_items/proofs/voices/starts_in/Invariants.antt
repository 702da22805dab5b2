use Rattle.std.proofs.Common.{◌≡◌, ◌++◌, drop, map}
use Rattle.abc_items.specs.Voices.{start_of}
use Rattle.abc_items.proofs.voices.starts_in.Given as goal

abbrev pub invariant-loop-id : goal.invariant-loop-id
invariant-loop-id l =
    l.starts ++ map (start_of l.header l.items) (drop l.id-index l.ids) ≡ map (start_of l.header l.items) l.ids

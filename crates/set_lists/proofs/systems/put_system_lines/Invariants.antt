use Rattle.std.proofs.Common.{◌≡◌, ◌++◌, length, drop}
use Rattle.set_lists.specs.Systems.{system_lines}
use Rattle.set_lists.proofs.systems.put_system_lines.Given as goal

abbrev pub invariant-loop-system : goal.invariant-loop-system
invariant-loop-system l =
    l.out ++ system_lines l.tune.spans (drop (length l.yielded) l.systems) (drop (length l.yielded) l.placed)
    ≡ l.fn.out ++ system_lines l.tune.spans l.systems l.placed

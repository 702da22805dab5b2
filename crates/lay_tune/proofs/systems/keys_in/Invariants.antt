use Rattle.std.proofs.Common.{◌≡◌, ◌++◌, drop, map}
use Rattle.lay_tune.proofs.systems.keys_in.Given as goal

abbrev pub invariant-loop-seen : goal.invariant-loop-seen
invariant-loop-seen l =
    l.keys ++ map (λ c. c.key) (map (λ s. s.column.now) (drop l.seen-index l.columns))
    ≡ map (λ c. c.key) (map (λ s. s.column.now) l.columns)

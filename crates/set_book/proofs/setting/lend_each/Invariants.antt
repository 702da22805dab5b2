use Rattle.std.proofs.Common.{◌≡◌, map, take}
use Rattle.set_book.proofs.setting.lend_each.Given as goal

-- the tunes so far are borrowed
abbrev pub invariant-loop-tune : goal.invariant-loop-tune
invariant-loop-tune l = map (λ tune. tune.now) l.lent ≡ take l.tune-index l.tunes

use Rattle.std.proofs.Common.{◌≡◌, ◌+◌, length, drop}
use Rattle.{mus_laid.specs.Ranked.{inked}, mus_words.specs.Texts.{below_from}}
use Rattle.mus_words.proofs.texts.put_below.Given as goal

abbrev pub invariant-loop-k : goal.invariant-loop-k
invariant-loop-k l =
    inked l.pen (below_from l.low l.verses (l.before + length l.yielded) (drop (length l.yielded) l.fn.texts))
    ≡ inked l.fn.pen (below_from l.low l.verses l.before l.fn.texts)

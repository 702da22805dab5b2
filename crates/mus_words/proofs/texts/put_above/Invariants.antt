use Rattle.std.proofs.Common.{◌≡◌, ◌+◌, length, drop}
use Rattle.{mus_laid.specs.Ranked.{inked}, mus_words.specs.Texts.{above_from}}
use Rattle.mus_words.proofs.texts.put_above.Given as goal

abbrev pub invariant-loop-k : goal.invariant-loop-k
invariant-loop-k l =
    inked l.pen (above_from l.high (l.before + length l.yielded) (drop (length l.yielded) l.fn.texts))
    ≡ inked l.fn.pen (above_from l.high l.before l.fn.texts)

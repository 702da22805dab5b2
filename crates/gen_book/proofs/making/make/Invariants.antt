use Rattle.std.proofs.Common.{◌≡◌, ◌++◌, ◌-◌, ◌+◌}
use Rattle.gen_book.specs.Book.{tunes, book}
use Rattle.gen_book.proofs.making.make.Given as goal

abbrev pub invariant-loop-i : goal.invariant-loop-i
invariant-loop-i l = l.out ++ tunes (l.n + 1 - l.i) l.i ≡ book l.n

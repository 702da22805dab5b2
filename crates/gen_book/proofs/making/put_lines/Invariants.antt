use Rattle.std.proofs.Common.{◌≡◌, ◌++◌, ◌-◌, ◌<◌, ◌^◌}
use Rattle.gen_book.specs.Book.{lines_after}
use Rattle.gen_book.proofs.making.put_lines.Given as goal

abbrev pub invariant-loop-k : goal.invariant-loop-k
invariant-loop-k l =
    record { text : l.out ++ lines_after (16 - l.k) l.s ≡ l.fn.out ++ lines_after 16 l.i; small : l.s < 2 ^ 31 }

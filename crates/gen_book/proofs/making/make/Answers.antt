use Rattle.std.proofs.{Common.{◌+◌, ◌-◌, ap, length, arith}, lemmas.List.length-append}
use Rattle.gen_book.{specs.Book.tunes, proofs.{More.{one_tune}, Sizes.book_short}}
use Rattle.gen_book.proofs.making.make.Goals as goal

pub loop-i-preserved : goal.loop-i-preserved
loop-i-preserved c =
    one_tune c.loop-i.out c.put_tune.new.out _ c.args.n c.loop-i.i (omega (arith, c.loop-i-test.true))
    c.loop-i.invariant c.in_ok-put_tune.ensures

pub returns-clause-short : goal.returns-clause-short
returns-clause-short c =
    let short = book_short c.args.n c.requires.few in let whole = ap length c.loop-i.invariant in
    omega (arith, short, whole, length-append c.loop-i.out (tunes (c.args.n + 1 - c.loop-i.i) c.loop-i.i))

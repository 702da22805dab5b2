use Rattle.{std.proofs.Common.{arith}, gen_book.proofs.More.{one_line}}
use Rattle.gen_book.proofs.making.put_lines.Goals as goal

pub loop-k-preserved : goal.loop-k-preserved
loop-k-preserved c = record {
  text =
      one_line c.loop-k.out c.put_line.new.out _ c.loop-k.k c.loop-k.s c.in_ok-s.s (omega (arith, c.loop-k-test.true))
      c.loop-k.invariant.text c.in_ok-s.ensures.text c.in_ok-s.ensures.value;
  small = c.in_ok-s.ensures.small;
}

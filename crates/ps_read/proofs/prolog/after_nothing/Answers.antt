use Rattle.std.proofs.Common.{arith, refl}
use Rattle.ps_read.specs.Lines as line
use Rattle.ps_read.proofs.prolog.after_nothing.Goals as goal

pub returns-then-is_text : goal.returns-then-is_text
returns-then-is_text c = record {
  line = line.Fixed c.args.raw.now;
  asked = tt;
  spelled = refl;
  may = c.is_text.ensures.0 c.if-is_text.true;
  only = λ m u q k. grind arith;
}

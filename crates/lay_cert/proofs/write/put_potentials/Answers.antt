use Rattle.{std.proofs.Common.{arith}, lay_cert.proofs.Put.{put_next_potential}}
use Rattle.lay_cert.proofs.write.put_potentials.Goals as goal

pub loop-least-preserved : goal.loop-least-preserved
loop-least-preserved c =
    let is = c.loop-least.invariant.0 in (
      omega arith,
      put_next_potential c.args.potentials.now c.loop-least.least-index c.loop-least.bar c.args.out.now c.loop-least.out
          c.put_line.new.out
          c.loop-least-test.true is c.loop-least.invariant.1 c.in_ok-put_line.ensures,
    )

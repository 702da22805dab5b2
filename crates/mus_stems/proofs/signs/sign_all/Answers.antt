use Rattle.{std.proofs.{Common.arith, lemmas.Int.ints}, mus_stems.proofs.Counting.{sign_step}}
use Rattle.mus_stems.proofs.signs.sign_all.Goals as goal

pub loop-n-preserved : goal.loop-n-preserved
loop-n-preserved c = record {
  bound =
      (let a = c.sign_level-k.ensures.bound in
      let b = c.requires.few in
      let d = c.loop-n.invariant.bound in
      omega arith);
  signs =
      sign_step c.loop-n.n c.args.stands.now _ _ c.loop-n.k c.sign_level-k.result c.loop-n.signs
      c.sign_level-k.new.signs _ c.loop-n-test.true (omega (arith, ints, c.from.ensures)) c.sign_level-k.ensures.signs
      c.loop-n.invariant.signs;
}

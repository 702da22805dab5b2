use Rattle.mus_stems.proofs.Counting.{dots_step, pushed}
use Rattle.mus_stems.proofs.dots.put_dots_of.Goals as goal

pub loop-j-preserved : goal.loop-j-preserved
loop-j-preserved c =
    let s = dots_step _ _ c.loop-j.j c.args.n c.loop-j-test.true in
    pushed c.loop-j.out c.push.new.self _ _ _ _ _ c.in_ok-push.ensures.ok c.dot.ensures s c.loop-j.invariant

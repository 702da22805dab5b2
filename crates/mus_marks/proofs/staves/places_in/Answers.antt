use Rattle.std.proofs.Common.{arith}
use Rattle.mus_marks.proofs.Drawing.{place_turn}
use Rattle.mus_marks.proofs.staves.places_in.Goals as goal

pub loop-key-preserved : goal.loop-key-preserved
loop-key-preserved c =
    place_turn c.args.keys.now c.args.place c.loop-key.key-index c.loop-key.places c.push.new.self _
    (omega (arith, c.loop-key-test.true)) c.in_ok-push.ensures.ok c.loop-key.invariant

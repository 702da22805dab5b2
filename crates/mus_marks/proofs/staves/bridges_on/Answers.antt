use Rattle.std.proofs.Common.{◌∙◌, ◌++◌, append-nil, flat_map, sym, ap, arith}
use Rattle.mus_bridges.specs.Bridges.{bridges_of}
use Rattle.mus_bridges.specs.Ends.{voice_ended}
use Rattle.mus_bridges.proofs.Ending.{over_done}
use Rattle.mus_marks.proofs.staves.bridges_on.Goals as goal

pub returns : goal.returns
returns c =
    let frame = c.args.frame.now in
    let done = over_done (voice_ended frame.a) c.args.ends.now c.args.voices.now c.loop-i.i
    (omega (arith, c.loop-i-test.false)) in
    sym (append-nil c.loop-i.out)
    ∙ ap (λ vs. c.loop-i.out ++ flat_map (bridges_of frame.lengths.now frame.a frame.b) vs) (sym done)
    ∙ c.loop-i.invariant

use Rattle.std.proofs.Common.{◌∙◌, ◌++◌, append-nil, sym, ap, arith}
use Rattle.mus_bridges.specs.Bridges.{beams_between}
use Rattle.mus_bridges.specs.Ends.{measure_ended}
use Rattle.mus_bridges.proofs.Ending.{over_done}
use Rattle.mus_bridges.proofs.beams.put_beams_between.Goals as goal

pub returns : goal.returns
returns c =
    sym (append-nil c.loop-i.out)
    ∙ ap (λ t. c.loop-i.out ++ beams_between c.loop-i.measure t)
    (sym (over_done measure_ended c.args.ends.now c.args.measures.now c.loop-i.i (omega (arith, c.loop-i-test.false))))
    ∙ c.loop-i.invariant.marks

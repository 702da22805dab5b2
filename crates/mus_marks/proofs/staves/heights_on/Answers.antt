use Rattle.std.proofs.Common.{◌∙◌, ap, arith}
use Rattle.mus_laid.specs.Boxes.{over_marks}
use Rattle.mus_marks.proofs.Drawing.{heights_done, heights_turn}
use Rattle.mus_marks.proofs.staves.heights_on.Goals as goal

pub loop-part-preserved : goal.loop-part-preserved
loop-part-preserved c =
    heights_turn c.args.parts.now c.loop-part.part-index c.part-item.result c.loop-part.heights
    c.heights_over-heights.result _ (omega (arith, c.loop-part-test.true)) c.part-item.is
    (c.heights_over-heights.ensures ∙ ap (over_marks c.loop-part.heights) c.as_slice.ensures) c.loop-part.invariant

pub returns : goal.returns
returns c =
    heights_done c.args.parts.now c.loop-part.part-index c.args.between.now c.loop-part.heights c.heights_over.result
    (omega (arith, c.loop-part-test.false)) c.loop-part.invariant c.heights_over.ensures

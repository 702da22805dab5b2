use Rattle.std.proofs.Common.{to_z, of_z, w64}
use Rattle.ps_text.specs.Range.{IsPageMark}
use Rattle.mus_laid.specs.declared.laid.Laid.{Laid}
use Rattle.set_staves.specs.Marks.{page_mark}
use Rattle.set_staves.proofs.Pushed.{mapped_more, all_more}
use Rattle.set_staves.proofs.marks.place_marks.Goals as goal

pub loop-laid-preserved : goal.loop-laid-preserved
loop-laid-preserved c = record {
  value =
      mapped_more (λ (laid : Laid). page_mark c.args.at.now laid.mark) c.args.marks.now c.loop-laid.laid-index
      c.laid-item.result c.loop-laid.placed c.push.new.self c.in_ok-page_mark.field-0
      c.loop-laid-test.true c.laid-item.is c.loop-laid.invariant.value c.in_ok-page_mark.ensures.value
      c.in_ok-push.ensures.ok;
  good =
      all_more (IsPageMark (to_z w64 (of_z w64 c.args.y))) c.loop-laid.placed c.push.new.self c.in_ok-page_mark.field-0
      c.in_ok-push.ensures.ok c.loop-laid.invariant.good c.in_ok-page_mark.ensures.good;
}

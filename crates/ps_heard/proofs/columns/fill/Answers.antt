use Rattle.std.proofs.{Common.{◌≡◌, [], ap, sym, ◌∙◌, ◌≤◌, length, drop, arith}, lemmas.List.drop_all}
use Rattle.ps_heard.specs.Filling.{with_marks}
use Rattle.ps_heard.proofs.FillingLaws.{filled, mark_length, marks_more}
use Rattle.ps_heard.proofs.columns.fill.Goals as goal

pub loop-mark-preserved : goal.loop-mark-preserved
loop-mark-preserved c = (
  marks_more c.args.places.now c.args.marks.now c.loop-mark.mark-index c.mark-item.result c.loop-mark.columns
      c.put_mark.new.columns _
      c.loop-mark-test.true c.mark-item.is c.in_ok-put_mark.ensures c.loop-mark.invariant.0,
  ap length c.in_ok-put_mark.ensures
      ∙ mark_length c.mark-item.result c.args.places.now c.loop-mark.columns
      ∙ c.loop-mark.invariant.1,
)

pub returns : goal.returns
returns c =
    let out : length c.args.marks.now ≤ c.loop-mark.mark-index = omega arith in
    let none : drop c.loop-mark.mark-index c.args.marks.now ≡ [] =
    drop_all c.loop-mark.mark-index c.args.marks.now out in
    sym (ap (λ l. with_marks l c.args.places.now c.loop-mark.columns) none)
    ∙ c.loop-mark.invariant.0
    ∙ filled _ c.args.marks.now c.args.places.now

use Rattle.std.proofs.Common.{None, ap, sym, ◌∙◌, subst, slice_index_or}
use Rattle.lay_cert.specs.Lines.{line_text}
use Rattle.eng_reader.specs.Answers.{Comes}
use Rattle.lay_cert.specs.ReaderStates.{proving, listings}
use Rattle.lay_cert.specs.Represents.{Represents}
use Rattle.lay_cert.specs.declared.lines.ListingLine.{ListingLine}
use Rattle.lay_cert.specs.declared.state.ListingState.{ListingState}
use Rattle.lay_cert.proofs.Judging.{proved_all, proved_one}
use Rattle.lay_cert.proofs.state.after_total.Goals as goal

pub returns-then-next-bars : goal.returns-then-next-bars
returns-then-next-bars c es e v k =
    let p = c.args.proving in
    let is = c.in_ok-is_line.ensures.0 c.if-not-branch.false
    ∙ ap (λ ps. line_text (ListingLine.Potential p.next (slice_index_or ps p.next None))) c.as_slice.ensures in
    subst (λ js. Comes listings (proving es e) c.args.raw.now (Represents (ListingState.Between p.tune) js))
    (sym c.in_ok-push.ensures.ok)
    (proved_all es c.args.judged.now e p c.args.raw.now v k c.if-next-bars.true is)

pub returns : goal.returns
returns c es e v k =
    let p = c.args.proving in
    let is = c.in_ok-is_line.ensures.0 c.if-not-branch.false
    ∙ ap (λ ps. line_text (ListingLine.Potential p.next (slice_index_or ps p.next None))) c.as_slice.ensures in
    proved_one es c.args.judged.now e p c.args.raw.now v k c.if-next-bars.false is

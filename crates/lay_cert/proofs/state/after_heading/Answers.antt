use Rattle.std.proofs.{Common.sym, Common.◌∙◌, lemmas.Bool.true≢false}
use Rattle.lay_cert.specs.declared.lines.ListingLine.{ListingLine}
use Rattle.lay_cert.proofs.Judging.{none_choosing}
use Rattle.lay_cert.proofs.state.after_heading.Goals.{then-choosing-via-then-choosing}
use Rattle.lay_cert.proofs.state.after_heading.Goals.{then-choosing-via-else-choosing+in_ok-is_line+then-not-branch}
use Rattle.lay_cert.proofs.state.after_heading.Goals as goal

pub returns-then-choosing : goal.returns-then-choosing
returns-then-choosing c es js v =
    none_choosing es c.args.choosing c.args.raw.now c.requires.sound (λ s la lb lc e. c.in_default.ensures s la lb lc e)
    (λ bar l e. c.in_default-read_choice.ensures bar l e)
    (λ ends e. elim c.then-choosing.branch [
      | then-choosing-via-then-choosing w ↦ w.if-choosing.true ends
      | then-choosing-via-else-choosing+in_ok-is_line+then-not-branch w ↦
          true≢false (sym (w.in_ok-is_line.ensures.1 e) ∙ w.if-not-branch.true)
    ])

pub returns : goal.returns
returns c es js v =
    let h = c.requires.sound in
    record {
      line = ListingLine.Total c.args.choosing.total;
      spelled = c.in_ok-is_line.ensures.0 c.if-not-branch.false;
      may = (sym h.at ∙ c.if-choosing.false, h.total);
      next = (v, c.in_ok-prove.ensures);
    }

use Rattle.std.proofs.Common.{[], ◌∷◌, ◌++◌, ap, sym, ◌∙◌, refl, is_some}
use Rattle.lay_breaks.specs.Spans.{listed}
use Rattle.lay_cert.specs.declared.lines.ListingLine.{ListingLine}
use Rattle.lay_cert.proofs.Judging.{none_break, entry_same}
use Rattle.lay_cert.proofs.state.break_next.Goals as goal

pub returns-in_ok-add_break-in-Some : goal.returns-in_ok-add_break-in-Some
returns-in_ok-add_break-in-Some c es js v =
    let k = c.args.choosing in let m = c.in_ok-add_break-in-Some.ensures.more in
    let at = c.requires.sound.at in
    record {
      line = ListingLine.Choose c.args.bar;
      spelled = refl;
      may = ap is_some (ap (λ a. listed k.spans a c.args.bar) (sym at) ∙ (sym c.next_cost.ensures ∙ c.in-Some.is));
      next = (
        v,
        c.in_ok-add_break-in-Some.ensures.sound,
        entry_same c.in_ok-add_break-in-Some.field-0 k.tune k.bars k.spans (k.breaks ++ c.args.bar ∷ []) m.0 m.1 m.2
            m.3,
      );
    }

pub returns-in-None : goal.returns-in-None
returns-in-None c es js v =
    none_break es c.args.choosing c.args.bar c.requires.sound c.requires.small (sym c.next_cost.ensures ∙ c.in-None.is)

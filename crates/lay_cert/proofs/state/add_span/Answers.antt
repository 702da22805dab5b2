use Rattle.std.proofs.Common.{ap, sym, subst, Some, ◌∙◌, slice_set}
use Rattle.lay_cert.{specs.Represents.IsChoosing, proofs.Kept.kept_span}
use Rattle.lay_cert.proofs.state.add_span.Goals as goal

pub returns-clause-sound : goal.returns-clause-sound
returns-clause-sound c =
    let k = c.args.choosing in
    subst (λ ss.
    IsChoosing
    (record {
      tune = k.tune;
      bars = k.bars;
      spans = ss;
      last = Some c.args.span;
      firsts = c.index_span-firsts.result;
      breaks = k.breaks;
      at = k.at;
      total = k.total;
    }))
    (sym c.in_ok-push.ensures.ok)
    (kept_span k c.args.span c.index_span-firsts.result c.requires.sound c.requires.first c.requires.follows
    (λ e. c.index_span-firsts.ensures.first e ∙ ap (λ n. slice_set k.firsts.items c.args.span.a n) c.len.ensures)
    c.index_span-firsts.ensures.later)

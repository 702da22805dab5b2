use Rattle.std.proofs.Common.{sym, subst, ◌+◌, arith}
use Rattle.lay_cert.{specs.Represents.IsChoosing, proofs.Kept.total_fits, proofs.Kept.kept_break}
use Rattle.lay_cert.proofs.state.add_break.Goals as goal

pub overflow_add-choosing : goal.overflow_add-choosing
overflow_add-choosing c =
    let l = total_fits c.args.choosing c.args.bar c.args.cost c.requires.sound c.requires.listed in omega arith

pub returns-clause-sound : goal.returns-clause-sound
returns-clause-sound c =
    let k = c.args.choosing in
    subst (λ bs.
    IsChoosing
    (record {
      tune = k.tune;
      bars = k.bars;
      spans = k.spans;
      last = k.last;
      firsts = k.firsts;
      breaks = bs;
      at = c.args.bar;
      total = k.total + c.args.cost;
    }))
    (sym c.in_ok-push.ensures.ok) (kept_break k c.args.bar c.args.cost c.requires.sound c.requires.listed)

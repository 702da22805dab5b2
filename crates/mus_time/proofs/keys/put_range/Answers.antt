use Rattle.std.proofs.Common.{◌-◌, take, drop, subst, sym}
use Rattle.{mus_drawn.specs.Good.{AreGoodMeasures}, mus_time.proofs.Goods.{good_slice}}
use Rattle.mus_time.proofs.keys.put_range.Goals as goal

pub put_measures-requires-clause-good : goal.put_measures-requires-clause-good
put_measures-requires-clause-good c =
    subst (λ ms. AreGoodMeasures (take (c.args.range.now.b - c.args.range.now.a) (drop c.args.range.now.a ms)))
    (sym c.as_slice.ensures)
    (good_slice c.args.range.now.a (c.args.range.now.b - c.args.range.now.a) c.args.v.now.measures c.requires.good)

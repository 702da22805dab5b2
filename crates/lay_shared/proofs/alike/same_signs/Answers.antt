use Rattle.std.proofs.{Common.rules, lemmas.Slice.Eq.slice_eq-Decides}
use Rattle.lay_shared.proofs.alike.same_signs.Goals as goal

pub returns : goal.returns
returns c = slice_eq-Decides (λ s t. search rules) c.args.a.now c.args.b.now c.eq.result c.eq.ensures

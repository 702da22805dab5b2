use Rattle.std.proofs.{lemmas.Slice.Eq.strip_prefix_is, lemmas.Bool.Decides.Decides-eqb}
use Rattle.ps_tokens.proofs.front.strip.Goals as goal

pub returns : goal.returns
returns c = strip_prefix_is Decides-eqb c.args.bytes.now c.args.prefix.now _ c.strip_prefix.ensures.cases

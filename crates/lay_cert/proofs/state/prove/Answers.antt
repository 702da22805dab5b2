use Rattle.{lay_breaks.specs.Spans.{listed_stops}, lay_cert.proofs.{Indexing.agrees, Kept.small_cost}}
use Rattle.lay_cert.proofs.state.prove.Goals as goal

pub invariant_of-costs : goal.invariant_of-costs
invariant_of-costs c =
    let k = c.args.choosing in let h = c.requires.sound in record {
      one_each = h.one_each;
      inside = h.indexed.inside;
      agrees = λ a b l. agrees k.spans k.firsts.items h.indexed a b;
      stops = λ a b x l m e. listed_stops k.bars k.spans h.spans a b x l m e;
      small = λ a b v e. small_cost k.bars a b v k.spans h.spans e;
    }

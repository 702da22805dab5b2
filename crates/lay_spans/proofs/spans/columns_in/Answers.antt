use Rattle.std.proofs.Common.{◌∙◌, ◌++◌, ap, map, arith}
use Rattle.lay_spans.proofs.Growing.{seen_more}
use Rattle.lay_spans.proofs.spans.columns_in.Goals as goal

pub loop-m-preserved : goal.loop-m-preserved
loop-m-preserved g c =
    let past = c.loop-m.invariant.past in let less = c.loop-m-test.true in let within = c.requires.within in
    record {
      columns =
          seen_more (λ s. s.column.now) c.loop-m.seen c.see.new.seen c.args.measures.now.starts.now
          c.args.measures.now.others.now c.args.a
          c.loop-m.m
          (omega arith) (omega arith) c.args.measures.now.measured.same c.loop-m.invariant.columns
          (c.in_ok-see.ensures ∙ ap (λ r. map (λ s. s.column.now) c.loop-m.seen ++ r) c.measure.ensures);
      past = omega arith;
    }

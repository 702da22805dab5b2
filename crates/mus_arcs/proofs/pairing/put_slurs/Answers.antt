use Rattle.std.proofs.{Common.◌≡◌, Common.◌∷◌, Common.reverse, Common.arith, lemmas.Grind.common_steps}
use Rattle.mus_arcs.proofs.ArcLaws.{slurs-step, drop-step, slurs-none}
use Rattle.mus_arcs.proofs.pairing.put_slurs.Goals as goal

pub times-preserved : goal.times-preserved
times-preserved c =
    let was : reverse c.times.ends.items ≡ c.in-Some.end ∷ reverse c.pop.new.self.items = grind (arith, common_steps) in
    record {
      left = drop-step c.args.count c.times._n c.in-Some.end _ _ _ c.times-test.true was c.times.invariant.left;
      put =
          slurs-step c.args.count c.times._n c.args.start c.in-Some.end _ _ _ _ _ c.times-test.true was
          c.in_ok-put_slur.ensures c.times.invariant.put;
    }

pub returns-in_default-clause-put : goal.returns-in_default-clause-put
returns-in_default-clause-put c = grind (arith, common_steps, slurs-none)

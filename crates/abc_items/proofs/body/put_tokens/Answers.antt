use Rattle.std.{specs.Vec.Iter.into_iter_items, proofs.Common.◌≡◌, proofs.Common.rules}
use Rattle.abc_items.{specs.Body.placed_given, proofs.Laws.stops_within}
use Rattle.abc_items.proofs.body.put_tokens.Goals as goal

pub returns-in-Err-clause-stops : goal.returns-in-Err-clause-stops
returns-in-Err-clause-stops c =
    stops_within (placed_given c.args.breaks c.args.line.now) c.args.body.now c.loop-placed.body c.args.tokens
    (into_iter_items c.loop-placed.placed-iterator) (into_iter_items c.next.new.self) c.in-Some.placed c.in-Err.e
    (let all : into_iter_items c.into_iter-placed-iterator.result ≡ c.args.tokens = search rules in
    λ h. rw all at c.loop-placed.invariant.faults h)
    c.in-Some.ensures.steps.0 c.in-Err.ensures.stops

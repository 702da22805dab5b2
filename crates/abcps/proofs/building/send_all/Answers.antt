use Rattle.std.proofs.Common.{◌≡◌, ◌∙◌, ◌++◌, ap, append_assoc, arith, flat_map, rules, subst, sym, Err}
use Rattle.std.proofs.lemmas.Grind.{common_steps}
use Rattle.std.specs.Vec.Iter.{into_iter_items}
use Rattle.abcps.specs.Progress.{StoppedAfterPrefix, WroteOrStopped}
use Rattle.abcps.specs.Status.{status_after}
use Rattle.abcps.proofs.Sent.{step_stopped, stopped_after, stopped_longer, stream, took_after}
use Rattle.abcps.proofs.building.send_all.Goals as goal

pub returns-in_err-writer-clause-wrote : goal.returns-in_err-writer-clause-wrote
returns-in_err-writer-clause-wrote g c =
    let why = status_after c.in_err-writer.field-0.0 in
    let is : c.from_residual.result ≡ Err why = search rules in
    let o = stream (g.O.Sink.taken c.args.output.now) (g.O.Sink.taken c.send_pages.new.sink)
    (g.O.Sink.faults c.args.output.now) (g.O.Sink.faults c.send_pages.new.sink) in
    let sent = c.loop-text.invariant.sent in
    let later = flat_map (λ text. text) (into_iter_items c.next.new.self) in
    let same : into_iter_items c.into_iter-text-iterator.result ≡ c.args.texts = search rules in
    let more = stream (g.O.Sink.taken c.loop-text.output) (g.O.Sink.taken c.send_pages.new.sink)
    (g.O.Sink.faults c.loop-text.output) (g.O.Sink.faults c.send_pages.new.sink) in
    let stopped = step_stopped more c.in-Some.text c.in_err-writer.field-0.0
    (rw c.as_slice.ensures at c.in_err-writer.ensures.wrote) in
    let all = ap (λ l. sent.0 ++ flat_map (λ text. text) l) (sym c.in-Some.ensures.steps.0) ∙ sent.1
    ∙ ap (λ l. flat_map (λ text. text) l) same in
    subst (λ r. WroteOrStopped o (flat_map (λ text. text) c.args.texts) r) (sym is)
    (subst (λ t. StoppedAfterPrefix why o t) all
    (stopped_after (g.O.Sink.taken c.args.output.now) (g.O.Sink.taken c.loop-text.output)
    (g.O.Sink.taken c.send_pages.new.sink) (g.O.Sink.faults c.args.output.now) (g.O.Sink.faults c.loop-text.output)
    (g.O.Sink.faults c.send_pages.new.sink) sent.0 sent.2.0 sent.2.1 why (c.in-Some.text ++ later)
    (stopped_longer why more c.in-Some.text later stopped)))

pub loop-text-preserved : goal.loop-text-preserved
loop-text-preserved g c =
    let sent = c.loop-text.invariant.sent in
    let text = c.in-Some.text in
    let later = flat_map (λ text. text) (into_iter_items c.next.new.self) in
    record {
      sent = (
        sent.0 ++ text,
        append_assoc sent.0 text later
            ∙ ap (λ l. sent.0 ++ flat_map (λ text. text) l) (sym c.in-Some.ensures.steps.0) ∙ sent.1,
        took_after (g.O.Sink.taken c.args.output.now) (g.O.Sink.taken c.loop-text.output)
            (g.O.Sink.taken c.send_pages.new.sink) (g.O.Sink.faults c.args.output.now)
            (g.O.Sink.faults c.loop-text.output) (g.O.Sink.faults c.send_pages.new.sink) sent.0 sent.2.0 sent.2.1 text
            (rw c.as_slice.ensures at c.in_ok-writer.ensures.wrote),
      );
      count = grind (arith, common_steps);
      pages = search rules;
    }

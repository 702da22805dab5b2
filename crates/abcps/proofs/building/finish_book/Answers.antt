use Rattle.std.proofs.Common.{◌≡◌, ◌∙◌, ap, rules, subst, sym, Err}
use Rattle.ps_text.specs.Document.{trailer}
use Rattle.set_pages.specs.Flow.{ending}
use Rattle.eng_io.specs.Streams.{WroteWhole}
use Rattle.abcps.specs.Progress.{IsFinished, StoppedAfterPrefix, rest_text, status_if}
use Rattle.abcps.specs.Status.{status_after}
use Rattle.abcps.specs.declared.status.Status.{Status}
use Rattle.abcps.proofs.Sent.{memory_first, step_stopped, stopped_after, stopped_longer, stream, took_after}
use Rattle.abcps.proofs.building.finish_book.Goals as goal

pub returns-in_err-put_ending : goal.returns-in_err-put_ending
returns-in_err-put_ending g c plan paper outcomes running =
    let begun = c.args.run.press.begun in
    let is : c.from_residual.result ≡ Err Status.Memory = search rules in
    let o = stream (g.O.Sink.taken c.args.output.now) (g.O.Sink.taken c.args.output.now)
    (g.O.Sink.faults c.args.output.now) (g.O.Sink.faults c.args.output.now) in
    subst (λ r. IsFinished outcomes begun o r) (sym is)
    (memory_first (g.O.Sink.taken c.args.output.now) (g.O.Sink.faults c.args.output.now) (rest_text begun))

pub returns-in_err-writer : goal.returns-in_err-writer
returns-in_err-writer g c plan paper outcomes running =
    let begun = c.args.run.press.begun in
    let why = status_after c.in_err-writer.field-0.0 in
    let is : c.from_residual-in_err-writer.result ≡ Err why = search rules in
    let o = stream (g.O.Sink.taken c.args.output.now) (g.O.Sink.taken c.send_pages.new.sink)
    (g.O.Sink.faults c.args.output.now) (g.O.Sink.faults c.send_pages.new.sink) in
    let text : c.as_slice.result.now ≡ ending begun = search rules in
    let stopped = step_stopped o c.as_slice.result.now c.in_err-writer.field-0.0 c.in_err-writer.ensures.wrote in
    subst (λ r. IsFinished outcomes begun o r) (sym is)
    (stopped_longer why o (ending begun) (trailer begun) (subst (λ t. StoppedAfterPrefix why o t) text stopped))

pub returns-in_err-finish : goal.returns-in_err-finish
returns-in_err-finish g c plan paper outcomes running =
    let begun = c.args.run.press.begun in
    let why = status_after c.in_err-finish.field-0.0 in
    let is : c.from_residual-in_err-finish.result ≡ Err why = search rules in
    let text : c.as_slice.result.now ≡ ending begun = search rules in
    let pages : c.in_ok-writer.writer.pages ≡ begun = search rules in
    let o = stream (g.O.Sink.taken c.args.output.now) (g.O.Sink.taken c.finish.new.sink)
    (g.O.Sink.faults c.args.output.now) (g.O.Sink.faults c.finish.new.sink) in
    let rest = stream (g.O.Sink.taken c.send_pages.new.sink) (g.O.Sink.taken c.finish.new.sink)
    (g.O.Sink.faults c.send_pages.new.sink) (g.O.Sink.faults c.finish.new.sink) in
    let stopped = step_stopped rest _ c.in_err-finish.field-0.0 c.in_err-finish.ensures.wrote in
    subst (λ r. IsFinished outcomes begun o r) (sym is)
    (stopped_after (g.O.Sink.taken c.args.output.now) (g.O.Sink.taken c.send_pages.new.sink)
    (g.O.Sink.taken c.finish.new.sink) (g.O.Sink.faults c.args.output.now) (g.O.Sink.faults c.send_pages.new.sink)
    (g.O.Sink.faults c.finish.new.sink) (ending begun) (rw text at c.in_ok-writer.ensures.wrote.0)
    c.in_ok-writer.ensures.wrote.1 why (trailer begun)
    (subst (λ n. StoppedAfterPrefix why rest (trailer n)) pages stopped))

pub returns : goal.returns
returns g c plan paper outcomes running =
    let begun = c.args.run.press.begun in
    let text : c.as_slice.result.now ≡ ending begun = search rules in
    let pages : c.in_ok-writer.writer.pages ≡ begun = search rules in
    let rest = stream (g.O.Sink.taken c.send_pages.new.sink) (g.O.Sink.taken c.finish.new.sink)
    (g.O.Sink.faults c.send_pages.new.sink) (g.O.Sink.faults c.finish.new.sink) in (
      took_after (g.O.Sink.taken c.args.output.now) (g.O.Sink.taken c.send_pages.new.sink)
          (g.O.Sink.taken c.finish.new.sink) (g.O.Sink.faults c.args.output.now)
          (g.O.Sink.faults c.send_pages.new.sink) (g.O.Sink.faults c.finish.new.sink) (ending begun)
          (rw text at c.in_ok-writer.ensures.wrote.0) c.in_ok-writer.ensures.wrote.1 (trailer begun)
          (subst (λ n. WroteWhole rest (trailer n)) pages
          c.in_ok-finish.ensures.wrote),
      running.reported,
      c.status_if.ensures.value ∙ ap status_if running.refused,
      search rules,
    )

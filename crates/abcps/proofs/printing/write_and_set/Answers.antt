use denote.Exit.{no}
use denote.Param.Send.{param_send, arg_send}
use Rattle.std.proofs.Common.{◌≡◌, [], inl, rules, subst, sym, Err}
use Rattle.std.specs.List.{AllZip}
use Rattle.std.specs.Prelude.{All}
use Rattle.abc_lines.specs.Good.{IsGoodTune}
use Rattle.set_book.specs.Outcomes.{IsOutcome}
use Rattle.set_book.proofs.Lent.{all_lent, zip_lent}
use Rattle.set_book.proofs.Sent.{outcome_send}
use Rattle.set_pages.specs.Builder.{CanDrawOutcome, IsTextOfOutcome}
use Rattle.set_pages.proofs.Sent.{placed_send}
use Rattle.set_tune.specs.Terms.{terms_of}
use Rattle.abcps.specs.Progress.{IsTurn}
use Rattle.abcps.specs.declared.status.Status.{Status}
use Rattle.abcps.proofs.Batches.{texts_cut, texts_written}
use Rattle.abcps.proofs.Sent.{memory_first, stream}
use Rattle.abcps.proofs.printing.write_and_set.Goals as goal

pub work_both-requires-send-S : goal.work_both-requires-send-S
work_both-requires-send-S g c κs within = param_send 1 _ (arg_send _ no _ placed_send)

pub work_both-requires-send-O : goal.work_both-requires-send-O
work_both-requires-send-O g c κs within = param_send 4 _ (arg_send _ no _ outcome_send)

pub work_both-requires-clause-firsts : goal.work_both-requires-clause-firsts
work_both-requires-clause-firsts g c κs within =
    subst (λ width. All (CanDrawOutcome width) c.in_ok-placed.placed) (sym c.on-writer.ensures)
    c.in_ok-placed.ensures.ready

pub work_both-requires-clause-seconds : goal.work_both-requires-clause-seconds
work_both-requires-clause-seconds g c κs within =
    all_lent (λ tune. tune.now) IsGoodTune c.in_ok-lent.lent c.args.next.now c.in_ok-lent.ensures (search rules)
    c.requires.tunes

pub returns-in_err-placed : goal.returns-in_err-placed
returns-in_err-placed g c before running =
    let is : c.from_residual.result ≡ Err Status.Memory = search rules in
    let o = stream (g.O.Sink.taken c.args.output.now) (g.O.Sink.taken c.args.output.now)
    (g.O.Sink.faults c.args.output.now) (g.O.Sink.faults c.args.output.now) in
    let terms = terms_of c.args.setting.now.defaults.now c.args.setting.now.paper.now c.args.setting.now.how in
    subst (λ r. IsTurn terms c.args.plan.now before c.args.outcomes c.args.next.now o r) (sym is)
    (inl (memory_first (g.O.Sink.taken c.args.output.now) (g.O.Sink.faults c.args.output.now) []))

pub returns-in_err-lent : goal.returns-in_err-lent
returns-in_err-lent g c before running =
    let is : c.from_residual-in_err-lent.result ≡ Err Status.Memory = search rules in
    let o = stream (g.O.Sink.taken c.args.output.now) (g.O.Sink.taken c.args.output.now)
    (g.O.Sink.faults c.args.output.now) (g.O.Sink.faults c.args.output.now) in
    let terms = terms_of c.args.setting.now.defaults.now c.args.setting.now.paper.now c.args.setting.now.how in
    subst (λ r. IsTurn terms c.args.plan.now before c.args.outcomes c.args.next.now o r) (sym is)
    (inl (memory_first (g.O.Sink.taken c.args.output.now) (g.O.Sink.faults c.args.output.now) []))

pub returns-in_err-both : goal.returns-in_err-both
returns-in_err-both g c before running =
    let is : c.from_residual-in_err-both.result ≡ Err Status.Memory = search rules in
    let o = stream (g.O.Sink.taken c.args.output.now) (g.O.Sink.taken c.args.output.now)
    (g.O.Sink.faults c.args.output.now) (g.O.Sink.faults c.args.output.now) in
    let terms = terms_of c.args.setting.now.defaults.now c.args.setting.now.paper.now c.args.setting.now.how in
    subst (λ r. IsTurn terms c.args.plan.now before c.args.outcomes c.args.next.now o r) (sym is)
    (inl (memory_first (g.O.Sink.taken c.args.output.now) (g.O.Sink.faults c.args.output.now) []))

pub returns-in_err-run : goal.returns-in_err-run
returns-in_err-run g c before running =
    let is : c.from_residual-in_err-run.result ≡ Err c.in_err-run.field-0.0 = search rules in
    let o = stream (g.O.Sink.taken c.args.output.now) (g.O.Sink.taken c.write_texts.new.output)
    (g.O.Sink.faults c.args.output.now) (g.O.Sink.faults c.write_texts.new.output) in
    let terms = terms_of c.args.setting.now.defaults.now c.args.setting.now.paper.now c.args.setting.now.how in
    let texts = c.in_ok-both.both.first in
    let are = subst (λ width. AllZip (IsTextOfOutcome width) c.in_ok-placed.placed texts) c.on-writer.ensures
    c.in_ok-both.ensures.first in
    subst (λ r. IsTurn terms c.args.plan.now before c.args.outcomes c.args.next.now o r) (sym is)
    (texts_cut c.args.plan.now c.args.setting.now.paper.now before c.args.outcomes c.in_ok-placed.placed
    c.place_outcomes.new.run (c.in_ok-placed.ensures.runs before running) texts are o c.in_err-run.field-0.0
    c.in_err-run.ensures.wrote)

pub returns : goal.returns
returns g c before running =
    let o = stream (g.O.Sink.taken c.args.output.now) (g.O.Sink.taken c.write_texts.new.output)
    (g.O.Sink.faults c.args.output.now) (g.O.Sink.faults c.write_texts.new.output) in
    let terms = terms_of c.args.setting.now.defaults.now c.args.setting.now.paper.now c.args.setting.now.how in
    let texts = c.in_ok-both.both.first in
    let are = subst (λ width. AllZip (IsTextOfOutcome width) c.in_ok-placed.placed texts) c.on-writer.ensures
    c.in_ok-both.ensures.first in (
      texts_written c.args.plan.now c.args.setting.now.paper.now before c.args.outcomes c.in_ok-placed.placed
          c.place_outcomes.new.run (c.in_ok-placed.ensures.runs before running) texts are o c.in_ok-run.run'
          c.in_ok-run.ensures.same c.in_ok-run.ensures.wrote,
      zip_lent (λ tune. tune.now) (IsOutcome terms) c.in_ok-lent.lent c.args.next.now c.in_ok-both.both.second
          c.in_ok-lent.ensures c.in_ok-both.ensures.second,
    )

use Rattle.std.proofs.Common.{◌≡◌, ◌∙◌, [], ap, arith, rules}
use Rattle.set_lists.specs.Trials.{trial_text}
use Rattle.set_tune.specs.Terms.{unmoved}
use Rattle.abcps.specs.{Books.terms_in, Called.Called}
use Rattle.abcps.specs.declared.status.Status.{Status}
use Rattle.abcps.proofs.Answered.{answer_of}
use Rattle.abcps.proofs.BookCalls.{set_under, tries}
use Rattle.abcps.proofs.books.trial.Goals as goal
use Rattle.abcps_words.specs.declared.command.Command.{Command}

pub trial_of-requires-clause-set : goal.trial_of-requires-clause-set
trial_of-requires-clause-set g c κs within =
    set_under (unmoved c.args.flow) c.in-Ok.text c.in-Ok-set_text.field-0.paper c.in-Ok-set_text.field-0.outcomes
    c.in-Ok-set_text.ensures.paper c.in-Ok-set_text.ensures.set

pub trial_of-requires-clause-few : goal.trial_of-requires-clause-few
trial_of-requires-clause-few g c κs within =
    let text = c.in-Ok.text in
    c.few_blocks.ensures.book text (terms_in (unmoved c.args.flow) text) c.in-Ok-set_text.field-0.outcomes
    (omega (arith, c.in-Ok.ensures.short)) c.in-Ok-set_text.ensures.set

pub returns : goal.returns
returns g c =
    let paper = c.in-Ok-set_text.field-0.paper in
    let outcomes = c.in-Ok-set_text.field-0.outcomes in
    let tried = c.in-Ok-trial_of.ensures in
    let line : c.as_slice.result.now ≡ trial_text c.in-Ok-trial_of.trial = search rules in
    answer_of (Command.Trial c.args.tunes c.args.flow c.args.jobs.count c.args.even) []
    (λ called. called ≡ record { page = c.as_slice.result.now; reported = []; status = Status.Done })
    (λ called is.
    tries c.args.tunes (unmoved c.args.flow) c.args.even c.in-Ok.text paper outcomes called c.in-Ok.ensures.value
    c.in-Ok-set_text.ensures.paper c.in-Ok-set_text.ensures.set
    (record {
      plan = tried.0;
      planned = tried.1;
      called =
          is ∙ ap {B = Called} (λ page. record { page = page; reported = []; status = Status.Done })
          (line ∙ ap trial_text tried.2);
    }))
    _ _ c.write_both.result c.write_both.ensures

use denote.Exit.{no}
use denote.Param.Send.{param_send, arg_send}
use Rattle.std.proofs.Common.{◌≡◌, ◌∙◌, ◌<◌, ◌^◌, ◌++◌, [], Some, ap, ap₂, length, subst, sym}
use Rattle.std.specs.List.{AllZip}
use Rattle.std.specs.Prelude.{All, flat_map}
use Rattle.ps_text.specs.Document.{document}
use Rattle.set_pages.proofs.Sent.{placed_send}
use Rattle.set_pages.proofs.Whole.{plan_rises}
use Rattle.set_pages.specs.Builder.{CanDrawOutcome, IsTextOfOutcome}
use Rattle.set_pages.specs.Drawings.{all_blocks}
use Rattle.set_pages.specs.Sheet.{IsPagePlan, sheet_of}
use Rattle.abcps.proofs.Batches.{running_same}
use Rattle.abcps.proofs.Counted.{can_add_all, document_written, pages_counted}
use Rattle.abcps.proofs.books.document_len.Goals as goal

pub plan_for-requires-clause-few : goal.plan_for-requires-clause-few
plan_for-requires-clause-few g c =
    subst (λ all. length (all_blocks all) < 2 ^ 32) (sym c.as_slice.ensures) c.requires.few

pub place_outcomes-requires : goal.place_outcomes-requires
place_outcomes-requires g c =
    can_add_all c.args.even c.in_ok-plan.plan c.args.paper.now c.args.outcomes c.in_ok-run.run' c.requires.paper
    c.requires.set c.requires.few
    (subst (λ all. IsPagePlan c.args.even c.args.paper.now all c.in_ok-plan.plan) c.as_slice.ensures
    c.in_ok-plan.ensures)
    c.in_ok-run.ensures.begun

pub work_all-requires-send-T : goal.work_all-requires-send-T
work_all-requires-send-T g c κs within = param_send 1 _ (arg_send _ no _ placed_send)

pub work_all-requires-clause-takes : goal.work_all-requires-clause-takes
work_all-requires-clause-takes g c κs within =
    subst (λ width. All (CanDrawOutcome width) c.in_ok-placed.placed) (sym c.on-writer.ensures)
    c.in_ok-placed.ensures.ready

pub returns : goal.returns
returns g c =
    let plan = c.in_ok-plan.plan in
    let paper = c.args.paper.now in
    let outcomes = c.args.outcomes in
    let planned = subst (λ all. IsPagePlan c.args.even paper all plan) c.as_slice.ensures c.in_ok-plan.ensures in
    let running = c.in_ok-run.ensures.begun plan paper (plan_rises c.args.even paper outcomes plan planned) in
    let texts = c.in_ok-texts.texts in
    let are = subst (λ width. AllZip (IsTextOfOutcome width) c.in_ok-placed.placed texts) c.on-writer.ensures
    c.in_ok-texts.ensures in
    let run = c.place_outcomes.new.run in
    let added = c.in_ok-placed.ensures.runs [] running texts are in
    let next = c.in_ok-run-2.run' in
    let same = c.in_ok-run-2.ensures.same in
    let finished = c.in_ok-printed.ensures plan paper outcomes
    (running_same plan paper outcomes run next added.1 same) in
    let wrote =
    document_written plan paper outcomes run (flat_map (λ text. text) texts) c.requires.paper added.0 next same
    (Some c.new-out.result.bytes) (Some c.begin_book.new.output.bytes) (Some c.write_texts.new.output.bytes)
    (Some c.finish_book.new.output.bytes) c.new-out.result.faults c.begin_book.new.output.faults
    c.write_texts.new.output.faults c.finish_book.new.output.faults
    c.in_ok-run.ensures.wrote c.in_ok-run-2.ensures.wrote finished.0 in
    let sheet = sheet_of plan paper outcomes in
    let bytes : c.finish_book.new.output.bytes ≡ document sheet =
    wrote.0 ∙ ap (λ b. b ++ document sheet) c.new-out.ensures.bytes in
    let counted =
    pages_counted plan paper outcomes run (flat_map (λ text. text) texts) c.requires.paper added.0 next same in (
      plan,
      planned,
      ap₂ (λ a b. (a, b)) (c.from.ensures ∙ finished.3 ∙ counted) (ap (λ b. length b) (c.taken.ensures ∙ bytes)),
    )

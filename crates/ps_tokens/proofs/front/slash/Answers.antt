use Rattle.std.proofs.Common.{rules, ◌≡◌, true, false}
use Rattle.ps_steps.specs.Tokens.{is_name, font_front, no_label, label_front}
use Rattle.ps_tokens.proofs.Fronts.{no_name, name_some}
use Rattle.ps_tokens.proofs.front.slash.Goals as goal

pub returns-in-Some : goal.returns-in-Some
returns-in-Some c = font_front c.in-Some.rest.now (rw c.font_bytes.ensures at c.in-Some.ensures)

pub returns-then-not-is_name : goal.returns-then-not-is_name
returns-then-not-is_name c =
    let bad : is_name c.word.result.0.now ≡ false = search (rules, c.if-not-is_name.true, c.is_name.ensures) in
    no_label c.args.after.now c.requires (rw c.font_bytes.ensures at c.in_default.ensures)
    (no_name c.args.after.now c.word.result.0.now c.word.result.1.now c.word.ensures.cut c.word.ensures.regular
    c.word.ensures.maximal bad)

pub returns : goal.returns
returns c =
    let good : is_name c.word.result.0.now ≡ true = search (rules, c.if-not-is_name.false, c.is_name.ensures) in
    label_front c.args.after.now c.in_ok-from_slice.field-0 c.word.result.1.now c.requires
    (rw c.font_bytes.ensures at c.in_default.ensures)
    (rw c.in_ok-from_slice.ensures
    (record {
      some = name_some c.word.result.0.now good;
      regular = c.word.ensures.regular;
      cut = c.word.ensures.cut;
      maximal = c.word.ensures.maximal;
    })) (rw c.in_ok-from_slice.ensures good)

use Rattle.std.proofs.Common.{sym, ap, ◌∙◌, subst, IfErr, Err}
use Rattle.std.proofs.lemmas.Result.{err_from_is_err_and}
use Rattle.ps_read.specs.Answers.{IsDocumentRead, IsCause}
use Rattle.ps_read.proofs.Alone.{unambiguous, one_sheet, cause_of}
use Rattle.ps_read.proofs.Telling.{lines_spell}
use Rattle.ps_read.proofs.reading.read_document.Goals as goal

pub read_lines-requires-clause-unambiguous : goal.read_lines-requires-clause-unambiguous
read_lines-requires-clause-unambiguous c = unambiguous

pub returns-in_err-read_lines-clause-cause : goal.returns-in_err-read_lines-clause-cause
returns-in_err-read_lines-clause-cause c =
    let error = c.in_err-read_lines.field-0.0 in
    let is = err_from_is_err_and c.from_residual.result c.from_residual.ensures.1 in
    subst (λ r. IfErr r (IsCause c.args.b.now)) (sym (is.1 ∙ ap Err is.2))
    (cause_of c.args.b.now error c.in_err-read_lines.ensures.cause)

pub returns-clause-sheet : goal.returns-clause-sheet
returns-clause-sheet c =
    let text = c.args.b.now in
    let said = c.in_ok-read_lines.ensures.said in
    let spells = lines_spell said.0 text said.1 in
    subst (IsDocumentRead text) (sym said.2) (record {
      spells = spells;
      only = λ t other. one_sheet text said.0 t spells other;
    })

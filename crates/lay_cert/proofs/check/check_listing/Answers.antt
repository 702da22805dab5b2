use Rattle.std.proofs.Common.{sym, ap, ◌∙◌, subst, IfErr, Err}
use Rattle.std.proofs.lemmas.Result.{err_from_is_err_and}
use Rattle.lay_cert.specs.Answers.{IsCause}
use Rattle.lay_cert.proofs.Alone.{unambiguous, good_by_lines, cause_of}
use Rattle.lay_cert.proofs.check.check_listing.Goals as goal

pub read_lines-requires-clause-unambiguous : goal.read_lines-requires-clause-unambiguous
read_lines-requires-clause-unambiguous c = unambiguous

pub returns-in_err-read_lines-clause-cause : goal.returns-in_err-read_lines-clause-cause
returns-in_err-read_lines-clause-cause c =
    let error = c.in_err-read_lines.field-0.0 in
    let is = err_from_is_err_and c.from_residual.result c.from_residual.ensures.1 in
    subst (λ r. IfErr r (IsCause c.args.bytes.now)) (sym (is.1 ∙ ap Err is.2))
    (cause_of c.args.bytes.now error c.in_err-read_lines.ensures.cause)

pub returns-clause-judged : goal.returns-clause-judged
returns-clause-judged c =
    let said = c.in_ok-read_lines.ensures.said in (said.0, (good_by_lines c.args.bytes.now said.0).1 said.1, said.2)

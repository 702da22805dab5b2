use Rattle.std.proofs.lemmas.Result.{IfOk-weaker, IfErr-weaker}
use Rattle.abc_field.specs.FieldSpelling.{Says, IsBadLine}
use Rattle.abc_field.proofs.FieldForms.{line-says, line_refuses}
use Rattle.abc_field.proofs.field.read_field.Goals as goal

pub returns-clause-says : goal.returns-clause-says
returns-clause-says c =
    IfOk-weaker c.line_field.result _ (Says c.args.line.now.text) (line-says c.args.line.now.text)
    c.line_field.ensures.value

pub returns-clause-bad : goal.returns-clause-bad
returns-clause-bad c =
    IfErr-weaker c.line_field.result _ (IsBadLine c.args.line.now) (line_refuses c.args.line.now)
    c.line_field.ensures.fault

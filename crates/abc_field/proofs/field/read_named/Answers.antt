use Rattle.std.proofs.lemmas.Result.{IfOk-weaker, IfErr-weaker}
use Rattle.abc_field.specs.FieldSpelling.{NamedSays, NamedRefuses}
use Rattle.abc_field.proofs.FieldForms.{named-says, named_refuses}
use Rattle.abc_field.proofs.field.read_named.Goals as goal

pub returns-clause-says : goal.returns-clause-says
returns-clause-says c =
    let letter = c.args.letter in
    let text = c.args.text.now in
    IfOk-weaker c.named_field.result _ (NamedSays letter text) (named-says letter text) c.named_field.ensures.value

pub returns-clause-bad : goal.returns-clause-bad
returns-clause-bad c =
    let letter = c.args.letter in
    let text = c.args.text.now in
    IfErr-weaker c.named_field.result _ (NamedRefuses letter text) (named_refuses letter text)
    c.named_field.ensures.fault

use Rattle.std.proofs.{Common.{sym, ◌∙◌, eqb-true}, lemmas.Bool.eqb-false}
use Rattle.abc_notes.proofs.GraceLaws.{grace-unclosed, grace-open, grace-flawed}
use Rattle.abc_notes.proofs.grace.grace_fault.Goals as goal

pub returns-then-is_empty-clause-fault : goal.returns-then-is_empty-clause-fault
returns-then-is_empty-clause-fault c =
    grace-unclosed c.args.bang c.args.bytes.now _ _ c.braced.ensures.read
    (eqb-true _ 0 (sym c.is_empty.ensures ∙ c.if-is_empty.true))

pub returns-in-Some-clause-fault : goal.returns-in-Some-clause-fault
returns-in-Some-clause-fault c =
    let some = eqb-false _ 0 (sym c.is_empty.ensures ∙ c.if-is_empty.false) in let flaw = c.in-Some.ensures in
    grace-flawed c.args.bang _ c.args.bytes.now _ _ _ c.in-Some.flaw c.skip.ensures.read c.braced.ensures.read some
    c.requires.none flaw.0 flaw.1

pub returns-in-None-clause-fault : goal.returns-in-None-clause-fault
returns-in-None-clause-fault c = grace-open c.args.bang _ c.args.bytes.now _ c.skip.ensures.read c.in-None.ensures

use Rattle.std.proofs.Common.{rules}
use Rattle.abc_notes.proofs.GraceLaws.{group-begins, group-next, group-stuck, group-ends, found_part, none_part}
use Rattle.abc_notes.proofs.GraceLaws.{part_less}
use Rattle.abc_notes.proofs.grace.grace_state.Goals as goal

pub parts-init : goal.parts-init
parts-init c = group-begins _ _

pub returns-in_default : goal.returns-in_default
returns-in_default c =
    let none = none_part c.args.bang c.parts.rest.now c.in_default.ensures.read in
    group-stuck c.args.bang c.parts.invariant (search rules) none c.part_flaw.ensures.flaw c.part_flaw.ensures.within

pub parts-smaller : goal.parts-smaller
parts-smaller c = part_less c.args.bang (found_part c.args.bang c.parts.rest.now c.in-Some.ensures.read)

pub parts-preserved : goal.parts-preserved
parts-preserved c =
    let found = found_part c.args.bang c.parts.rest.now c.in-Some.ensures.read in
    group-next c.args.bang found c.parts.invariant (rw c.has_length.ensures at c.place_if-before.ensures)

pub returns : goal.returns
returns c = group-ends c.args.bang c.parts.invariant (search rules)

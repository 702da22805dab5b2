use Rattle.std.proofs.Common.{ap, ◌∙◌, ◌||◌}
use Rattle.abc_notes.specs.Items.{is_inner_note}
use Rattle.abc_notes.proofs.PartLaws.{all_within}
use Rattle.abc_notes.proofs.InnerLaws.{found_inner, none_inner, inner_less}
use Rattle.abc_notes.proofs.ChordLaws.{seeking-begins, seeking-next, seeking-ends, bracket_within}
use Rattle.abc_notes.proofs.chord.bracket_at.Goals as goal

pub parts-init : goal.parts-init
parts-init c = seeking-begins c.args.bang c.args.bytes.now

pub parts-smaller : goal.parts-smaller
parts-smaller c = inner_less c.args.bang (found_inner c.args.bang c.parts.rest.now c.in-Some.ensures)

pub parts-preserved : goal.parts-preserved
parts-preserved c =
    let found = found_inner c.args.bang c.parts.rest.now c.in-Some.ensures in
    let head =
    c.either-head.ensures ∙ ap (λ b. c.parts.head || b) (c.is_inner_note.ensures ∙ ap is_inner_note found.says) in
    seeking-next c.args.bang c.parts.invariant found.at head (rw c.bracket_in_name.ensures at c.later_or-last.ensures)

pub returns-clause-read : goal.returns-clause-read
returns-clause-read c =
    (rw c.bracket_here.ensures at c.later_or.ensures)
    ∙ seeking-ends c.args.bang c.parts.invariant (none_inner c.args.bang c.parts.rest.now c.in_default.ensures)

pub returns-clause-within : goal.returns-clause-within
returns-clause-within c =
    all_within (λ x. x.now) _ c.later_or.result (returns-clause-read c) (bracket_within c.args.bang c.args.bytes.now)

use Rattle.std.proofs.Common.{rules, ◌≡◌, ◌∷◌}
use Rattle.abc_notes.proofs.InnerLaws.{inside-next, inside-stuck, inside-ends, found_inner, none_inner, inner_less}
use Rattle.abc_notes.proofs.chord.inside_state.Goals as goal

pub returns-in_default-item_at : goal.returns-in_default-item_at
returns-in_default-item_at c =
    let none = none_inner c.args.bang c.parts.rest.now c.in_default-item_at.ensures in
    let cut : c.parts.rest.now ≡ c.in-Some.byte.now ∷ c.in-Some.field-0-1.now = search rules in
    inside-stuck c.args.bang c.parts.invariant cut (search rules) none c.inner_flaw.ensures

pub parts-smaller : goal.parts-smaller
parts-smaller c = inner_less c.args.bang (found_inner c.args.bang c.parts.rest.now c.in-Some-item_at.ensures)

pub parts-preserved : goal.parts-preserved
parts-preserved c =
    let found = found_inner c.args.bang c.parts.rest.now c.in-Some-item_at.ensures in
    inside-next c.args.bang found c.parts.invariant c.is_inner_note-note.ensures c.either-head.ensures
    c.place_if-before.ensures

pub returns : goal.returns
returns c = inside-ends c.args.bang c.parts.invariant c.in_default.ensures.cases

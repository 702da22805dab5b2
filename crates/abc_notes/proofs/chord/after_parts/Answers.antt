use Rattle.std.proofs.Common.{arith, sym, ◌∙◌}
use Rattle.abc_notes.proofs.PartLaws.{left_none, left_some}
use Rattle.abc_notes.proofs.InnerLaws.{inner_reader, inner_pair, found_inner, none_inner, inner_less}
use Rattle.abc_notes.proofs.chord.after_parts.Goals as goal

pub parts-smaller : goal.parts-smaller
parts-smaller c = inner_less c.args.bang (found_inner c.args.bang c.parts.rest.now c.in-Some.ensures)

pub parts-preserved : goal.parts-preserved
parts-preserved c =
    let found = found_inner c.args.bang c.parts.rest.now c.in-Some.ensures in
    let step =
    left_some (inner_reader c.args.bang) c.parts.rest.now (inner_pair found.part c.in-Some.following.now) found.at in
    record {
      left = sym step ∙ c.parts.invariant.left;
      within = omega (arith, inner_less c.args.bang found, c.parts.invariant.within);
    }

pub returns : goal.returns
returns c =
    let none = none_inner c.args.bang c.parts.rest.now c.in_default.ensures in
    sym (left_none (inner_reader c.args.bang) c.parts.rest.now none) ∙ c.parts.invariant.left

use Rattle.std.proofs.Common.{arith, ◌∙◌}
use Rattle.abc_notes.specs.Chords.{senses}
use Rattle.abc_notes.proofs.InnerLaws.{heads-next, heads-end, heads-are, found_inner, none_inner, inner_less}
use Rattle.abc_notes.proofs.chord.read_heads.Goals as goal

pub parts-smaller : goal.parts-smaller
parts-smaller c = inner_less c.args.bang (found_inner c.args.bang c.parts.rest.now c.in-Some.ensures)

pub parts-preserved : goal.parts-preserved
parts-preserved c =
    let found = found_inner c.args.bang c.parts.rest.now c.in-Some.ensures in let next = c.in_ok-last.ensures in
    record {
      heads = heads-next c.args.bang found c.parts.heads c.parts.last next.heads next.last c.parts.invariant.heads;
      within = omega (arith, inner_less c.args.bang found, c.parts.invariant.within);
    }

pub returns : goal.returns
returns c =
    let none = none_inner c.args.bang c.parts.rest.now c.in_default.ensures in
    heads-end c.args.bang c.parts.heads c.parts.last c.parts.rest.now none c.in_ok-add_last.ensures
    c.parts.invariant.heads
    ∙ heads-are (senses c.args.bang c.args.inside.now)

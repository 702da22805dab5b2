use Rattle.std.proofs.Common.{rules, arith}
use Rattle.abc_notes.proofs.GraceLaws.{body-next, body-end, found_part, none_part, part_less, item_wider}
use Rattle.abc_notes.proofs.grace.read_body.Goals as goal

pub add_part-requires : goal.add_part-requires
add_part-requires c = item_wider c.in-Some.part _ _ c.in-Some.ensures.within (search rules)

pub parts-smaller : goal.parts-smaller
parts-smaller c = part_less c.args.bang (found_part c.args.bang c.parts.rest.now c.in-Some.ensures.read)

pub parts-preserved : goal.parts-preserved
parts-preserved c =
    let found = found_part c.args.bang c.parts.rest.now c.in-Some.ensures.read in
    record {
      body = body-next c.args.bang found c.parts.body c.in_ok-add_part.ensures c.parts.invariant.body;
      within = omega (arith, part_less c.args.bang found, c.parts.invariant.within);
    }

pub returns : goal.returns
returns c =
    body-end c.args.bang c.parts.rest.now (none_part c.args.bang c.parts.rest.now c.in_default.ensures.read)
    c.parts.invariant.body

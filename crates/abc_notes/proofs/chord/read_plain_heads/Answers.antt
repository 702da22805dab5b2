use Rattle.std.proofs.Common.{refl, arith}
use Rattle.abc_notes.specs.Graces.{heads_in, plain_head}
use Rattle.abc_notes.proofs.InnerLaws.{said-next, said-end, heads_in-cons, found_inner, none_inner, inner_less}
use Rattle.abc_notes.proofs.chord.read_plain_heads.Goals as goal

pub parts-smaller : goal.parts-smaller
parts-smaller c = inner_less c.args.bang (found_inner c.args.bang c.parts.rest.now c.in-Some.ensures)

pub parts-preserved : goal.parts-preserved
parts-preserved c =
    let found = found_inner c.args.bang c.parts.rest.now c.in-Some.ensures in
    record {
      heads =
          said-next c.args.bang found heads_in plain_head heads_in-cons c.parts.heads c.in_ok-add_plain_head.ensures
          c.parts.invariant.heads;
      within = omega (arith, inner_less c.args.bang found, c.parts.invariant.within);
    }

pub returns : goal.returns
returns c =
    said-end c.args.bang heads_in refl c.parts.rest.now (none_inner c.args.bang c.parts.rest.now c.in_default.ensures)
    c.parts.invariant.heads

use Rattle.std.proofs.Common.{refl, arith}
use Rattle.abc_notes.specs.Chords.{deco_of, decos_of}
use Rattle.abc_notes.proofs.InnerLaws.{said-next, said-end, found_inner, none_inner, inner_less}
use Rattle.abc_notes.proofs.chord.read_decos.Goals as goal

pub parts-smaller : goal.parts-smaller
parts-smaller c = inner_less c.args.bang (found_inner c.args.bang c.parts.rest.now c.in-Some.ensures)

pub parts-preserved : goal.parts-preserved
parts-preserved c =
    let found = found_inner c.args.bang c.parts.rest.now c.in-Some.ensures in
    record {
      decos =
          said-next c.args.bang found decos_of deco_of (λ item more. refl) c.parts.decos c.in_ok-add_deco.ensures
          c.parts.invariant.decos;
      within = omega (arith, inner_less c.args.bang found, c.parts.invariant.within);
    }

pub returns : goal.returns
returns c =
    said-end c.args.bang decos_of refl c.parts.rest.now (none_inner c.args.bang c.parts.rest.now c.in_default.ensures)
    c.parts.invariant.decos

use Rattle.{std.proofs.Common.{arith}, mus_units.proofs.Longest.{dots_greatest, dots_more}}
use Rattle.mus_units.proofs.parts.dots_within.Goals as goal

pub returns-then-left-base-clause-longest : goal.returns-then-left-base-clause-longest
returns-then-left-base-clause-longest c e few fits =
    dots_greatest 0 e c.args.base c.args.left (omega (arith, c.if-left-base.true)) fits

pub returns-then-left-base-2-clause-longest : goal.returns-then-left-base-2-clause-longest
returns-then-left-base-2-clause-longest c e few fits =
    dots_greatest 1 e c.args.base c.args.left (omega (arith, c.if-left-base-2.true)) fits

pub returns-then-left-base-3-clause-longest : goal.returns-then-left-base-3-clause-longest
returns-then-left-base-3-clause-longest c e few fits =
    dots_greatest 2 e c.args.base c.args.left (omega (arith, c.if-left-base-3.true)) fits

pub returns-clause-longest : goal.returns-clause-longest
returns-clause-longest c e few fits = dots_more e 3 c.args.base few

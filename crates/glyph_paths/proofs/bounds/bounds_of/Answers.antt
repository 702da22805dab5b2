use Rattle.std.proofs.Common.{rules, subst, sym}
use Rattle.glyph_paths.specs.Rows.{outline_of}
use Rattle.glyph_paths.specs.Bounds.{AreBounds, AreClose}
use Rattle.glyph_paths.proofs.BoundLaws.{bounds_are, bounds_are_close}
use Rattle.glyph_paths.proofs.bounds.bounds_of.Goals as goal

pub returns-clause-value : goal.returns-clause-value
returns-clause-value c = search rules

pub returns-clause-bounds : goal.returns-clause-bounds
returns-clause-bounds c = subst (AreBounds (outline_of c.args.g)) (sym (returns-clause-value c)) (bounds_are c.args.g)

pub returns-clause-close : goal.returns-clause-close
returns-clause-close c = subst AreClose (sym (returns-clause-value c)) (bounds_are_close c.args.g)

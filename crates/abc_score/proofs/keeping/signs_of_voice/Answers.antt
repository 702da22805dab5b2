use Rattle.std.proofs.Common.{[], subst, sym}
use Rattle.std.specs.List.{All}
use Rattle.abc_signs.specs.Signs.{HasDrawableValues}
use Rattle.abc_signs.proofs.Drawn.{signs_drawn}
use Rattle.abc_score.proofs.keeping.signs_of_voice.Goals as goal

pub returns-then-kept-clause-drawn : goal.returns-then-kept-clause-drawn
returns-then-kept-clause-drawn c =
    subst (All HasDrawableValues) (sym (c.requires.kept c.if-kept.true).0)
    (signs_drawn c.args.v.now.first [] c.args.v.now.steps)

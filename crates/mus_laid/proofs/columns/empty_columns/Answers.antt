use Rattle.std.proofs.Common.{◌∙◌, [], ◌∷◌, ◌++◌, ap}
use Rattle.mus_laid.proofs.ByColumns.{empty_more}
use Rattle.mus_laid.proofs.columns.empty_columns.Goals as goal

pub loop-i-preserved : goal.loop-i-preserved
loop-i-preserved c =
    empty_more c.loop-i.columns c.push.new.self c.loop-i.i c.loop-i.invariant
    (c.in_ok-push.ensures.ok ∙ ap (λ t. c.loop-i.columns ++ t ∷ []) c.in_ok-with_room.ensures)

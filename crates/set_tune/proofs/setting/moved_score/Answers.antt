use Rattle.std.proofs.Common.{rules, ◌≡◌, subst, Some, to_z, of_z, w8}
use Rattle.mus_transpose.specs.Moved.{IsMoved}
use Rattle.mus_drawn.specs.Sounds.{sounds_of}
use Rattle.law_transposition.specs.Higher.{AreHigher}
use Rattle.set_tune.proofs.setting.moved_score.Goals as goal

pub returns-in-Ok-move_score-clause-score : goal.returns-in-Ok-move_score-clause-score
returns-in-Ok-move_score-clause-score c =
    let whole : to_z w8 (of_z w8 c.args.how.by) ≡ c.args.how.by = search rules in record {
      written = c.in-Ok.read.1;
      is = c.in-Ok.ensures.score;
      drawn = c.in-Ok-draw_score.drawn;
      draws = c.in-Ok-draw_score.ensures.drawn;
      moved =
          subst (λ by. IsMoved c.in-Ok-draw_score.drawn c.in-Ok.read.0.key by (Some c.in-Ok-move_score.score)) whole
          c.in-Ok-move_score.ensures.moved;
      sounds =
          subst (λ by. AreHigher by (sounds_of c.in-Ok-draw_score.drawn) (sounds_of c.in-Ok-move_score.score)) whole
          c.in-Ok-move_score.ensures.sounds;
      good = c.in-Ok-move_score.ensures.good;
    }

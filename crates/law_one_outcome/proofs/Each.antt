-- Each stage of a tune has one result.
use Rattle.law_one_outcome.specs.Stages.{EachStageHasOneResult}
use Rattle.law_one_outcome.proofs.Bodies.{has_body}
use Rattle.law_one_outcome.proofs.Draws.{one_drawn}
use Rattle.law_one_outcome.proofs.Headers.{has_header}
use Rattle.law_one_outcome.proofs.Layouts.{one_laid}
use Rattle.law_one_outcome.proofs.Moves.{one_moved}
use Rattle.law_one_outcome.proofs.Scores.{has_score}

pub each_stage : EachStageHasOneResult
each_stage = record {
  header = has_header;
  body = has_body;
  score = has_score;
  drawn = one_drawn;
  moved = one_moved;
  layout = one_laid;
}

use Rattle.std.proofs.Common.{length, All}
use Rattle.abc_music.specs.Tokens.{IsWithinLine}
use Rattle.abc_items.specs.Good.{IsGoodItem}
use Rattle.abc_items.proofs.MusicLaws.{LineStage}
use Rattle.abc_items.proofs.body.read_music_line.Given as goal

abbrev pub invariant-loop-part : goal.invariant-loop-part
invariant-loop-part l = record {
  stage : LineStage l.breaks l.line l.fn.body l.place l.body;
  within : IsWithinLine l.line l.place;
  good : All IsGoodItem l.body.items;
}

abbrev pub decreases-loop-part : goal.decreases-loop-part
decreases-loop-part l = length l.place.rest.now

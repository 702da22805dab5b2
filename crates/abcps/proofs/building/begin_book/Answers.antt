use Rattle.std.proofs.Common.{◌∙◌, refl}
use Rattle.abcps.proofs.Batches.{none_reported}
use Rattle.abcps.proofs.building.begin_book.Goals as goal

pub returns-clause-begun : goal.returns-clause-begun
returns-clause-begun g c plan paper rises = record {
  pressed = c.new_builder.ensures.pressed plan paper rises;
  free = c.new_builder.ensures.open;
  reported = c.new.ensures ∙ none_reported;
  refused = refl;
  uncounted = c.in_ok-writer.ensures.writer.pages_now;
}

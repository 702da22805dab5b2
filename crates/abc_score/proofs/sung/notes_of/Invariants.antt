use Rattle.{std.proofs.Common.{◌≡◌, ◌++◌, ◌+◌, drop}, abc_score.specs.Score.{event_count, sung_notes_from}}
use Rattle.abc_score.proofs.sung.notes_of.Given as goal

abbrev pub invariant-loop-sign : goal.invariant-loop-sign
invariant-loop-sign l =
    record {
      notes : l.at.notes ++ sung_notes_from l.at.events (drop l.sign-index l.signs) ≡ sung_notes_from 0 l.signs;
      events : l.at.events + event_count (drop l.sign-index l.signs) ≡ event_count l.signs;
    }

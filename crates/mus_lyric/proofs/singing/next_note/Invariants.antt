use Rattle.std.proofs.Common.{◌≡◌, length}
use Rattle.mus_lyric.specs.Singing.{notes_from}
use Rattle.mus_lyric.proofs.singing.next_note.Given as goal

abbrev pub invariant-notes : goal.invariant-notes
invariant-notes l = notes_from l.count l.left ≡ notes_from l.count l.notes

abbrev pub decreases-notes : goal.decreases-notes
decreases-notes l = length l.left

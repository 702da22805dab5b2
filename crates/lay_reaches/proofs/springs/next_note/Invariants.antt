use Rattle.std.{proofs.Common.◌≡◌, proofs.Common.drop, specs.List.find}
use Rattle.lay_reaches.specs.Naturals.{is_note_of}
use Rattle.lay_reaches.proofs.springs.next_note.Given as goal

abbrev pub invariant-loop-key : goal.invariant-loop-key
invariant-loop-key l =
    find (is_note_of l.measure) (drop l.key-index l.following) ≡ find (is_note_of l.measure) l.following

use Rattle.std.proofs.Common.{◌≡◌}
use Rattle.lay_shared.{specs.Alike.story_at, proofs.EachLaws.Settles}
use Rattle.lay_shared.proofs.alike.are_like.Given as goal

abbrev pub invariant-loop-other : goal.invariant-loop-other
invariant-loop-other l = Settles (λ w. story_at l.voices l.place ≡ story_at l.voices w) l.others l.other-index

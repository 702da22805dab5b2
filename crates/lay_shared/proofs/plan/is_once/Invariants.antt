use Rattle.std.proofs.Common.{◌≡◌, length}
use Rattle.lay_shared.specs.Reading.{is_once}
use Rattle.lay_shared.proofs.plan.is_once.Given as goal

abbrev pub invariant-voices : goal.invariant-voices
invariant-voices l = is_once l.left ≡ is_once l.voices

abbrev pub decreases-voices : goal.decreases-voices
decreases-voices l = length l.left

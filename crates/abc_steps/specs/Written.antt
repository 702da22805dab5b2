-- The state of a voice, by which the program computes, is what the music says: what is in force, and what the open
-- tuplets take.
use Rattle.std.specs.Prelude.{◌≡◌, ℕ, true}
use Rattle.abc_steps.specs.declared.force.InForce.{InForce}
use Rattle.abc_steps.specs.Force.{force_at}
use Rattle.abc_steps.specs.Looks.{Steps}
use Rattle.abc_steps.specs.Said.{IsAllInForce}
use Rattle.abc_steps.specs.Taking.{AreWellOpened, StandsIn, still_taken, tuplets_taking}
use Rattle.abc_steps.specs.Tuplets.{fits, open_tuplets_at}

pub record IsStateAsWritten : Type 0 where
  -- in force is what the last fields name, and nothing else
  pub force : (first : InForce) (before : Steps) → IsAllInForce first before (force_at first before)
  -- if each tuplet has an event and stands in at most one other, the open ones take their events less those since
  pub taking : (before : Steps) → AreWellOpened before → open_tuplets_at before ≡ tuplets_taking (still_taken before)
  -- then a further tuplet fits exactly if it too stands in at most one other
  pub fits : (r : ℕ) (before : Steps) → AreWellOpened before
      → (fits r (open_tuplets_at before) ≡ true → StandsIn r (still_taken before))
      × (StandsIn r (still_taken before) → fits r (open_tuplets_at before) ≡ true)

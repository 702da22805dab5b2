-- The cost of a span with a force: the square of the distance of the force from 256, and four times that below 256.
-- In a last span a force of 256 or more counts as 256.
use Rattle.std.specs.Prelude.{ℕ, ◌-◌, ◌*◌, Bool, nat_le, if◌then◌else◌}
use Rattle.lay_springs.specs.Fit.{counted}

abbrev pub badness_at : ℕ → ℕ
badness_at force = if nat_le 256 force then (force - 256) * (force - 256) else 4 * ((256 - force) * (256 - force))

abbrev pub badness_of : Bool → ℕ → ℕ
badness_of last force = badness_at (counted last force)

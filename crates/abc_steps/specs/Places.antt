-- The state of a voice at a point: its measure counts, what is in force, and the open tuplets.
use Rattle.std.specs.Prelude.{ℕ, ◌+◌}
use Rattle.abc_steps.specs.declared.force.InForce.{InForce}
use Rattle.abc_steps.specs.Looks.{Steps}
use Rattle.abc_steps.specs.Counts.{counts_of}
use Rattle.abc_steps.specs.Force.{force_at}
use Rattle.abc_steps.specs.Tuplets.{open_tuplets_at}
use Rattle.abc_steps.specs.declared.state.VoiceState.{VoiceState}

abbrev pub state_at : InForce → Steps → VoiceState
state_at first before =
    record { counts = counts_of before; force = force_at first before; taking = open_tuplets_at before }

-- the measure of an event at this point, from 0; for several whole measure rests, that of the first
abbrev pub measure_of : VoiceState → ℕ
measure_of now = now.counts.groups + now.counts.further

-- What an error of `least` says. `NoWay`: no legal breaking exists, and how far a legal prefix goes. `Memory`:
-- nothing.
use Rattle.std.specs.Prelude.{ℕ, Bool, Option}
use Rattle.lay_breaks.specs.Breaking.{NoneLegal, IsReached}
use Rattle.lay_breaks.specs.declared.breaking.BreakError.{BreakError}
use Rattle.lay_breaks.specs.declared.breaking.BreakError.TheVariants.{NoWay, Memory}

abbrev pub IsCause : (ℕ → ℕ → Option ℕ) → (ℕ → Bool) → ℕ → BreakError → Type 0
IsCause cost forced n (NoWay reached) = NoneLegal cost forced n × IsReached cost forced n reached
IsCause cost forced n Memory = Unit {0}

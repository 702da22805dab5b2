-- What a call of an in-memory source or sink leaves unchanged, and when a failed write counts as refused.
use Rattle.std.specs.Prelude.{◌≡◌, ℕ, ◌+◌, ◌-◌, ◌^◌, min, Result, Ok, Err}
use Rattle.eng_io.specs.{declared.memory.MemSource.MemSource, declared.memory.MemSink.MemSink}

-- the bytes, the piece size and the failing calls are unchanged
pub record IsSameSource (old new : MemSource) : Type 0 where
  pub bytes : new.bytes ≡ old.bytes
  pub piece : new.piece ≡ old.piece
  pub fails : new.fails ≡ old.fails

pub record IsSameSink (old new : MemSink) : Type 0 where
  pub piece : new.piece ≡ old.piece
  pub fails : new.fails ≡ old.fails

-- the count of refusals rises exactly when a call failed that wasn't numbered to fail
abbrev pub Refused : {T E : Type 0} → Type 0 → ℕ → ℕ → Result T E → Type 0
Refused numbered before now (Ok n) = now ≡ before
Refused numbered before now (Err e) = (numbered → now ≡ before) × (¬ numbered → now ≡ min (before + 1) (2 ^ 64 - 1))

-- The rank of a column: the number of columns of its system before it.
use Rattle.std.specs.Prelude.{ℕ, ◌<◌, List, length}
use Rattle.mus_onsets.specs.declared.keys.Class.{Class}
use Rattle.mus_onsets.specs.declared.keys.ColumnKey.{ColumnKey}
use Rattle.mus_onsets.specs.Keys.{key_at}
use Rattle.mus_onsets.specs.Order.{Rises, key_rank}

-- the keys of a system: they rise, and their ranks fit in 32 bits
pub record AreRanked (keys : List ColumnKey) : Type 0 where
  pub rise : Rises keys
  pub few : length keys < 4294967296

abbrev pub rank_at : List ColumnKey → ℕ → ℕ → Class → ℕ → ℕ
rank_at keys measure tick class place = key_rank keys (key_at measure tick class place)

use Rattle.std.proofs.Common.{◌≡◌, ◌<◌, ℕ, length, slice_index_or}
use Rattle.abc_words.specs.Words.{no_music}
use Rattle.abc_words.proofs.music.empty_rows.Given as goal

abbrev pub invariant-loop-k : goal.invariant-loop-k
invariant-loop-k l = record {
  len : length l.rows.items ≡ l.k;
  empty : (j : ℕ) → j < l.k → slice_index_or l.rows.items j no_music ≡ no_music;
}

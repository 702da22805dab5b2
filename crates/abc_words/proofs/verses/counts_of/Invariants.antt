use Rattle.std.proofs.Common.{◌≡◌, ◌<◌, ℕ, length, take, slice_index}
use Rattle.abc_words.specs.Verses.{number_on}
use Rattle.abc_words.proofs.verses.counts_of.Given as goal

abbrev pub invariant-loop-verse : goal.invariant-loop-verse
invariant-loop-verse l = record {
  len : length l.counts.items ≡ l.rows;
  counts : (k : ℕ) → k < l.rows → slice_index l.counts.items k ≡ number_on k (take l.verse-index l.verses);
}

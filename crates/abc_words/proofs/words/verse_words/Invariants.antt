use Rattle.std.proofs.Common.{◌≡◌, ◌<◌, ℕ, None, length, slice_index_or}
use Rattle.std.specs.Option.{option_or}
use Rattle.std.specs.Vec.Iter.{into_iter_items, into_iter_len}
use Rattle.abc_words.specs.Words.{word_of}
use Rattle.abc_words.proofs.words.verse_words.Given as goal

abbrev pub invariant-loop-one : goal.invariant-loop-one
invariant-loop-one l = record {
  len : length l.words.items ≡ l.count;
  words : (k : ℕ) → k < l.count
      → option_or (slice_index_or l.words.items k None) (word_of (into_iter_items l.one-iterator) k)
      ≡ word_of (into_iter_items l.initial.one-iterator) k;
  left : into_iter_len l.one-iterator ≡ length (into_iter_items l.one-iterator);
}

use Rattle.std.{proofs.Common.{◌≡◌, ◌<◌, ℕ, length, slice_index_or}, specs.Vec.Iter.{into_iter_items, into_iter_len}}
use Rattle.abc_words.specs.Words.{no_music, texts_on, row_with_texts}
use Rattle.abc_words.proofs.music.put_texts.Given as goal

abbrev pub invariant-loop-verse : goal.invariant-loop-verse
invariant-loop-verse l = record {
  len : length l.rows.items ≡ length l.fn.rows.items;
  rows : (k : ℕ) → k < length l.fn.rows.items
      → row_with_texts (slice_index_or l.rows.items k no_music) (texts_on k (into_iter_items l.verse-iterator))
      ≡ row_with_texts (slice_index_or l.fn.rows.items k no_music)
      (texts_on k (into_iter_items l.initial.verse-iterator));
  count : into_iter_len l.verse-iterator ≡ length (into_iter_items l.verse-iterator);
}

use Rattle.std.proofs.Common.{◌≡◌, ◌<◌, ℕ, drop, length, slice_index_or}
use Rattle.abc_words.specs.Words.{no_music, notes_on, row_of, with_notes}
use Rattle.abc_words.proofs.music.put_notes.Given as goal

abbrev pub invariant-loop-note : goal.invariant-loop-note
invariant-loop-note l = record {
  row : l.row ≡ row_of l.ends l.last;
  len : length l.rows.items ≡ length l.fn.rows.items;
  rows : (k : ℕ) → k < length l.fn.rows.items
      → with_notes (slice_index_or l.rows.items k no_music) (notes_on k l.ends (drop l.note-index l.notes))
      ≡ with_notes (slice_index_or l.fn.rows.items k no_music) (notes_on k l.ends l.notes);
}

use Rattle.std.proofs.Common.{◌≡◌, ◌<◌, ℕ, [], length, take, drop, slice_index}
use Rattle.abc_words.specs.Verses.{faults_from, first_verse_fault, number_on}
use Rattle.abc_words.proofs.verses.first_fault.Given as goal

abbrev pub invariant-loop-verse : goal.invariant-loop-verse
invariant-loop-verse l = record {
  len : length l.counts.items ≡ l.rows;
  counts : (k : ℕ) → k < l.rows → slice_index l.counts.items k ≡ number_on k (take l.verse-index l.verses);
  faults : first_verse_fault (faults_from (take l.verse-index l.verses) (drop l.verse-index l.verses))
      ≡ first_verse_fault (faults_from [] l.verses);
}

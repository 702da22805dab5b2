-- How many blocks the tunes of a book have that are set: each page is begun by one, so a book has no more pages.
use Rattle.std.specs.Prelude.{ℕ, List, Bool, not, is_some, count_by, length, ◌+◌, ◌*◌, ◌^◌, ◌<◌, ◌≤◌}
use Rattle.abc_lines.specs.declared.book.TuneText.{TuneText}
use Rattle.abc_lines.specs.Books.{book_of}
use Rattle.abc_fields.specs.Headers.{header_fault}
use Rattle.mus_score.specs.Limits.{measure_limit}
use Rattle.set_book.specs.declared.outcome.Outcome.{Outcome}
use Rattle.set_book.specs.Outcomes.{AreOutcomes}
use Rattle.set_pages.specs.Drawings.{all_blocks}
use Rattle.set_tune.specs.Terms.{Terms}

-- the tunes without a fault in their header: no other tune is set
abbrev pub is_headed : TuneText → Bool
is_headed tune = not (is_some (header_fault tune))

abbrev pub headed_count : List TuneText → ℕ
headed_count tunes = count_by is_headed tunes

-- as many as a book of at most 8,388,608 bytes may have
abbrev pub AreFew : List TuneText → Type 0
AreFew tunes = headed_count tunes ≤ 2 ^ 21

pub record FewBlocks : Type 0 where
  -- a tune without a fault in its header has an `X:` line and a `K:` line, so it takes four bytes of its book; the last
  -- line needs no line end
  pub bytes : (text : List ℕ) → 4 * headed_count (book_of text).tunes ≤ length text + 1
  -- a tune that is set has at most a block for each of its measures and one for its titles
  pub each : (terms : Terms) (tunes : List TuneText) (outcomes : List Outcome)
      → AreOutcomes terms tunes outcomes → length (all_blocks outcomes) ≤ (measure_limit + 1) * headed_count tunes
  -- so of a book of at most 8,388,608 bytes fewer than 2^32 blocks are set
  pub book : (text : List ℕ) (terms : Terms) (outcomes : List Outcome)
      → length text ≤ 8388608 → AreOutcomes terms (book_of text).tunes outcomes → length (all_blocks outcomes) < 2 ^ 32

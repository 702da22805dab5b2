-- What holds of the entries that the lines so far have listed, and which lines those are.
use Rattle.std.specs.Prelude.{◌≡◌, ℕ, ◌<◌, ◌≤◌, ◌^◌, List, [], ◌∷◌, ◌++◌, length, None, map, slice_index_or}
use Rattle.lay_breaks.specs.Breaking.{IsLegal, last_from, sum_from, IsPotential}
use Rattle.lay_breaks.specs.Spans.{AreSpans, listed}
use Rattle.lay_cert.specs.Listing.{Entry, EntriesFrom, none_forced, entry_lines, all_lines, listing_lines}
use Rattle.lay_cert.specs.ReaderStates.{ReaderState, begun, between, choosing, proving, ended, last_tune_from}
use Rattle.lay_cert.specs.declared.lines.ListingLine.{ListingLine}

-- spans and a legal prefix of a choice, after tunes up to number k
pub record IsBegunEntry (k : ℕ) (e : Entry) : Type 0 where
  pub past : k < e.tune
  pub numbered : e.tune < 2 ^ 32
  pub few : e.bars ≤ 4000
  pub spans : AreSpans e.bars e.spans
  pub choice : IsLegal (listed e.spans) none_forced e.breaks (last_from 0 e.breaks)

-- a complete choice, its total, and the potentials of the first bars
pub record IsProving (k : ℕ) (e : Entry) : Type 0 where
  pub begun : IsBegunEntry k e
  pub ends : last_from 0 e.breaks ≡ e.bars
  pub total : e.total ≡ sum_from (listed e.spans) 0 e.breaks
  pub some_left : length e.potentials ≤ e.bars
  pub potentials : (i : ℕ)
      → i < length e.potentials → IsPotential (listed e.spans) none_forced i (slice_index_or e.potentials i None)

abbrev pub IsGood : ReaderState → Type 0
IsGood begun = Unit {0}
IsGood (between es) = EntriesFrom 0 es
IsGood (choosing es e) = EntriesFrom 0 es × IsBegunEntry (last_tune_from 0 es) e
IsGood (proving es e) = EntriesFrom 0 es × IsProving (last_tune_from 0 es) e
IsGood (ended es) = EntriesFrom 0 es

abbrev pub begun_lines : Entry → List ListingLine
begun_lines e = ListingLine.Tune e.tune e.bars ∷ map ListingLine.OneSpan e.spans ++ map ListingLine.Choose e.breaks

abbrev pub lines_of_state : ReaderState → List ListingLine
lines_of_state begun = []
lines_of_state (between es) = ListingLine.Listing ∷ all_lines es
lines_of_state (choosing es e) = (ListingLine.Listing ∷ all_lines es) ++ begun_lines e
lines_of_state (proving es e) = (ListingLine.Listing ∷ all_lines es) ++ entry_lines e
lines_of_state (ended es) = listing_lines es

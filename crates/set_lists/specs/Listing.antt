-- The listing of a book: the entry of each tune without a fault, in order.
use Rattle.std.specs.Prelude.{◌≡◌, ℕ, ◌<◌, ◌^◌, ⊤, All, List, [], length, Option, Some, None, Result, Ok, Err}
use Rattle.std.specs.List.{filter_map, flat_map}
use Rattle.abc_lines.specs.declared.fault.Fault.{Fault}
use Rattle.lay_breaks.specs.Spans.{AreSpans}
use Rattle.lay_cert.specs.Lines.{lines_then}
use Rattle.lay_cert.specs.Listing.{Entry, entry_lines, listing_lines}
use Rattle.{set_tune.specs.declared.tune.SetTune.{SetTune}, set_book.specs.declared.outcome.Outcome.{Outcome}}

-- what is listed for a tune
abbrev pub entry_of : ℕ → SetTune → Entry
entry_of ordinal t = record {
  tune = ordinal;
  bars = t.score.measures;
  spans = t.spans;
  breaks = t.breaking.breaks;
  total = t.breaking.total;
  potentials = t.breaking.potentials;
}

-- a tune with a fault has no entry
abbrev pub result_entry : ℕ → Result SetTune Fault → Option Entry
result_entry ordinal (Ok t) = Some (entry_of ordinal t)
result_entry ordinal (Err fault) = None

abbrev pub outcome_entry : Outcome → Option Entry
outcome_entry outcome = result_entry outcome.ordinal outcome.result

abbrev pub entries_of : List Outcome → List Entry
entries_of outcomes = filter_map outcome_entry outcomes

-- the lines of each entry, as text
abbrev pub result_text : ℕ → Result SetTune Fault → List ℕ
result_text ordinal (Ok t) = lines_then (entry_lines (entry_of ordinal t)) []
result_text ordinal (Err fault) = []

abbrev pub outcome_text : Outcome → List ℕ
outcome_text outcome = result_text outcome.ordinal outcome.result

unfoldable pub outcomes_text : List Outcome → List ℕ
outcomes_text outcomes = flat_map outcome_text outcomes

abbrev pub listing_text : List Outcome → List ℕ
listing_text outcomes = lines_then (listing_lines (entries_of outcomes)) []

-- what is required of a tune whose systems or listing are written: its spans have their form, each of its systems has
-- places for its columns, and its bars can be numbered
pub record CanBeListed (t : SetTune) : Type 0 where
  pub form : AreSpans t.score.measures t.spans
  pub beside : length t.placed ≡ length t.systems
  pub few : length t.breaking.potentials < 2 ^ 32

abbrev pub IsListable : Result SetTune Fault → Type 0
IsListable (Ok t) = CanBeListed t
IsListable (Err fault) = ⊤

abbrev pub AreListable : List Outcome → Type 0
AreListable outcomes = All (λ outcome. IsListable outcome.result) outcomes

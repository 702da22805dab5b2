-- What a listing is: for each tune, the spans that fit among its bars, a choice of breaks, their total, and the
-- potential of each bar. A breaking of a tune's listing is a rising list of bars that ends with the last bar and
-- whose spans are all listed. No bar is forced.
use Rattle.std.specs.Prelude.{◌≡◌, ℕ, ◌+◌, ◌<◌, ◌≤◌, ◌^◌, Bool, false, List, [], ◌∷◌, ◌++◌, length, Option, None, map}
use Rattle.std.specs.Prelude.{slice_index_or}
use Rattle.lay_breaks.specs.Breaking.{IsLegal, sum_from, IsPotential}
use Rattle.lay_breaks.specs.Spans.{AreSpans, listed}
use Rattle.lay_breaks.specs.declared.costs.Span.{Span}
use Rattle.lay_cert.specs.Lines.{lines_then}
use Rattle.lay_cert.specs.declared.lines.ListingLine.{ListingLine}

abbrev pub none_forced : ℕ → Bool
none_forced b = false

-- what is listed for one tune
pub record Entry : Type 0 where
  pub tune : ℕ
  pub bars : ℕ
  pub spans : List Span
  pub breaks : List ℕ
  pub total : ℕ
  pub potentials : List (Option ℕ)

pub record IsEntry (e : Entry) : Type 0 where
  pub numbered : e.tune < 2 ^ 32
  pub few : e.bars ≤ 4000
  pub spans : AreSpans e.bars e.spans
  pub choice : IsLegal (listed e.spans) none_forced e.breaks e.bars
  pub total : e.total ≡ sum_from (listed e.spans) 0 e.breaks
  pub one_each : length e.potentials ≡ e.bars + 1
  pub potentials : (i : ℕ)
      → i ≤ e.bars → IsPotential (listed e.spans) none_forced i (slice_index_or e.potentials i None)

-- the numbers of the tunes rise, the first past k
abbrev pub EntriesFrom : ℕ → List Entry → Type 0
EntriesFrom k [] = Unit {0}
EntriesFrom k (e ∷ es) = (k < e.tune) × IsEntry e × EntriesFrom e.tune es

abbrev pub potential_lines : ℕ → List (Option ℕ) → List ListingLine
potential_lines i [] = []
potential_lines i (p ∷ ps) = ListingLine.Potential i p ∷ potential_lines (i + 1) ps

-- the lines of one tune
abbrev pub entry_lines : Entry → List ListingLine
entry_lines e =
    ListingLine.Tune e.tune e.bars ∷ map ListingLine.OneSpan e.spans ++ map ListingLine.Choose e.breaks
    ++ ListingLine.Total e.total ∷ potential_lines 0 e.potentials

abbrev pub all_lines : List Entry → List ListingLine
all_lines [] = []
all_lines (e ∷ es) = entry_lines e ++ all_lines es

-- the lines of the whole listing
abbrev pub listing_lines : List Entry → List ListingLine
listing_lines es = ListingLine.Listing ∷ all_lines es ++ ListingLine.End ∷ []

-- the lines of the entries, as text
abbrev pub entries_text : List Entry → List ℕ
entries_text [] = []
entries_text (e ∷ es) = lines_then (entry_lines e) [] ++ entries_text es

-- the text lists these entries
pub record IsListing (text : List ℕ) (es : List Entry) : Type 0 where
  pub entries : EntriesFrom 0 es
  pub lines : text ≡ lines_then (listing_lines es) []

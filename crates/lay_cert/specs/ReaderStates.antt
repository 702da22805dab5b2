-- Which line may follow which: the lines of a listing, each judged by the lines before it alone.
use Rattle.std.specs.Prelude.{◌≡◌, ℕ, ◌<◌, ◌≤◌, ◌^◌, ◌==◌, List, [], ◌∷◌, ◌++◌, length, Option, Some, None, IsSome}
use Rattle.std.specs.Prelude.{if◌then◌else◌}
use Rattle.eng_reader.specs.Grammar.{Grammar}
use Rattle.lay_breaks.specs.Breaking.{last_from, sum_from, IsPotential}
use Rattle.lay_breaks.specs.Spans.{MayFollow, listed}
use Rattle.lay_breaks.specs.declared.costs.Span.{Span}
use Rattle.lay_cert.specs.Lines.{line_text}
use Rattle.lay_cert.specs.Listing.{Entry, none_forced}
use Rattle.lay_cert.specs.declared.lines.ListingLine.{ListingLine}

-- What the lines so far have said: nothing; whole entries; these and the spans and breaks of one more; these and its
-- total and the potentials of its first bars; everything.
pub data ReaderState : Type 0 where
  begun : ReaderState
  between : (es : List Entry) → ReaderState
  choosing : (es : List Entry) (e : Entry) → ReaderState
  proving : (es : List Entry) (e : Entry) → ReaderState
  ended : (es : List Entry) → ReaderState

abbrev pub last_tune_from : ℕ → List Entry → ℕ
last_tune_from k [] = k
last_tune_from k (e ∷ es) = last_tune_from e.tune es

abbrev pub last_span_from : Option Span → List Span → Option Span
last_span_from last [] = last
last_span_from last (s ∷ ss) = last_span_from (Some s) ss

-- The line may come next. A tune's number is past that of the tune before. A span comes before any break, and in the
-- order of the list of spans. A break comes only if the span from the break before it, or from 0, is listed. The
-- total comes only if the last break is the last bar, and only as the sum. A potential comes only for the next bar,
-- and only as the least sum.
abbrev pub MayCome : ReaderState → ListingLine → Type 0
MayCome begun ListingLine.Listing = Unit {0}
MayCome (between es) (ListingLine.Tune tune bars) = (last_tune_from 0 es < tune) × (tune < 2 ^ 32) × (bars ≤ 4000)
MayCome (between es) ListingLine.End = Unit {0}
MayCome (choosing es e) (ListingLine.OneSpan s) = (e.breaks ≡ []) × MayFollow e.bars (last_span_from None e.spans) s
MayCome (choosing es e) (ListingLine.Choose bar) = IsSome (listed e.spans (last_from 0 e.breaks) bar)
MayCome (choosing es e) (ListingLine.Total total) =
    (last_from 0 e.breaks ≡ e.bars) × (total ≡ sum_from (listed e.spans) 0 e.breaks)
MayCome (proving es e) (ListingLine.Potential bar least) =
    (bar ≡ length e.potentials) × IsPotential (listed e.spans) none_forced bar least
MayCome p l = ⊥

-- one more potential: the entry is complete with the potential of its last bar
abbrev pub with_potential : List Entry → Entry → Option ℕ → ReaderState
with_potential es e p =
    let more : Entry = record {
      tune = e.tune;
      bars = e.bars;
      spans = e.spans;
      breaks = e.breaks;
      total = e.total;
      potentials = e.potentials ++ p ∷ [];
    } in
    if length e.potentials == e.bars then between (es ++ more ∷ []) else proving es more

-- the state after the line
abbrev pub state_after : ReaderState → ListingLine → ReaderState
state_after begun ListingLine.Listing = between []
state_after (between es) (ListingLine.Tune tune bars) =
    choosing es (record { tune = tune; bars = bars; spans = []; breaks = []; total = 0; potentials = [] })
state_after (between es) ListingLine.End = ended es
state_after (choosing es e) (ListingLine.OneSpan s) =
    choosing es
    (record { tune = e.tune; bars = e.bars; spans = e.spans ++ s ∷ []; breaks = e.breaks; total = 0; potentials = [] })
state_after (choosing es e) (ListingLine.Choose bar) =
    choosing es
    (record {
      tune = e.tune;
      bars = e.bars;
      spans = e.spans;
      breaks = e.breaks ++ bar ∷ [];
      total = 0;
      potentials = [];
    })
state_after (choosing es e) (ListingLine.Total total) =
    proving es
    (record { tune = e.tune; bars = e.bars; spans = e.spans; breaks = e.breaks; total = total; potentials = [] })
state_after (proving es e) (ListingLine.Potential bar least) = with_potential es e least
state_after p l = p

-- the lines of listings
abbrev pub listings : Grammar
listings = record {
  State = ReaderState;
  Line = ListingLine;
  Whole = List Entry;
  line_text = line_text;
  begun = begun;
  ended = ended;
  MayCome = MayCome;
  state_after = state_after;
}

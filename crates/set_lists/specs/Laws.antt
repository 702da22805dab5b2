-- The laws of the listing of a book.
use Rattle.std.specs.Prelude.{◌≡◌, ℕ, ◌<◌, ◌≤◌, ◌^◌, ◌↔◌, ⊤, All, List, [], ◌∷◌, length, Result, Ok, Err}
use Rattle.std.specs.List.{AllZip}
use Rattle.abc_lines.specs.declared.book.TuneText.{TuneText}
use Rattle.abc_lines.specs.declared.fault.Fault.{Fault}
use Rattle.abc_lines.specs.declared.fault.FaultKind.{FaultKind}
use Rattle.abc_lines.specs.Books.{book_of}
use Rattle.abc_fields.specs.declared.header.Header.{Header}
use Rattle.abc_fields.specs.declared.paper.Paper.{Paper}
use Rattle.abc_fields.specs.Papers.{body_width}
use Rattle.mus_score.specs.declared.score.Score.{Score}
use Rattle.lay_breaks.specs.declared.costs.Span.{Span}
use Rattle.lay_breaks.specs.Breaking.{IsLegal}
use Rattle.lay_breaks.specs.Spans.{AreSpans, listed}
use Rattle.lay_tune.specs.Breakings.{IsLegalIn, IsReachedIn}
use Rattle.lay_tune.specs.Spans.{AreSpansOf}
use Rattle.lay_cert.specs.Listing.{IsListing, none_forced}
use Rattle.set_tune.specs.Terms.{Terms}
use Rattle.set_tune.specs.declared.tune.SetTune.{SetTune}
use Rattle.set_tune.specs.Setting.{HasScore, layout_fault}
use Rattle.set_book.specs.declared.outcome.Outcome.{Outcome}
use Rattle.set_book.specs.Outcomes.{AreOutcomes}
use Rattle.set_lists.specs.Listing.{AreListable, entries_of, listing_text}

-- the numbers of the tunes rise, the first past k, and have 32 bits
abbrev pub OrdinalsRise : ℕ → List Outcome → Type 0
OrdinalsRise k [] = ⊤
OrdinalsRise k (o ∷ os) = (k < o.ordinal) × (o.ordinal < 2 ^ 32) × OrdinalsRise o.ordinal os

-- the numbers of the tunes of a book rise
abbrev pub BookRises : Type 0
BookRises =
    (bytes : List ℕ) (terms : Terms) (outcomes : List Outcome)
    → length bytes ≤ 2 ^ 30 → AreOutcomes terms (book_of bytes).tunes outcomes → OrdinalsRise 0 outcomes

-- outcomes of tunes can be listed
abbrev pub OutcomesAreListable : Type 0
OutcomesAreListable =
    (terms : Terms) (tunes : List TuneText) (outcomes : List Outcome)
    → AreOutcomes terms tunes outcomes → AreListable outcomes

-- what is written for tunes whose numbers rise is a listing, and it lists the tunes without a fault
abbrev pub ListsTheSet : Type 0
ListsTheSet =
    (terms : Terms) (tunes : List TuneText) (outcomes : List Outcome)
    → AreOutcomes terms tunes outcomes → OrdinalsRise 0 outcomes
    → IsListing (listing_text outcomes) (entries_of outcomes)

-- the breakings of a tune's entry, in which no bar is forced, are the legal breakings of its score
abbrev pub BreakingsOfListing : Type 0
BreakingsOfListing = (s : Score) (width : ℕ) (spans : List Span) → AreSpans s.measures spans → AreSpansOf s width spans
    → (breaks : List ℕ) → IsLegal (listed spans) none_forced breaks s.measures ↔ IsLegalIn s width breaks

-- The breakings of the entry of a tune that is set are the legal breakings of its score on this width.
abbrev pub HasItsBreakings : ℕ → Result SetTune Fault → Type 0
HasItsBreakings width (Ok t) =
    (breaks : List ℕ) → IsLegal (listed t.spans) none_forced breaks t.score.measures ↔ IsLegalIn t.score width breaks
HasItsBreakings width (Err fault) = ⊤

-- The text is a listing of the tunes that are set, and the breakings that it lists are those of their scores.
pub record ListsTheScores (paper : Paper) (text : List ℕ) (outcomes : List Outcome) : Type 0 where
  pub listing : IsListing text (entries_of outcomes)
  pub breakings : All (λ outcome. HasItsBreakings (body_width paper) outcome.result) outcomes

-- what is written for a book is such a listing
abbrev pub ListsTheBook : Type 0
ListsTheBook =
    (bytes : List ℕ) (terms : Terms) (outcomes : List Outcome)
    → length bytes ≤ 2 ^ 30 → AreOutcomes terms (book_of bytes).tunes outcomes
    → ListsTheScores terms.paper (listing_text outcomes) outcomes

-- the tune is reported to have no way past this bar
abbrev pub HasNoWayPast : TuneText → Outcome → ℕ → Type 0
HasNoWayPast tune outcome reached = outcome.result ≡ Err (layout_fault tune (FaultKind.NoWay reached))

-- The tune of the score is reported to have no way exactly when the score has no legal breaking on the width; the bar
-- that is reported is the greatest at which a legal prefix of the score ends.
pub record ReportsNoWay (tune : TuneText) (outcome : Outcome) (score : Score) (width : ℕ) : Type 0 where
  pub exact : ((reached : ℕ) × HasNoWayPast tune outcome reached)
      ↔ ((breaks : List ℕ) → IsLegalIn score width breaks → ⊥)
  pub furthest : (reached : ℕ) → HasNoWayPast tune outcome reached → IsReachedIn score width reached

-- the same on the width of the body, if the tune has a score
abbrev pub ReportsIfScored : Terms → TuneText → Outcome → Type 0
ReportsIfScored terms tune outcome =
    (header : Header) (score : Score)
    → HasScore tune terms.defaults terms.manner header score
    → ReportsNoWay tune outcome score (body_width terms.paper)

abbrev pub ReportNoWays : Terms → List TuneText → List Outcome → Type 0
ReportNoWays terms tunes outcomes = AllZip (ReportsIfScored terms) tunes outcomes

-- the outcomes of some tunes report so
abbrev pub NoWayIsExact : Type 0
NoWayIsExact =
    (terms : Terms) (tunes : List TuneText) (outcomes : List Outcome)
    → AreOutcomes terms tunes outcomes → ReportNoWays terms tunes outcomes

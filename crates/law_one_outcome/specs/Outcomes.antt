-- A tune has exactly one outcome: how it is set, or its fault, follows from the tune and its terms alone. So a book has
-- exactly one list of outcomes, however many jobs set it and whether or not there is memory to compute it.
use Rattle.std.specs.Prelude.{◌≡◌, ℕ, List}
use Rattle.abc_lines.specs.declared.book.TuneText.{TuneText}
use Rattle.abc_lines.specs.declared.fault.Fault.{Fault}
use Rattle.abc_lines.specs.declared.fault.TuneError.{TuneError}
use Rattle.abc_lines.specs.Books.{book_of}
use Rattle.abc_lines.specs.Results.{HasOneResult}
use Rattle.abc_fields.specs.declared.defaults.Defaults.{Defaults}
use Rattle.abc_fields.specs.declared.header.Header.{Header}
use Rattle.abc_fields.specs.Defaults.{defaults_of}
use Rattle.abc_fields.specs.Good.{IsGoodDefaults}
use Rattle.abc_fields.specs.Papers.{paper_of}
use Rattle.mus_score.specs.declared.score.Score.{Score}
use Rattle.mus_laid.specs.declared.laid.SystemMarks.{SystemMarks}
use Rattle.lay_tune.specs.Spans.{IsSystemOf}
use Rattle.set_tune.specs.Terms.{Manner, Terms, terms_by}
use Rattle.set_tune.specs.Setting.{HasScore, IsMovedRefusal}
use Rattle.set_book.specs.{declared.outcome.Outcome.Outcome, Outcomes.{AreOutcomes, IsResult}}
use Rattle.law_one_outcome.specs.Said.{IsReadAsSaid}

-- the one system of these measures of a score
pub record IsOneSystem (score : Score) (a b : ℕ) (marks : SystemMarks) : Type 0 where
  pub is : IsSystemOf score a b marks
  pub only : (other : SystemMarks) → IsSystemOf score a b other → other ≡ marks

-- the terms of a book: those of its file header
abbrev pub book_terms : List ℕ → Manner → Terms
book_terms text manner = terms_by (defaults_of (book_of text).header) (paper_of (book_of text).header) manner

pub record EveryTuneHasOneOutcome : Type 0 where
  -- under good defaults, as every file header gives them, a tune is set in one way or has one fault, and never both
  pub tune : (tune : TuneText) (terms : Terms) → IsGoodDefaults terms.defaults → HasOneResult (IsResult tune terms)
  -- and each book has outcomes, on its paper and under its file header
  pub book : (text : List ℕ) (manner : Manner)
      → (os : List Outcome) × AreOutcomes (book_terms text manner) (book_of text).tunes os
  -- some tunes have at most one list of outcomes, under any terms
  pub only : (terms : Terms) (tunes : List TuneText) (os others : List Outcome)
      → AreOutcomes terms tunes os → AreOutcomes terms tunes others → os ≡ others
  -- a tune has one score
  pub score : (tune : TuneText) (defaults : Defaults) (manner : Manner) (h k : Header) (s t : Score)
      → HasScore tune defaults manner h s → HasScore tune defaults manner k t → s ≡ t
  -- a tune that has a score has no fault of its header, its body or its score
  pub scored : (tune : TuneText) (defaults : Defaults) (manner : Manner) (h : Header) (s : Score) (f : Fault)
      → HasScore tune defaults manner h s → IsMovedRefusal tune defaults manner (TuneError.Fault f) → ⊥
  -- a score calls for one system of any measures
  pub system : (s : Score) (a b : ℕ) → (m : SystemMarks) × IsOneSystem s a b m
  -- and what is read of the lines of tunes, by which the outcomes are defined, is exactly what the lines say
  pub said : IsReadAsSaid

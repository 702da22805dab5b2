-- What is written for a book is a listing of its scores' breakings, and no way is reported exactly when a score has
-- none.
use Rattle.std.proofs.Common.{◌≡◌, refl, ap, subst, inl, inr, ℕ, List, [], ◌∷◌, Result, Ok, Err}
use Rattle.std.proofs.lemmas.List.Elements.{All-cons, All-nil}
use Rattle.std.specs.List.{All}
use Rattle.abc_lines.specs.declared.book.TuneText.{TuneText}
use Rattle.abc_lines.specs.declared.fault.Fault.{Fault}
use Rattle.abc_lines.specs.declared.fault.FaultKind.{FaultKind}
use Rattle.abc_lines.specs.Books.{book_of}
use Rattle.abc_fields.specs.declared.header.Header.{Header}
use Rattle.abc_fields.specs.Papers.{body_width}
use Rattle.mus_score.specs.declared.score.Score.{Score}
use Rattle.lay_breaks.specs.declared.costs.Span.{Span}
use Rattle.lay_tune.specs.Breakings.{IsLegalIn}
use Rattle.lay_tune.specs.Layout.{IsNoWay}
use Rattle.set_tune.specs.Terms.{Terms}
use Rattle.set_tune.specs.declared.tune.SetTune.{SetTune}
use Rattle.set_tune.specs.Setting.{HasScore, IsFaultOfTune, IsLaidTune, layout_fault, no_way, of_header, of_move}
use Rattle.set_tune.specs.Setting.{of_score, of_share, too_tall}
use Rattle.set_book.specs.declared.outcome.Outcome.{Outcome}
use Rattle.set_book.specs.Outcomes.{AreOutcomes, IsOutcome, IsResult}
use Rattle.law_one_outcome.proofs.Outcomes.{no_refusal, one_music}
use Rattle.set_lists.specs.Laws.{HasItsBreakings, HasNoWayPast, ListsTheBook, NoWayIsExact, ReportsNoWay}
use Rattle.set_lists.proofs.Legal.{breakings_of_listing}
use Rattle.set_lists.proofs.Numbers.{book_rises}
use Rattle.set_lists.proofs.Reported.{lists_the_set}

-- ---- the listing of a book
module _ (terms : Terms) where
  its_breakings : (tune : TuneText) (r : Result SetTune Fault)
      → IsResult tune terms r → HasItsBreakings (body_width terms.paper) r
  its_breakings tune (Ok t) is =
      breakings_of_listing t.score (body_width terms.paper) t.spans is.laid.layout.form is.laid.layout.spans
  its_breakings tune (Err fault) is = tt

  all_breakings : (tunes : List TuneText) (os : List Outcome)
      → AreOutcomes terms tunes os → All (λ o. HasItsBreakings (body_width terms.paper) o.result) os
  all_breakings [] [] h = All-nil (λ o. HasItsBreakings (body_width terms.paper) o.result)
  all_breakings (t ∷ ts) (o ∷ os) h =
      All-cons (λ o. HasItsBreakings (body_width terms.paper) o.result) o os (its_breakings t o.result h.0.result)
      (all_breakings ts os h.1)
  all_breakings ts os h = absurd h

pub lists_the_book : ListsTheBook
lists_the_book bytes terms outcomes short set = record {
  listing = lists_the_set terms (book_of bytes).tunes outcomes set (book_rises bytes terms outcomes short set);
  breakings = all_breakings terms (book_of bytes).tunes outcomes set;
}

-- ---- no way
module _ (tune : TuneText) (terms : Terms) (header : Header) (score : Score)
    (has : HasScore tune terms.defaults terms.manner header score) where
  -- a score that is laid out has a legal breaking
  laid_legal : (t : SetTune) → IsLaidTune tune terms t → IsLegalIn score (body_width terms.paper) t.breaking.breaks
  laid_legal t laid =
      subst (λ s. IsLegalIn s (body_width terms.paper) t.breaking.breaks)
      (one_music tune terms.defaults terms.manner t.header header t.score score laid.score has) laid.layout.least.legal

  -- what is reported to have no way is reported so of this score
  reported : (f : Fault) (reached : ℕ)
      → f.kind ≡ FaultKind.NoWay reached → IsFaultOfTune tune terms f
      → (spans : List Span) × IsNoWay score (body_width terms.paper) reached spans
  reported _ reached e (of_header f fault) =
      absurd (no_refusal tune terms.defaults terms.manner header score f has (inl (inl fault)))
  reported _ reached e (of_score h f read fault) =
      absurd (no_refusal tune terms.defaults terms.manner header score f has (inl (inr (h, read, fault))))
  reported _ reached e (of_share f c) =
      absurd (no_refusal tune terms.defaults terms.manner header score f has (inr (inl c)))
  reported _ reached e (of_move c) = let clash : FaultKind.BadMove ≡ FaultKind.NoWay reached = e in absurd cc
  reported _ reached e (no_way h s i spans scored way) =
      let same : FaultKind.NoWay i ≡ FaultKind.NoWay reached = e in
      let bar : i ≡ reached = cc in
      let here = one_music tune terms.defaults terms.manner h header s score scored has in (
        spans,
        subst (λ n. IsNoWay score (body_width terms.paper) n spans) bar
            (subst (λ x. IsNoWay x (body_width terms.paper) i spans) here way),
      )
  reported _ reached e (too_tall t block laid tall) =
      let clash : FaultKind.TooTall block ≡ FaultKind.NoWay reached = e in absurd cc

  came_by : (f : Fault) → IsFaultOfTune tune terms f
      → ((breaks : List ℕ) → IsLegalIn score (body_width terms.paper) breaks → ⊥)
      → (reached : ℕ) × (f ≡ layout_fault tune (FaultKind.NoWay reached))
  came_by _ (of_header f fault) none =
      absurd (no_refusal tune terms.defaults terms.manner header score f has (inl (inl fault)))
  came_by _ (of_score h f read fault) none =
      absurd (no_refusal tune terms.defaults terms.manner header score f has (inl (inr (h, read, fault))))
  came_by _ (of_share f c) none = absurd (no_refusal tune terms.defaults terms.manner header score f has (inr (inl c)))
  came_by _ (of_move c) none =
      absurd (no_refusal tune terms.defaults terms.manner header score (layout_fault tune FaultKind.BadMove) has
      (inr (inr (c, refl))))
  came_by _ (no_way h s i spans scored way) none = (i, refl)
  came_by _ (too_tall t block laid tall) none = absurd (none t.breaking.breaks (laid_legal t laid))

  came : (r : Result SetTune Fault)
      → IsResult tune terms r
      → ((breaks : List ℕ) → IsLegalIn score (body_width terms.paper) breaks → ⊥)
      → (reached : ℕ) × (r ≡ Err (layout_fault tune (FaultKind.NoWay reached)))
  came (Ok t) is none = absurd (none t.breaking.breaks (laid_legal t is.laid))
  came (Err f) is none = let by = came_by f is none in (by.0, ap Err by.1)

  module _ (outcome : Outcome) (is : IsOutcome terms tune outcome) where
    way_of : (reached : ℕ)
        → HasNoWayPast tune outcome reached
        → (spans : List Span) × IsNoWay score (body_width terms.paper) reached spans
    way_of reached at =
        reported (layout_fault tune (FaultKind.NoWay reached)) reached refl
        (subst (λ r. IsResult tune terms r) at is.result)

    reports : ReportsNoWay tune outcome score (body_width terms.paper)
    reports = record {
      exact = ((λ way. (way_of way.0 way.1).1.none_of_score), came outcome.result is.result);
      furthest = λ reached at. (way_of reached at).1.furthest_of_score;
    }

pub no_way_is_exact : NoWayIsExact
no_way_is_exact terms [] [] set = tt
no_way_is_exact terms (t ∷ ts) (o ∷ os) set = (
  (λ header score has. reports t terms header score has o set.0),
  no_way_is_exact terms ts os set.1,
)
no_way_is_exact terms ts os set = absurd set

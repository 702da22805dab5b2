-- The legal breakings of a score are those into its listed spans, and cost the same.
use Rattle.std.proofs.{Common.{◌≡◌, ◌∙◌, ℕ, ◌+◌, ◌≤◌, ◌==◌, List, [], ◌∷◌, unwrap_or, refl, sym, ap, subst, arith}}
use Rattle.mus_score.specs.declared.score.Score.{Score}
use Rattle.lay_reaches.specs.declared.column.Column.{Column}
use Rattle.lay_reaches.specs.Column.{length_rises}
use Rattle.lay_reaches.specs.Columns.{column_reach}
use Rattle.lay_breaks.specs.declared.costs.Span.{Span}
use Rattle.lay_breaks.specs.declared.breaking.BreakError.{BreakError}
use Rattle.lay_breaks.specs.Answers.{IsCause}
use Rattle.lay_breaks.specs.Breaking.{FitsFrom, IsChosen, IsLegal, IsReached, NoneLegal, RisesFrom, last_from, sum_from}
use Rattle.lay_breaks.specs.Spans.{AreSpans, listed}
use Rattle.lay_spans.specs.Single as single
use Rattle.lay_rows.specs.Badness.{badness_of}
use Rattle.lay_spans.specs.Forced.{is_forced}
use Rattle.lay_tune.specs.Spans.{AreSpansOf, CanStandIn, IsForceOf, IsSpanCost, column_length, is_forced_in, score_gaps}
use Rattle.lay_tune.specs.Spans.{system_columns}
use Rattle.lay_tune.specs.Breakings.{CanBeSystem, CostTogether, IsLeastBreaking, IsLegalIn, IsLegalTo}
use Rattle.lay_tune.specs.Layout.{IsCauseIn, IsNoWay, layout_error}
use Rattle.lay_tune.specs.Systems.{AllSpans}
use Rattle.lay_tune.proofs.Called.{has_system}
use Rattle.lay_tune.proofs.Open.{past_last, some_of}

-- ---- the greatest force of columns
module _ (gaps : List ℕ) (width : ℕ) (columns : List Column) where
  -- columns have one greatest force
  pub one_force : (f g : ℕ) → IsForceOf gaps width columns f → IsForceOf gaps width columns g → f ≡ g
  one_force f g h k = single.one_force column_reach column_length gaps width columns f g h k

  -- columns with a greatest force can be within the width
  pub can_stand : (force : ℕ) → IsForceOf gaps width columns force → CanStandIn gaps width columns
  can_stand force h =
      single.can_stand column_reach column_length gaps width columns force
      (λ c. length_rises c.natural 0 force (omega arith)) h

module _ (s : Score) (width : ℕ) where
  -- a span has one cost
  pub one_cost : (a b v w : ℕ) → IsSpanCost s width a b v → IsSpanCost s width a b w → v ≡ w
  one_cost a b v w h k =
      let system = has_system s a b in
      let forces = one_force (score_gaps s) width (system_columns s system.0) h.pressed.0 k.pressed.0
      (h.pressed.2 system.0 system.1) (k.pressed.2 system.0 system.1) in
      h.pressed.1 ∙ (ap (λ force. badness_of (b == s.measures) force) forces ∙ sym k.pressed.1)

  -- and so does a breaking
  one_total : (a : ℕ) (bs : List ℕ) (v w : ℕ) → CostTogether s width a bs v → CostTogether s width a bs w → v ≡ w
  one_total a [] v w h k = h ∙ sym k
  one_total a (b ∷ bs) v w h k =
      let first = one_cost a b h.0 k.0 h.2 k.2 in
      let rest = one_total b bs h.1 k.1 h.3 k.3 in
      h.4 ∙ (ap (λ n. n + h.1) first ∙ (ap (λ n. k.0 + n) rest ∙ sym k.4))

  -- a span that has a cost can be a system
  pub cost_can_be : (a b v : ℕ) → IsSpanCost s width a b v → CanBeSystem s width a b
  cost_can_be a b v cost = record {
    free = cost.free;
    stands = λ m is. can_stand (score_gaps s) width (system_columns s m) cost.pressed.0 (cost.pressed.2 m is);
  }

  module _ (spans : List Span) (exact : AreSpansOf s width spans) where
    -- the spans of a breaking among those that are listed
    all_can_be : (a : ℕ) (bs : List ℕ)
        → RisesFrom a bs → last_from a bs ≤ s.measures → FitsFrom (listed spans) a bs
        → AllSpans (CanBeSystem s width) a bs
    all_can_be a [] rises within h = tt
    all_can_be a (b ∷ bs) rises within h =
        let l = past_last b bs rises.1 in
        let v = some_of (listed spans a b) h.0 in (
          cost_can_be a b v.0 (exact.each a b v.0 rises.0 (omega (arith, l, within)) v.1),
          all_can_be b bs rises.1 within h.1,
        )

    all_fit : (a : ℕ) (bs : List ℕ)
        → RisesFrom a bs → last_from a bs ≤ s.measures → AllSpans (CanBeSystem s width) a bs
        → FitsFrom (listed spans) a bs
    all_fit a [] rises within h = tt
    all_fit a (b ∷ bs) rises within h =
        let l = past_last b bs rises.1 in
        let m = has_system s a b in (
          exact.fits a b m.0 rises.0 (omega (arith, l, within)) h.0.free m.1 (h.0.stands m.0 m.1),
          all_fit b bs rises.1 within h.1,
        )

    all_cost : (a : ℕ) (bs : List ℕ)
        → RisesFrom a bs → last_from a bs ≤ s.measures → FitsFrom (listed spans) a bs
        → CostTogether s width a bs (sum_from (listed spans) a bs)
    all_cost a [] rises within h = refl
    all_cost a (b ∷ bs) rises within h =
        let l = past_last b bs rises.1 in
        let v = some_of (listed spans a b) h.0 in (
          v.0,
          sum_from (listed spans) b bs,
          exact.each a b v.0 rises.0 (omega (arith, l, within)) v.1,
          all_cost b bs rises.1 within h.1,
          ap (λ o. unwrap_or o 0 + sum_from (listed spans) b bs) v.1,
        )

    -- the legal prefixes of the score, and so its legal breakings, are those into the listed spans
    legal_to : (breaks : List ℕ) (i : ℕ)
        → i ≤ s.measures → IsLegal (listed spans) (is_forced_in s) breaks i → IsLegalTo s width breaks i
    legal_to breaks i within h = record {
      rises = h.rises;
      ends = h.ends;
      every_forced = h.every_forced;
      fits = let e = h.ends in all_can_be 0 breaks h.rises (omega (arith, e, within)) h.fits;
    }

    pub legal_listed_to : (breaks : List ℕ) (i : ℕ)
        → i ≤ s.measures → IsLegalTo s width breaks i → IsLegal (listed spans) (is_forced_in s) breaks i
    legal_listed_to breaks i within h = record {
      rises = h.rises;
      ends = h.ends;
      every_forced = h.every_forced;
      fits = let e = h.ends in all_fit 0 breaks h.rises (omega (arith, e, within)) h.fits;
    }

    pub legal_in : (breaks : List ℕ)
        → IsLegal (listed spans) (is_forced_in s) breaks s.measures → IsLegalIn s width breaks
    legal_in breaks h = legal_to breaks s.measures (omega arith) h

    pub legal_listed : (breaks : List ℕ)
        → IsLegalIn s width breaks → IsLegal (listed spans) (is_forced_in s) breaks s.measures
    legal_listed breaks h = legal_listed_to breaks s.measures (omega arith) h

    -- so if none of the listed ones is legal, the score has none, and its legal prefixes go as far
    pub no_way_of : (reached : ℕ)
        → AreSpans s.measures spans → NoneLegal (listed spans) (is_forced_in s) s.measures
        → IsReached (listed spans) (is_forced_in s) s.measures reached → IsNoWay s width reached spans
    no_way_of reached form none furthest = record {
      none_of_score = λ breaks legal. none breaks (legal_listed breaks legal);
      furthest_of_score = record {
        within = furthest.within;
        legal = (furthest.legal.0, legal_to furthest.legal.0 reached furthest.within furthest.legal.1);
        greatest = λ k other l legal. furthest.greatest k other l (legal_listed_to other k l legal);
      };
      form = form;
      exact = exact;
      none = none;
      furthest = furthest;
    }

    -- their costs are the listed ones
    legal_cost : (breaks : List ℕ)
        → IsLegal (listed spans) (is_forced_in s) breaks s.measures
        → CostTogether s width 0 breaks (sum_from (listed spans) 0 breaks)
    legal_cost breaks h = let e = h.ends in all_cost 0 breaks h.rises (omega (arith, e)) h.fits

    -- so the breaking that is chosen among them is the least of the score
    pub least_of : (breaks : List ℕ) (total : ℕ)
        → IsChosen (listed spans) (is_forced_in s) s.measures breaks → total ≡ sum_from (listed spans) 0 breaks
        → IsLeastBreaking s width breaks total
    least_of breaks total chosen is = record {
      legal = legal_in breaks chosen.legal;
      costs = subst (CostTogether s width 0 breaks) (sym is) (legal_cost breaks chosen.legal);
      least = λ other legal.
          let at = legal_listed other legal in
          let most = chosen.least other at in
          (sum_from (listed spans) 0 other, legal_cost other at, omega (arith, is, most));
      latest = λ other legal cost.
          let at = legal_listed other legal in
          chosen.latest other at
          (one_total 0 other (sum_from (listed spans) 0 other) total (legal_cost other at) cost ∙ is);
    }

-- the same if the forced bars were read off the score
pub least_read : (s : Score) (width : ℕ) (spans : List Span) (forced breaks : List ℕ) (total : ℕ)
    → forced ≡ s.forced → AreSpansOf s width spans
    → IsChosen (listed spans) (is_forced s.measures forced) s.measures breaks
    → total ≡ sum_from (listed spans) 0 breaks
    → IsLeastBreaking s width breaks total
least_read s width spans forced breaks total all exact chosen is =
    least_of s width spans exact breaks total
    (subst (λ these. IsChosen (listed spans) (is_forced s.measures these) s.measures breaks) all chosen) is

pub cause_read : (s : Score) (width : ℕ) (spans : List Span) (forced : List ℕ) (error : BreakError)
    → forced ≡ s.forced → AreSpans s.measures spans → AreSpansOf s width spans
    → IsCause (listed spans) (is_forced s.measures forced) s.measures error → IsCauseIn s width (layout_error error)
cause_read s width spans forced (BreakError.NoWay reached) all form exact h = (
  spans,
  no_way_of s width spans exact reached form
      (subst (λ these. NoneLegal (listed spans) (is_forced s.measures these) s.measures) all h.0)
      (subst (λ these. IsReached (listed spans) (is_forced s.measures these) s.measures reached) all h.1),
)
cause_read s width spans forced BreakError.Memory all form exact h = tt

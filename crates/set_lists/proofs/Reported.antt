-- Outcomes of tunes can be listed, and their listing lists the tunes that are set.
use Rattle.std.proofs.Common.{◌≡◌, ◌∙◌, sym, ℕ, ◌<◌, ◌≤◌, ◌^◌, true, List, [], ◌∷◌, Option, Some, None, Result}
use Rattle.std.proofs.Common.{Ok, Err, arith, refl}
use Rattle.std.proofs.lemmas.List.Elements.{All-cons, All-nil}
use Rattle.std.specs.List.{All, cons_option, slice_index_or}
use Rattle.abc_lines.specs.declared.book.TuneText.{TuneText}
use Rattle.abc_lines.specs.declared.fault.Fault.{Fault}
use Rattle.abc_fields.specs.Papers.{body_width}
use Rattle.mus_score.specs.declared.score.Score.{Score}
use Rattle.lay_breaks.specs.declared.costs.Span.{Span}
use Rattle.lay_breaks.specs.Breaking.{IsLegal, IsPotential}
use Rattle.lay_breaks.specs.Spans.{AreSpans, listed}
use Rattle.lay_tune.specs.Spans.{AreSpansOf, is_forced_in}
use Rattle.lay_tune.specs.Systems.{IsSetSystem}
use Rattle.lay_tune.proofs.Rows.{span_count}
use Rattle.lay_cert.specs.Listing.{EntriesFrom, IsEntry, none_forced}
use Rattle.lay_cert.proofs.Unforced.{forced_by_spans}
use Rattle.set_tune.specs.Terms.{Terms}
use Rattle.set_tune.specs.declared.tune.SetTune.{SetTune}
use Rattle.set_tune.specs.Setting.{IsSetTune}
use Rattle.law_one_outcome.proofs.Spans.{listed_within}
use Rattle.set_book.specs.declared.outcome.Outcome.{Outcome}
use Rattle.set_book.specs.Outcomes.{AreOutcomes, IsResult}
use Rattle.set_lists.specs.Laws.{ListsTheSet, OrdinalsRise, OutcomesAreListable}
use Rattle.set_lists.specs.Listing.{CanBeListed, IsListable, entries_of, entry_of, result_entry}

-- ---- spans pass no forced bar
pub unforced : (s : Score) (width : ℕ) (spans : List Span)
    → AreSpans s.measures spans → AreSpansOf s width spans → (breaks : List ℕ) (i : ℕ)
    → (IsLegal (listed spans) (is_forced_in s) breaks i → IsLegal (listed spans) none_forced breaks i)
    × (IsLegal (listed spans) none_forced breaks i → IsLegal (listed spans) (is_forced_in s) breaks i)
unforced s width spans form exact breaks i =
    let both = forced_by_spans (listed spans) (is_forced_in s) refl stops breaks i in (both.0, both.1)
  where
    stops : (a f b : ℕ) → a < f → f < b → is_forced_in s f ≡ true → listed spans a b ≡ None
    stops a f b l m t = at (listed spans a b) refl
      where
        at : (o : Option ℕ) → listed spans a b ≡ o → o ≡ None
        at None e = refl
        at (Some v) e =
            let ends = listed_within s.measures None spans form a b v e in
            absurd ((exact.each a b v ends.0 ends.1 e).free (f, l, m, t))

potential : (s : Score) (width : ℕ) (spans : List Span) → AreSpans s.measures spans → AreSpansOf s width spans
    → (i : ℕ) (o : Option ℕ) → IsPotential (listed spans) (is_forced_in s) i o
    → IsPotential (listed spans) none_forced i o
potential s width spans form exact i None h =
    λ other legal. h other ((unforced s width spans form exact other i).1 legal)
potential s width spans form exact i (Some v) h = record {
  reached = let way = h.reached in (way.0, (unforced s width spans form exact way.0 i).0 way.1, way.2);
  least = λ other legal. h.least other ((unforced s width spans form exact other i).1 legal);
}

-- ---- tunes that are set
module _ (tune : TuneText) (terms : Terms) (t : SetTune) (is : IsSetTune tune terms t) where
  can_be_listed : CanBeListed t
  can_be_listed = record {
    form = is.laid.layout.form;
    beside =
        let both = span_count (IsSetSystem t.score (body_width terms.paper)) 0 t.breaking.breaks t.systems t.placed
        is.laid.layout.systems in
        both.1 ∙ sym both.0;
    few = let few = is.laid.score.good.few_measures in let one = is.laid.layout.one_each in omega (arith, few, one);
  }

  is_entry : (ordinal : ℕ) → ordinal < 2 ^ 32 → IsEntry (entry_of ordinal t)
  is_entry ordinal numbered =
      let layout = is.laid.layout in record {
        numbered = numbered;
        few = let few = is.laid.score.good.few_measures in omega (arith, few);
        spans = layout.form;
        choice =
            (unforced t.score _ t.spans layout.form layout.spans t.breaking.breaks t.score.measures).0
            layout.chosen.legal;
        total = layout.total;
        one_each = layout.one_each;
        potentials =
            λ i l.
            potential t.score _ t.spans layout.form layout.spans i (slice_index_or t.breaking.potentials i None)
            (layout.potentials i l);
      }

-- ---- outcomes
module _ (terms : Terms) where
  is_listable : (tune : TuneText) (r : Result SetTune Fault) → IsResult tune terms r → IsListable r
  is_listable tune (Ok t) h = can_be_listed tune terms t h
  is_listable tune (Err fault) h = tt

  all_listable : (tunes : List TuneText) (os : List Outcome)
      → AreOutcomes terms tunes os → All (λ o. IsListable o.result) os
  all_listable [] [] h = All-nil (λ o. IsListable o.result)
  all_listable (t ∷ ts) (o ∷ os) h =
      All-cons (λ o. IsListable o.result) o os (is_listable t o.result h.0.result) (all_listable ts os h.1)
  all_listable ts os h = absurd h

  -- the entries of outcomes whose numbers rise past k have numbers past each j up to k
  entries : (tunes : List TuneText) (os : List Outcome) (k j : ℕ)
      → AreOutcomes terms tunes os → OrdinalsRise k os → j ≤ k → EntriesFrom j (entries_of os)
  entries [] [] k j h rise l = tt
  entries (t ∷ ts) (o ∷ os) k j h rise l =
      at o.result h.0.result (entries ts os o.ordinal o.ordinal h.1 rise.2 (omega arith))
      (entries ts os o.ordinal j h.1 rise.2 (let m = rise.0 in omega (arith, l, m)))
    where
      at : (r : Result SetTune Fault)
          → IsResult t terms r → EntriesFrom o.ordinal (entries_of os) → EntriesFrom j (entries_of os)
          → EntriesFrom j (cons_option (result_entry o.ordinal r) (entries_of os))
      at (Ok tune) is further same =
          (let m = rise.0 in omega (arith, l, m), is_entry t terms tune is o.ordinal rise.1, further)
      at (Err fault) is further same = same
  entries ts os k j h rise l = absurd h

pub outcomes_are_listable : OutcomesAreListable
outcomes_are_listable terms tunes os h = all_listable terms tunes os h

pub lists_the_set : ListsTheSet
lists_the_set terms tunes os h rise = record { entries = entries terms tunes os 0 0 h rise (omega arith); lines = refl }

-- A tune set on a paper: a placement and good heights for each of its systems, and no group that is higher than the
-- page.
use Rattle.std.proofs.Common.{◌≡◌, ◌∙◌, refl, sym, ℕ, suc, ◌≤◌, true, false, if◌then◌else◌, List, [], ◌∷◌, length, None}
use Rattle.std.proofs.Common.{arith}
use Rattle.std.proofs.lemmas.List.Elements.{All-cons, All-head, All-nil, All-tail, All-weaker}
use Rattle.std.proofs.lemmas.Slice.Zip.{AllZip-long}
use Rattle.std.specs.Prelude.{All, Result, Ok, Err}
use Rattle.abc_lines.specs.declared.book.TuneText.{TuneText}
use Rattle.abc_lines.specs.declared.fault.Fault.{Fault}
use Rattle.abc_lines.specs.declared.reading.LineContent.{LineContent}
use Rattle.abc_lines.specs.Books.{begins_tune, book_of, tune_at, tunes_after}
use Rattle.abc_lines.specs.Lines.{readings, without_mark}
use Rattle.abc_fields.specs.declared.paper.Paper.{Paper}
use Rattle.abc_fields.specs.Papers.{body_height, body_width}
use Rattle.lay_pages.specs.Filling.{first_tall}
use Rattle.lay_tune.specs.Systems.{IsSetSystem, IsStack}
use Rattle.lay_tune.proofs.Rows.{span_count}
use Rattle.set_tune.specs.Terms.{Terms}
use Rattle.set_tune.specs.declared.tune.SetTune.{SetTune}
use Rattle.set_tune.proofs.Laid.{good_heights}
use Rattle.set_book.specs.declared.outcome.Outcome.{Outcome}
use Rattle.set_book.specs.Outcomes.{AreOutcomes, IsResult}
use Rattle.set_pages.specs.Drawings.{all_blocks, outcome_blocks, result_blocks}
use Rattle.set_pages.specs.Ready.{IsWhole, IsWholeResult}
use Rattle.set_pages.specs.Sheet.{IsSetResult, IsSetUnder}
use Rattle.set_pages.proofs.Fitting.{first_append, result_loose}

-- the systems of a tune
pub result_whole : (paper : Paper) (r : Result SetTune Fault) → IsSetResult paper r → IsWholeResult r
result_whole paper (Ok t) h =
    let laid = h.3.laid.layout in
    let both =
    span_count (IsSetSystem t.score (body_width paper)) 0 t.breaking.breaks t.systems t.placed laid.systems in
    record {
      placed = both.1 ∙ sym both.0;
      heights = AllZip-long (IsStack t.score) t.systems t.heights laid.heights;
      good = good_heights t.score t.systems t.heights laid.heights;
    }
result_whole paper (Err fault) h = tt

pub all_whole : (paper : Paper) (outcomes : List Outcome) → All (IsSetUnder paper) outcomes → All IsWhole outcomes
all_whole paper outcomes h =
    All-weaker (IsSetUnder paper) IsWhole (λ o g. result_whole paper o.result g.result) outcomes h

result_fits : (paper : Paper) (r : Result SetTune Fault)
    → IsSetResult paper r → first_tall (body_height paper) (result_blocks r) ≡ None
result_fits paper (Ok t) h = h.3.fits
result_fits paper (Err fault) h = refl

pub all_fit : (paper : Paper) (outcomes : List Outcome)
    → All (IsSetUnder paper) outcomes → first_tall (body_height paper) (all_blocks outcomes) ≡ None
all_fit paper [] h = refl
all_fit paper (o ∷ outcomes) h =
    first_append (body_height paper) (outcome_blocks o) (all_blocks outcomes) (result_loose o.result)
    (result_fits paper o.result (All-head (IsSetUnder paper) o outcomes h).result)
    (all_fit paper outcomes (All-tail (IsSetUnder paper) o outcomes h))

-- the outcomes of tunes are set on their paper, or have a fault
result_set : (terms : Terms) (tune : TuneText) (r : Result SetTune Fault)
    → IsResult tune terms r → IsSetResult terms.paper r
result_set terms tune (Ok t) h = (tune, terms.defaults, terms.manner, h)
result_set terms tune (Err fault) h = tt

pub set_outcomes : (terms : Terms) (tunes : List TuneText) (outcomes : List Outcome)
    → All (λ tune. 1 ≤ tune.ordinal) tunes → AreOutcomes terms tunes outcomes → All (IsSetUnder terms.paper) outcomes
set_outcomes terms [] [] some h = All-nil (IsSetUnder terms.paper)
set_outcomes terms (tune ∷ tunes) (o ∷ outcomes) some h =
    All-cons (IsSetUnder terms.paper) o outcomes
    (record {
      result = result_set terms tune o.result h.0.result;
      ordinal = rw h.0.ordinal (All-head (λ t. 1 ≤ t.ordinal) tune tunes some);
    })
    (set_outcomes terms tunes outcomes (All-tail (λ t. 1 ≤ t.ordinal) tune tunes some) h.1)
set_outcomes terms tunes outcomes some h = absurd h

-- the tunes of a book are counted from 1
tunes_counted : (all : List LineContent) (ordinal : ℕ) (before lines : List LineContent)
    → 1 ≤ ordinal → All (λ tune. 1 ≤ tune.ordinal) (tunes_after all ordinal before lines)
tunes_counted all ordinal before [] some = All-nil (λ tune. 1 ≤ tune.ordinal)
tunes_counted all ordinal before (line ∷ more) some =
    elim (begins_tune line) as (λ b. All (λ tune. 1 ≤ tune.ordinal)
    (if b then tune_at all ordinal (suc (length before)) ∷ tunes_after all (suc ordinal) (line ∷ before) more
    else tunes_after all ordinal (line ∷ before) more)) [
      | true ↦
          All-cons (λ (tune : TuneText). 1 ≤ tune.ordinal) _ _ some
          (tunes_counted all (suc ordinal) (line ∷ before) more (omega arith))
      | false ↦ tunes_counted all ordinal (line ∷ before) more some
    ]

pub book_counted : (text : List ℕ) → All (λ tune. 1 ≤ tune.ordinal) (book_of text).tunes
unfolding book_of
book_counted text = tunes_counted (readings (without_mark text)) 1 [] (readings (without_mark text)) (omega arith)

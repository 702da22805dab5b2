-- A tune that is set has no fault in its header, and at most 2,001 blocks.
use Rattle.std.proofs.Common.{◌≡◌, ℕ, ◌+◌, ◌*◌, ◌≤◌, ◌<◌, ◌^◌, true, cond, List, [], ◌∷◌, ◌++◌, length}
use Rattle.std.proofs.Common.{refl, sym, ap, ◌∙◌, arith, Result, Ok, Err}
use Rattle.std.proofs.lemmas.List.{append-nil, length-append}
use Rattle.std.proofs.lemmas.List.Sums.{sum_by-append}
use Rattle.abc_lines.specs.declared.book.TuneText.{TuneText}
use Rattle.abc_lines.specs.declared.fault.Fault.{Fault}
use Rattle.abc_lines.specs.Books.{book_of}
use Rattle.abc_fields.specs.Papers.{body_width}
use Rattle.mus_score.specs.Limits.{measure_limit}
use Rattle.set_book.specs.declared.outcome.Outcome.{Outcome}
use Rattle.set_book.specs.Outcomes.{AreOutcomes, IsResult}
use Rattle.set_pages.specs.Drawings.{all_blocks, outcome_blocks, result_blocks}
use Rattle.set_tune.specs.Terms.{Terms}
use Rattle.set_tune.specs.declared.tune.SetTune.{SetTune}
use Rattle.set_tune.proofs.Laid.{few_blocks}
use Rattle.law_few_blocks.specs.Few.{AreFew, headed_count, is_headed}
use Rattle.law_few_blocks.proofs.Headed.{headed_bytes, headed_cons}

result_few : (terms : Terms) (tune : TuneText) (r : Result SetTune Fault)
    → IsResult tune terms r → length (result_blocks r) ≤ (measure_limit + 1) * cond (is_headed tune) 1 0
result_few terms tune (Ok t) is =
    let headed : is_headed tune ≡ true = rw is.laid.score.is.read.clear refl in
    rw headed (few_blocks (body_width terms.paper) t is.laid.score.good is.laid.layout)
result_few terms tune (Err fault) is = omega arith

pub outcomes_few : (terms : Terms) (tunes : List TuneText) (outcomes : List Outcome)
    → AreOutcomes terms tunes outcomes → length (all_blocks outcomes) ≤ (measure_limit + 1) * headed_count tunes
outcomes_few terms [] [] are = omega arith
outcomes_few terms (tune ∷ tunes) (o ∷ outcomes) are =
    omega (
      arith,
      length-append (outcome_blocks o) (all_blocks outcomes),
      headed_cons tune tunes,
      result_few terms tune o.result are.0.result,
      outcomes_few terms tunes outcomes are.1,
    )
outcomes_few terms tunes outcomes are = absurd are

-- so there are few blocks of the first of few tunes, and of a book within its limit
pub first_few : (terms : Terms) (before rest tunes : List TuneText) (outcomes : List Outcome)
    → before ++ rest ≡ tunes → AreFew tunes → AreOutcomes terms before outcomes → length (all_blocks outcomes) < 2 ^ 32
first_few terms before rest tunes outcomes whole few are =
    let both = ap headed_count (sym whole) ∙ sum_by-append (λ t. cond (is_headed t) 1 0) before rest in
    omega (arith, both, few, outcomes_few terms before outcomes are)

pub book_few : (text : List ℕ) (terms : Terms) (outcomes : List Outcome)
    → length text ≤ 8388608 → AreOutcomes terms (book_of text).tunes outcomes → length (all_blocks outcomes) < 2 ^ 32
book_few text terms outcomes within are =
    let tunes = (book_of text).tunes in
    first_few terms tunes [] tunes outcomes (append-nil tunes) (omega (arith, headed_bytes text, within)) are

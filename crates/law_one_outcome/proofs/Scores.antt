-- A tune has one good score under its header, or one first fault of its body or its score.
use Rattle.std.proofs.Common.{refl, inl, inr, Bool, List, Option, Some, None, Result, Ok, Err}
use Rattle.std.specs.{Prelude.{IfOk}, List.{All}}
use Rattle.abc_lines.specs.declared.book.TuneText.{TuneText}
use Rattle.abc_lines.specs.declared.fault.Fault.{Fault}
use Rattle.abc_lines.specs.Results.{HasOneResult}
use Rattle.abc_fields.specs.declared.header.Header.{Header}
use Rattle.abc_fields.specs.Headers.{HasGoodValues}
use Rattle.abc_steps.specs.declared.step.BodyItem.{BodyItem}
use Rattle.abc_items.specs.Body.{IsBody, IsBodyResult}
use Rattle.abc_items.specs.Good.{IsGoodItem}
use Rattle.abc_faults.specs.First.{IsFirstInOrder, first_of}
use Rattle.abc_faults.proofs.Firsts.{first_is}
use Rattle.mus_score.specs.declared.score.Score.{Score}
use Rattle.mus_score.specs.GoodScore.{IsGoodScore}
use Rattle.abc_score.specs.Build.{IsScoreResult, body_lines}
use Rattle.abc_score.specs.Faults.{score_faults}
use Rattle.abc_score.specs.Score.{score_of}
use Rattle.abc_score.proofs.Ids.{few_ids}
use Rattle.abc_score.proofs.OneScore.{one_score}
use Rattle.abc_score.proofs.Wholes.{good_score}
use Rattle.law_one_outcome.proofs.Bodies.{has_body}

module _ (h : Header) (tune : TuneText) (flow : Bool) (good : HasGoodValues h) where
  abbrev HasScore : Type 0
  HasScore = (one : HasOneResult (IsScoreResult h tune flow)) × IfOk one.0 (λ s. IsGoodScore s)

  only : (result : Result Score Fault) → IsScoreResult h tune flow result → IfOk result (λ s. IsGoodScore s) → HasScore
  only result is fine = ((result, is, one_score h tune flow result is), fine)

  -- the score of a body without a fault, by its first fault
  score_by : (items : List BodyItem)
      → IsBody h (body_lines h tune) items → All IsGoodItem items → (o : Option Fault)
      → IsFirstInOrder (score_faults h items) o
      → HasScore
  score_by items body given (Some f) first =
      only (Err f) (inr (record { items = items; body = body; first = first })) tt
  score_by items body given None clear =
      only (Ok (score_of h items flow)) (record { items = items; body = body; clear = clear; value = refl })
      (good_score h items flow good given (few_ids h (body_lines h tune) items good body) clear)

  by_body : (result : Result (List BodyItem) Fault)
      → IsBodyResult h (body_lines h tune) result → IfOk result (λ items. All IsGoodItem items) → HasScore
  by_body (Ok items) body given =
      let faults = score_faults h items in score_by items body given (first_of faults) (first_is faults)
  by_body (Err f) fault given = only (Err f) (inl fault) tt

  pub has_score : HasScore
  has_score = let b = has_body h (body_lines h tune) in by_body b.0.0 b.0.1 b.1

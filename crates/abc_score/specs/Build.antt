-- The result of building a tune's score: the score of a body without a fault, or the first fault, of the body or, if
-- it has none, of the score.
use Rattle.std.specs.Prelude.{◌≡◌, ◌⊎◌, ⊤, List, drop, Bool, Some, None, Result, Ok, Err}
use Rattle.abc_lines.specs.declared.book.Line.{Line}
use Rattle.abc_lines.specs.declared.book.TuneText.{TuneText}
use Rattle.abc_lines.specs.declared.fault.Fault.{Fault}
use Rattle.abc_lines.specs.declared.fault.TuneError.{TuneError}
use Rattle.abc_fields.specs.declared.header.Header.{Header}
use Rattle.abc_steps.specs.declared.step.BodyItem.{BodyItem}
use Rattle.abc_items.specs.Body.{HasFault, IsBody}
use Rattle.abc_faults.specs.First.{IsFirstInOrder}
use Rattle.mus_score.specs.declared.score.Score.{Score}
use Rattle.abc_score.specs.Faults.{score_faults}
use Rattle.abc_score.specs.Score.{score_of}

-- the lines after the header
abbrev pub body_lines : Header → TuneText → List Line
body_lines header tune = drop header.body tune.lines

-- the score of a body that has no fault, and whose score has none
pub record IsScoreOf (header : Header) (tune : TuneText) (flow : Bool) (score : Score) : Type 0 where
  pub items : List BodyItem
  pub body : IsBody header (body_lines header tune) items
  pub clear : IsFirstInOrder (score_faults header items) None
  pub value : score ≡ score_of header items flow

-- the first fault of the score of a body that has none itself
pub record HasScoreFault (header : Header) (tune : TuneText) (fault : Fault) : Type 0 where
  pub items : List BodyItem
  pub body : IsBody header (body_lines header tune) items
  pub first : IsFirstInOrder (score_faults header items) (Some fault)

abbrev pub IsFaultOf : Header → TuneText → TuneError → Type 0
IsFaultOf header tune TuneError.Memory = ⊤
IsFaultOf header tune (TuneError.Fault fault) =
    HasFault header (body_lines header tune) fault ⊎ HasScoreFault header tune fault

-- the result of a tune under its header: the score that it calls for, or its first fault
abbrev pub IsScoreResult : Header → TuneText → Bool → Result Score Fault → Type 0
IsScoreResult header tune flow (Ok score) = IsScoreOf header tune flow score
IsScoreResult header tune flow (Err fault) = IsFaultOf header tune (TuneError.Fault fault)

-- the same for a body that has been read
abbrev pub IsErrorIn : Header → List BodyItem → TuneError → Type 0
IsErrorIn header items TuneError.Memory = ⊤
IsErrorIn header items (TuneError.Fault fault) = IsFirstInOrder (score_faults header items) (Some fault)

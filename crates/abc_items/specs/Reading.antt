-- Between the meaning of a body and the code: what has been read so far, whatever follows.
use Rattle.std.specs.Prelude.{◌≡◌, ℕ, List, [], ◌∷◌, ◌++◌, take, Option, Some, None, Bool, true, false, ⊤}
use Rattle.abc_lines.specs.declared.book.Line.{Line}
use Rattle.abc_lines.specs.declared.fault.Fault.{Fault}
use Rattle.abc_lines.specs.declared.fault.TuneError.{TuneError}
use Rattle.abc_lines.specs.declared.fault.FaultKind.{FaultKind}
use Rattle.abc_field.specs.declared.directive.Breaks.{Breaks}
use Rattle.abc_steps.specs.declared.step.BodyItem.{BodyItem}
use Rattle.abc_items.specs.declared.body.Body.{Body}
use Rattle.abc_items.specs.Body.{ItemOrFault, gives, fails, BodyGives, judged_items, first_item_fault, items_in}

abbrev pub maybe_given : Option BodyItem → List ItemOrFault
maybe_given None = []
maybe_given (Some i) = gives i ∷ []

abbrev pub IsGivenError : List ItemOrFault → TuneError → Type 0
IsGivenError given TuneError.Memory = ⊤
IsGivenError given (TuneError.Fault fault) = given ≡ fails fault ∷ []

-- what is given has no fault, and whatever follows continues after it
pub record Reads (before : Body) (given : List ItemOrFault) (after : Body) : Type 0 where
  pub faults : (h : List ItemOrFault)
      → first_item_fault (judged_items before.ids (given ++ h)) ≡ first_item_fault (judged_items after.ids h)
  pub items : (h : List ItemOrFault) → before.items ++ items_in (given ++ h) ≡ after.items ++ items_in h

abbrev pub Stops : Body → List ItemOrFault → TuneError → Type 0
Stops before given TuneError.Memory = ⊤
Stops before given (TuneError.Fault fault) = first_item_fault (judged_items before.ids given) ≡ Some fault

pub record ReadsSome (Gives : List ItemOrFault → Type 0) (before after : Body) : Type 0 where
  pub given : List ItemOrFault
  pub gives_so : Gives given
  pub reads : Reads before given after

pub record StopsSome (Gives : List ItemOrFault → Type 0) (before : Body) (e : TuneError) : Type 0 where
  pub given : List ItemOrFault
  pub gives_so : Gives given
  pub stops : Stops before given e

abbrev pub StopsBy : (List ItemOrFault → Type 0) → Body → TuneError → Type 0
StopsBy Gives before TuneError.Memory = ⊤
StopsBy Gives before (TuneError.Fault fault) = StopsSome Gives before (TuneError.Fault fault)

abbrev pub LinesStop : Breaks → List Line → Body → TuneError → Type 0
LinesStop breaks lines before TuneError.Memory = ⊤
LinesStop breaks lines before (TuneError.Fault fault) =
    (count : ℕ) × StopsSome (BodyGives breaks (take count lines)) before (TuneError.Fault fault)

abbrev pub judged_as : Option Fault → BodyItem → ItemOrFault
judged_as None i = gives i
judged_as (Some fault) i = fails fault

abbrev pub past_fault : Bool → ℕ → ℕ → Option Fault
past_fault true line column = Some (record { kind = FaultKind.TooManyVoices; line = line; column = column })
past_fault false line column = None

-- The reports of a book: a line for each tune that has a fault, in order.
use Rattle.std.specs.Prelude.{ℕ, Bool, List, [], ◌++◌, codes, decimal, Result, Ok, Err, is_err}
use Rattle.std.specs.List.{flat_map, list_any}
use Rattle.abc_lines.specs.declared.fault.Fault.{Fault}
use Rattle.abc_lines.specs.declared.fault.FaultKind.{FaultKind}
use Rattle.set_tune.specs.declared.tune.SetTune.{SetTune}
use Rattle.set_book.specs.declared.outcome.Outcome.{Outcome}

-- the name of a kind of fault, followed by a space and its number if it has one
abbrev pub kind_name : FaultKind → List ℕ
kind_name FaultKind.NoKey = codes "NoKey"
kind_name FaultKind.BadMeter = codes "BadMeter"
kind_name FaultKind.BadUnit = codes "BadUnit"
kind_name FaultKind.BadKey = codes "BadKey"
kind_name FaultKind.BadVoice = codes "BadVoice"
kind_name FaultKind.TooManyVoices = codes "TooManyVoices"
kind_name FaultKind.BadByte = codes "BadByte"
kind_name FaultKind.Unclosed = codes "Unclosed"
kind_name FaultKind.BadLength = codes "BadLength"
kind_name FaultKind.BadTuplet = codes "BadTuplet"
kind_name FaultKind.TooDeep = codes "TooDeep"
kind_name FaultKind.TupletCrosses = codes "TupletCrosses"
kind_name FaultKind.TupletShort = codes "TupletShort"
kind_name FaultKind.BrokenAlone = codes "BrokenAlone"
kind_name FaultKind.Undrawable = codes "Undrawable"
kind_name FaultKind.StepRange = codes "StepRange"
kind_name FaultKind.RestWithoutMeter = codes "RestWithoutMeter"
kind_name FaultKind.TooManyMeasures = codes "TooManyMeasures"
kind_name FaultKind.TooManyEvents = codes "TooManyEvents"
kind_name FaultKind.TooManyVerses = codes "TooManyVerses"
kind_name FaultKind.BadScore = codes "BadScore"
kind_name FaultKind.BadShare = codes "BadShare"
kind_name FaultKind.BadMove = codes "BadMove"
kind_name (FaultKind.NoWay reached) = codes "NoWay " ++ decimal reached
kind_name (FaultKind.TooTall block) = codes "TooTall " ++ decimal block

-- the line of a tune's fault
unfoldable pub fault_report : ℕ → Fault → List ℕ
fault_report ordinal fault =
    codes "tune " ++ decimal ordinal ++ codes " line " ++ decimal fault.line ++ codes " column " ++ decimal fault.column
    ++ codes ": " ++ kind_name fault.kind ++ codes "\n"

-- a tune without a fault has no line
abbrev pub result_report : ℕ → Result SetTune Fault → List ℕ
result_report ordinal (Ok tune) = []
result_report ordinal (Err fault) = fault_report ordinal fault

abbrev pub report : Outcome → List ℕ
report outcome = result_report outcome.ordinal outcome.result

unfoldable pub reports : List Outcome → List ℕ
reports outcomes = flat_map report outcomes

abbrev pub is_faulty : Outcome → Bool
is_faulty outcome = is_err outcome.result

-- whether some tune has a fault
abbrev pub some_fault : List Outcome → Bool
some_fault outcomes = list_any is_faulty outcomes

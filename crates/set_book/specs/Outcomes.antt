-- The outcomes of the tunes of a book: one for each, in order.
use Rattle.std.specs.{Prelude.{◌≡◌, List, Result, Ok, Err}, List.AllZip}
use Rattle.abc_lines.specs.declared.book.TuneText.{TuneText}
use Rattle.abc_lines.specs.declared.fault.Fault.{Fault}
use Rattle.set_tune.specs.Terms.{Terms}
use Rattle.set_tune.specs.declared.tune.SetTune.{SetTune}
use Rattle.set_tune.specs.Setting.{IsFaultOfTune, IsSetTune}
use Rattle.set_book.specs.declared.outcome.Outcome.{Outcome}

abbrev pub IsResult : TuneText → Terms → Result SetTune Fault → Type 0
IsResult tune terms (Ok t) = IsSetTune tune terms t
IsResult tune terms (Err fault) = IsFaultOfTune tune terms fault

-- the tune as set, or its one fault, with its number in the book
pub record IsOutcome (terms : Terms) (tune : TuneText) (o : Outcome) : Type 0 where
  pub ordinal : o.ordinal ≡ tune.ordinal
  pub result : IsResult tune terms o.result

abbrev pub AreOutcomes : Terms → List TuneText → List Outcome → Type 0
AreOutcomes terms tunes outcomes = AllZip (IsOutcome terms) tunes outcomes

-- The line of a trial, and what is counted among outcomes.
use Rattle.std.specs.Prelude.{ℕ, Bool, List, ◌++◌, codes, decimal, length, sum_by, count_by, Result, Ok, Err}
use Rattle.std.specs.Prelude.{is_ok}
use Rattle.abc_lines.specs.declared.fault.Fault.{Fault}
use Rattle.set_tune.specs.declared.tune.SetTune.{SetTune}
use Rattle.set_book.specs.declared.outcome.Outcome.{Outcome}
use Rattle.set_lists.specs.declared.trials.Trial.{Trial}
use Rattle.set_lists.specs.Reports.{is_faulty}

unfoldable pub trial_text : Trial → List ℕ
trial_text t =
    codes "trial " ++ decimal t.tunes ++ codes " set " ++ decimal t.set ++ codes " refused " ++ decimal t.refused
    ++ codes " systems " ++ decimal t.systems ++ codes " pages " ++ decimal t.pages ++ codes " bytes "
    ++ decimal t.bytes
    ++ codes " total " ++ decimal t.total ++ codes "\n"

abbrev pub is_set : Outcome → Bool
is_set outcome = is_ok outcome.result

-- how many tunes have no fault, and how many have one
abbrev pub set_count : List Outcome → ℕ
set_count outcomes = count_by is_set outcomes

abbrev pub fault_count : List Outcome → ℕ
fault_count outcomes = count_by is_faulty outcomes

-- a number for each tune without a fault
abbrev pub number_of_set : (SetTune → ℕ) → Result SetTune Fault → ℕ
number_of_set number (Ok t) = number t
number_of_set number (Err fault) = 0

abbrev pub systems_in : Outcome → ℕ
systems_in outcome = number_of_set (λ t. length t.systems) outcome.result

abbrev pub total_in : Outcome → ℕ
total_in outcome = number_of_set (λ t. t.breaking.total) outcome.result

-- how many systems the tunes without a fault have in total, and what these cost
abbrev pub system_count : List Outcome → ℕ
system_count outcomes = sum_by systems_in outcomes

abbrev pub total_of : List Outcome → ℕ
total_of outcomes = sum_by total_in outcomes

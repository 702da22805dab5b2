-- A stage of reading a tune gives a value or a fault; `Is` says which result a text calls for.
use Rattle.std.specs.Prelude.{◌≡◌, ⊤, Result, Err}
use Rattle.abc_lines.specs.declared.{fault.Fault.Fault, fault.TuneError.TuneError}

-- no other value and no other fault is the result
abbrev pub IsOnlyResult : {X : Type 0} → (Result X Fault → Type 0) → Result X Fault → Type 0
IsOnlyResult {X} Is result = (other : Result X Fault) → Is other → result ≡ other

-- the same for an error of a call; Memory says nothing
abbrev pub IsOnlyFault : {X : Type 0} → (Result X Fault → Type 0) → TuneError → Type 0
IsOnlyFault Is TuneError.Memory = ⊤
IsOnlyFault Is (TuneError.Fault fault) = IsOnlyResult Is (Err fault)

-- there is exactly one result
abbrev pub HasOneResult : {X : Type 0} → (Result X Fault → Type 0) → Type 0
HasOneResult {X} Is = (result : Result X Fault) × Is result × IsOnlyResult Is result

-- A sequence of stages has one result if each stage has.
use Rattle.std.proofs.Common.{◌≡◌, sym, subst, Result, Ok, Err}
use Rattle.abc_lines.specs.declared.fault.Fault.{Fault}

-- a stage has one result
abbrev pub IsOnce : (X : Type 0) → (Result X Fault → Type 0) → Type 0
IsOnce X P = (r q : Result X Fault) → P r → P q → r ≡ q

-- a stage, and, if it has no fault, the next one
pub data Then (X Y : Type 0) (P : Result X Fault → Type 0) (Q : X → Result Y Fault → Type 0) : Result Y Fault
    → Type 0 where
  goes_on : (x : X) (r : Result Y Fault) → P (Ok x) → Q x r → Then X Y P Q r
  stops : (f : Fault) → P (Err f) → Then X Y P Q (Err f)

pub then_once : (X Y : Type 0) (P : Result X Fault → Type 0) (Q : X → Result Y Fault → Type 0)
    → IsOnce X P → ((x : X) → P (Ok x) → IsOnce Y (Q x)) → IsOnce Y (Then X Y P Q)
then_once X Y P Q one next _ _ (goes_on x r p a) (goes_on y q o b) =
    let e = one (Ok x) (Ok y) p o in let same : x ≡ y = cc in next x p r q a (subst (λ z. Q z q) (sym same) b)
then_once X Y P Q one next _ _ (goes_on x r p a) (stops g o) = let clash = one (Ok x) (Err g) p o in cc
then_once X Y P Q one next _ _ (stops f p) (goes_on y q o b) = let clash = one (Err f) (Ok y) p o in cc
then_once X Y P Q one next _ _ (stops f p) (stops g o) = let e = one (Err f) (Err g) p o in cc

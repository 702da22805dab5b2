-- Six whole numbers on top of the stack, two at a time.
use Rattle.std.proofs.Common.{◌≡◌, ℕ, zero, suc, ◌≤◌, ℤ, true, false, List, [], ◌∷◌, length, refl, ◌∙◌, ap, arith}
use Rattle.std.specs.Prelude.{Err}
use Rattle.ps_steps.specs.declared.halt.Cause.{Cause}
use Rattle.ps_steps.specs.declared.value.Operand.{Operand}
use Rattle.ps_steps.specs.declared.value.Operand.TheVariants.{Whole as whole_value}
use Rattle.ps_steps.specs.State.{State}
use Rattle.ps_steps.specs.Operators.{Outcome, halted, has, pick, with_six, curveto}
use Rattle.ps_machine.specs.{declared.state.Stop.Stop, Doing.DidOrStopped, Doing.IsPointOfSix, Doing.IsSix}

has_so_many : (n : ℕ) (st : List Operand) → n ≤ length st → has n st ≡ true
has_so_many zero st l = refl
has_so_many (suc n) [] l = absurd (omega arith)
has_so_many (suc n) (v ∷ st) l = has_so_many n st (omega arith)

-- if there are six values, they are picked
picked : (st : List Operand) (m : State) (f : List ℤ → State → Outcome)
    → 6 ≤ length st → with_six st m f ≡ pick [] 6 st m f
picked st m f l =
    ap (λ x. elim x as (λ _. Outcome) [ true ↦ pick [] 6 st m f | false ↦ halted Cause.Stack ]) (has_so_many 6 st l)

pub end_stops : (st left new : List Operand) (e : Stop)
    → 6 ≤ length st → IsPointOfSix st (Err e) left → IsSix st (Err e) new
end_stops st left new (Stop.Halted cause) l h = λ m f. picked st m f l ∙ h [] 4 m f
end_stops st left new Stop.Memory l h = h

pub second_stops : (st mid left new : List Operand) (p : ℤ × ℤ) (e : Stop)
    → 6 ≤ length st → st ≡ whole_value p.1 ∷ whole_value p.0 ∷ mid → IsPointOfSix mid (Err e) left
    → IsSix st (Err e) new
second_stops st mid left new p (Stop.Halted cause) l a h =
    λ m f. picked st m f l ∙ (ap (λ s. pick [] 6 s m f) a ∙ h (p.0 ∷ p.1 ∷ []) 2 m f)
second_stops st mid left new p Stop.Memory l a h = h

pub first_stops : (st mid more left new : List Operand) (p q : ℤ × ℤ) (e : Stop)
    → 6 ≤ length st → st ≡ whole_value p.1 ∷ whole_value p.0 ∷ mid → mid ≡ whole_value q.1 ∷ whole_value q.0 ∷ more
    → IsPointOfSix more (Err e) left
    → IsSix st (Err e) new
first_stops st mid more left new p q (Stop.Halted cause) l a b h =
    λ m f.
    picked st m f l
    ∙ (ap (λ s. pick [] 6 s m f) a ∙ (ap (λ s. pick (p.0 ∷ p.1 ∷ []) 4 s m f) b ∙ h (q.0 ∷ q.1 ∷ p.0 ∷ p.1 ∷ []) 0 m f))
first_stops st mid more left new p q Stop.Memory l a b h = h

-- and what halts the pick halts the operator
pub six_stops : (st left : List Operand) (m k : State) (e : Stop)
    → IsSix st (Err e) left → DidOrStopped (with_six st m curveto) (Err e) k
six_stops st left m k (Stop.Halted cause) h = h m curveto
six_stops st left m k Stop.Memory h = absurd h

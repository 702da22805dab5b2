-- What operators do, step by step.
use Rattle.std.proofs.Common.{◌≡◌, ℤ, Bool, true, false, ◌&&◌, List, [], ◌∷◌, ◌++◌, refl, sym, subst, ◌∙◌, ap}
use Rattle.std.proofs.Common.{FitsSigned, w64, to_z, of_z}
use Rattle.std.proofs.lemmas.Int.{to_z-of_z}
use Rattle.std.specs.Prelude.{Err}
use Rattle.ps_steps.specs.declared.halt.Cause.{Cause}
use Rattle.ps_steps.specs.declared.graphics.Graphics.{Graphics}
use Rattle.ps_steps.specs.declared.paint.Seg.{Seg}
use Rattle.ps_steps.specs.Near.{is_near}
use Rattle.ps_steps.specs.State.{State}
use Rattle.ps_steps.specs.Operators.{Outcome, went, halted, lineto, curveto, add_seg, at_point, in_range, across, above}
use Rattle.ps_steps.specs.Operators.{all_near}
use Rattle.ps_machine.specs.{declared.state.Stop.Stop, Doing.DidOrStopped, Doing.IsPoint}

is_in_range : (zs : List ℤ) (x : Outcome) → all_near zs ≡ true → in_range zs x ≡ x
is_in_range zs x e = rw (e, in_range) refl

pub line_did : (x y : ℤ) (m : State) (p q : ℤ)
    → ((o : Outcome) → at_point m.now.path o ≡ o)
    → (p ≡ across m.now x) × (q ≡ above m.now y) × (all_near (across m.now x ∷ above m.now y ∷ []) ≡ true)
    → lineto x y m ≡ went [] (record m { now = record m.now { path = m.now.path ++ Seg.Line p q ∷ [] } })
line_did x y m p q on h = on _ ∙ is_in_range (across m.now x ∷ above m.now y ∷ []) _ h.2 ∙ rw (h.0, h.1) refl

out_of_range : (zs : List ℤ) (x : Outcome) → all_near zs ≡ false → in_range zs x ≡ halted Cause.Range
out_of_range zs x e = rw (e, in_range) refl

near_parts : (xs ys : List ℤ) → all_near (xs ++ ys) ≡ (all_near xs && all_near ys)
near_parts [] ys = refl
near_parts (z ∷ xs) ys = one (is_near z) (near_parts xs ys)
  where
    one : (p : Bool) → all_near (xs ++ ys) ≡ (all_near xs && all_near ys)
        → (p && all_near (xs ++ ys)) ≡ ((p && all_near xs) && all_near ys)
    one true e = e
    one false e = refl

and_false : (p : Bool) → (p && false) ≡ false
and_false true = refl
and_false false = refl

six_near : (a b c d x y : ℤ)
    → all_near (a ∷ b ∷ []) ≡ true → all_near (c ∷ d ∷ []) ≡ true → all_near (x ∷ y ∷ []) ≡ true
    → all_near (a ∷ b ∷ c ∷ d ∷ x ∷ y ∷ []) ≡ true
six_near a b c d x y e f g =
    near_parts (a ∷ b ∷ []) (c ∷ d ∷ x ∷ y ∷ []) ∙ ap (λ t. t && all_near (c ∷ d ∷ x ∷ y ∷ [])) e
    ∙ near_parts (c ∷ d ∷ []) (x ∷ y ∷ []) ∙ ap (λ t. t && all_near (x ∷ y ∷ [])) f ∙ g

-- and the numbers aren't all in range if two of them aren't
first_far : (a b c d x y : ℤ) → all_near (a ∷ b ∷ []) ≡ false → all_near (a ∷ b ∷ c ∷ d ∷ x ∷ y ∷ []) ≡ false
first_far a b c d x y e = near_parts (a ∷ b ∷ []) (c ∷ d ∷ x ∷ y ∷ []) ∙ ap (λ t. t && all_near (c ∷ d ∷ x ∷ y ∷ [])) e

second_far : (a b c d x y : ℤ) → all_near (c ∷ d ∷ []) ≡ false → all_near (a ∷ b ∷ c ∷ d ∷ x ∷ y ∷ []) ≡ false
second_far a b c d x y e =
    near_parts (a ∷ b ∷ []) (c ∷ d ∷ x ∷ y ∷ [])
    ∙ ap (λ t. all_near (a ∷ b ∷ []) && t)
    (near_parts (c ∷ d ∷ []) (x ∷ y ∷ []) ∙ ap (λ t. t && all_near (x ∷ y ∷ [])) e)
    ∙ and_false (all_near (a ∷ b ∷ []))

third_far : (a b c d x y : ℤ) → all_near (x ∷ y ∷ []) ≡ false → all_near (a ∷ b ∷ c ∷ d ∷ x ∷ y ∷ []) ≡ false
third_far a b c d x y e =
    near_parts (a ∷ b ∷ c ∷ d ∷ []) (x ∷ y ∷ [])
    ∙ ap (λ t. all_near (a ∷ b ∷ c ∷ d ∷ []) && t) e
    ∙ and_false (all_near (a ∷ b ∷ c ∷ d ∷ []))

-- a point in range
abbrev pub IsThere : Graphics → ℤ → ℤ → ℤ → ℤ → Type 0
IsThere g x y p q = (p ≡ across g x) × (q ≡ above g y) × (all_near (across g x ∷ above g y ∷ []) ≡ true)

pub curve_did : (a b c d x y : ℤ) (m : State) (p q r s t u : ℤ)
    → ((o : Outcome) → at_point m.now.path o ≡ o) → IsThere m.now a b p q → IsThere m.now c d r s
    → IsThere m.now x y t u
    → curveto (a ∷ b ∷ c ∷ d ∷ x ∷ y ∷ []) m
    ≡ went [] (record m { now = record m.now { path = m.now.path ++ Seg.Curve p q r s t u ∷ [] } })
curve_did a b c d x y m p q r s t u on h k l =
    on _
    ∙ (is_in_range
    (across m.now a ∷ above m.now b ∷ across m.now c ∷ above m.now d ∷ across m.now x ∷ above m.now y ∷ []) _
    (six_near (across m.now a) (above m.now b) (across m.now c) (above m.now d) (across m.now x) (above m.now y) h.2 k.2
    l.2)
    ∙ rw (h.0, h.1, k.0, k.1, l.0, l.1) refl)

curve_far : (a b c d x y : ℤ) (m : State) → ((o : Outcome) → at_point m.now.path o ≡ o)
    → all_near (across m.now a ∷ above m.now b ∷ across m.now c ∷ above m.now d ∷ across m.now x ∷ above m.now y ∷ [])
    ≡ false
    → curveto (a ∷ b ∷ c ∷ d ∷ x ∷ y ∷ []) m ≡ halted Cause.Range
curve_far a b c d x y m on e =
    let piece =
    Seg.Curve (across m.now a) (above m.now b) (across m.now c) (above m.now d) (across m.now x) (above m.now y) in
    on _
    ∙ out_of_range
    (across m.now a ∷ above m.now b ∷ across m.now c ∷ above m.now d ∷ across m.now x ∷ above m.now y ∷ [])
    (add_seg piece m) e

-- a point as passed in the machine's numbers
pub point_passed : (g : Graphics) (x y : ℤ) (e : Stop)
    → FitsSigned w64 x → FitsSigned w64 y
    → IsPoint g (to_z w64 (of_z w64 x)) (to_z w64 (of_z w64 y)) (Err e)
    → IsPoint g x y (Err e)
point_passed g x y e across above h =
    subst (λ z. IsPoint g x z (Err e)) (to_z-of_z w64 y above)
    (subst (λ z. IsPoint g z (to_z w64 (of_z w64 y)) (Err e)) (to_z-of_z w64 x across) h)

-- a curve stops if one of its points is out of range
pub first_stops : (a b c d x y : ℤ) (m k : State) (e : Stop)
    → ((o : Outcome) → at_point m.now.path o ≡ o) → IsPoint m.now a b (Err e)
    → DidOrStopped (curveto (a ∷ b ∷ c ∷ d ∷ x ∷ y ∷ []) m) (Err e) k
first_stops a b c d x y m k (Stop.Halted cause) on h =
    curve_far a b c d x y m on
    (first_far (across m.now a) (above m.now b) (across m.now c) (above m.now d) (across m.now x) (above m.now y) h.1)
    ∙ ap halted (sym h.0)
first_stops a b c d x y m k Stop.Memory on h = absurd h

pub second_stops : (a b c d x y : ℤ) (m k : State) (e : Stop)
    → ((o : Outcome) → at_point m.now.path o ≡ o) → IsPoint m.now c d (Err e)
    → DidOrStopped (curveto (a ∷ b ∷ c ∷ d ∷ x ∷ y ∷ []) m) (Err e) k
second_stops a b c d x y m k (Stop.Halted cause) on h =
    curve_far a b c d x y m on
    (second_far (across m.now a) (above m.now b) (across m.now c) (above m.now d) (across m.now x) (above m.now y) h.1)
    ∙ ap halted (sym h.0)
second_stops a b c d x y m k Stop.Memory on h = absurd h

pub third_stops : (a b c d x y : ℤ) (m k : State) (e : Stop)
    → ((o : Outcome) → at_point m.now.path o ≡ o) → IsPoint m.now x y (Err e)
    → DidOrStopped (curveto (a ∷ b ∷ c ∷ d ∷ x ∷ y ∷ []) m) (Err e) k
third_stops a b c d x y m k (Stop.Halted cause) on h =
    curve_far a b c d x y m on
    (third_far (across m.now a) (above m.now b) (across m.now c) (above m.now d) (across m.now x) (above m.now y) h.1)
    ∙ ap halted (sym h.0)
third_stops a b c d x y m k Stop.Memory on h = absurd h

-- One step of a walk along the steps of a voice.
use Rattle.std.proofs.Common.{◌≡◌, ◌∙◌, sym, ap, ℕ, ◌+◌, ◌<◌, List, [], ◌∷◌, ◌++◌, append_assoc, length, drop, take}
use Rattle.std.proofs.Common.{get_or, reverse}
use Rattle.std.proofs.lemmas.List.{drop_more, take_more, reverse-append}
use Rattle.mus_units.specs.declared.pitch.Clef.{Clef}
use Rattle.abc_steps.specs.declared.step.PlacedStep.{PlacedStep}
use Rattle.abc_steps.specs.declared.force.InForce.{InForce}
use Rattle.abc_steps.specs.Looks.{Steps}
use Rattle.abc_steps.specs.Places.{state_at}
use Rattle.abc_faults.specs.Faults.{grace_faults_of, grace_faults, faults_of, faults_in}
use Rattle.abc_faults.specs.Weights.{weights_of, weights_in}

pub at_front : (steps : Steps) (i : ℕ) (at : PlacedStep)
    → i < length steps → at ≡ get_or steps i at → drop i steps ≡ at ∷ drop (i + 1) steps
at_front steps i at less is = drop_more steps i at less ∙ ap (λ x. x ∷ drop (i + 1) steps) (sym is)

pub nearest : (steps : Steps) (i : ℕ) (at : PlacedStep)
    → i < length steps → at ≡ get_or steps i at → reverse (take (i + 1) steps) ≡ at ∷ reverse (take i steps)
nearest steps i at less is =
    ap reverse (take_more steps i at less)
    ∙ reverse-append (take i steps) (get_or steps i at ∷ [])
    ∙ ap (λ x. x ∷ reverse (take i steps)) (sym is)

pub grace_parts : (clef : Clef) (waits : Steps) (i : ℕ) (s : PlacedStep)
    → i < length waits → s ≡ get_or waits i s
    → grace_faults clef (drop i waits) ≡ grace_faults_of clef s s.step ++ grace_faults clef (drop (i + 1) waits)
grace_parts clef waits i s less is = ap (grace_faults clef) (at_front waits i s less is)

pub walk_parts : (first : InForce) (steps : Steps) (i : ℕ) (at : PlacedStep)
    → i < length steps → at ≡ get_or steps i at → faults_in first (reverse (take i steps)) (drop i steps)
    ≡ faults_of (state_at first (reverse (take i steps))) (reverse (take i steps)) at (drop (i + 1) steps) at.step
    ++ faults_in first (reverse (take (i + 1) steps)) (drop (i + 1) steps)
walk_parts first steps i at less is =
    let before = reverse (take i steps) in let following = drop (i + 1) steps in
    ap (faults_in first before) (at_front steps i at less is)
    ∙ ap (λ z. faults_of (state_at first before) before at following at.step ++ faults_in first z following)
    (sym (nearest steps i at less is))

pub weigh_parts : (first : InForce) (steps : Steps) (i : ℕ) (at : PlacedStep)
    → i < length steps → at ≡ get_or steps i at → weights_in first (reverse (take i steps)) (drop i steps)
    ≡ weights_of (state_at first (reverse (take i steps))) (reverse (take i steps)) at (drop (i + 1) steps) at.step
    ++ weights_in first (reverse (take (i + 1) steps)) (drop (i + 1) steps)
weigh_parts first steps i at less is =
    let before = reverse (take i steps) in let following = drop (i + 1) steps in
    ap (weights_in first before) (at_front steps i at less is)
    ∙ ap (λ z. weights_of (state_at first before) before at following at.step ++ weights_in first z following)
    (sym (nearest steps i at less is))

-- one more part of a list, after what was put before it
pub part_more : {A : Type 0} (own rest whole out more all : List A)
    → whole ≡ own ++ rest → more ≡ out ++ own → out ++ whole ≡ all → more ++ rest ≡ all
part_more own rest whole out more all parts put e =
    ap (λ xs. xs ++ rest) put ∙ (append_assoc out own rest ∙ (ap (λ xs. out ++ xs) (sym parts) ∙ e))

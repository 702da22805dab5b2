-- If no pending step means something for an event, nothing is pending for it.
use Rattle.std.proofs.Common.{◌≡◌, ◌∙◌, refl, sym, ap, ℕ, List, [], ◌∷◌, true, false, length}
use Rattle.std.specs.Prelude.{◌==◌}
use Rattle.std.specs.List.{list_any}
use Rattle.std.proofs.lemmas.Bool.{or_parts}
use Rattle.{mus_units.specs.declared.note.Deco.{Deco}, abc_steps.proofs.Between.{is_none}}
use Rattle.abc_steps.specs.declared.force.InForce.{InForce}
use Rattle.abc_steps.specs.declared.step.Step.{Step}
use Rattle.abc_steps.specs.declared.step.PlacedStep.{PlacedStep}
use Rattle.abc_steps.specs.Looks.{Steps}
use Rattle.abc_steps.specs.Force.{changes_at, names_key, names_clef, names_meter}
use Rattle.abc_signs.specs.Waits.{decos_in, mentions_in, graces_in, has_slash, ending_after, tells, nothing_pending}
use Rattle.abc_signs.specs.Waits.{pending_of}

step_idle : (now : InForce) (s : Step) (line column : ℕ) (waits : Steps)
    → tells s ≡ false
    → pending_of now waits [] ≡ pending_of now (record { step = s; line = line; column = column } ∷ waits) []
unfolding pending_of changes_at tells decos_in mentions_in graces_in has_slash ending_after names_key names_clef
    names_meter
step_idle now (Step.Grace slash body) line column waits e = absurd cc
step_idle now (Step.Ending text) line column waits e = absurd cc
step_idle now (Step.Deco deco) line column waits e = absurd cc
step_idle now (Step.Says text) line column waits e = absurd cc
step_idle now (Step.Key text) line column waits e = absurd cc
step_idle now (Step.Meter meter) line column waits e = absurd cc
step_idle now (Step.Clef clef) line column waits e = absurd cc
step_idle now _ line column waits e = refl

all_idle : (now : InForce) (waits : Steps)
    → list_any (λ (s : PlacedStep). tells s.step) waits ≡ false → nothing_pending ≡ pending_of now waits []
unfolding pending_of changes_at
all_idle now [] e = refl
all_idle now (s ∷ waits) e =
    let both = or_parts (tells s.step) (list_any (λ (s : PlacedStep). tells s.step) waits) e in
    all_idle now waits both.1 ∙ step_idle now s.step s.line s.column waits both.0

pub nothing_for : (now : InForce) (waits : Steps) (inside : List Deco)
    → (length inside == 0) ≡ true → list_any (λ (s : PlacedStep). tells s.step) waits ≡ false
    → nothing_pending ≡ pending_of now waits inside
nothing_for now waits inside none idle = all_idle now waits idle ∙ ap (pending_of now waits) (sym (is_none inside none))

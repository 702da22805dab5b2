-- The next of several whole measure rests.
use Rattle.std.proofs.Common.{◌≡◌, sym, ap, ◌∙◌, ℕ, suc, ◌+◌, ◌-◌, ◌<◌, Bool, false, List, [], ◌∷◌, ◌++◌, arith}
use Rattle.std.proofs.Common.{append_assoc}
use Rattle.abc_steps.specs.{declared.step.PlacedStep.PlacedStep, declared.state.VoiceState.VoiceState}
use Rattle.abc_signs.specs.declared.written.WrittenEvent.{WrittenEvent}
use Rattle.abc_signs.specs.declared.written.Pending.{Pending}
use Rattle.abc_signs.specs.declared.written.TreeItem.{TreeItem}
use Rattle.abc_signs.specs.Waits.{nothing_pending}
use Rattle.abc_signs.specs.Signs.{rest_written, further_rests}

next_rest : (now : VoiceState) (at : PlacedStep) (seen : Bool) (measure i count : ℕ)
    → i < count
    → further_rests now at seen (measure + i) (count - i)
    ≡ TreeItem.Event (rest_written now at seen (measure + i) false) nothing_pending
    ∷ further_rests now at seen (measure + (i + 1)) (count - (i + 1))
next_rest now at seen measure i count less =
    let left : count - i ≡ suc (count - (i + 1)) = omega arith in
    let place : measure + i + 1 ≡ measure + (i + 1) = omega arith in
    ap (λ n. further_rests now at seen (measure + i) n) left
    ∙ ap (λ m.
    TreeItem.Event (rest_written now at seen (measure + i) false) nothing_pending
    ∷ further_rests now at seen m (count - (i + 1)))
    place

-- in the form of the code: what was made and pushed
pub rest_pushed : (now : VoiceState) (at : PlacedStep) (seen : Bool) (measure i j count : ℕ) (w : WrittenEvent)
    (waiting : Pending) (out out' all : List TreeItem)
    → i < count → j ≡ i → w ≡ rest_written now at seen (measure + j) false → waiting ≡ nothing_pending
    → out' ≡ out ++ TreeItem.Event w waiting ∷ []
    → out ++ further_rests now at seen (measure + i) (count - i) ≡ all
    → out' ++ further_rests now at seen (measure + (i + 1)) (count - (i + 1)) ≡ all
rest_pushed now at seen measure i j count w waiting out out' all less same made none put e =
    let more = further_rests now at seen (measure + (i + 1)) (count - (i + 1)) in
    let one = TreeItem.Event (rest_written now at seen (measure + i) false) nothing_pending in
    let is : w ≡ rest_written now at seen (measure + i) false =
    made ∙ ap (λ k. rest_written now at seen (measure + k) false) same in
    let both : TreeItem.Event w waiting ≡ one = ap (λ x. TreeItem.Event x waiting) is
    ∙ ap (λ x. TreeItem.Event (rest_written now at seen (measure + i) false) x) none in
    ap (λ xs. xs ++ more) (put ∙ ap (λ x. out ++ x ∷ []) both)
    ∙ (append_assoc out (one ∷ []) more ∙ (ap (λ xs. out ++ xs) (sym (next_rest now at seen measure i count less)) ∙ e))

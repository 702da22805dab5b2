use Rattle.std.proofs.Common.{◌≡◌, ◌++◌, ◌∷◌, [], ◌∙◌, ap, sym, subst, reverse}
use Rattle.ps_machine.specs.Pens.{AreHeld, IsHeld, drawing_of, followed}
use Rattle.ps_machine.proofs.Held.{all_held_more, drawing_more, held_more}
use Rattle.ps_machine.proofs.canvas.Canvas.push.Goals as goal

pub invariant_of-self-2 : goal.invariant_of-self-2
invariant_of-self-2 c =
    let pieces = c.self.inside.pieces.items in
    let saved = reverse c.self.inside.saved.items in
    let held = held_more pieces c.self.inside.pen c.args.piece c.self.invariant.0 in
    let others = all_held_more pieces saved c.args.piece c.self.invariant.1 in
    subst (λ p. IsHeld p c.follow.new.self × AreHeld p saved) (sym c.in_ok-push.ensures.items)
    (subst (λ q. IsHeld (pieces ++ c.args.piece ∷ []) q) (sym c.follow.ensures) held, others)

pub returns-clause-ok : goal.returns-clause-ok
returns-clause-ok c =
    let saved = reverse c.self.inside.saved.items in
    let pieces = c.self.inside.pieces.items in
    let more = drawing_more pieces c.self.inside.pen saved c.args.piece c.self.invariant.0 c.self.invariant.1 in
    let made : drawing_of c.push.new.self.items c.follow.new.self saved
    ≡ drawing_of (pieces ++ c.args.piece ∷ []) (followed c.self.inside.pen c.args.piece) saved =
    ap (λ p. drawing_of p c.follow.new.self saved) c.in_ok-push.ensures.items
    ∙ ap (λ q. drawing_of (pieces ++ c.args.piece ∷ []) q saved) c.follow.ensures in
    subst (λ d. drawing_of c.push.new.self.items c.follow.new.self saved
    ≡ record d { now = record d.now { path = d.now.path ++ c.args.piece ∷ [] } })
    c.self.view_is (made ∙ more)

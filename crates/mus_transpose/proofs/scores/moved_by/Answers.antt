-- The header's key gives the right move, and the tests decide whether the score can be moved by it.
use Rattle.std.proofs.Common.{◌∙◌, All, List, ap, subst, sym, w8}
use Rattle.std.proofs.lemmas.Int.{to_z-of_z}
use Rattle.mus_score.specs.{declared.score.Score.Score, declared.score.Voice.Voice, Good.IsGoodBody}
use Rattle.mus_transpose.specs.Moved.{move_from}
use Rattle.mus_transpose.proofs.MovedGood.{all_bodies_good, all_in_reach, has_moved, out_of_reach}
use Rattle.mus_transpose.proofs.scores.moved_by.Goals as goal

pub all_in_reach-requires : goal.all_in_reach-requires
all_in_reach-requires c =
    subst (λ (vs : List Voice). All (λ v. All (λ x. IsGoodBody x.body) v.measures) vs)
    (sym (c.as_slice.ensures ∙ ap (λ (t : Score). t.voices) c.in-Ok.ensures.1))
    (all_bodies_good c.move_from-m.result c.args.s.now c.requires)

pub returns-then-branch : goal.returns-then-branch
returns-then-branch c =
    has_moved c.args.s.now c.args.header.now c.args.by c.move_from-m.result c.in-Ok.moved
    (c.move_from-m.ensures ∙ ap (move_from c.args.header.now) (to_z-of_z w8 c.args.by c.ranges.by)) c.in-Ok.ensures.1
    (sym c.in_ok-on_circle.ensures ∙ c.if-not-branch.false) c.in-Ok.ensures.0
    (sym (c.in_ok-all_in_reach.ensures ∙ ap all_in_reach c.as_slice.ensures) ∙ c.if-branch.true)

pub returns-else-branch : goal.returns-else-branch
returns-else-branch c =
    out_of_reach c.args.s.now c.args.header.now c.args.by c.move_from-m.result c.in-Ok.moved
    (c.move_from-m.ensures ∙ ap (move_from c.args.header.now) (to_z-of_z w8 c.args.by c.ranges.by)) c.in-Ok.ensures.1
    (sym (c.in_ok-all_in_reach.ensures ∙ ap all_in_reach c.as_slice.ensures) ∙ c.if-branch.false)

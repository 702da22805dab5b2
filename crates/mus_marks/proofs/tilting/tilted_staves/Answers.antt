use Rattle.std.proofs.Common.{◌≡◌, ◌∙◌, map, rules, ap, subst}
use Rattle.std.specs.List.{slice_range}
use Rattle.std.specs.Prelude.{IfOk}
use Rattle.mus_score.specs.Seats.{grouped}
use Rattle.mus_bridges.specs.Ends.{over, voice_ended}
use Rattle.mus_slots.specs.Words.{IsOrdered}
use Rattle.mus_marks.specs.Staff.{staff_marks}
use Rattle.mus_marks.specs.System.{is_drawn_lower}
use Rattle.mus_marks.specs.Tilt.{sloped_over}
use Rattle.mus_marks.proofs.AllTilted.{all_tilted, staves_tilted, tilted_all}
use Rattle.mus_marks.proofs.tilting.tilted_staves.Goals as goal

pub staves-requires-clause-ordered : goal.staves-requires-clause-ordered
staves-requires-clause-ordered c =
    let frame = c.args.frame.now in
    let keys = frame.keys.now in
    let at = c.args.at.now in
    let a = frame.a in
    let b = frame.b in
    let vs = c.args.voices.now in
    let ends = c.as_slice.result.now in
    let made : ends ≡ map (λ v. sloped_over keys at a (slice_range v.measures a b)) vs = search rules in
    tilted_all keys at a b (IsOrdered keys frame.lengths.now a b) vs (over (voice_ended a) ends vs)
    (all_tilted keys at a b vs ends made) c.requires.ordered

pub returns-clause-staves : goal.returns-clause-staves
returns-clause-staves c =
    let frame = c.args.frame.now in
    let keys = frame.keys.now in
    let lengths = frame.lengths.now in
    let at = c.args.at.now in
    let a = frame.a in
    let b = frame.b in
    let vs = c.args.voices.now in
    let ends = c.as_slice.result.now in
    let made : ends ≡ map (λ v. sloped_over keys at a (slice_range v.measures a b)) vs = search rules in
    subst (λ ss. IfOk c.staves.result (λ r. r ≡ ss))
    (ap (λ ws. map (staff_marks keys lengths a b) (grouped is_drawn_lower ws)) (all_tilted keys at a b vs ends made)
    ∙ staves_tilted keys at a b lengths vs)
    c.staves.ensures.staves

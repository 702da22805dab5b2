use Rattle.std.proofs.Common.{◌∙◌, ◌++◌, flat_map, map, ap}
use Rattle.mus_laid.specs.Boxes.{staff_heights}
use Rattle.mus_laid.specs.Ranked.{bridge_at}
use Rattle.mus_slots.specs.Staff.{place_over}
use Rattle.mus_marks.proofs.staves.place_on.Goals as goal

pub returns : goal.returns
returns c =
    let all = flat_map (λ part. part) c.args.parts.now in
    c.place_over.ensures
    ∙ ap (place_over c.args.verses)
    (c.heights_on.ensures
    ∙ ap (λ t. staff_heights (all ++ t))
    (c.as_slice.ensures
    ∙ c.in_ok-put_bridges.ensures
    ∙ ap (λ t. t ++ map (bridge_at c.args.keys.now) c.args.bridges.now) c.new-between.ensures))

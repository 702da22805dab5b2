use Rattle.std.proofs.{Common.◌≡◌, Common.pos, Common.arith, Common.to_z, Common.w64, lemmas.Int.ints}
use Rattle.lay_pages.proofs.Under.{stacked_at}
use Rattle.lay_pages.proofs.stacking.stack.Goals as goal

pub returns-clause-stacked : goal.returns-clause-stacked
returns-clause-stacked c =
    let within = c.in_ok-bases.ensures.within in
    let bottom : to_z w64 c.in_ok-bases.bottom ≡ pos c.in_ok-bases.bottom = omega (arith, ints, within) in
    stacked_at c.args.gaps.now c.args.system.now.staves c.as_slice.result.now c.in_ok-bases.bases c.in_ok-bases.bottom
    (to_z w64 c.in_ok-bases.bottom) c.as_slice.ensures c.in_ok-bases.ensures.bases c.in_ok-bases.ensures.bottom bottom
    c.requires.gaps c.requires.good

use Rattle.std.proofs.Common.{◌≤◌, ◌+◌, sym, subst, arith}
use Rattle.lay_pages.specs.Filling.{CanFollow, down_after, group_height}
use Rattle.lay_pages.proofs.Fitting.{after_within, end_of, first_room}
use Rattle.lay_pages.proofs.filling.fill_after.Goals as goal

pub spots_from-requires-clause-room : goal.spots_from-requires-clause-room
spots_from-requires-clause-room c =
    subst (λ place. place.down + group_height c.args.blocks.now ≤ c.args.high) (sym c.first_place-place.ensures)
    (first_room c.args.high c.args.last_block c.args.blocks.now c.requires.last_block c.requires.fits)

pub returns-clause-within : goal.returns-clause-within
returns-clause-within c =
    after_within c.args.high c.args.last_block c.args.blocks.now c.first_place-place.result c.in_ok-filled.filled.spots
    c.first_place-place.ensures c.in_ok-filled.ensures.spots
    c.requires.good c.requires.last_block c.requires.fits

pub returns-clause-follows : goal.returns-clause-follows
returns-clause-follows c loose =
    subst CanFollow (sym c.in_ok-filled.ensures.last_block)
    (end_of c.args.high c.args.high c.first_place-place.result c.args.blocks.now c.requires.good loose
    (subst (λ last_block. down_after last_block ≤ c.args.high) c.in_ok-filled.ensures.last_block
    c.in_ok-filled.ensures.down)
    (omega arith))

use Rattle.std.proofs.Common.{◌∙◌, ◌≤◌, ap, length, refl, rules, subst, sym}
use Rattle.lay_pages.specs.Even.{StandByPages, group_heights, most_groups, parted}
use Rattle.lay_pages.specs.Filling.{AreWithin}
use Rattle.lay_pages.specs.Parting.{AreFitting, parted_spots}
use Rattle.lay_pages.proofs.Pages.{are_even, chosen_fits, filled_if, parted_stacked, parted_within}
use Rattle.lay_pages.proofs.even.fill_even.Goals as goal

pub returns-then-groups-gt-MOST_GROUPS-clause-stacked : goal.returns-then-groups-gt-MOST_GROUPS-clause-stacked
returns-then-groups-gt-MOST_GROUPS-clause-stacked c =
    filled_if c.args.high c.args.blocks.now c.fill.result c.fill.ensures.within c.fill.ensures.filled

pub part-requires-clause-fits : goal.part-requires-clause-fits
part-requires-clause-fits c =
    subst (λ breaks. AreFitting c.args.high 0 0 breaks (group_heights c.args.blocks.now)) (sym c.as_slice.ensures)
    (chosen_fits c.args.high c.args.blocks.now c.in_ok-heights.heights c.len-groups.result c.in_ok-breaks.breaks
    c.in_ok-heights.ensures.value c.len-groups.ensures c.in_ok-breaks.ensures)

pub returns-clause-within : goal.returns-clause-within
returns-clause-within c =
    subst (AreWithin c.args.high c.args.blocks.now) (sym c.in_ok-spots.ensures)
    (parted_within c.args.high 0 c.as_slice.result.now (record { page = 0; down = 0 }) c.args.blocks.now c.requires.good
    (subst (λ breaks. AreFitting c.args.high 0 0 breaks (group_heights c.args.blocks.now)) (sym c.as_slice.ensures)
    (chosen_fits c.args.high c.args.blocks.now c.in_ok-heights.heights c.len-groups.result c.in_ok-breaks.breaks
    c.in_ok-heights.ensures.value c.len-groups.ensures c.in_ok-breaks.ensures)))

pub returns-clause-stacked : goal.returns-clause-stacked
returns-clause-stacked c =
    subst (StandByPages c.args.high c.args.blocks.now) (sym c.in_ok-spots.ensures)
    (parted_stacked c.args.high c.as_slice.result.now c.args.blocks.now c.requires.good)

pub returns-clause-spots : goal.returns-clause-spots
returns-clause-spots c =
    let few : c.len-groups.result ≤ most_groups = search rules in
    parted refl
    (subst (λ hs. length hs ≤ most_groups) c.in_ok-heights.ensures.value
    (subst (λ n. n ≤ most_groups) c.len-groups.ensures few))
    (are_even c.args.high c.args.blocks.now c.in_ok-heights.heights c.len-groups.result c.in_ok-breaks.breaks
    c.in_ok-spots.spots c.in_ok-heights.ensures.value c.len-groups.ensures c.in_ok-breaks.ensures c.requires.good
    (c.in_ok-spots.ensures ∙ ap (λ breaks. parted_spots c.args.high breaks c.args.blocks.now) c.as_slice.ensures))

use Rattle.std.proofs.Common.{◌≡◌, ◌∷◌, ◌∙◌, ap, length, arith, rules}
use Rattle.lay_pages.specs.Parting.{ends_after, even_spot_after, turns}
use Rattle.lay_pages.proofs.Pages.{fits_more, groups_next, page_next, parted_more}
use Rattle.lay_pages.proofs.even.part.Goals as goal

pub placing-preserved : goal.placing-preserved
placing-preserved c =
    let ends = c.placing.ends.now in
    let group = c.placing.group in
    let place = c.placing.place in
    let block = c.in-Some.block.now in
    let cut : c.placing.rest.now ≡ block ∷ c.in-Some.more.now = search rules in let count = ap length cut in
    let later : c.ends_after-ends.result.now ≡ ends_after (turns ends group block) ends =
    c.ends_after-ends.ensures ∙ ap (λ t. ends_after t ends) c.turns-turned.ensures in
    let after : c.even_spot_after-place.result ≡ even_spot_after (turns ends group block) place block =
    c.even_spot_after-place.ensures ∙ ap (λ t. even_spot_after t place block) c.turns-turned.ensures in
    let page = page_next ends group place c.even_spot_after-place.result block after in
    let groups = groups_next group c.groups_after-group.result block c.groups_after-group.ensures in
    record {
      value =
          parted_more c.args.high ends c.ends_after-ends.result.now group c.groups_after-group.result place
          c.even_spot_after-place.result block c.placing.rest.now c.in-Some.more.now c.placing.spots c.push.new.self _
          c.spot_at.result cut
          c.in_ok-push.ensures.ok c.spot_at.ensures later c.groups_after-group.ensures after c.placing.invariant.value;
      good = search rules;
      page = omega (arith, page, count, c.placing.invariant.page);
      groups = omega (arith, groups, count, c.placing.invariant.groups);
      fits =
          fits_more c.args.high ends c.ends_after-ends.result.now group c.groups_after-group.result place
          c.even_spot_after-place.result block c.placing.rest.now c.in-Some.more.now cut later
          c.groups_after-group.ensures after c.placing.invariant.fits;
    }

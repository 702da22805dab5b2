use Rattle.std.proofs.Common.{◌≡◌, ◌∷◌, refl, false, length, arith, rules, ap, sym, subst}
use Rattle.lay_pages.proofs.Fitting.{IsReady, ready_more, page_more, standing_more, value_more, some_of}
use Rattle.lay_pages.proofs.filling.spots_from.Goals as goal

pub placing-init : goal.placing-init
placing-init c = record {
  value = search rules;
  last_block = refl;
  good = c.requires.good;
  page = omega arith;
  ready = record { fits = c.requires.room; number = 0; tied = false; none = c.requires.fits };
}

pub placing-preserved : goal.placing-preserved
placing-preserved c =
    let cut : c.placing.rest.now ≡ c.in-Some.block.now ∷ c.in-Some.more.now = search rules in
    let ready : IsReady c.args.high c.placing.place (c.in-Some.block.now ∷ c.in-Some.more.now) =
    subst (λ bs. IsReady c.args.high c.placing.place bs) cut c.placing.invariant.ready in
    let here = c.next_place-place.ensures in
    let one = page_more c.args.high c.placing.place c.in-Some.block.now c.in-Some.more.now in
    let count = ap length cut in
    let page = ap (λ p. p.page) here in
    record {
      value =
          value_more c.args.high c.placing.place c.next_place-place.result c.in-Some.block.now c.placing.rest.now
          c.in-Some.more.now c.placing.spots c.push.new.self _ c.spot_at.result cut c.in_ok-push.ensures.ok
          c.spot_at.ensures here c.placing.invariant.value;
      last_block =
          standing_more c.args.high c.placing.place c.next_place-place.result c.in-Some.block.now c.placing.rest.now
          c.in-Some.more.now _ cut (some_of c.in-Some.more.now c.if-is_empty.ensures) here
          c.placing.invariant.last_block;
      good = search rules;
      page = omega (arith, one, count, page, c.placing.invariant.page);
      ready =
          subst (λ p. IsReady c.args.high p c.in-Some.more.now) (sym here)
          (ready_more c.args.high c.placing.place c.in-Some.block.now c.in-Some.more.now
          (some_of c.in-Some.more.now c.if-is_empty.ensures) ready);
    }

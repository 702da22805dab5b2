use Rattle.std.proofs.Common.{◌≡◌, ◌+◌, ◌++◌, ◌∷◌, [], ◌∙◌, length, length-append, drop, append_assoc, refl, sym, ap}
use Rattle.std.proofs.Common.{subst, arith, rules, to_z, of_z, to_z-of_z, w64}
use Rattle.std.proofs.lemmas.Int.{ints}
use Rattle.std.proofs.lemmas.Slice.Zip.{zip_turn}
use Rattle.lay_pages.specs.Stacking.{above_base, below_base, bases_after, bottom_after, under_top}
use Rattle.lay_pages.proofs.Under.{one_more}
use Rattle.lay_pages.proofs.stacking.put_bases.Goals as goal

pub loop-staff-preserved : goal.loop-staff-preserved
loop-staff-preserved c =
    let turn = zip_turn c.args.staves.now c.args.gaps.now c.loop-staff.yielded c.into_iter-staff-iterator.result
    c.loop-staff.staff-iterator c.next.new.self _ (search rules) (search rules) c.loop-staff.yielded_by
    (c.in-Some.staff, c.in-Some.gap) refl c.in-Some.ensures.steps in
    let n = length c.loop-staff.yielded in
    let next : length c.loop-staff.yielded + 1 ≡ length (c.loop-staff.yielded ++ (c.in-Some.staff, c.in-Some.gap) ∷ [])
    = sym (length-append c.loop-staff.yielded ((c.in-Some.staff, c.in-Some.gap) ∷ [])) in
    let base = c.loop-staff.bottom + c.from.result + c.above_base.result in
    let low = base + c.below_base.result in
    let gap : c.from.result ≡ c.in-Some.gap.now = search rules in
    let up : c.loop-staff.bottom + c.from.result + c.above_base.result ≡ c.loop-staff.bottom + c.in-Some.gap.now +
    above_base c.in-Some.staff.now.high = search (arith, ints, to_z-of_z, gap, c.above_base.ensures.value) in
    let down : c.loop-staff.bottom + c.from.result + c.above_base.result + c.below_base.result ≡ c.loop-staff.bottom +
    c.from.result + c.above_base.result + below_base c.in-Some.staff.now.low = search
    (arith, ints, to_z-of_z, c.below_base.ensures.value) in
    let here : to_z w64 (of_z w64 c.under_top.result) ≡ under_top
    (c.loop-staff.bottom + c.from.result + c.above_base.result) = search
    (arith, ints, to_z-of_z, c.under_top.ensures) in
    let more = one_more c.args.staves.now c.args.gaps.now n c.loop-staff.bottom base low c.in-Some.staff.now
    c.in-Some.gap.now turn.0 turn.1 (turn.2 _) (turn.3 _) up down in
    let rest = bases_after low (drop (n + 1) c.args.staves.now) (drop (n + 1) c.args.gaps.now) in
    record {
      bases =
          subst (λ k.
          c.push.new.self ++ bases_after low (drop k c.args.staves.now) (drop k c.args.gaps.now)
          ≡ c.args.bases.now ++ bases_after c.args.bottom c.args.staves.now c.args.gaps.now)
          next
          (ap (λ t. t ++ rest) c.in_ok-push.ensures.ok
          ∙ append_assoc c.loop-staff.bases (to_z w64 (of_z w64 c.under_top.result) ∷ []) rest
          ∙ ap (λ b. c.loop-staff.bases ++ b ∷ rest) here
          ∙ ap (λ t. c.loop-staff.bases ++ t) (sym more.0)
          ∙ c.loop-staff.invariant.bases);
      bottom =
          subst (λ k.
          bottom_after low (drop k c.args.staves.now) (drop k c.args.gaps.now)
          ≡ bottom_after c.args.bottom c.args.staves.now c.args.gaps.now)
          next
          (sym more.1 ∙ c.loop-staff.invariant.bottom);
      low = search (arith, rules, next);
    }

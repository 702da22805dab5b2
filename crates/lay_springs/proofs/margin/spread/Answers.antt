use Rattle.std.proofs.Common.{◌≡◌, ◌-◌, ◌*◌, ◌/◌, ◌≢◌, ℤ, pos, ◌+ℤ◌, length, slice_index_or, slice_set, arith, ◌∙◌}
use Rattle.std.proofs.Common.{to_z, of_z, w64, get_or-set_same, get_or-set_other}
use Rattle.std.proofs.lemmas.Int.{ints}
use Rattle.lay_springs.proofs.Clear.{below_or_at}
use Rattle.lay_springs.proofs.margin.spread.Goals as goal

pub loop-k-preserved : goal.loop-k-preserved
loop-k-preserved c =
    let inv = c.loop-k.invariant in
    let here = inv.left c.loop-k.k (omega arith) in
    let low = (c.requires.small c.loop-k.k (omega arith)).0 in
    let high = (c.requires.small c.loop-k.k (omega arith)).1 in
    let new : ℤ = to_z w64
    (of_z w64
    (to_z w64 (of_z w64 (slice_index_or c.loop-k.at c.loop-k.k (pos 0))) +ℤ to_z w64 (of_z w64 c.share.result))) in
    let value = c.share.ensures.value in
    let bound = c.share.ensures.bound in
    let sum : new ≡
    (slice_index_or c.args.at.now c.loop-k.k (pos 0) +ℤ pos (c.args.rest * c.loop-k.k / (length c.args.at.now - 1))) =
    omega (arith, ints) in
    record {
      moved =
          λ i l.
          below_or_at
          (λ i.
          slice_index_or (slice_set c.loop-k.at c.loop-k.k new) i (pos 0)
          ≡ (slice_index_or c.args.at.now i (pos 0) +ℤ pos (c.args.rest * i / (length c.args.at.now - 1))))
          i c.loop-k.k l
          (λ lt.
          let ne : i ≢ c.loop-k.k = omega arith in
          get_or-set_other c.loop-k.at c.loop-k.k i new (pos 0) ne ∙ inv.moved i lt)
          (get_or-set_same c.loop-k.at c.loop-k.k new (pos 0) (omega arith) ∙ sum);
      left = λ i l. let ne : i ≢ c.loop-k.k = omega arith in let same = inv.left i (omega arith) in
          get_or-set_other _ c.loop-k.k i _ (pos 0) ne ∙ same;
    }

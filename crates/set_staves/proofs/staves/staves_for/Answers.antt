use Rattle.std.proofs.Common.{◌≡◌, ◌+ℤ◌, ◌++◌, ◌∷◌, [], length, drop, refl, sym, subst, rules, arith, to_z, of_z, w64}
use Rattle.std.proofs.Common.{to_z-of_z}
use Rattle.std.proofs.lemmas.Int.{ints}
use Rattle.std.proofs.lemmas.List.{length-append}
use Rattle.std.proofs.lemmas.Slice.Zip.{zip_turn}
use Rattle.ps_text.specs.Range.{IsStaff}
use Rattle.set_staves.specs.Marks.{staff_at, staves_at}
use Rattle.set_staves.proofs.Pushed.{all_more, staves_more}
use Rattle.set_staves.proofs.staves.staves_for.Goals as goal

pub loop-staff-preserved : goal.loop-staff-preserved
loop-staff-preserved c =
    let turn = zip_turn c.args.staves.now c.args.bases.now c.loop-staff.yielded c.into_iter-staff-iterator.result
    c.loop-staff.staff-iterator c.next.new.self _ (search rules) (search rules) c.loop-staff.yielded_by
    (c.in-Some.staff, c.in-Some.base) refl c.in-Some.ensures.steps in
    let here : c.in_ok-staff_for.field-0 ≡ staff_at c.args.width c.args.at.now
    (to_z w64 (of_z w64 c.args.top) +ℤ c.in-Some.base.now) c.in-Some.staff.now = search
    (arith, ints, to_z-of_z, c.base_at-y.ensures.value) in
    record {
      value =
          subst (λ n.
          c.push.new.self
          ++ staves_at c.args.width c.args.at.now (to_z w64 (of_z w64 c.args.top)) (drop n c.args.staves.now)
          (drop n c.args.bases.now)
          ≡ staves_at c.args.width c.args.at.now (to_z w64 (of_z w64 c.args.top)) c.args.staves.now c.args.bases.now)
          (sym (length-append c.loop-staff.yielded ((c.in-Some.staff, c.in-Some.base) ∷ [])))
          (staves_more c.args.width c.args.at.now (to_z w64 (of_z w64 c.args.top)) c.args.staves.now c.args.bases.now
          (length c.loop-staff.yielded) c.loop-staff.placed c.push.new.self _
          c.in-Some.staff.now c.in-Some.base.now c.in_ok-staff_for.field-0 turn.0 turn.1 (turn.2 _) (turn.3 _) here
          c.loop-staff.invariant.value c.in_ok-push.ensures.ok);
      good =
          all_more IsStaff c.loop-staff.placed c.push.new.self c.in_ok-staff_for.field-0 c.in_ok-push.ensures.ok
          c.loop-staff.invariant.good c.in_ok-staff_for.ensures.good;
    }

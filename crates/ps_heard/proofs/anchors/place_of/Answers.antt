use Rattle.std.proofs.Common.{◌≡◌, false, subst, get_or, ℤ, to_z, of_z, w64}
use Rattle.std.proofs.lemmas.Int.{to_z-of_z}
use Rattle.std.specs.List.{list_any}
use Rattle.std.specs.Ordering.{int_eq}
use Rattle.std.specs.FinMap.{int_cmp-IsAntisymmetric}
use Rattle.ps_heard.proofs.Places.{none_there, sought}
use Rattle.ps_heard.proofs.anchors.place_of.Goals as goal

pub returns-in-Ok : goal.returns-in-Ok
returns-in-Ok c =
    let x = to_z w64 (of_z w64 c.args.x) in (
      c.in-Ok.ensures.bound,
      subst (λ z. (d : ℤ) → get_or c.args.numbers.now c.in-Ok.place d ≡ z) (to_z-of_z w64 c.args.x c.ranges.x)
          (λ d. int_cmp-IsAntisymmetric (get_or c.args.numbers.now c.in-Ok.place d) x (c.in-Ok.ensures.ok d)),
    )

pub returns-in-Err : goal.returns-in-Err
returns-in-Err c =
    let x = to_z w64 (of_z w64 c.args.x) in
    subst (λ z. list_any (int_eq z) c.args.numbers.now ≡ false) (to_z-of_z w64 c.args.x c.ranges.x)
    (none_there x c.args.numbers.now _ (c.in-Err.ensures.position (sought c.args.numbers.now x c.requires)))

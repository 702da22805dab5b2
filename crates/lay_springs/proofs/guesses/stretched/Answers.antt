use Rattle.std.proofs.Common.{◌≡◌, ◌-◌, ◌*◌, ◌/◌, ◌≤◌, ℕ, length, ap, sym, ◌∙◌, refl, arith, w64}
use Rattle.std.proofs.lemmas.Int.{ints, to_z-of_z}
use Rattle.std.proofs.lemmas.Option.{slice_get_read}
use Rattle.lay_springs.specs.Place.{length_at}
use Rattle.lay_springs.proofs.Extending.{length_is}
use Rattle.lay_springs.proofs.Near.{slack_more}
use Rattle.lay_springs.proofs.Longer.{fewer_apart}
use Rattle.lay_springs.proofs.guesses.stretched.Goals as goal

pub loop-j-init : goal.loop-j-init
loop-j-init g c =
    let begins = c.requires.begins.le in let small = c.requires.small.le in
    record {
      begins = omega (arith, ints);
      small = omega (arith, ints);
      natural = let tight = c.requires.tight.0 in omega arith;
      count = let tight = c.requires.tight.1 in omega arith;
      near = λ gaps x is near f drop y e apart.
          let last = near f drop y e
          (fewer_apart c.args.placed.count (length c.args.cols.now) _ _ gaps _ _ y c.requires.within (λ i lane l. refl)
          (λ i l. refl) apart)
          (c.args.placed.count - 1) (omega arith) in
          omega (arith, ints);
    }

pub loop-j-preserved : goal.loop-j-preserved
loop-j-preserved g c =
    let i = c.loop-j.invariant in let one = c.length-in-loop-j.result in
    let spring : (f : ℕ) → length_at g.C.Spring.length_of c.args.cols.now f c.loop-j.j ≡ one * f / 256 =
    λ f. length_is g.C.Spring.length_of c.args.cols.now f c.loop-j.j c.index-cols-j-in-loop-j.result
    (slice_get_read c.args.cols.now (length c.args.cols.now) c.loop-j.j c.index-cols-j-in-loop-j.result refl
    (omega arith) c.index-cols-j-in-loop-j.is)
    ∙ (g.met.C.LinearSpring.scales c.index-cols-j-in-loop-j.result f
    ∙ ap (λ n. n * f / 256) (sym c.length-in-loop-j.ensures)) in
    let here : c.length.result ≡ one * c.args.placed.force / 256 =
    c.length.ensures
    ∙ sym (length_is g.C.Spring.length_of c.args.cols.now c.args.placed.force c.loop-j.j c.index-cols-j.result
    (slice_get_read c.args.cols.now (length c.args.cols.now) c.loop-j.j c.index-cols-j.result refl (omega arith)
    c.index-cols-j.is))
    ∙ spring c.args.placed.force in
    let short : c.length.result ≤ 1048576 =
    rw c.length.ensures (g.met.C.Spring.is_short c.index-cols-j.result c.args.placed.force
    (let force = c.requires.force in omega arith)) in
    let natural : one ≤ 1048576 =
    rw c.length-in-loop-j.ensures (g.met.C.Spring.is_short c.index-cols-j-in-loop-j.result 256 (omega arith)) in
    let first = c.from-end.ensures in
    let second = c.from-natural.ensures in
    let begins = i.begins in let small = i.small in
    record {
      begins = omega (arith, ints);
      small = omega (arith, ints);
      natural = let n = i.natural in omega arith;
      count = let n = i.count in omega arith;
      near = λ gaps x is near f drop y e apart.
          let old = i.near gaps x is near f drop y e apart in
          let step = rw (spring f) at (apart.springs c.loop-j.j (omega arith)) in
          let more = rw e at (slack_more c.loop-j.natural c.loop-j.count one f drop) in
          rw (first, here, second) (omega (arith, ints));
    }

pub returns-clause-near : goal.returns-clause-near
returns-clause-near g c = λ gaps x is near f drop y e apart.
    let last : c.loop-j.j ≡ length c.args.cols.now - 1 =
    let end = c.loop-j.auto.j-end in let done = c.loop-j-test.false in omega arith in
    rw last at
    (c.loop-j.invariant.near gaps x (is ∙ sym (to_z-of_z w64 c.args.from (record { sfits = c.ranges.from.sfits }))) near
    f drop y e apart)

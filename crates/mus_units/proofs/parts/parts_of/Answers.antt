use Rattle.std.proofs.Common.{rules, ◌≡◌, ap, ◌-◌, [], ◌∷◌, ◌++◌, arith, length, length-append}
use Rattle.mus_units.proofs.Cutting.{cut_none, too_long, none_fits, parts_made, cut_more}
use Rattle.mus_units.proofs.Listed.{cut_first, listed_none, long_at, fails_at, done_at, left_over, cut_one_more}
use Rattle.mus_units.proofs.parts.parts_of.Goals as goal

pub returns-in_default-clause-list : goal.returns-in_default-clause-list
returns-in_default-clause-list c = listed_none c.args.num c.args.den c.in_default.ensures.is

pub returns-then-all-ge16384-clause-list : goal.returns-then-all-ge16384-clause-list
returns-then-all-ge16384-clause-list c =
    long_at c.args.num c.args.den c.in-Some.all c.requires.above c.in-Some.ensures.is
    (omega (arith, c.if-all-ge16384.true))

pub returns-in_default-longest-clause-list : goal.returns-in_default-longest-clause-list
returns-in_default-longest-clause-list c =
    fails_at c.args.num c.args.den c.in-Some.all c.loop-i.left c.loop-i.i c.loop-i.parts c.requires.above
    c.in-Some.ensures.is (omega (arith, c.loop-i-test.true)) (omega (arith, c.if-left-eq0.false))
    c.in_default-longest.ensures c.loop-i.invariant.list

pub returns-then-left-eq0-clause-list : goal.returns-then-left-eq0-clause-list
returns-then-left-eq0-clause-list c =
    done_at c.args.num c.args.den c.in-Some.all c.loop-i.left c.loop-i.i c.loop-i.parts c.requires.above
    c.in-Some.ensures.is (omega (arith, c.if-left-eq0.true)) c.loop-i.invariant.list

pub returns-then-left-eq0-2-clause-list : goal.returns-then-left-eq0-2-clause-list
returns-then-left-eq0-2-clause-list c =
    done_at c.args.num c.args.den c.in-Some.all c.loop-i.left c.loop-i.i c.loop-i.parts c.requires.above
    c.in-Some.ensures.is (omega (arith, c.if-left-eq0-2.true)) c.loop-i.invariant.list

pub returns-else-left-eq0-2-clause-list : goal.returns-else-left-eq0-2-clause-list
returns-else-left-eq0-2-clause-list c =
    left_over c.args.num c.args.den c.in-Some.all c.loop-i.left c.loop-i.i c.loop-i.parts c.requires.above
    c.in-Some.ensures.is (omega (arith, c.loop-i-test.false)) (omega (arith, c.if-left-eq0-2.false))
    c.loop-i.invariant.list

pub returns-then-all-ge16384-clause-parts : goal.returns-then-all-ge16384-clause-parts
returns-then-all-ge16384-clause-parts c vs h =
    too_long vs c.args.num c.args.den c.in-Some.all c.in-Some.ensures.only c.in-Some.ensures.is
    (omega (arith, c.if-all-ge16384.true)) h

pub returns-in_default-longest-clause-parts : goal.returns-in_default-longest-clause-parts
returns-in_default-longest-clause-parts c vs h =
    none_fits c.args.num c.args.den c.in-Some.all c.loop-i.left c.loop-i.parts vs c.in-Some.ensures.only
    c.in-Some.ensures.is c.loop-i.invariant.cut (omega (arith, c.if-left-eq0.false)) c.in_default-longest.ensures h

pub returns-then-left-eq0-clause-parts : goal.returns-then-left-eq0-clause-parts
returns-then-left-eq0-clause-parts c =
    parts_made c.args.num c.args.den c.in-Some.all c.loop-i.left c.loop-i.parts c.in-Some.ensures.is c.requires.some
    c.loop-i.invariant.cut (omega (arith, c.if-left-eq0.true))
    (omega (arith, c.loop-i.invariant.count, c.loop-i.invariant.few))

pub returns-then-left-eq0-2-clause-parts : goal.returns-then-left-eq0-2-clause-parts
returns-then-left-eq0-2-clause-parts c =
    parts_made c.args.num c.args.den c.in-Some.all c.loop-i.left c.loop-i.parts c.in-Some.ensures.is c.requires.some
    c.loop-i.invariant.cut (omega (arith, c.if-left-eq0-2.true))
    (omega (arith, c.loop-i.invariant.count, c.loop-i.invariant.few))

pub loop-i-preserved : goal.loop-i-preserved
loop-i-preserved c =
    let one = length-append c.loop-i.parts (c.in-Some-longest.v ∷ []) in
    let put : length c.push.new.self ≡ length (c.loop-i.parts ++ c.in-Some-longest.v ∷ []) =
    ap length c.in_ok-push.ensures.ok in
    record {
      cut =
          cut_more c.in-Some.all c.loop-i.parts c.push.new.self c.loop-i.left (c.loop-i.left - c.units-left.result)
          c.in-Some-longest.v c.loop-i.invariant.cut c.in-Some-longest.ensures (omega (arith, c.if-left-eq0.false))
          (ap (λ u. c.loop-i.left - u) c.units-left.ensures.value) c.in_ok-push.ensures.ok;
      count = omega (arith, c.loop-i.invariant.count);
      few = omega (arith, c.loop-i-test.true);
      small = omega (arith, c.loop-i.invariant.small);
      list =
          cut_one_more c.in-Some.all c.loop-i.left (c.loop-i.left - c.units-left.result) c.loop-i.i c.loop-i.parts
          c.push.new.self c.in-Some-longest.v (omega (arith, c.loop-i-test.true)) (omega (arith, c.if-left-eq0.false))
          c.in-Some-longest.ensures (ap (λ u. c.loop-i.left - u) c.units-left.ensures.value) c.in_ok-push.ensures.ok
          c.loop-i.invariant.list;
    }

pub loop-i-init : goal.loop-i-init
loop-i-init c = record {
  cut = search (rules, cut_none, c.new-parts.ensures);
  count = ap length c.new-parts.ensures;
  few = omega arith;
  small = omega arith;
  list = cut_first c.in-Some.all c.new-parts.result c.new-parts.ensures;
}

use Rattle.std.proofs.Common.{length, arith, refl, subst}
use Rattle.std.proofs.lemmas.Int.{ints}
use Rattle.std.proofs.lemmas.List.{take_all}
use Rattle.lay_springs.specs.Place.{reach_at, length_at, IsPlace}
use Rattle.lay_springs.proofs.Ends.{end_down}
use Rattle.lay_springs.proofs.Moved.{set_apart}
use Rattle.lay_springs.proofs.margin.set.Goals.{After-place_new}
use Rattle.lay_springs.proofs.margin.set.Goals as goal

place : (g : _) (c : After-place_new g)
    → IsPlace (length c.args.columns.cols.now) (reach_at g.C.Spaced.reach_of c.args.columns.cols.now)
    c.args.columns.gaps.list.now
    (length_at g.C.Spring.length_of c.args.columns.cols.now c.args.force) c.place_new.new.at
place g c =
    subst (λ at.
    IsPlace (length c.args.columns.cols.now) (reach_at g.C.Spaced.reach_of c.args.columns.cols.now)
    c.args.columns.gaps.list.now
    (length_at g.C.Spring.length_of c.args.columns.cols.now c.args.force) at)
    (take_all (length c.args.columns.cols.now) c.place_new.new.at
    (let same = c.place_new.auto.at in let room = c.requires.room in omega arith))
    c.place_new.ensures.place

pub rest_of-rest-requires-clause-fits : goal.rest_of-rest-requires-clause-fits
rest_of-rest-requires-clause-fits g c = λ e end.
    let f = c.requires.fits in
    let d = end_down (length c.args.columns.cols.now) (reach_at g.C.Spaced.reach_of c.args.columns.cols.now)
    c.args.columns.gaps.list.now
    (length_at g.C.Spring.length_of c.args.columns.cols.now) c.args.force c.args.force e f.0 c.args.columns.some
    (λ i. omega arith)
    (record {
      x = c.place_new.new.at;
      place = place g (goal.at.rest_of-rest-requires-clause-fits g c).After-place_new;
      end = end;
    }) f.1 in
    let w = f.2 in omega (arith, ints)

pub returns-then-cols-eq1-clause-set : goal.returns-then-cols-eq1-clause-set
returns-then-cols-eq1-clause-set g c = record {
  x = c.place_new.new.at;
  place = place g (goal.at.returns-then-cols-eq1-clause-set g c).After-place_new;
  count = (place g (goal.at.returns-then-cols-eq1-clause-set g c).After-place_new).count;
  alone = λ _. refl;
  moved = λ l. absurd (omega arith);
}

pub returns-clause-set : goal.returns-clause-set
returns-clause-set g c =
    let r = c.rest_of-rest.ensures in let placed = place g (goal.at.returns-clause-set g c).After-place_new in
    record {
      x = c.place_new.new.at;
      place = placed;
      count = let count = placed.count in omega arith;
      alone = λ l. absurd (omega arith);
      moved = λ l. (r.0, c.rest_of-rest.result, r.1, r.2, λ k l. rw placed.count at (c.spread.ensures k (omega arith)));
    }

pub returns-then-cols-eq1-clause-apart : goal.returns-then-cols-eq1-clause-apart
returns-then-cols-eq1-clause-apart g c =
    set_apart (length c.args.columns.cols.now) (reach_at g.C.Spaced.reach_of c.args.columns.cols.now)
    c.args.columns.gaps.list.now
    (length_at g.C.Spring.length_of c.args.columns.cols.now) c.args.width c.args.force _ c.args.columns.some
    (returns-then-cols-eq1-clause-set g c)

pub returns-clause-apart : goal.returns-clause-apart
returns-clause-apart g c =
    set_apart (length c.args.columns.cols.now) (reach_at g.C.Spaced.reach_of c.args.columns.cols.now)
    c.args.columns.gaps.list.now
    (length_at g.C.Spring.length_of c.args.columns.cols.now) c.args.width c.args.force _ c.args.columns.some
    (returns-clause-set g c)

pub spread-requires-clause-small : goal.spread-requires-clause-small
spread-requires-clause-small g c =
    λ k l. c.place_new.ensures.small k (let same = c.place_new.auto.at in let room = c.requires.room in omega arith)

use Rattle.std.proofs.Common.{◌+◌, ◌/◌, length, arith, refl, ◌∙◌}
use Rattle.lay_springs.specs.Place.{reach_at, length_at}
use Rattle.lay_springs.proofs.Ends.{length_rises}
use Rattle.lay_springs.proofs.Longer.{cannot_stand}
use Rattle.lay_springs.proofs.Made.{passes_at_none}
use Rattle.lay_springs.proofs.halves.greatest.Goals as goal

pub loop-low-preserved : goal.loop-low-preserved
loop-low-preserved g c =
    let i = c.loop-low.invariant in let less = c.loop-low-test.true in record {
      between = omega arith;
      within = let w = i.within in omega arith;
      same = c.fits_at.ensures.columns ∙ i.same;
      fits = i.fits;
      never = λ f from within.
          cannot_stand (length c.args.placing.now.columns.cols.now)
          (reach_at g.C.Spaced.reach_of c.args.placing.now.columns.cols.now)
          c.args.placing.now.columns.gaps.list.now
          (length_at g.C.Spring.length_of c.args.placing.now.columns.cols.now) c.args.width
          ((c.loop-low.low + c.loop-low.high) / 2) f c.args.placing.now.columns.some
          (length_rises g.C.Spring.length_of c.args.placing.now.columns.cols.now
          ((c.loop-low.low + c.loop-low.high) / 2) f
          (λ col. g.met.C.Spring.rises col ((c.loop-low.low + c.loop-low.high) / 2) f from (omega arith)))
          (rw i.same at (c.if-fits_at.ensures.passes refl));
    }

pub returns-else-low-eq0 : goal.returns-else-low-eq0
returns-else-low-eq0 g c =
    let i = c.loop-low.invariant in
    let done = c.loop-low-test.false in
    let some = c.if-low-eq0.false in record {
      bound = let within = i.within in let between = i.between in omega arith;
      fits = i.fits (omega arith);
      greatest = λ f past within stood. i.never f (omega arith) within stood;
      none = tt;
    }

pub returns-then-low-eq0 : goal.returns-then-low-eq0
returns-then-low-eq0 g c = record {
  bound = tt;
  fits = tt;
  greatest = tt;
  none =
      passes_at_none g.C.Spaced.reach_of g.C.Spring.length_of c.args.placing.now.columns.cols.now
      c.args.placing.now.columns.gaps.list.now
      c.args.width
      c.args.placing.now.columns.some
      (λ col lane l. g.met.C.Spaced.is_near col lane (let few = c.args.placing.now.columns.gaps.lanes in omega arith))
      c.args.placing.now.columns.gaps.narrow
      (λ col. g.met.C.Spring.is_short col 0 (omega arith))
      (c.loop-low.invariant.never 0
      (let done = c.loop-low-test.false in let none = c.if-low-eq0.true in omega arith) (omega arith));
}

use Rattle.std.proofs.Common.{length, arith}
use Rattle.lay_springs.specs.Place.{reach_at, length_at}
use Rattle.lay_springs.proofs.Longer.{stand_few}
use Rattle.lay_spans.proofs.Fitting.{passes_never}
use Rattle.lay_spans.proofs.rows.greatest_force.Goals as goal

pub returns-then-most_columns-cols-clause-none : goal.returns-then-most_columns-cols-clause-none
returns-then-most_columns-cols-clause-none g c = λ stands.
    let few = stand_few (length c.args.cols.now) (reach_at g.C.Spaced.reach_of c.args.cols.now)
    c.args.search.gaps.list.now
    (length_at g.C.Spring.length_of c.args.cols.now)
    c.args.search.width 0 c.requires.some stands in
    let more = c.if-most_columns-cols.true in let most = c.most_columns.ensures in omega arith

pub returns-clause-none : goal.returns-clause-none
returns-clause-none g c =
    passes_never g.C.Spaced.reach_of g.C.Spring.length_of c.args.search.gaps.list.now c.args.search.width
    c.args.cols.now
    c.search_within-found.result.force c.requires.some
    c.search_within-found.ensures.greatest.none

pub returns-clause-bound : goal.returns-clause-bound
returns-clause-bound g c = c.search_within-found.ensures.greatest.bound

pub returns-clause-fits : goal.returns-clause-fits
returns-clause-fits g c = c.search_within-found.ensures.greatest.fits

pub returns-clause-greatest : goal.returns-clause-greatest
returns-clause-greatest g c = c.search_within-found.ensures.greatest.greatest

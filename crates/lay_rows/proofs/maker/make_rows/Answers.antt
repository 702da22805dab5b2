use Rattle.std.proofs.Common.{◌<◌, ◌≤◌, All, arith, subst, sym}
use Rattle.lay_rows.specs.Tables.{IsForceTable}
use Rattle.lay_rows.proofs.Tables.{bars_within, rows_of_parts, table_low, table_of_rows}
use Rattle.lay_rows.proofs.maker.make_rows.Goals.{In_ok-rows}
use Rattle.lay_rows.proofs.maker.make_rows.Goals as goal

table : (g : _) (c : In_ok-rows g) → IsForceTable (g.M.RowMaker.is_row c.args.maker.now) c.args.n c.in_ok-rows.rows
table g c =
    subst (λ rows. IsForceTable (g.M.RowMaker.is_row c.args.maker.now) c.args.n rows) (sym c.in_ok-rows.ensures)
    (table_of_rows (g.M.RowMaker.is_row c.args.maker.now) c.args.n _
    (rows_of_parts (g.M.RowMaker.is_row c.args.maker.now) c.in_ok-parts.parts c.in_ok-made.made 0 c.args.n
    c.in_ok-parts.ensures c.in_ok-made.ensures))

pub invariant_of-result : goal.invariant_of-result
invariant_of-result g c =
    let made = table g (goal.at.invariant_of-result g c).In_ok-rows in
    let count = made.count in
    let short = c.requires.short in
    record {
      few = omega arith;
      low = table_low (g.M.RowMaker.is_row c.args.maker.now) c.args.n c.in_ok-rows.rows
          (λ a row l.
          (g.met.M.RowMaker g.world.𝓛 g.world.𝓜 g.world.𝓡 ((λ s x. x), (λ x. x), (λ x. x), λ x. x)).is_low
          c.args.maker.now a row (subst (λ n. a < n) c.requires.bars l))
          made;
    }

pub returns : goal.returns
returns g c = table g (goal.at.returns g c).In_ok-rows

pub work_all-requires-clause-takes : goal.work_all-requires-clause-takes
work_all-requires-clause-takes g c _ _ =
    subst (λ n. All (λ part. part.to ≤ n) c.in_ok-parts.parts) c.requires.bars
    (bars_within c.in_ok-parts.parts 0 c.args.n c.in_ok-parts.ensures)

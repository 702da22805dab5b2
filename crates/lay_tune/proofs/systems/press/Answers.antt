use Rattle.std.proofs.{Common.{map, refl, subst, sym}, lemmas.Result.IfOk-weaker}
use Rattle.lay_springs.specs.Fit.{Fits}
use Rattle.lay_reaches.specs.Columns.{column_reach}
use Rattle.lay_spans.proofs.Fitting.{seen_as}
use Rattle.lay_tune.specs.{Spans.column_length, Systems.IsJustified}
use Rattle.lay_tune.proofs.Within.{justified_seen}
use Rattle.lay_tune.proofs.systems.press.Goals as goal

pub justify_columns-requires : goal.justify_columns-requires
justify_columns-requires c =
    let columns = map (λ s. s.column.now) c.args.cols.now in
    record {
      fits =
          subst (λ T. T)
          (sym (seen_as (λ s. s.column.now) column_reach column_length
          (λ n r l.
          Fits n r c.args.measured.now.measures.now.gaps.list.now l c.args.measured.now.width c.args.force)
          c.args.cols.now columns refl))
          c.requires.fits.pressed.fits;
    }

pub returns : goal.returns
returns c =
    IfOk-weaker c.justify_columns.result _
    (IsJustified c.args.measured.now.measures.now.gaps.list.now c.args.measured.now.width c.args.last
    (map (λ s. s.column.now) c.args.cols.now))
    (λ p set.
    justified_seen (λ s. s.column.now) c.args.measured.now.measures.now.gaps.list.now c.args.measured.now.width
    c.args.last c.args.cols.now c.args.force p
    c.requires.fits.pressed set)
    c.justify_columns.ensures

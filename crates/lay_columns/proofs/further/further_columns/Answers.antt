use Rattle.std.{proofs.Common.{◌∙◌, None, ap, subst, sym, arith}, specs.List.list_all}
use Rattle.lay_columns.{specs.Measures.{AreFurther, begins_plain}, proofs.Following.plain_further}
use Rattle.lay_columns.proofs.further.further_columns.Goals as goal
use Rattle.lay_columns.proofs.further.further_columns.Goals.{then-m-eq0-via-then-m-eq0}
use Rattle.lay_columns.proofs.further.further_columns.Goals.{then-m-eq0-via-else-m-eq0+then-begin_plain}

pub returns-then-m-eq0 : goal.returns-then-m-eq0
returns-then-m-eq0 c =
    let s = c.args.drawn.now.score.now in
    let t = c.args.drawn.now.times.now in
    let m = c.args.m in
    let verses = c.args.verses.now in
    elim c.then-m-eq0.branch [
      | then-m-eq0-via-then-m-eq0 w ↦ subst (λ m. AreFurther s t m verses None) (sym w.if-m-eq0.true) (λ begun are. are)
      | then-m-eq0-via-else-m-eq0+then-begin_plain w ↦
          let first = w.if-m-eq0.false in
          plain_further s t m verses c.args.drawn.now.good c.args.drawn.now.timed (omega (arith, first))
          c.requires.within
          (ap (list_all (begins_plain m)) (sym c.args.drawn.now.drawn)
          ∙ sym w.begin_plain.ensures
          ∙ w.if-begin_plain.true)
    ]

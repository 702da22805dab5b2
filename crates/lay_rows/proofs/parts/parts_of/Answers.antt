use Rattle.std.proofs.Common.{◌≡◌, ◌+◌, ◌-◌, ◌/◌, arith, ap, div-le_self, refl, rules, subst, sym, ◌∙◌}
use Rattle.lay_rows.specs.Parts.{AreBars}
use Rattle.lay_rows.proofs.Tables.{bars_more}
use Rattle.lay_rows.proofs.parts.parts_of.Goals as goal

pub loop-left-preserved : goal.loop-left-preserved
loop-left-preserved c =
    let rest = c.args.n - c.loop-left.from in let share = div-le_self rest c.loop-left.left in
    let some = c.loop-left-test.true in let within = c.loop-left.invariant.within in
    record {
      within = omega arith;
      all = λ last.
          let one : c.loop-left.left ≡ 1 = omega arith in
          let whole : rest / c.loop-left.left ≡ rest = ap (λ left. rest / left) one ∙ (search rules) in omega arith;
      bars =
          subst (λ parts. AreBars 0 (c.loop-left.from + rest / c.loop-left.left) parts) (sym c.in_ok-push.ensures.ok)
          (bars_more c.loop-left.parts 0 c.loop-left.from _ c.loop-left.invariant.bars refl);
    }

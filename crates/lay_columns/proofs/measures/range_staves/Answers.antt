use Rattle.std.proofs.Common.{◌≡◌, length-drop, ◌∙◌, ◌+◌, ◌++◌, ◌∷◌, [], length, sym, ap, subst, arith}
use Rattle.std.proofs.lemmas.List.Elements.{All-drop}
use Rattle.std.specs.List.{All}
use Rattle.mus_drawn.specs.Good.{AreGoodMeasures}
use Rattle.mus_marks.specs.Staff.{verses_on}
use Rattle.mus_marks.specs.System.{is_drawn_lower}
use Rattle.mus_marks.proofs.Groups.{group_turn, rest_from}
use Rattle.mus_marks.proofs.Verses.{verses_drop, verses_take}
use Rattle.lay_columns.specs.Measures.{range_staff}
use Rattle.lay_columns.proofs.measures.range_staves.Goals as goal

pub range_staff-requires-clause-verses : goal.range_staff-requires-clause-verses
range_staff-requires-clause-verses c =
    let few = c.staves.invariant.verses in
    omega (arith, few, verses_take (c.lower_count-count.result + 1) c.staves.rest.now)

pub staves-preserved : goal.staves-preserved
staves-preserved c =
    let rest = c.staves.rest.now in
    let n = c.lower_count-count.result in
    let more = rest_from (n + 1) rest in
    let fewer = verses_drop (n + 1) rest in
    let few = c.staves.invariant.verses in
    let following = ap verses_on more in record {
      staves =
          group_turn is_drawn_lower
          (range_staff c.args.begins c.args.frame.now.keys.now c.args.frame.now.lengths.now c.args.frame.now.a
          c.args.frame.now.b)
          rest n c.staves.staves c.push.new.self _ c.in-len1-up.len_at_least c.lower_count-count.ensures.value
          (c.in_ok-push.ensures.ok ∙ ap (λ staff. c.staves.staves ++ staff ∷ []) c.in_ok-range_staff.ensures)
          c.staves.invariant.staves;
      each =
          subst (All (λ v. length v.measures ≡ length c.args.frame.now.lengths.now)) (sym more)
          (All-drop (λ v. length v.measures ≡ length c.args.frame.now.lengths.now) (n + 1) rest
          c.staves.invariant.each);
      good =
          subst (All (λ v. AreGoodMeasures v.measures)) (sym more)
          (All-drop (λ v. AreGoodMeasures v.measures) (n + 1) rest c.staves.invariant.good);
      verses = omega (arith, fewer, few, following);
      shorter =
          let less = ap (λ vs. length vs) more in
          let left = length-drop (n + 1) rest in
          let before = c.staves.invariant.shorter in
          omega (arith, less, left, before);
    }

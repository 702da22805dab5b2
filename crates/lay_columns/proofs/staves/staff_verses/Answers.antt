use Rattle.std.proofs.Common.{◌≤◌, rules, sym, subst, length, length-drop, ◌∙◌, ◌+◌, ◌++◌, ◌∷◌, [], ap, arith}
use Rattle.mus_marks.specs.Staff.{verses_on}
use Rattle.mus_marks.specs.System.{is_drawn_lower}
use Rattle.mus_marks.proofs.Fitting.{few_verses}
use Rattle.mus_marks.proofs.Groups.{group_turn, rest_from}
use Rattle.mus_marks.proofs.Verses.{verses_drop, verses_take}
use Rattle.lay_columns.proofs.staves.staff_verses.Goals as goal

pub verses_on-requires : goal.verses_on-requires
verses_on-requires c =
    let few = c.staves.invariant.few in
    omega (arith, few, verses_take (c.lower_count-count.result + 1) c.staves.rest.now)

pub staves-preserved : goal.staves-preserved
staves-preserved c =
    let rest = c.staves.rest.now in
    let n = c.lower_count-count.result in
    let fewer = verses_drop (n + 1) rest in
    let few = c.staves.invariant.few in
    let more = rest_from (n + 1) rest in
    let following = ap verses_on more in record {
      verses =
          group_turn is_drawn_lower verses_on rest n c.staves.verses c.push.new.self _ c.in-len1-up.len_at_least
          c.lower_count-count.ensures.value
          (c.in_ok-push.ensures.ok ∙ ap (λ n. c.staves.verses ++ n ∷ []) c.verses_on.ensures) c.staves.invariant.verses;
      few = omega (arith, fewer, few, following);
      shorter =
          let less = ap (λ vs. length vs) more in
          let left = length-drop (n + 1) rest in
          let before = c.staves.invariant.shorter in
          omega (arith, less, left, before);
    }

pub staves-init : goal.staves-init
staves-init c =
    record {
      verses = search rules;
      few =
          subst (λ vs. verses_on vs ≤ 128) (sym c.args.drawn.now.drawn)
          (few_verses c.args.drawn.now.score.now c.args.drawn.now.good);
      shorter = omega arith;
    }

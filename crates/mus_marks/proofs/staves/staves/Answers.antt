use Rattle.std.proofs.Common.{◌≡◌, length-drop, ◌∙◌, ◌+◌, ◌-◌, ◌≤◌, [], ◌∷◌, ◌++◌, take, drop, length}
use Rattle.std.proofs.Common.{append-nil, map, rules, ap, subst, sym, arith}
use Rattle.std.proofs.lemmas.List.Elements.{All-drop, All-push, All-take}
use Rattle.std.specs.List.{All}
use Rattle.mus_score.specs.Seats.{grouped}
use Rattle.mus_drawn.specs.Good.{AreGoodMeasures}
use Rattle.mus_bridges.specs.Ends.{over, voice_ended}
use Rattle.mus_bridges.proofs.Ending.{over_done, over_take}
use Rattle.mus_slots.specs.Words.{IsOrdered}
use Rattle.mus_marks.specs.Staff.{CoversLines, staff_marks, verses_on}
use Rattle.mus_marks.specs.System.{is_drawn_lower}
use Rattle.mus_marks.proofs.AllTilted.{ended_turn}
use Rattle.mus_marks.proofs.Ending.{over_drop}
use Rattle.mus_marks.proofs.Groups.{rest_from}
use Rattle.mus_marks.proofs.Verses.{verses_drop, verses_take}
use Rattle.mus_marks.proofs.staves.staves.Goals as goal

pub staff_marks-requires-clause-verses : goal.staff_marks-requires-clause-verses
staff_marks-requires-clause-verses c =
    let few = c.loop-rest.invariant.verses in
    omega (arith, few, verses_take (c.lower_count-count.result + 1) c.loop-rest.rest.now)

pub loop-rest-preserved : goal.loop-rest-preserved
loop-rest-preserved c =
    let rest = c.loop-rest.rest.now in
    let so_far = c.loop-rest.invariant in
    let n = c.lower_count-count.result in
    let back = rest_from (n + 1) rest in
    let same = ap verses_on back in
    let few = so_far.verses in
    let a = c.args.frame.now.a in
    let P = IsOrdered c.args.frame.now.keys.now c.args.frame.now.lengths.now a c.args.frame.now.b in
    let left = c.loop-rest.left.now in
    let all = over (voice_ended a) left rest in
    let further = take (length rest - (n + 1)) (drop (n + 1) rest) in
    let staff = staff_marks c.args.frame.now.keys.now c.args.frame.now.lengths.now a c.args.frame.now.b in
    let after = ap (λ ts. over (voice_ended a) ts further) c.ends_after-left.ensures
    ∙ ap (over (voice_ended a) (drop (n + 1) left)) back
    ∙ sym (over_drop (voice_ended a) (n + 1) left rest) in
    record {
      each =
          subst (All (λ v. length v.measures ≡ length c.args.frame.now.lengths.now)) (sym back)
          (All-drop (λ v. length v.measures ≡ length c.args.frame.now.lengths.now) (n + 1) rest so_far.each);
      good =
          subst (All (λ v. AreGoodMeasures v.measures)) (sym back)
          (All-drop (λ v. AreGoodMeasures v.measures) (n + 1) rest so_far.good);
      verses = omega (arith, same, few, verses_drop (n + 1) rest);
      ordered = subst (All P) (sym after) (All-drop P (n + 1) all so_far.ordered);
      staves =
          ap (λ ts. c.push.new.self ++ map staff (grouped is_drawn_lower (over (voice_ended a) ts further)))
          c.ends_after-left.ensures
          ∙ ended_turn a staff left rest n c.loop-rest.staves c.push.new.self _ c.in-len1-up.len_at_least
          c.lower_count-count.ensures.value
          (c.in_ok-push.ensures.ok ∙ ap (λ t. c.loop-rest.staves ++ t ∷ []) c.in_ok-staff_marks.ensures.staff)
          so_far.staves;
      lines =
          subst (All CoversLines) (sym c.in_ok-push.ensures.ok)
          (All-push CoversLines c.loop-rest.staves c.in_ok-staff_marks.field-0 so_far.lines
          c.in_ok-staff_marks.ensures.lines);
      shorter =
          let fewer = ap (λ vs. length vs) back in
          let left = length-drop (n + 1) rest in
          let before = so_far.shorter in
          omega (arith, fewer, left, before);
    }

pub staff_marks-requires-clause-ordered : goal.staff_marks-requires-clause-ordered
staff_marks-requires-clause-ordered c =
    let frame = c.args.frame.now in
    let n = c.lower_count-count.result in
    let rest = c.loop-rest.rest.now in
    let left = c.loop-rest.left.now in
    let P = IsOrdered frame.keys.now frame.lengths.now frame.a frame.b in
    subst (All P) (over_take (voice_ended frame.a) (n + 1) left rest)
    (All-take P (n + 1) (over (voice_ended frame.a) left rest) c.loop-rest.invariant.ordered)

pub returns-clause-staves : goal.returns-clause-staves
returns-clause-staves c =
    let frame = c.args.frame.now in
    let rest = c.loop-rest.rest.now in
    let left = c.loop-rest.left.now in
    let none : length rest ≤ 0 = search rules in
    sym (append-nil c.loop-rest.staves)
    ∙ ap (λ vs.
    c.loop-rest.staves
    ++ map (staff_marks frame.keys.now frame.lengths.now frame.a frame.b) (grouped is_drawn_lower vs))
    (sym (over_done (voice_ended frame.a) left rest 0 none))
    ∙ c.loop-rest.invariant.staves

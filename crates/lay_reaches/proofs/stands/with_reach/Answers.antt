use Rattle.std.proofs.{Common.{rules, ◌≡◌, ◌∙◌, None, Some, replicate, set, ap, sym}, lemmas.List.set-set}
use Rattle.lay_reaches.proofs.Lone.{none_set}
use Rattle.lay_reaches.proofs.stands.with_reach.Goals.{in_default-via-in-Some+else-single-lane}
use Rattle.lay_reaches.proofs.stands.with_reach.Goals.{in_default-via-in_default}
use Rattle.lay_reaches.proofs.stands.with_reach.Goals as goal

pub returns-in_default : goal.returns-in_default
returns-in_default c = elim c.in_default.branch [
  | in_default-via-in-Some+else-single-lane w ↦
      let same : c.args.single.lane ≡ c.args.lane = search rules in
      sym (set-set (replicate c.args.single.lanes None) c.args.lane c.args.single.reach (Some c.args.reach))
      ∙ ap (λ i. set (set (replicate c.args.single.lanes None) i c.args.single.reach) c.args.lane (Some c.args.reach))
      (sym same)
  | in_default-via-in_default w ↦
      let none : c.args.single.reach ≡ None = search rules in
      ap (λ xs. set xs c.args.lane (Some c.args.reach))
      (sym (none_set c.args.single.lanes c.args.single.lane)
      ∙ ap (set (replicate c.args.single.lanes None) c.args.single.lane) (sym none))
]

use Rattle.std.proofs.Common.{◌≡◌, false, ap, sym, subst, ◌∙◌, length, get_or, set, ℤ, w64}
use Rattle.std.proofs.lemmas.Int.{to_z-of_z}
use Rattle.std.proofs.lemmas.Result.{on_ok_weaker}
use Rattle.std.specs.List.{list_any}
use Rattle.std.specs.Ordering.{int_eq}
use Rattle.ps_heard.specs.Filling.{at_place, with_tie_at}
use Rattle.ps_heard.proofs.FillingLaws.{absent, present}
use Rattle.ps_heard.proofs.columns.put_tie.Goals as goal

pub returns-in-Some : goal.returns-in-Some
returns-in-Some c =
    let x = to_z-of_z w64 c.args.x c.ranges.x in let dy = to_z-of_z w64 c.args.dy c.ranges.dy in
    on_ok_weaker c.tie.result
    (λ e. ap (set c.columns.inside.items.items c.in-Some.place) (e ∙ ap (λ z. with_tie_at z c.index_mut.result.now) dy)
    ∙ present c.args.x (with_tie_at c.args.dy) c.args.places.now c.columns.inside.items.items c.in-Some.place
    c.index_mut.result.now
    c.requires.rise c.in-Some.ensures.0 (ap length c.columns.view_is ∙ c.requires.all)
    (subst (λ z. (d : ℤ) → get_or c.args.places.now c.in-Some.place d ≡ z) x c.in-Some.ensures.1)
    (sym c.index_mut.ensures.value)
    ∙ ap (at_place c.args.x (with_tie_at c.args.dy) c.args.places.now) c.columns.view_is)
    c.tie.ensures

pub returns-in-None : goal.returns-in-None
returns-in-None c =
    let x = to_z-of_z w64 c.args.x c.ranges.x in
    sym (absent c.args.x (with_tie_at c.args.dy) c.args.places.now c.args.columns.now
    (subst (λ z. list_any (int_eq z) c.args.places.now ≡ false) x c.in-None.ensures))

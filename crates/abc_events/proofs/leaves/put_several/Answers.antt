use Rattle.std.proofs.Common.{arith, ◌≡◌, ◌≤◌, ◌-◌, ap, sym, subst, length, drop}
use Rattle.std.proofs.lemmas.Result.{on_ok_weaker}
use Rattle.std.proofs.lemmas.List.Elements.{All-take, All-drop}
use Rattle.std.specs.List.{All}
use Rattle.mus_units.specs.declared.value.Value.{Value}
use Rattle.abc_events.proofs.Single.{several_nodes}
use Rattle.abc_events.proofs.leaves.put_several.Goals as goal

abbrev IsFew : Value → Type 0
IsFew v = v.dots ≤ 3

pub put_first-requires : goal.put_first-requires
put_first-requires c =
    let long : length c.as_slice.result.now ≡ length c.args.w.now.values = ap length c.as_slice.ensures in
    rw c.as_slice.ensures (c.requires 0 _ (omega arith))

pub put_later-requires : goal.put_later-requires
put_later-requires c =
    let vs = c.as_slice.result.now in
    All-take IsFew (length vs - 1) (drop 1 vs)
    (All-drop IsFew 1 vs (subst (λ us. All IsFew us) (sym c.as_slice.ensures) c.requires))

pub returns : goal.returns
returns c =
    on_ok_weaker c.put_later.result
    (several_nodes c.args.w.now c.args.first.waiting c.args.first.words c.args.first.id c.len-verses.result
    c.as_slice.result.now _ c.some_more.result c.args.nodes.now c.put_first.new.nodes c.put_later.new.nodes
    c.as_slice.ensures c.in-len1-up.len_at_least c.some_more.ensures c.len-verses.ensures c.in_ok-put_first.ensures)
    c.put_later.ensures

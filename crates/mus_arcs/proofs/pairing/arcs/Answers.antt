use Rattle.std.{proofs.Common.{◌≡◌, ◌∙◌, sym, rules, true}, specs.List.list_all}
use Rattle.mus_arcs.{specs.Events.is_bare_music, proofs.BareLaws.no_arcs, proofs.BareLaws.are_arcs}
use Rattle.mus_arcs.proofs.pairing.arcs.Goals as goal

pub returns-then-are_bare-clause-arcs : goal.returns-then-are_bare-clause-arcs
returns-then-are_bare-clause-arcs c =
    let bare : list_all (λ m. list_all is_bare_music m.body) c.args.v.now.measures ≡ true = search rules in
    are_arcs c.args.v.now c.new.result c.requires (c.new.ensures ∙ sym (no_arcs c.args.v.now bare))

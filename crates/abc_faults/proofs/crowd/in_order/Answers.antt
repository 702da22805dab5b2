use Rattle.std.proofs.{Common.{◌≡◌, ◌++◌, take, drop, length, sym, subst, arith}, lemmas.Grind.common_steps}
use Rattle.abc_faults.{specs.Weights.AreInOrder, proofs.Orders.order_from_sorted}
use Rattle.abc_faults.proofs.crowd.in_order.Goals as goal

pub returns-clause-order : goal.returns-clause-order
returns-clause-order c =
    let sorted = c.sort.new.self in
    let items = c.weights.inside.items in
    let whole : take items.len (sorted ++ drop (length sorted) items.items) ≡ sorted = grind (arith, common_steps) in
    subst AreInOrder (sym whole) (order_from_sorted sorted c.in_ok-sort.ensures.sorted)

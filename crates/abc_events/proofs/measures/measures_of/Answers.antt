use Rattle.std.proofs.Common.{◌≡◌, suc, ap, length, arith}
use Rattle.std.specs.Vec.Iter.{into_iter_items}
use Rattle.abc_events.specs.Leaves.{leaves_of}
use Rattle.abc_events.proofs.MeasureTrees.{other_trees, measure_pushed}
use Rattle.abc_events.proofs.Taken.{count_left}
use Rattle.abc_events.proofs.measures.measures_of.Goals as goal

pub loop-tree-preserved : goal.loop-tree-preserved
loop-tree-preserved c = record {
  measures =
      measure_pushed (leaves_of c.args.words.now c.args.signs) c.in-Some.tree c.args.bars.now c.loop-tree.k
      (into_iter_items c.loop-tree.tree-iterator) (into_iter_items c.next.new.self) c.in_ok-body.body
      c.loop-tree.measures c.push.new.self c.in-Some.ensures.steps.0 c.loop-tree.invariant.left
      c.loop-tree.invariant.trees c.in_ok-body.ensures c.loop-tree.invariant.measures c.in_ok-push.ensures.ok;
  left =
      let long : length (into_iter_items c.loop-tree.tree-iterator) ≡ suc (length (into_iter_items c.next.new.self)) =
      ap length c.in-Some.ensures.steps.0 in
      omega arith;
  trees =
      other_trees (leaves_of c.args.words.now c.args.signs) c.in-Some.tree _ c.loop-tree.k
      (into_iter_items c.loop-tree.tree-iterator) (into_iter_items c.next.new.self) c.in-Some.ensures.steps.0
      c.loop-tree.invariant.trees;
  count =
      count_left (into_iter_items c.loop-tree.tree-iterator) (into_iter_items c.next.new.self) c.in-Some.tree _ _
      c.in-Some.ensures.steps.0 c.in-Some.ensures.steps.1 c.loop-tree.invariant.count;
}

use Rattle.mus_score.specs.Limits.{head_limit}
use Rattle.std.{proofs.Common.{◌≡◌, ◌≤◌, ◌+◌, ◌*◌, ◌++◌, length}, specs.Vec.Iter.{into_iter_items, into_iter_len}}
use Rattle.{mus_score.specs.Good.{longest_ticks, total_ticks}, mus_drawn.specs.Drawn.{drawn_events, staff_state_after}}
use Rattle.mus_drawn.proofs.drawing.draw_events.Given as goal

abbrev pub invariant-loop-flat : goal.invariant-loop-flat
invariant-loop-flat l = record {
  events : l.out ++ drawn_events l.style l.tick l.now (into_iter_items l.flat-iterator) (into_iter_items l.plans)
      ≡ drawn_events l.style 0 l.fn.now (into_iter_items l.initial.flat-iterator) l.fn.plans;
  following : staff_state_after l.now (into_iter_items l.flat-iterator)
      ≡ staff_state_after l.fn.now (into_iter_items l.initial.flat-iterator);
  each : length (into_iter_items l.initial.flat-iterator) ≤ length l.fn.plans
      → length (into_iter_items l.flat-iterator) ≤ length (into_iter_items l.plans);
  fits : l.tick + total_ticks (into_iter_items l.flat-iterator) ≤ head_limit * longest_ticks;
  count : into_iter_len l.flat-iterator ≡ length (into_iter_items l.flat-iterator);
}

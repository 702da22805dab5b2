use Rattle.std.{proofs.Common.{◌∙◌, true, ap, subst, sym, arith}, specs.List.{flat_map}}
use Rattle.mus_onsets.specs.Keys.{AreKeys}
use Rattle.mus_time.specs.Columns.{staff_columns}
use Rattle.mus_time.proofs.Called.{keys_placed, voices_same}
use Rattle.mus_time.proofs.Counts.{lengths_count, voices_count}
use Rattle.mus_time.proofs.Few.{few_keys}
use Rattle.mus_time.proofs.keys.system_keys.Goals as goal

pub invariant_of-range : goal.invariant_of-range
invariant_of-range c =
    let drawn = c.args.drawn.now in
    let count = lengths_count drawn.score.now drawn.times.now c.as_slice.result.now c.as_slice.ensures drawn.timed in
    record {
      order = c.requires.order;
      within = omega (arith, count, c.requires.within);
      few = omega (arith, count, drawn.good.few_measures);
    }

pub keys_called-requires-clause-each : goal.keys_called-requires-clause-each
keys_called-requires-clause-each c =
    voices_count c.args.drawn.now.score.now c.args.drawn.now.times.now c.as_slice.result.now c.as_slice.ensures
    c.args.drawn.now.timed c.args.drawn.now.voices.now
    c.args.drawn.now.good c.args.drawn.now.drawn

pub returns-clause-keys : goal.returns-clause-keys
returns-clause-keys c =
    let lengths = c.args.drawn.now.times.now.lengths in
    subst (AreKeys c.rising_keys.result)
    (c.in_ok-called.ensures
    ∙ ap (λ ls. flat_map (staff_columns true ls c.args.a c.args.b) c.args.drawn.now.voices.now) c.as_slice.ensures
    ∙ ap (flat_map (staff_columns true lengths c.args.a c.args.b)) c.args.drawn.now.drawn
    ∙ sym (voices_same lengths c.args.a c.args.b c.args.drawn.now.score.now.voices))
    c.rising_keys.ensures

pub returns-clause-places : goal.returns-clause-places
returns-clause-places c =
    keys_placed c.args.drawn.now.score.now c.args.drawn.now.times.now c.args.a c.args.b c.rising_keys.result
    c.args.drawn.now.timed c.args.drawn.now.good
    c.requires.order c.requires.within (returns-clause-keys c)

pub returns-clause-ranked : goal.returns-clause-ranked
returns-clause-ranked c = record {
  rise = c.rising_keys.ensures.rise;
  few =
      few_keys c.args.drawn.now.score.now c.args.drawn.now.times.now.lengths c.args.a c.args.b c.rising_keys.result
      c.args.drawn.now.good
      c.requires.within (returns-clause-keys c);
}

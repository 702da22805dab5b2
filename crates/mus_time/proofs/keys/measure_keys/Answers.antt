use Rattle.std.{proofs.Common.{◌∙◌, ◌+◌, ap, subst, sym, arith}, specs.List.{All, flat_map}}
use Rattle.mus_onsets.specs.Keys.{AreKeys, IsInSystem}
use Rattle.mus_time.specs.Columns.{keys_called, staff_columns}
use Rattle.mus_time.proofs.Called.{called_places, called_same}
use Rattle.mus_time.proofs.Counts.{lengths_count, voices_count}
use Rattle.mus_time.proofs.Few.{few_called}
use Rattle.mus_time.proofs.keys.measure_keys.Goals as goal

pub invariant_of-range : goal.invariant_of-range
invariant_of-range c =
    let drawn = c.args.drawn.now in
    let count = lengths_count drawn.score.now drawn.times.now c.as_slice.result.now c.as_slice.ensures drawn.timed in
    record {
      order = omega arith;
      within = omega (arith, count, c.requires.within);
      few = omega (arith, count, drawn.good.few_measures);
    }

pub keys_called-requires-clause-each : goal.keys_called-requires-clause-each
keys_called-requires-clause-each c =
    voices_count c.args.drawn.now.score.now c.args.drawn.now.times.now c.as_slice.result.now c.as_slice.ensures
    c.args.drawn.now.timed c.args.drawn.now.voices.now
    c.args.drawn.now.good c.args.drawn.now.drawn

pub returns-clause-keys : goal.returns-clause-keys
returns-clause-keys c =
    let lengths = c.args.drawn.now.times.now.lengths in
    subst (AreKeys c.rising_keys.result)
    (c.in_ok-called.ensures
    ∙ ap (λ ls. flat_map (staff_columns c.args.begins ls c.args.m (c.args.m + 1)) c.args.drawn.now.voices.now)
    c.as_slice.ensures
    ∙ ap (flat_map (staff_columns c.args.begins lengths c.args.m (c.args.m + 1))) c.args.drawn.now.drawn
    ∙ sym (called_same c.args.begins c.args.drawn.now.score.now lengths c.args.m))
    c.rising_keys.ensures

pub returns-clause-places : goal.returns-clause-places
returns-clause-places c =
    let timed = ap (λ t. t.lengths) c.args.drawn.now.timed in
    subst (λ ls. All (IsInSystem ls c.args.m (c.args.m + 1)) c.rising_keys.result) (sym timed)
    (called_places c.args.begins c.args.drawn.now.score.now c.args.m c.rising_keys.result c.args.drawn.now.good
    c.requires.within
    (subst (λ ls. AreKeys c.rising_keys.result (keys_called c.args.begins c.args.drawn.now.score.now ls c.args.m)) timed
    (returns-clause-keys c)))

pub returns-clause-ranked : goal.returns-clause-ranked
returns-clause-ranked c =
    record {
      rise = c.rising_keys.ensures.rise;
      few =
          few_called c.args.begins c.args.drawn.now.score.now c.args.drawn.now.times.now.lengths c.args.m
          c.rising_keys.result c.args.drawn.now.good
          c.requires.within (returns-clause-keys c);
    }

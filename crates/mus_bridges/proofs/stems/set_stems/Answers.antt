use Rattle.std.proofs.Common.{◌∙◌, ◌++◌, append-nil, map, sym, ap, arith}
use Rattle.mus_bridges.specs.Bridges.{beam_stem_at}
use Rattle.mus_bridges.specs.Ends.{event_ended}
use Rattle.mus_bridges.proofs.Ending.{over_done}
use Rattle.mus_bridges.proofs.stems.set_stems.Goals as goal

pub returns : goal.returns
returns c =
    let events = c.args.events in
    sym (append-nil c.loop-i.stems)
    ∙ ap (λ t. c.loop-i.stems ++ map (beam_stem_at c.args.measure) t)
    (sym (over_done event_ended events.ends.now events.events.now c.loop-i.i (omega (arith, c.loop-i-test.false))))
    ∙ c.loop-i.invariant

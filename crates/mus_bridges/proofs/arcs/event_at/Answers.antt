use Rattle.std.proofs.Common.{◌∙◌, length, option_map, rules, refl, sym, ap}
use Rattle.std.proofs.lemmas.Option.{slice_get_past, slice_get_read}
use Rattle.std.specs.List.{find}
use Rattle.mus_bridges.specs.Arcs.{event_in, has_id}
use Rattle.mus_bridges.specs.Ends.{ends_from, event_ended, measure_ended, over}
use Rattle.mus_bridges.proofs.Ending.{ended_at}
use Rattle.mus_bridges.proofs.arcs.event_at.Goals as goal

pub returns-in-Some : goal.returns-in-Some
returns-in-Some c =
    let id = c.args.id in
    let ms = c.args.measures.now in
    let a = c.args.a in
    let m = c.args.measure in
    let ends = c.args.ends.now in
    let d = c.in-Some.d.now in
    let here = slice_get_read ms (length ms) m d refl (search rules) (search rules) in
    c.event_with.ensures
    ∙ ap (λ es. find (has_id id) (over event_ended c.ends_from-ends.result.now es)) c.as_slice-events.ensures
    ∙ ap (λ ts. find (has_id id) (over event_ended ts d.events)) c.ends_from-ends.ensures
    ∙ ap (event_in id) (sym (ended_at a m ends ms ∙ ap (option_map (measure_ended (ends_from ends a m))) here))

pub returns-in-None : goal.returns-in-None
returns-in-None c =
    let ms = c.args.measures.now in
    let a = c.args.a in
    let m = c.args.measure in
    let ends = c.args.ends.now in
    let past = slice_get_past ms m (search rules) in
    ap (event_in c.args.id)
    (sym (ended_at a m ends ms ∙ ap (option_map (measure_ended (ends_from ends a m))) past))

use Rattle.std.proofs.{Common.{rules, ◌≤◌, append-nil, length, sym}, lemmas.Option.slice_get_past}
use Rattle.lay_shared.proofs.drawing.put_voice.Goals as goal

pub returns-in-None : goal.returns-in-None
returns-in-None c =
    let past : length c.args.voices.now ≤ c.args.sit.place = search rules in
    rw (slice_get_past c.args.voices.now c.args.sit.place past) (sym (append-nil c.args.drawn.now))

use Rattle.std.proofs.Common.{◌≡◌, ◌++◌, subst}
use Rattle.std.specs.Prelude.{OnOk}
use Rattle.mus_slots.specs.Staff.{slots_laid}
use Rattle.mus_slots.specs.Voice.{range_slots}
use Rattle.mus_marks.proofs.Ending.{own_ended}
use Rattle.mus_marks.proofs.measures.put_own_voice.Goals as goal

pub returns : goal.returns
returns c =
    let frame = c.args.frame.now in
    subst (λ v.
    OnOk c.put_voice.result
    (c.put_voice.new.pen.marks
    ≡ c.args.pen.now.marks
    ++ slots_laid frame.keys.now c.args.words.place
    (range_slots c.args.begins frame.lengths.now frame.a frame.b c.args.words.first v)))
    (own_ended frame.a c.args.v.now) c.put_voice.ensures

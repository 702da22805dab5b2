use Rattle.std.proofs.Common.{◌∙◌, subst, sym, ap}
use Rattle.mus_bridges.specs.Ends.{over, voice_ended}
use Rattle.mus_slots.specs.Staff.{staff_columns}
use Rattle.mus_slots.specs.Voice.{slots_of_voices}
use Rattle.mus_marks.specs.Staff.{CoversLines}
use Rattle.mus_marks.proofs.Drawing.{staff_there}
use Rattle.mus_marks.proofs.Ending.{verses_ended}
use Rattle.mus_marks.proofs.Lines.{covers}
use Rattle.mus_marks.proofs.staves.staff_marks.Goals as goal

pub returns-clause-staff : goal.returns-clause-staff
returns-clause-staff c =
    let frame = c.args.frame.now in
    let ended = over (voice_ended frame.a) c.args.ends.now c.args.voices.now in
    let voices = slots_of_voices 0 frame.lengths.now frame.a frame.b ended in
    staff_there frame.keys.now frame.lengths.now frame.a frame.b ended c.in_ok-marks.marks
    c.put_bridges.new.out c.as_slice-bridges.result.now c.staff_over.result
    (c.in_ok-marks.ensures
    ∙ ap (λ n. staff_columns frame.keys.now n voices) (sym (verses_ended frame.a c.args.ends.now c.args.voices.now)))
    (c.as_slice-bridges.ensures ∙ c.in_ok-bridges.ensures) c.in_ok-put_bridges.ensures c.staff_over.ensures

pub returns-clause-lines : goal.returns-clause-lines
returns-clause-lines c = subst CoversLines (sym c.staff_over.ensures) (covers c.put_bridges.new.out)

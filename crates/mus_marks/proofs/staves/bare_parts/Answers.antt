use Rattle.std.proofs.Common.{◌∙◌, ◌+◌, ◌++◌, ◌∷◌, [], append-nil, append_assoc, get_or, drop, map, sym, ap}
use Rattle.std.proofs.Common.{ℕ, List, None, arith}
use Rattle.mus_drawn.specs.declared.drawn.DrawnVoice.{DrawnVoice}
use Rattle.mus_bridges.specs.Ends.{over, voice_ended}
use Rattle.mus_bridges.proofs.Ending.{over_done, over_step}
use Rattle.mus_slots.specs.Staff.{bare_slots, slots_laid}
use Rattle.mus_slots.specs.Voice.{slots_of_voices, voice_slots}
use Rattle.mus_marks.specs.Staff.{verses_on}
use Rattle.mus_marks.proofs.Drawing.{from_here}
use Rattle.mus_marks.proofs.Ending.{own_ended}
use Rattle.mus_marks.proofs.Verses.{verses_cons}
use Rattle.mus_marks.proofs.staves.bare_parts.Goals as goal

pub loop-i-preserved : goal.loop-i-preserved
loop-i-preserved c =
    let frame = c.args.frame.now in
    let keys = frame.keys.now in
    let lengths = frame.lengths.now in
    let a = frame.a in
    let b = frame.b in
    let ends = c.args.ends.now in
    let vs = c.args.voices.now in
    let i = c.loop-i.i in
    let v = c.index-voices-i.result in
    let parts = c.loop-i.parts in
    let first = c.loop-i.verse in
    let bare = λ (first : ℕ) (ws : List DrawnVoice). map (bare_slots keys) (slots_of_voices first lengths a b ws) in
    let more = bare (first + v.verses) (over (voice_ended a) (drop (i + 1) ends) (drop (i + 1) vs)) in
    let own = slots_laid keys None (voice_slots first lengths a b (voice_ended a (get_or ends i []) v)) in
    let here = from_here vs i v (omega (arith, c.loop-i-test.true)) c.index-voices-i.is in
    let count = ap verses_on here ∙ verses_cons v (drop (i + 1) vs) in
    let few = c.loop-i.invariant.few in
    let drawn = c.in_ok-put_voice.ensures
    ∙ ap (λ t. t ++ slots_laid keys None (voice_slots first lengths a b (voice_ended a c.voice_ends_at.result.now v)))
    c.new-pen.ensures
    ∙ ap (λ es. slots_laid keys None (voice_slots first lengths a b (voice_ended a es v))) c.voice_ends_at.ensures in
    record {
      parts =
          ap (λ t. t ++ more) c.in_ok-push.ensures.ok
          ∙ append_assoc parts (c.put_voice.new.pen.marks ∷ []) more
          ∙ ap (λ t. parts ++ t ∷ more) drawn
          ∙ ap (λ ws. parts ++ bare first ws)
          (sym
          (over_step (voice_ended a) ends vs i [] v (omega (arith, c.loop-i-test.true)) c.index-voices-i.is
          (own_ended a v)))
          ∙ c.loop-i.invariant.parts;
      few = omega (arith, few, count);
    }

pub returns : goal.returns
returns c =
    let frame = c.args.frame.now in
    let done = over_done (voice_ended frame.a) c.args.ends.now c.args.voices.now c.loop-i.i
    (omega (arith, c.loop-i-test.false)) in
    sym (append-nil c.loop-i.parts)
    ∙ ap (λ vs.
    c.loop-i.parts
    ++ map (bare_slots frame.keys.now) (slots_of_voices c.loop-i.verse frame.lengths.now frame.a frame.b vs))
    (sym done)
    ∙ c.loop-i.invariant.parts

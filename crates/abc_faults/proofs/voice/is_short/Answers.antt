use Rattle.std.proofs.Common.{◌≡◌, true, false, arith}
use Rattle.abc_steps.specs.Kinds.{is_sound}
use Rattle.abc_faults.specs.Faults.{ends_tuplets}
use Rattle.abc_faults.proofs.Tuplets.{step_on}
use Rattle.abc_faults.proofs.voice.is_short.Goals.{then-is_sound, else-is_sound}
use Rattle.abc_faults.proofs.voice.is_short.Goals as goal

pub loop-s-preserved : goal.loop-s-preserved
loop-s-preserved c =
    let s = c.s-item.result in let on : ends_tuplets s.step ≡ false = cc in
    elim c.if-is_sound.branch [
      | then-is_sound w ↦
          let sound : is_sound s.step ≡ true = cc in
          step_on c.args.following.now c.loop-s.s-index c.loop-s.left c.if-is_sound.left s _ c.loop-s-test.true
          c.s-item.is
          on (simp sound (omega arith)) c.loop-s.invariant
      | else-is_sound w ↦
          let sound : is_sound s.step ≡ false = cc in
          step_on c.args.following.now c.loop-s.s-index c.loop-s.left c.if-is_sound.left s _ c.loop-s-test.true
          c.s-item.is
          on (simp sound (omega arith)) c.loop-s.invariant
    ]

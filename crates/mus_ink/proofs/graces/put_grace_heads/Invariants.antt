use Rattle.std.proofs.Common.{◌≡◌, drop}
use Rattle.{mus_laid.specs.Ranked.{inked}, mus_ink.specs.Graces.{grace_head_ink}}
use Rattle.mus_ink.proofs.graces.put_grace_heads.Given as goal

abbrev pub invariant-loop-head : goal.invariant-loop-head
invariant-loop-head l =
    inked l.pen (grace_head_ink l.clef (drop l.head-index l.heads)) ≡ inked l.fn.pen (grace_head_ink l.clef l.heads)

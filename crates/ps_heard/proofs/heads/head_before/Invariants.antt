use Rattle.std.{proofs.Common.◌≡◌, proofs.Common.drop, specs.List.find}
use Rattle.ps_heard.specs.Hearing.{is_same_pitch}
use Rattle.ps_heard.proofs.heads.head_before.Given as goal

abbrev pub invariant-loop-head : goal.invariant-loop-head
invariant-loop-head l =
    find (is_same_pitch l.pitch) (drop l.head-index l.before) ≡ find (is_same_pitch l.pitch) l.before

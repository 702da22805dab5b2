use Rattle.std.proofs.Common.{◌≡◌, drop}
use Rattle.std.specs.Prelude.{nat_lt, count_by}
use Rattle.std.specs.List.{before_first}
use Rattle.{abc_steps.specs.Kinds.{is_sound}, abc_faults.specs.Faults.{ends_tuplets}}
use Rattle.abc_faults.proofs.voice.is_short.Given as goal

abbrev pub invariant-loop-s : goal.invariant-loop-s
invariant-loop-s l =
    nat_lt (count_by (λ s. is_sound s.step) (before_first (λ s. ends_tuplets s.step) (drop l.s-index l.following)))
    l.left
    ≡ nat_lt (count_by (λ s. is_sound s.step) (before_first (λ s. ends_tuplets s.step) l.following)) l.r

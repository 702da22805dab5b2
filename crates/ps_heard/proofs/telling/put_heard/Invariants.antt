use Rattle.std.{proofs.Common.◌≡◌, proofs.Common.◌++◌, proofs.Common.drop, specs.List.flat_map}
use Rattle.ps_heard.specs.HeardText.{heard_text, heard_tune_text}
use Rattle.ps_heard.proofs.telling.put_heard.Given as goal

abbrev pub invariant-loop-tune : goal.invariant-loop-tune
invariant-loop-tune l =
    l.out ++ flat_map (heard_tune_text l.spread) (drop l.tune-index l.tune-items) ≡ l.fn.out ++ heard_text l.spread l.s

use Rattle.std.proofs.Common.{◌≡◌, take}
use Rattle.abcps.specs.Calls.{verdicts_text}
use Rattle.abcps.proofs.judging.verdicts_text.Given as goal

abbrev pub invariant-loop-verdict : goal.invariant-loop-verdict
invariant-loop-verdict l = l.text ≡ verdicts_text (take l.verdict-index l.judged)

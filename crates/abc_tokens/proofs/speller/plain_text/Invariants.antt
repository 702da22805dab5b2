use Rattle.std.proofs.Common.{◌≡◌, ◌++◌, drop, []}
use Rattle.abc_tokens.specs.Plain.{all_then, next_then, plain_text}
use Rattle.abc_tokens.proofs.speller.plain_text.Given as goal

abbrev pub invariant-loop-token : goal.invariant-loop-token
invariant-loop-token l = l.out ++ all_then next_then (drop l.token-index l.others) [] ≡ plain_text l.fn.tokens

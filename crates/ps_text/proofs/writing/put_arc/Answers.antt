use Rattle.{std.proofs.Common.{append_assoc, arith}, ps_text.proofs.Signs.{as_passed}}
use Rattle.ps_text.proofs.writing.put_arc.Goals as goal

pub returns : goal.returns
returns c = grind (arith, as_passed, append_assoc)

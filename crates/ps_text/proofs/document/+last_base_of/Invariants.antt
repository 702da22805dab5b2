use Rattle.std.proofs.Common.{length}
use Rattle.ps_text.proofs.document.+last_base_of.Given as goal

abbrev pub decreases-last_base_of : goal.decreases-last_base_of
decreases-last_base_of l = length l.rest.now

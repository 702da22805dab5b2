use Rattle.std.proofs.Common.{◌≡◌, length}
use Rattle.lay_shared.proofs.alike.same_list.Given as goal

abbrev pub invariant-changes : goal.invariant-changes
invariant-changes l = (l.left ≡ l.right → l.a ≡ l.b) × (l.a ≡ l.b → l.left ≡ l.right)

abbrev pub decreases-changes : goal.decreases-changes
decreases-changes l = length l.left

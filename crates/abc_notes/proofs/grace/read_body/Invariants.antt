use Rattle.std.proofs.Common.{◌≡◌, ◌≤◌, ◌++◌, length}
use Rattle.abc_notes.specs.Graces.{body_inside}
use Rattle.abc_notes.proofs.grace.read_body.Given as goal

abbrev pub invariant-parts : goal.invariant-parts
invariant-parts l = record {
  body : l.body ++ body_inside l.bang l.rest ≡ body_inside l.bang l.inside;
  within : length l.rest ≤ length l.inside;
}

abbrev pub decreases-parts : goal.decreases-parts
decreases-parts l = length l.rest

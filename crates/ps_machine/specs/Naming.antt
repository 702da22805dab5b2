-- The procedures that names are defined as, as the code stores them: a map from names to tokens.
use Rattle.std.specs.BTreeMap.{get_by}
use Rattle.std.specs.Cmp.Lexicographic.{slice_cmp}
use Rattle.std.specs.Ordering.{nat_cmp}
use Rattle.ps_steps.specs.State.{Names}
use Rattle.ps_machine.specs.declared.definitions.Definitions.{Definitions}

abbrev pub names_of : Definitions → Names
names_of d name = get_by (λ k. slice_cmp nat_cmp name k.now) d.bodies

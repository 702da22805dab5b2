-- Names, after one of them was defined.
use Rattle.std.proofs.Common.{◌≡◌, ℕ, List, Some}
use Rattle.std.proofs.Math.Path.{fun_ext}
use Rattle.std.proofs.lemmas.Map.Text.{btree_map_updates_str}
use Rattle.std.specs.Cmp.Lexicographic.{slice_cmp}
use Rattle.std.specs.Ordering.{nat_cmp}
use Rattle.std.specs.BTreeMap as tree
use Rattle.ps_steps.specs.declared.token.SimpleToken.{SimpleToken}
use Rattle.ps_steps.specs.Operators.{defined}
use Rattle.ps_machine.specs.Naming.{names_of}
use Rattle.ps_machine.specs.declared.definitions.Definitions.{Definitions}

pub names_defined : (old new : Definitions) (name : List ℕ) (body : List SimpleToken)
    → tree.UpdatesBy (λ x y. slice_cmp nat_cmp x.now y.now) (λ k. slice_cmp nat_cmp name k.now) old.bodies new.bodies
    (Some body)
    → names_of new ≡ defined name body (names_of old)
names_defined old new name body u =
    fun_ext (λ other. btree_map_updates_str name old.bodies new.bodies (Some body) u other)

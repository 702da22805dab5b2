-- What is left of the procedures that are being executed, the innermost first.
use Rattle.std.specs.Prelude.{List, [], ◌∷◌, ◌++◌}
use Rattle.ps_steps.specs.declared.token.SimpleToken.{SimpleToken}

abbrev pub one_after_another : List (List SimpleToken) → List SimpleToken
one_after_another [] = []
one_after_another (f ∷ fs) = f ++ one_after_another fs

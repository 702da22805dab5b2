use Rattle.std.proofs.Common.{◌≤◌, length, sym, subst, IfSome}
use Rattle.{mus_units.specs.Good.{IsGoodKey}, mus_ink.proofs.Keys.{few_signs}}
use Rattle.mus_ink.proofs.changes.count_if.Goals as goal

pub returns-in_default-clause-most : goal.returns-in_default-clause-most
returns-in_default-clause-most c =
    let good : IsGoodKey c.in-Some.key = subst (λ k. IfSome k IsGoodKey) c.in-Some.is c.requires.key in
    subst (λ t. length t ≤ 7) (sym c.as_slice.ensures) (few_signs c.in-Some.key.signs good)

use Rattle.std.proofs.Common.{◌≤◌, length, sym, subst, IfSome}
use Rattle.{mus_units.specs.Good.{IsGoodKey}, mus_ink.proofs.Keys.{few_signs}}
use Rattle.mus_ink.proofs.changes.put_key_if.Goals as goal

pub put_entries-requires-in_default-clause-few : goal.put_entries-requires-in_default-clause-few
put_entries-requires-in_default-clause-few c =
    let good : IsGoodKey c.in-Some.key = subst (λ k. IfSome k IsGoodKey) c.in-Some.is c.requires.key in
    subst (λ t. length t ≤ 7) (sym c.as_slice.ensures) (few_signs c.in-Some.key.signs good)

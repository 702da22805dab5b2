use Rattle.{std.proofs.Common.{true, false}, abc_faults.proofs.Firsts.{joined}}
use Rattle.abc_faults.proofs.first.earlier.Goals as goal

pub returns-then-is_before-clause-joined : goal.returns-then-is_before-clause-joined
returns-then-is_before-clause-joined c =
    λ s t h i.
    joined s t c.args.a c.args.b c.in-Some-Some.f c.in-Some-Some.g true c.in-Some-Some.is-0 c.in-Some-Some.is-1 (cc) h i

pub returns-else-is_before-clause-joined : goal.returns-else-is_before-clause-joined
returns-else-is_before-clause-joined c =
    λ s t h i.
    joined s t c.args.a c.args.b c.in-Some-Some.f c.in-Some-Some.g false c.in-Some-Some.is-0 c.in-Some-Some.is-1 (cc) h
    i

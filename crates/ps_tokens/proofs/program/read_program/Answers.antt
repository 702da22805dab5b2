use Rattle.std.proofs.Common.{arith, ◌≡◌, [], false}
use Rattle.ps_steps.specs.Tokens.{passed, TokenAt}
use Rattle.ps_tokens.proofs.Shorter.{token_shorter, passed_length}
use Rattle.ps_tokens.proofs.Programs.{program_more, program_ends, program_fails}
use Rattle.ps_tokens.proofs.program.read_program.Goals as goal

pub returns-then-is_empty : goal.returns-then-is_empty
returns-then-is_empty c =
    let e : c.loop-rest.rest.now ≡ [] = grind (arith, c.if-is_empty.true, c.is_empty.ensures) in
    program_ends (passed false c.args.bytes.now) c.loop-rest.rest.now c.loop-rest.tokens c.loop-rest.invariant e

pub loop-rest-smaller : goal.loop-rest-smaller
loop-rest-smaller c =
    let a : TokenAt c.loop-rest.rest.now c.in-Found.t c.in-Found.after.now = rw c.in-Found.is at c.in_ok-t.ensures in
    omega (
      arith,
      token_shorter c.loop-rest.rest.now c.in-Found.after.now c.in-Found.t a,
      passed_length c.in-Found.after.now c.skip-rest-in-Found.result.now c.skip-rest-in-Found.ensures.passed,
    )

pub loop-rest-preserved : goal.loop-rest-preserved
loop-rest-preserved c =
    let a : TokenAt c.loop-rest.rest.now c.in-Found.t c.in-Found.after.now = rw c.in-Found.is at c.in_ok-t.ensures in
    rw c.in_ok-push-in-Found.ensures.ok
    (program_more (passed false c.args.bytes.now) c.loop-rest.rest.now c.in-Found.after.now
    c.skip-rest-in-Found.result.now c.loop-rest.tokens c.in-Found.t c.loop-rest.invariant a
    c.skip-rest-in-Found.ensures.passed c.skip-rest-in-Found.ensures.starts)

pub returns-in-Not : goal.returns-in-Not
returns-in-Not c =
    let some : (c.loop-rest.rest.now ≡ [] → ⊥) = grind (arith, c.if-is_empty.false, c.is_empty.ensures) in
    program_fails (passed false c.args.bytes.now) c.loop-rest.rest.now c.loop-rest.tokens c.in-Not.cause
    c.loop-rest.invariant some (rw c.in-Not.is at c.in_ok-t.ensures)

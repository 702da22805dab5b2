use Rattle.std.proofs.Common.{◌≡◌, [], sym, ◌∙◌, append-nil, arith}
use Rattle.ps_steps.specs.declared.halt.Cause.{Cause}
use Rattle.ps_steps.specs.Tokens.{unclosed, nested, unread_within, closes, found, Front}
use Rattle.ps_tokens.proofs.Bodies.{body_more}
use Rattle.ps_tokens.proofs.Shorter.{found_shorter, passed_length}
use Rattle.ps_tokens.proofs.body.body.Goals as goal

pub returns-then-is_empty : goal.returns-then-is_empty
returns-then-is_empty c =
    let e : c.skip-here.result.now ≡ [] = grind (arith, c.if-is_empty.true, c.is_empty.ensures) in
    c.loop-here.invariant.none Cause.Unclosed (unclosed c.loop-here.rest.now (sym c.skip-here.ensures.passed ∙ e))

pub loop-here-smaller : goal.loop-here-smaller
loop-here-smaller c =
    let f : Front c.skip-here.result.now (found c.in-Found.t c.in-Found.after.now) =
    rw c.in-Found.is at c.in_ok-t.ensures in
    omega (
      arith,
      found_shorter c.skip-here.result.now c.in-Found.after.now c.in-Found.t f,
      passed_length c.loop-here.rest.now c.skip-here.result.now c.skip-here.ensures.passed,
    )

pub loop-here-preserved : goal.loop-here-preserved
loop-here-preserved c =
    let f : Front c.skip-here.result.now (found c.in-Found.t c.in-Found.after.now) =
    rw c.in-Found.is at c.in_ok-t.ensures in
    rw c.in_ok-push-in-Found.ensures.ok
    (body_more c.args.bytes.now c.loop-here.rest.now c.skip-here.result.now c.in-Found.after.now c.loop-here.tokens
    c.in-Found.t c.skip-here.ensures.passed f c.loop-here.invariant)

pub returns-in-Closing : goal.returns-in-Closing
returns-in-Closing c =
    rw append-nil at
    (c.loop-here.invariant.body [] c.in-Closing.after.now
    (closes c.loop-here.rest.now c.in-Closing.after.now
    (rw (c.in-Closing.is, c.skip-here.ensures.passed) at c.in_ok-t.ensures)))

pub returns-in-Opening : goal.returns-in-Opening
returns-in-Opening c =
    c.loop-here.invariant.none Cause.BadToken
    (nested c.loop-here.rest.now c.in-Opening.field-0.now
    (rw (c.in-Opening.is, c.skip-here.ensures.passed) at c.in_ok-t.ensures))

pub returns-in-Unread : goal.returns-in-Unread
returns-in-Unread c =
    c.loop-here.invariant.none c.in-Unread.cause
    (unread_within c.loop-here.rest.now c.in-Unread.cause
    (rw (c.in-Unread.is, c.skip-here.ensures.passed) at c.in_ok-t.ensures))

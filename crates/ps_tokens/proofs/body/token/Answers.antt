use Rattle.ps_steps.specs.Tokens.{simple_at, procedure_at, unread_at, closing_at, no_body}
use Rattle.ps_tokens.proofs.body.token.Goals as goal

pub returns-in-Found : goal.returns-in-Found
returns-in-Found c = simple_at c.in-Found.t c.in-Found.after.now (rw c.in-Found.is at c.in_ok-t.ensures)

pub returns-in-Closing : goal.returns-in-Closing
returns-in-Closing c = closing_at c.in-Closing.field-0.now (rw c.in-Closing.is at c.in_ok-t.ensures)

pub returns-in-Unread : goal.returns-in-Unread
returns-in-Unread c = unread_at c.in-Unread.cause (rw c.in-Unread.is at c.in_ok-t.ensures)

pub returns-in-Whole : goal.returns-in-Whole
returns-in-Whole c =
    procedure_at c.in-Opening.after.now c.in-Whole.following.now c.in-Whole.tokens
    (rw c.in-Opening.is at c.in_ok-t.ensures) (rw c.in-Whole.is at c.in_ok-tokens-in-Opening.ensures)

pub returns-in-Not : goal.returns-in-Not
returns-in-Not c =
    no_body c.in-Opening.after.now c.in-Not.cause (rw c.in-Opening.is at c.in_ok-t.ensures)
    (rw c.in-Not.is at c.in_ok-tokens-in-Opening.ensures)

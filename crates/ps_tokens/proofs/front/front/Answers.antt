use Rattle.std.proofs.Common.{◌∷◌, ◌∙◌, ap}
use Rattle.ps_steps.specs.Tokens.{opening_front, closing_front, stray}
use Rattle.ps_tokens.proofs.front.front.Goals as goal

pub returns-in-41 : goal.returns-in-41
returns-in-41 c = stray c.in-Some.rest.now (c.in-Some.ensures.cases.0 ∙ ap (λ b. b ∷ c.in-Some.rest.now) c.in-41.is)

pub returns-in-123 : goal.returns-in-123
returns-in-123 c =
    opening_front c.in-Some.rest.now (c.in-Some.ensures.cases.0 ∙ ap (λ b. b ∷ c.in-Some.rest.now) c.in-123.is)

pub returns-in-125 : goal.returns-in-125
returns-in-125 c =
    closing_front c.in-Some.rest.now (c.in-Some.ensures.cases.0 ∙ ap (λ b. b ∷ c.in-Some.rest.now) c.in-125.is)

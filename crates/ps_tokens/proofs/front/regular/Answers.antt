use Rattle.std.proofs.Common.{sym, ◌∙◌}
use Rattle.{ps_steps.specs.Tokens.{word_front, no_word}, ps_tokens.proofs.Fronts.{run_word}}
use Rattle.ps_tokens.proofs.front.regular.Goals as goal

pub returns-in-Some : goal.returns-in-Some
returns-in-Some c =
    word_front c.word.result.0.now c.word.result.1.now c.in-Some.t
    (run_word c.args.bytes.now c.word.result.0.now c.word.result.1.now c.word.ensures.cut c.word.ensures.regular
    c.word.ensures.maximal c.requires)
    (sym c.in_ok-t.ensures ∙ c.in-Some.is)

pub returns-in-None : goal.returns-in-None
returns-in-None c =
    no_word c.word.result.0.now c.word.result.1.now
    (run_word c.args.bytes.now c.word.result.0.now c.word.result.1.now c.word.ensures.cut c.word.ensures.regular
    c.word.ensures.maximal c.requires)
    (sym c.in_ok-t.ensures ∙ c.in-None.is)

use Rattle.{ps_steps.specs.Tokens.{is_regular}, ps_tokens.proofs.Fronts.{run_passes, run_stops}}
use Rattle.ps_tokens.proofs.scan.word.Goals as goal

pub returns-clause-regular : goal.returns-clause-regular
returns-clause-regular c =
    rw (c.split_at.ensures.front, c.word_len.ensures.value) (run_passes is_regular c.args.bytes.now)

pub returns-clause-maximal : goal.returns-clause-maximal
returns-clause-maximal c =
    rw (c.split_at.ensures.back, c.word_len.ensures.value) (run_stops is_regular c.args.bytes.now)

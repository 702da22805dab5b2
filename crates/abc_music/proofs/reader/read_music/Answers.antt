use Rattle.std.proofs.Common.{Ok, Err}
use Rattle.abc_music.proofs.Line.{tokens_of, error_of}
use Rattle.abc_music.proofs.OnePrefix.{one_result}
use Rattle.abc_music.proofs.reader.read_music.Goals as goal

pub returns-in-Some-clause-fault : goal.returns-in-Some-clause-fault
returns-in-Some-clause-fault c =
    error_of c.args.bang c.args.line.now c.in_ok-prefix.prefix.tokens c.in_ok-prefix.prefix.fault c.in-Some.fault
    c.in_ok-prefix.ensures.prefix c.in-Some.is

pub returns-in-Some-clause-only_fault : goal.returns-in-Some-clause-only_fault
returns-in-Some-clause-only_fault c =
    one_result c.args.bang c.args.line.now (Err c.in-Some.fault) (returns-in-Some-clause-fault c)

pub returns-in-None-clause-found : goal.returns-in-None-clause-found
returns-in-None-clause-found c =
    tokens_of c.args.bang c.args.line.now c.in_ok-prefix.prefix.tokens c.in_ok-prefix.prefix.fault
    c.in_ok-prefix.ensures.prefix c.in-None.is

pub returns-in-None-clause-only : goal.returns-in-None-clause-only
returns-in-None-clause-only c =
    one_result c.args.bang c.args.line.now (Ok c.in_ok-prefix.prefix.tokens) (returns-in-None-clause-found c)

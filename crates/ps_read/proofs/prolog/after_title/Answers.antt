use Rattle.{ps_text.specs.Prolog.{procedures}, ps_read.proofs.Stepping.{on_titled, none_titled}}
use Rattle.ps_read.proofs.prolog.after_title.Goals as goal

pub returns-in_ok-rest-in-Some : goal.returns-in_ok-rest-in-Some
unfolding procedures
returns-in_ok-rest-in-Some c =
    let k = c.in-Some.ensures in
    on_titled c.args.raw.now c.in-Some.wide c.in-Some.high c.in_ok-rest-in-Some.rest k.0 k.1 k.2
    c.in_ok-rest-in-Some.ensures

pub returns-in-None : goal.returns-in-None
returns-in-None c = none_titled c.args.raw.now (λ a b la lb e. c.in-None.ensures a b la lb e)

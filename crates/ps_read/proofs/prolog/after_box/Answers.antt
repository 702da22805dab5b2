use Rattle.std.proofs.Common.{◌∙◌}
use Rattle.ps_read.proofs.Stepping.{on_boxed}
use Rattle.ps_read.proofs.prolog.after_box.Goals as goal

pub returns-in-Some : goal.returns-in-Some
returns-in-Some c =
    let k = rw c.as_slice-2.ensures at c.in-Some.ensures in
    on_boxed c.args.wide c.args.high c.args.rest c.args.raw.now c.in_ok-rest-in-Some.rest k.0
    (c.in_ok-rest-in-Some.ensures ∙ k.1)

use Rattle.std.proofs.Common.{◌∙◌, ap}
use Rattle.ps_read.{specs.ReaderStates.after_prolog, proofs.Stepping.on_framed}
use Rattle.ps_read.proofs.prolog.after_frame.Goals as goal

pub returns-in-Some : goal.returns-in-Some
returns-in-Some c =
    let k = rw c.as_slice.ensures at c.in-Some.ensures in let place = c.in_ok-after_prolog-in-Some in
    on_framed c.args.frame c.args.rest c.args.raw.now place.field-0 k.0
    (place.ensures ∙ ap (after_prolog c.args.frame) k.1)

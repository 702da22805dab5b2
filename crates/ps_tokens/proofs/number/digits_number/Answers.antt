use Rattle.std.proofs.lemmas.Fmt.{IsAscii-from_digits}
use Rattle.std.proofs.lemmas.Str.{IsUtf8-from_ascii}
use Rattle.ps_tokens.proofs.Digits.{digits_parsed, all_digits, digits_all}
use Rattle.ps_tokens.proofs.number.digits_number.Goals as goal

pub returns-in-Ok : goal.returns-in-Ok
returns-in-Ok c =
    digits_parsed 128 c.args.ds.now c.parse.result c.ok.result c.requires
    (rw c.in-Ok.ensures.cases.0 at c.parse.ensures.value.0) c.ok.ensures.value

pub returns-in-Err : goal.returns-in-Err
returns-in-Err c =
    absurd (c.in-Err.ensures.cases.0
    (IsUtf8-from_ascii c.args.ds.now
    (IsAscii-from_digits c.args.ds.now (all_digits c.args.ds.now (digits_all c.args.ds.now c.requires)))))

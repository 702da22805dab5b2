use Rattle.ps_tokens.proofs.Digits.{pointed_digits}
use Rattle.ps_tokens.proofs.number.pointed_token.Goals as goal

pub digits_number-requires : goal.digits_number-requires
digits_number-requires c =
    rw (c.as_slice.ensures, c.in_ok-digits.ensures, c.unsigned.ensures) (pointed_digits c.args.w.now c.requires)

use Rattle.eng_lines.proofs.Words.{one_from}
use Rattle.eng_lines.proofs.numbers.number_after.Goals as goal

pub returns : goal.returns
returns c =
    one_from c.args.prefix.now c.args.bytes.now c.in_ok-strip.field-0.now c.small_number.result c.in_ok-strip.ensures
    c.small_number.ensures

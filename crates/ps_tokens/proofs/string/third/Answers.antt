use Rattle.std.proofs.{Common.rules, Common.◌≡◌, Common.true, Common.false, lemmas.List.nil_from_length}
use Rattle.ps_tokens.specs.Spelling.{is_octal}
use Rattle.ps_tokens.proofs.Spellings.{cut_second, broken_low, broken_third, octal_byte}
use Rattle.ps_tokens.proofs.string.third.Goals as goal

pub returns-then-value-lt-FIRST_HIGH : goal.returns-then-value-lt-FIRST_HIGH
returns-then-value-lt-FIRST_HIGH c =
    broken_low c.args.a c.args.b c.args.bytes.now c.requires.lead c.if-value-lt-FIRST_HIGH.true

pub returns-in-None : goal.returns-in-None
returns-in-None c =
    rw (nil_from_length c.args.bytes.now c.in-None.ensures.cases)
    (cut_second c.args.a c.args.b c.requires.lead c.requires.octal c.if-value-lt-FIRST_HIGH.false)

pub returns-then-is_octal : goal.returns-then-is_octal
returns-then-is_octal c =
    let f : is_octal c.in-Some.c.now ≡ true = search (rules, c.if-is_octal.true, c.is_octal.ensures) in
    rw c.in-Some.ensures.cases.0
    (octal_byte c.args.a c.args.b c.in-Some.c.now c.in-Some.rest.now c.requires.lead c.requires.octal f
    c.if-value-lt-FIRST_HIGH.false)

pub returns-else-is_octal : goal.returns-else-is_octal
returns-else-is_octal c =
    let f : is_octal c.in-Some.c.now ≡ false = search (rules, c.if-is_octal.false, c.is_octal.ensures) in
    rw c.in-Some.ensures.cases.0 (broken_third c.args.a c.args.b c.in-Some.c.now c.in-Some.rest.now c.requires.lead f)

use Rattle.std.proofs.{Common.rules, Common.◌≡◌, Common.true, Common.false, lemmas.List.nil_from_length}
use Rattle.ps_tokens.specs.Spelling.{is_lead, is_octal}
use Rattle.ps_tokens.proofs.Spellings.{cut_first, broken_first, broken_second}
use Rattle.ps_tokens.proofs.string.second.Goals as goal

pub returns-then-not-is_lead : goal.returns-then-not-is_lead
returns-then-not-is_lead c =
    let f : is_lead c.args.a ≡ false = search (rules, c.if-not-is_lead.true, c.is_lead.ensures) in
    broken_first c.args.a c.args.bytes.now c.requires f

pub returns-in-None : goal.returns-in-None
returns-in-None c =
    let f : is_lead c.args.a ≡ true = search (rules, c.if-not-is_lead.false, c.is_lead.ensures) in
    rw (nil_from_length c.args.bytes.now c.in-None.ensures.cases) (cut_first c.args.a f)

pub returns-else-is_octal : goal.returns-else-is_octal
returns-else-is_octal c =
    let f : is_octal c.in-Some.b.now ≡ false = search (rules, c.if-is_octal.false, c.is_octal.ensures) in
    rw c.in-Some.ensures.cases.0 (broken_second c.args.a c.in-Some.b.now c.in-Some.rest.now c.requires f)

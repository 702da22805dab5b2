use Rattle.std.proofs.{Common.rules, Common.◌≡◌, Common.true, lemmas.List.nil_from_length}
use Rattle.{ps_text.specs.Fields.{is_special}, ps_tokens.proofs.Spellings.{cut_slash, special_byte}}
use Rattle.ps_tokens.proofs.string.escaped.Goals as goal

pub returns-in-None : goal.returns-in-None
returns-in-None c = rw (nil_from_length c.args.bytes.now c.in-None.ensures.cases) cut_slash

pub returns-then-is_special : goal.returns-then-is_special
returns-then-is_special c =
    let f : is_special c.in-Some.a.now ≡ true = search (rules, c.if-is_special.true, c.is_special.ensures) in
    rw c.in-Some.ensures.cases.0 (special_byte c.in-Some.a.now c.in-Some.rest.now f)

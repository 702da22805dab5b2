use Rattle.std.proofs.{Common.rules, Common.◌≡◌, Common.true, Common.false, lemmas.List.nil_from_length}
use Rattle.ps_tokens.specs.Spelling.{is_bare}
use Rattle.ps_tokens.proofs.Spellings.{cut_nil, bare_byte, broken_bare}
use Rattle.ps_tokens.proofs.string.read_spelling.Goals as goal

pub returns-in-None : goal.returns-in-None
returns-in-None c = rw (nil_from_length c.args.bytes.now c.in-None.ensures.cases) cut_nil

pub returns-then-is_bare : goal.returns-then-is_bare
returns-then-is_bare c =
    let f : is_bare c.in-Some.b.now ≡ true = search (rules, c.if-is_bare.true, c.is_bare.ensures) in
    rw c.in-Some.ensures.cases.0 (bare_byte c.in-Some.b.now c.in-Some.rest.now f)

pub returns-else-is_bare : goal.returns-else-is_bare
returns-else-is_bare c =
    let f : is_bare c.in-Some.b.now ≡ false = search (rules, c.if-is_bare.false, c.is_bare.ensures) in
    let h = c.in_default in
    let p : (c.in-Some.b.now ≡ 41 → ⊥) = search rules in
    let q : (c.in-Some.b.now ≡ 92 → ⊥) = search rules in
    rw c.in-Some.ensures.cases.0 (broken_bare c.in-Some.b.now c.in-Some.rest.now p q f)

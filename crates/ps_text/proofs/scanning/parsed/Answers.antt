use Rattle.std.proofs.Common.{◌≡◌, sym, ◌∙◌, refl}
use Rattle.std.proofs.lemmas.Int.{to_z-of_z}
use Rattle.std.proofs.lemmas.Fmt.{IsAscii-signed, parse-signed_decimal}
use Rattle.std.proofs.lemmas.Str.{IsUtf8-from_ascii}
use mir.Syntax.{w64}
use Rattle.ps_text.proofs.Numbers.{small, fits}
use Rattle.ps_text.proofs.scanning.parsed.Goals as goal

pub returns-in_default : goal.returns-in_default
returns-in_default c z n e =
    absurd (c.in_default.ensures.cases.0 (rw e (IsUtf8-from_ascii _ (IsAscii-signed z (small z n)))))

pub returns-in-Ok-parse : goal.returns-in-Ok-parse
returns-in-Ok-parse c z n e =
    let r = parse-signed_decimal w64 z c.in-Ok.text.now c.parse.result (fits z n) (small z n)
    (c.in-Ok.ensures.cases.0 ∙ e) c.parse.ensures.value.0 in
    let o = sym c.in-Ok-parse.is ∙ r in
    let q : c.in-Ok-parse.z ≡ z = cc in rw (q, to_z-of_z w64 z (fits z n)) refl

pub returns-in-Err : goal.returns-in-Err
returns-in-Err c z n e =
    let r = parse-signed_decimal w64 z c.in-Ok.text.now c.parse.result (fits z n) (small z n)
    (c.in-Ok.ensures.cases.0 ∙ e) c.parse.ensures.value.0 in
    let o = sym c.in-Err.is ∙ r in
    cc

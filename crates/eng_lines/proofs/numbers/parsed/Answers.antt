use Rattle.std.proofs.Common.{decimal, ◌∙◌, ap}
use Rattle.std.proofs.lemmas.Fmt.{parse-decimal, IsAscii-decimal}
use Rattle.std.proofs.lemmas.Str.{IsUtf8-from_ascii}
use Rattle.std.specs.Result.{result_ok}
use Rattle.eng_lines.proofs.numbers.parsed.Goals as goal

pub returns-in-Ok : goal.returns-in-Ok
returns-in-Ok c n l e =
    let x = c.in-Ok.ensures.cases in
    c.ok.ensures.value
    ∙ ap result_ok (parse-decimal 64 n c.in-Ok.text.now c.parse.result l l (x.0 ∙ e) c.parse.ensures.value.0)

pub returns-in-Err : goal.returns-in-Err
returns-in-Err c n l e = absurd (c.in-Err.ensures.cases.0 (rw e (IsUtf8-from_ascii (decimal n) (IsAscii-decimal n l))))

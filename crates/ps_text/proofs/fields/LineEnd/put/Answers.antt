use Rattle.std.proofs.Common.{◌≡◌, ◌∙◌, subst, OnOk, ◌++◌, ◌-◌, append-nil, append_assoc, drop, length, rules, arith}
use Rattle.std.proofs.lemmas.List.{drop-append-le, length-drop, take_all}
use Rattle.ps_text.proofs.Numbers.{one_more}
use Rattle.ps_text.proofs.fields.LineEnd.put.Goals as goal

pub returns : goal.returns
returns c =
    let end = c.args.self.now in let long : length end.bytes ≡ 126 = search rules in
    let line = rw (
      c.copy_from_slice-2.ensures.after,
      c.copy_from_slice.ensures.after,
      append-nil c.args.name.now,
      drop-append-le end.start end.bytes c.args.name.now (omega (arith, long, end.room.1)),
      end.stands,
      one_more c.args.zs.now end.y c.args.name.now,
    ) at c.write_numbers-start.ensures.written in
    let written : length c.write_numbers-start.new.line ≡ 128 = search rules in
    let whole = take_all (128 - c.write_numbers-start.result)
    (drop c.write_numbers-start.result c.write_numbers-start.new.line)
    (omega (arith, written, length-drop c.write_numbers-start.result c.write_numbers-start.new.line)) in
    rw append_assoc
    (subst (λ text. OnOk c.append.result (c.append.new.self ≡ c.args.out.now ++ text)) (whole ∙ line)
    c.append.ensures.ok)

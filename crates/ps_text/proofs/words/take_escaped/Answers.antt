use Rattle.std.proofs.{Common.{arith, ◌≡◌, ◌∙◌, ap, length, get_or, sym, true, false}, lemmas.Bool.true≢false}
use Rattle.ps_text.specs.Fields.{is_special}
use Rattle.ps_text.proofs.Numbers.{tail_of}
use Rattle.ps_text.proofs.Shown.{as_it_is, as_digits, escaped_of, digit_is_plain, first_of}
use Rattle.ps_text.proofs.words.take_escaped.Goals as goal

pub returns-in-empty-clause-reads : goal.returns-in-empty-clause-reads
returns-in-empty-clause-reads c b rest h e =
    let l = c.in-empty.len_below in
    elim (escaped_of b c.args.bytes.now rest h e) [
      | as_it_is s k ↦ omega (arith, ap length k)
      | as_digits l m k ↦ omega (arith, ap length k)
    ]

pub returns-then-is_special-clause-reads : goal.returns-then-is_special-clause-reads
returns-then-is_special-clause-reads c b rest h e =
    let v = c.is_special.ensures in let t = c.if-is_special.true in elim (escaped_of b c.args.bytes.now rest h e) [
      | as_it_is s k ↦ (first_of c.args.bytes.now rest b k, tail_of c.args.bytes.now rest b k)
      | as_digits l m k ↦
          (let f : is_special (get_or c.args.bytes.now 0 0) ≡ false =
          rw (first_of c.args.bytes.now _ _ k) (digit_is_plain b m) in
          absurd (true≢false (sym t ∙ v ∙ f)))
    ]

pub returns-else-is_special-clause-reads : goal.returns-else-is_special-clause-reads
returns-else-is_special-clause-reads c b rest h e =
    let v = c.is_special.ensures in let t = c.if-is_special.false in elim (escaped_of b c.args.bytes.now rest h e) [
      | as_it_is s k ↦
          (let f : is_special (get_or c.args.bytes.now 0 0) ≡ true = rw (first_of c.args.bytes.now rest b k) s in
          absurd (true≢false (sym f ∙ sym v ∙ t)))
      | as_digits l m k ↦
          c.take_octal.ensures.reads b rest
          (record {
            low = l;
            high = m;
            leading = first_of c.args.bytes.now _ _ k;
            others = tail_of c.args.bytes.now _ _ k;
          })
    ]

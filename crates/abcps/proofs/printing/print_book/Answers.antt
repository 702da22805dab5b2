use Rattle.std.{proofs.Common.{◌∙◌, ◌≤◌, sym, ap, subst, arith, length, rules}, specs.Prelude.All}
use Rattle.{abc_lines.specs.declared.book.Book.{Book}, abc_fields.specs.{Defaults.defaults_of, Papers.paper_of}}
use Rattle.law_few_blocks.specs.Few.{AreFew}
use Rattle.{abcps.proofs.Batches.IsCounted, set_pages.proofs.Readying.{book_counted}}
use Rattle.abcps.proofs.printing.print_book.Goals as goal

pub print_all-requires-clause-counted : goal.print_all-requires-clause-counted
print_all-requires-clause-counted g c κs within =
    let same = c.as_slice.ensures ∙ ap (λ (b : Book). b.tunes) c.in_ok-book.ensures.book in
    subst (λ tunes. All IsCounted tunes) (sym same) (book_counted c.args.text)

pub print_all-requires-clause-few : goal.print_all-requires-clause-few
print_all-requires-clause-few g c κs within =
    let same = c.as_slice.ensures ∙ ap (λ (b : Book). b.tunes) c.in_ok-book.ensures.book in
    let short : length c.args.text ≤ 8388608 = search rules in
    subst AreFew (sym same) (omega (arith, c.few_blocks.ensures.bytes c.args.text, short))

pub returns : goal.returns
returns g c = c.print_all.ensures c.args.text (record {
  defaults_are = c.in_ok-defaults.ensures.value ∙ ap (λ (b : Book). defaults_of b.header) c.in_ok-book.ensures.book;
  paper_is = c.read_paper-paper.ensures.value ∙ ap (λ (b : Book). paper_of b.header) c.in_ok-book.ensures.book;
  tunes_are = c.as_slice.ensures ∙ ap (λ (b : Book). b.tunes) c.in_ok-book.ensures.book;
})

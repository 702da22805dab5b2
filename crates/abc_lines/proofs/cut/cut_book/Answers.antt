use Rattle.std.proofs.Common.{sym, ◌∙◌, subst}
use Rattle.abc_lines.{specs.Good.IsGoodBook, proofs.GoodLaws.good, proofs.GoodLaws.book-is, proofs.Stages.book_found}
use Rattle.abc_lines.proofs.cut.cut_book.Goals as goal

pub returns-clause-book : goal.returns-clause-book
returns-clause-book c =
    book_found c.args.bytes.now c.add_part.new.out c.in_ok-tunes.tunes _ c.new-header.result c.without_mark.result.now
    c.without_mark.ensures c.new-header.ensures c.in_ok-place.ensures.lines c.in_ok-tunes.ensures
    (c.in_ok-place.ensures.rest 1)
    ∙ sym (book-is c.args.bytes.now)

pub returns-clause-good : goal.returns-clause-good
returns-clause-good c =
    subst IsGoodBook
    (sym (book_found c.args.bytes.now c.add_part.new.out c.in_ok-tunes.tunes _ c.new-header.result
    c.without_mark.result.now c.without_mark.ensures c.new-header.ensures c.in_ok-place.ensures.lines
    c.in_ok-tunes.ensures (c.in_ok-place.ensures.rest 1)))
    (good c.args.bytes.now c.requires)

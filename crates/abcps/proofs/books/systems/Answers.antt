use Rattle.abcps.specs.Books.{AreOutcomesIn, terms_in, systems_called}
use Rattle.abcps.proofs.Answered.{answer_by}
use Rattle.abcps.proofs.BookCalls.{calls_systems}
use Rattle.set_tune.specs.Terms.{manner_of}
use Rattle.std.proofs.Common.{subst, sym, arith}
use Rattle.{abc_lines.specs.Books.{book_of}, set_lists.specs.Listing.{AreListable}}
use Rattle.abcps.proofs.books.systems.Goals as goal
use Rattle.abcps_words.specs.declared.command.Command.{Command}

pub write_systems-requires : goal.write_systems-requires
write_systems-requires g c =
    let text = c.args.text in
    subst (λ outcomes. AreListable outcomes) (sym c.as_slice.ensures)
    (c.outcomes_are_listable.ensures (terms_in (manner_of c.args.how) text) (book_of text).tunes c.in-Ok.book.outcomes
    c.in-Ok.ensures.set)

pub returns : goal.returns
returns g c =
    answer_by (Command.Systems c.args.how.flow c.args.table c.args.how.by) c.args.text
    (systems_called c.args.table c.as_slice.result.now)
    (calls_systems c.lists_the_book.ensures (manner_of c.args.how) c.args.table c.args.text c.as_slice.result.now
    (let few = c.requires.within in omega (arith, few))
    (subst (λ outcomes. AreOutcomesIn (manner_of c.args.how) c.args.text outcomes) (sym c.as_slice.ensures)
    c.in-Ok.ensures.set))
    _ _ c.write_systems.result c.write_systems.ensures

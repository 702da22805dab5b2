use Rattle.set_lists.proofs.Exact as laws
use Rattle.set_lists.proofs.laws.lists_the_book.Goals as goal

pub returns : goal.returns
returns c = laws.lists_the_book

use Rattle.set_lists.proofs.Numbers as laws
use Rattle.set_lists.proofs.laws.book_rises.Goals as goal

pub returns : goal.returns
returns c = laws.book_rises

use Rattle.law_few_blocks.proofs.{Blocks.{book_few, outcomes_few}, Headed.headed_bytes}
use Rattle.law_few_blocks.proofs.law.few_blocks.Goals as goal

pub returns : goal.returns
returns c = record { bytes = headed_bytes; each = outcomes_few; book = book_few }

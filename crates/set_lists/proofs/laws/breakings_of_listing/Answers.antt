use Rattle.set_lists.proofs.Legal as laws
use Rattle.set_lists.proofs.laws.breakings_of_listing.Goals as goal

pub returns : goal.returns
returns c = laws.breakings_of_listing

-- The breakings of a tune's entry are the legal breakings of its score.
use Rattle.lay_tune.proofs.Breakings.{legal_in, legal_listed}
use Rattle.set_lists.specs.Laws.{BreakingsOfListing}
use Rattle.set_lists.proofs.Reported.{unforced}

pub breakings_of_listing : BreakingsOfListing
breakings_of_listing s width spans form exact breaks =
    let forced = unforced s width spans form exact breaks s.measures in (
      (λ h. legal_in s width spans exact breaks (forced.1 h)),
      (λ h. forced.0 (legal_listed s width spans exact breaks h)),
    )

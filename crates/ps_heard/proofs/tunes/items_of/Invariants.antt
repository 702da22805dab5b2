use Rattle.std.{proofs.Common.◌≡◌, proofs.Common.◌++◌, proofs.Common.drop, specs.List.flat_map}
use Rattle.ps_heard.proofs.tunes.items_of.Given as goal

abbrev pub invariant-loop-page : goal.invariant-loop-page
invariant-loop-page l =
    l.out ++ flat_map (λ p. p.items) (drop l.page-index l.s.pages) ≡ flat_map (λ p. p.items) l.s.pages

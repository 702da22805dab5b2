use Rattle.layout_tests.proofs.plain.put_within.Goals as goal

pub search_within-found-requires-clause-placed : goal.search_within-found-requires-clause-placed
search_within-found-requires-clause-placed c = c.none.ensures _ _ _ _ _ _

use Rattle.lay_springs.proofs.least.place_new.Goals as goal

pub place_all-requires : goal.place_all-requires
place_all-requires g c = record { placed = c.none.ensures _ _ _ _ _ _ }

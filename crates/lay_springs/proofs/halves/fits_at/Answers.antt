use Rattle.lay_springs.proofs.halves.fits_at.Goals as goal

pub end_at-requires : goal.end_at-requires
end_at-requires g c = record { placed = c.none-placing.ensures _ _ _ _ _ _ }

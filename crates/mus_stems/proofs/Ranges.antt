-- The lowest and the highest of good heads are in range.
use Rattle.mus_score.specs.Limits.{highest_head, lowest_head}
use Rattle.std.proofs.Common.{ℤ, pos, ◌≤ℤ◌, List, [], ◌∷◌, arith}
use Rattle.std.proofs.lemmas.Int.{ints, clamps}
use Rattle.std.specs.Int.{int_min, int_max}
use Rattle.mus_stems.specs.declared.heads.HeadPosition.{HeadPosition}
use Rattle.mus_stems.specs.declared.stills.StemInput.{StemInput}
use Rattle.mus_stems.specs.Heads.{AllNear, lowest, highest}
use Rattle.mus_stems.specs.Ends.{low_of, high_of, lowest_in, highest_in, run_low, run_high}
use Rattle.mus_stems.specs.Stills.{AllGood}

abbrev pub InRange : ℤ → Type 0
InRange z = (lowest_head ≤ℤ z) × (z ≤ℤ highest_head)

in_min : (y z : ℤ) → InRange y → InRange z → InRange (int_min y z)
in_min y z p q = (omega (arith, ints, clamps, p.0, q.0), omega (arith, ints, clamps, p.1, q.1))

in_max : (y z : ℤ) → InRange y → InRange z → InRange (int_max y z)
in_max y z p q = (omega (arith, ints, clamps, p.0, q.0), omega (arith, ints, clamps, p.1, q.1))

zero_in : InRange (pos 0)
zero_in = (omega (arith, ints), omega (arith, ints))

lowest_near : (z : ℤ) (ss : List HeadPosition) → InRange z → AllNear ss → InRange (lowest z ss)
lowest_near z [] p a = p
lowest_near z (s ∷ ss) p a = lowest_near (int_min z s.height) ss (in_min z s.height p a.0) a.1

highest_near : (z : ℤ) (ss : List HeadPosition) → InRange z → AllNear ss → InRange (highest z ss)
highest_near z [] p a = p
highest_near z (s ∷ ss) p a = highest_near (int_max z s.height) ss (in_max z s.height p a.0) a.1

pub low_near : (ss : List HeadPosition) → AllNear ss → InRange (low_of ss)
low_near [] a = zero_in
low_near (s ∷ ss) a = lowest_near s.height ss a.0 a.1

pub high_near : (ss : List HeadPosition) → AllNear ss → InRange (high_of ss)
high_near [] a = zero_in
high_near (s ∷ ss) a = highest_near s.height ss a.0 a.1

lowest_in_near : (z : ℤ) (es : List StemInput) → InRange z → AllGood es → InRange (lowest_in z es)
lowest_in_near z [] p a = p
lowest_in_near z (e ∷ es) p a = lowest_in_near (lowest z e.stands) es (lowest_near z e.stands p a.0.0) a.1

highest_in_near : (z : ℤ) (es : List StemInput) → InRange z → AllGood es → InRange (highest_in z es)
highest_in_near z [] p a = p
highest_in_near z (e ∷ es) p a = highest_in_near (highest z e.stands) es (highest_near z e.stands p a.0.0) a.1

pub run_low_near : (es : List StemInput) → AllGood es → InRange (run_low es)
run_low_near [] a = zero_in
run_low_near (e ∷ es) a = lowest_in_near (low_of e.stands) es (low_near e.stands a.0.0) a.1

pub run_high_near : (es : List StemInput) → AllGood es → InRange (run_high es)
run_high_near [] a = zero_in
run_high_near (e ∷ es) a = highest_in_near (high_of e.stands) es (high_near e.stands a.0.0) a.1

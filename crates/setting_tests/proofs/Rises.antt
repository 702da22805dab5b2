-- Abscissas that rise throughout rise in each beam, and are those of a system that has as many columns.
use Rattle.std.proofs.Common.{◌≡◌, ◌∙◌, ◌<◌, ◌<ℤ◌, ◌+◌, ℕ, zero, suc, ℤ, pos, List, [], ◌∷◌, length, slice_index_or, ap}
use Rattle.std.proofs.Common.{arith}
use Rattle.mus_score.specs.declared.score.Score.{Score}
use Rattle.mus_onsets.specs.declared.times.Timeline.{Timeline}
use Rattle.mus_onsets.specs.Keys.{called_keys}
use Rattle.mus_laid.specs.declared.laid.SystemMarks.{SystemMarks}
use Rattle.mus_marks.{specs.{System.IsCall, Tilt.AreAbscissas}, proofs.OneList.same_keys}
use Rattle.mus_stems.specs.declared.plans.StemPlan.{StemPlan}
use Rattle.mus_stems.specs.declared.slopes.SlopeInput.{SlopeInput}
use Rattle.mus_stems.specs.Slope.{slope_input, slope_inputs, ArePlaces, IsAbscissa, RisesAfter, RisesInBeams}
use Rattle.setting_tests.specs.Rising.{AreRisingNumbers, AreNumbersRisingFrom}

rises_after : (a : SlopeInput) (ps : List StemPlan) (xs : List ℤ)
    → AreNumbersRisingFrom a.x xs → RisesAfter a (slope_inputs ps xs)
unfolding slope_input
rises_after a [] xs r = tt {0}
rises_after a (p ∷ ps) [] r = tt {0}
rises_after a (p ∷ ps) (x ∷ xs) r = ((λ h. r.0), rises_after (slope_input p x) ps xs r.1)

pub rises_in_beams : (ps : List StemPlan) (xs : List ℤ) → AreRisingNumbers xs → RisesInBeams (slope_inputs ps xs)
unfolding slope_input
rises_in_beams [] xs r = tt {0}
rises_in_beams (p ∷ ps) [] r = tt {0}
rises_in_beams (p ∷ ps) (x ∷ xs) r = rises_after (slope_input p x) ps xs r

-- each is below the next one
below_next : (x : ℤ) (xs : List ℤ)
    → AreNumbersRisingFrom x xs → (i : ℕ) → i < length xs
    → slice_index_or (x ∷ xs) i (pos 0) <ℤ slice_index_or xs i (pos 0)
below_next x [] r i less = absurd (omega (arith, less))
below_next x (y ∷ ys) r zero less = r.0
below_next x (y ∷ ys) r (suc i) less = below_next y ys r.1 i (omega (arith, less))

rise_at : (xs : List ℤ) → AreRisingNumbers xs → (i : ℕ) → i + 1 < length xs
    → slice_index_or xs i (pos 0) <ℤ slice_index_or xs (i + 1) (pos 0)
rise_at [] r i less = absurd (omega (arith, less))
rise_at (x ∷ xs) r i less = let one : i + 1 ≡ suc i = omega arith in rw one (below_next x xs r i (omega (arith, less)))

place_at : (xs : List ℤ) → ArePlaces xs → (i : ℕ) → i < length xs → IsAbscissa (slice_index_or xs i (pos 0))
place_at [] p i less = absurd (omega (arith, less))
place_at (x ∷ xs) p zero less = p.0
place_at (x ∷ xs) p (suc i) less = place_at xs p.1 i (omega (arith, less))

pub are_abscissas : (s : Score) (t : Timeline) (a b : ℕ) (at : List ℤ) (m : SystemMarks)
    → IsCall s t a b m → length at ≡ length m.keys → ArePlaces at → AreRisingNumbers at → AreAbscissas s t a b at
are_abscissas s t a b at m call count places rise = record {
  each = λ keys are. count ∙ ap (λ ks. length ks) (same_keys m.keys keys (called_keys s t.lengths a b) call.keys are);
  rise = rise_at at rise;
  low = λ i less. (place_at at places i less).0;
  high = λ i less. (place_at at places i less).1;
}

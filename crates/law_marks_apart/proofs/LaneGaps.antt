-- The lanes of the staves of a system: their numbers among all lanes, and the gaps in them.
use Rattle.std.proofs.Common.{◌≡◌, ◌∙◌, ℕ, zero, suc, ◌+◌, ◌<◌, List, [], ◌∷◌, length, Some}
use Rattle.std.proofs.Common.{refl, sym, ap, subst, arith}
use Rattle.std.proofs.lemmas.List.{get_or-append-add, get_or_append_left, get_or-replicate, length-append}
use Rattle.std.proofs.lemmas.List.{length-replicate}
use Rattle.std.proofs.lemmas.Option.{none-some, same_Some}
use Rattle.std.specs.List.{slice_get, slice_index}
use Rattle.mus_laid.specs.declared.laid.Lane.{Lane}
use Rattle.lay_reaches.specs.Distances.{other_gap}
use Rattle.lay_reaches.specs.Lanes.{gaps_of, lane_count, lane_number, lane_start, staff_gaps}
use Rattle.law_marks_apart.specs.Apart.{gap_of, Keeps}
use Rattle.mus_laid.specs.declared.laid.Lane.TheVariants as lanes

-- verses count from 0
abbrev pub HasLane : ℕ → Lane → Type 0
HasLane verses (Lane.Verse n) = n < verses
HasLane verses _ = Unit {0}

gaps_long : (verses : ℕ) → length (staff_gaps verses) ≡ lane_count verses
gaps_long verses = let e = length-replicate {A = ℕ} (2 + verses) other_gap in omega (arith, e)

-- a lane of a staff, among those of the system
pub record IsPlaceOf (verses : List ℕ) (s count lane : ℕ) : Type 0 where
  pub inside : lane_start verses s + lane < length (gaps_of verses)
  pub gap : slice_index (gaps_of verses) (lane_start verses s + lane) ≡ slice_index (staff_gaps count) lane

place_first : (v : ℕ) (verses : List ℕ) (count lane : ℕ)
    → v ≡ count → lane < lane_count count → IsPlaceOf (v ∷ verses) zero count lane
place_first v verses count lane e l =
    let place : 0 + lane ≡ lane = omega arith in
    let long = gaps_long v in
    let both = length-append (staff_gaps v) (gaps_of verses) in
    let inside : lane < length (staff_gaps v) = subst (λ n. lane < n) (sym (gaps_long v ∙ ap lane_count e)) l in
    record {
      inside = omega (arith, both, inside);
      gap = ap (slice_index (gaps_of (v ∷ verses))) place
          ∙ get_or_append_left (staff_gaps v) (gaps_of verses) 0 lane inside
          ∙ ap (λ n. slice_index (staff_gaps n) lane) e;
    }

place_after : (v : ℕ) (verses : List ℕ) (s count lane : ℕ)
    → IsPlaceOf verses s count lane → IsPlaceOf (v ∷ verses) (suc s) count lane
place_after v verses s count lane h =
    let both = length-append (staff_gaps v) (gaps_of verses) in let long = gaps_long v in let inside = h.inside in
    let place : lane_count v + lane_start verses s + lane ≡ length (staff_gaps v) + (lane_start verses s + lane) =
    omega (arith, long) in
    record {
      inside = omega (arith, both, long, inside);
      gap = ap (slice_index (gaps_of (v ∷ verses))) place
          ∙ get_or-append-add (staff_gaps v) (gaps_of verses) (lane_start verses s + lane) 0
          ∙ h.gap;
    }

pub place_of_lane : (verses : List ℕ) (s count lane : ℕ)
    → slice_get verses s ≡ Some count → lane < lane_count count → IsPlaceOf verses s count lane
place_of_lane [] s count lane e l = absurd (none-some count e)
place_of_lane (v ∷ verses) zero count lane e l = place_first v verses count lane (same_Some v count e) l
place_of_lane (v ∷ verses) (suc s) count lane e l =
    place_after v verses s count lane (place_of_lane verses s count lane e l)

-- the number of a lane that keeps its marks apart, and its gap
pub record IsNumber (count : ℕ) (lane : Lane) (number : ℕ) : Type 0 where
  pub is : lane_number lane ≡ Some number
  pub low : number < lane_count count
  pub gap : slice_index (staff_gaps count) number ≡ gap_of lane

gap_after : (count k : ℕ) → k < 2 + count → slice_index (staff_gaps count) (suc k) ≡ other_gap
gap_after count k l = get_or-replicate (2 + count) k other_gap 0 l

pub number_of : (count : ℕ) (lane : Lane) → Keeps lane → HasLane count lane → (number : ℕ) × IsNumber count lane number
number_of count Lane.Main keeps has = (0, record { is = refl; low = omega arith; gap = refl })
number_of count Lane.Above keeps has =
    (1, record { is = refl; low = omega arith; gap = gap_after count 0 (omega arith) })
number_of count lanes.Below keeps has =
    (2, record { is = refl; low = omega arith; gap = gap_after count 1 (omega arith) })
number_of count (Lane.Verse n) keeps inside =
    let e : suc (2 + n) ≡ 3 + n = omega arith in (
      3 + n,
      record {
        is = refl;
        low = omega (arith, inside);
        gap =
            subst (λ k. slice_index (staff_gaps count) k ≡ other_gap) e
            (gap_after count (2 + n) (omega (arith, inside)));
      },
    )
number_of count Lane.Loose keeps has = absurd keeps

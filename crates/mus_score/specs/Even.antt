-- Durations are exact. For the tuplets of p in the time of q around an event, the product of the p times the event's
-- duration is its ticks times the product of the q, so no division leaves a remainder.
use Rattle.std.specs.Prelude.{◌≡◌, ℕ, ◌*◌, List, [], ◌∷◌, ◌++◌, map}
use Rattle.std.specs.List.{AllZip}
use Rattle.mus_score.specs.declared.score.Flat.{Flat}
use Rattle.mus_score.specs.declared.score.Music.{Music}
use Rattle.mus_score.specs.declared.score.Music.TheOpen.{Music-F}
use Rattle.mus_score.specs.declared.score.Music.TheFolds.{fold-Music}
use Rattle.mus_score.specs.Times.{InTuplets}

-- the products of the q and of the p of the tuplets around an event
pub record Ratio : Type 0 where
  pub qs : ℕ
  pub ps : ℕ

abbrev pub ratios_in_row : List (InTuplets (List Ratio)) → InTuplets (List Ratio)
ratios_in_row [] qs ps = []
ratios_in_row (r ∷ rs) qs ps = r qs ps ++ ratios_in_row rs qs ps

-- a ratio for each event that is not a grace, from left to right
abbrev pub ratios_step : Music-F (InTuplets (List Ratio)) → InTuplets (List Ratio)
ratios_step (Music-F.Note e) qs ps = record { qs = qs; ps = ps } ∷ []
ratios_step (Music-F.Rest e) qs ps = record { qs = qs; ps = ps } ∷ []
ratios_step (Music-F.Grace body slash) qs ps = []
ratios_step (Music-F.Tuplet p q body) qs ps = ratios_in_row body (qs * q) (ps * p)

abbrev pub ratios_within : Music → InTuplets (List Ratio)
ratios_within = fold-Music (InTuplets (List Ratio)) ratios_step

abbrev pub ratios_of : List Music → List Ratio
ratios_of body = ratios_in_row (map ratios_within body) 1 1

abbrev pub IsEven : Flat → Ratio → Type 0
IsEven f around = around.ps * f.duration ≡ f.event.ticks * around.qs

-- the events of a body, by the tuplets around them
abbrev pub AreEvenEvents : List Flat → List Music → Type 0
AreEvenEvents flats body = AllZip IsEven flats (ratios_of body)

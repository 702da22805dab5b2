-- Tuplets: how many more events the open ones take.
use Rattle.std.specs.Prelude.{ℕ, zero, suc, ◌-◌, [], ◌∷◌, Bool, true, false, nat_le, if◌then◌else◌, ◌==◌, ◌||◌, ◌&&◌}
use Rattle.mus_units.specs.declared.key.Meter.{Meter}
use Rattle.abc_steps.specs.declared.step.Step.{Step}
use Rattle.abc_steps.specs.declared.tuplets.OpenTuplets.{OpenTuplets}
use Rattle.abc_steps.specs.Looks.{Steps}

-- a number that is left out is 0
abbrev pub or_default : ℕ → ℕ → ℕ
or_default usual zero = usual
or_default usual (suc n) = suc n

-- a tuplet is inside at most one other, and takes at most as many events as that still takes
unfoldable pub fits : ℕ → OpenTuplets → Bool
fits r OpenTuplets.Nothing = true
fits r (OpenTuplets.Single left) = nat_le r left
fits r (OpenTuplets.Nested inner outer) = false

abbrev pub one_less : ℕ → OpenTuplets
one_less left = if nat_le left 1 then OpenTuplets.Nothing else OpenTuplets.Single (left - 1)

-- each open tuplet takes an event, and closes when it takes no more
unfoldable pub after_event : OpenTuplets → OpenTuplets
after_event OpenTuplets.Nothing = OpenTuplets.Nothing
after_event (OpenTuplets.Single left) = one_less left
after_event (OpenTuplets.Nested inner outer) =
    if nat_le inner 1 then one_less outer else OpenTuplets.Nested (inner - 1) (outer - 1)

-- a tuplet that does not fit takes nothing
abbrev pub with_tuplet_opened : ℕ → OpenTuplets → OpenTuplets
with_tuplet_opened r OpenTuplets.Nothing = OpenTuplets.Single r
with_tuplet_opened r (OpenTuplets.Single left) =
    if nat_le r left then OpenTuplets.Nested r left else OpenTuplets.Single left
with_tuplet_opened r (OpenTuplets.Nested inner outer) = OpenTuplets.Nested inner outer

-- the end of a measure closes all tuplets
unfoldable pub open_tuplets_after : Step → OpenTuplets → OpenTuplets
open_tuplets_after (Step.Sound s) open_ones = after_event open_ones
open_tuplets_after (Step.Measures seen count) open_ones = OpenTuplets.Nothing
open_tuplets_after (Step.Bar bar) open_ones = OpenTuplets.Nothing
open_tuplets_after (Step.Tuplet p q r) open_ones = with_tuplet_opened (or_default p r) open_ones
open_tuplets_after _ open_ones = open_ones

abbrev pub open_tuplets_at : Steps → OpenTuplets
open_tuplets_at [] = OpenTuplets.Nothing
open_tuplets_at (s ∷ before) = open_tuplets_after s.step (open_tuplets_at before)

-- the meters 6/8, 9/8 and 12/8
abbrev pub is_compound : Meter → Bool
is_compound (Meter.Ratio num den) = den == 8 && (num == 6 || (num == 9 || num == 12))
is_compound _ = false

-- the q of a tuplet that names none
abbrev pub usual_q : ℕ → Meter → ℕ
usual_q p m =
    if p == 2 || (p == 4 || p == 8) then 3 else (if p == 3 || p == 6 then 2 else (if is_compound m then 3 else 2))

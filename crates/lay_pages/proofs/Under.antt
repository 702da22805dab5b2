-- Stacked staves are those that the function of the bases returns.
use Rattle.mus_laid.specs.Distances.{top_line}
use Rattle.std.proofs.Common.{◌≡◌, refl, sym, ap, ap₂, ◌∙◌, ℕ, suc, ◌+◌, ◌-◌, ◌<◌, ℤ, pos, negsuc, ◌+ℤ◌, ◌-ℤ◌, ◌≤ℤ◌}
use Rattle.std.proofs.Common.{List, [], ◌∷◌, length, drop, get_or, add-one, drop-cons, arith, subst}
use Rattle.std.proofs.lemmas.Int.{ints}
use Rattle.mus_laid.specs.declared.laid.StaffMarks.{StaffMarks}
use Rattle.lay_pages.specs.Stacking.{AreGoodStaves, AreStavesStacked, above_base, below_base, under_top, bases_after}
use Rattle.lay_pages.specs.Stacking.{bases_under, bottom_after, bottom_under}

at_top : (top base : ℕ) (high : ℤ)
    → base ≡ top + above_base high → pos top_line ≤ℤ high → under_top base +ℤ high ≡ under_top top
at_top top base (pos n) up good = omega (arith, ints, up)
at_top top base (negsuc n) up good = absurd (omega (arith, ints))

at_bottom : (base bottom : ℕ) (low : ℤ)
    → bottom ≡ base + below_base low → low ≤ℤ pos 0 → under_top bottom ≡ under_top base +ℤ low
at_bottom base bottom (pos n) down good = omega (arith, ints, down)
at_bottom base bottom (negsuc n) down good = omega (arith, ints, down)

-- one staff of some, by the gap before it
pub one_more : (staves : List StaffMarks) (gaps : List ℕ) (n bottom base low : ℕ) (s : StaffMarks) (g : ℕ)
    → n < length staves → n < length gaps → s ≡ get_or staves n s → g ≡ get_or gaps n g
    → base ≡ bottom + g + above_base s.high → low ≡ base + below_base s.low
    → (bases_after bottom (drop n staves) (drop n gaps)
    ≡ under_top base ∷ bases_after low (drop (n + 1) staves) (drop (n + 1) gaps))
    × (bottom_after bottom (drop n staves) (drop n gaps) ≡ bottom_after low (drop (n + 1) staves) (drop (n + 1) gaps))
one_more staves gaps n bottom base low s g l m es eg up down =
    let first : drop n staves ≡ s ∷ drop (n + 1) staves =
    rw (add-one, drop-cons staves n s) (ap (λ t. t ∷ drop (suc n) staves) (sym es)) in
    let second : drop n gaps ≡ g ∷ drop (n + 1) gaps =
    rw (add-one, drop-cons gaps n g) (ap (λ t. t ∷ drop (suc n) gaps) (sym eg)) in
    let high : bottom + g + above_base s.high ≡ base = sym up in
    let under : bottom + g + above_base s.high + below_base s.low ≡ low =
    ap (λ n. n + below_base s.low) high ∙ sym down in (
      ap₂ (bases_after bottom) first second
          ∙ ap₂ (λ b z. under_top b ∷ bases_after z (drop (n + 1) staves) (drop (n + 1) gaps)) high under,
      ap₂ (bottom_after bottom) first second
          ∙ ap (λ z. bottom_after z (drop (n + 1) staves) (drop (n + 1) gaps)) under,
    )

further_down : (bottom gap : ℕ) → under_top bottom -ℤ pos gap ≡ under_top (bottom + gap)
further_down bottom gap = omega (arith, ints)

-- staves of which the first has its highest mark this far below the top
stacked_from : (top base low : ℕ) (gaps : List ℕ) (staff : StaffMarks) (more : List StaffMarks)
    → base ≡ top + above_base staff.high → low ≡ base + below_base staff.low
    → length gaps ≡ length more → AreGoodStaves (staff ∷ more)
    → AreStavesStacked (under_top top) gaps (staff ∷ more) (under_top base ∷ bases_after low more gaps)
    (under_top (bottom_after low more gaps))
stacked_from top base low [] staff [] up down count good =
    (at_top top base staff.high up good.0.1, at_bottom base low staff.low down good.0.0)
stacked_from top base low (gap ∷ gaps) staff (next ∷ more) up down count good = (
  at_top top base staff.high up good.0.1,
  subst (λ z.
      AreStavesStacked z gaps (next ∷ more) (bases_after low (next ∷ more) (gap ∷ gaps))
      (under_top (bottom_after low (next ∷ more) (gap ∷ gaps))))
      (sym (further_down low gap) ∙ ap (λ z. z -ℤ pos gap) (at_bottom base low staff.low down good.0.0))
      (stacked_from (low + gap) (low + gap + above_base next.high)
      (low + gap + above_base next.high + below_base next.low) gaps next more refl refl (omega (arith, count)) good.1),
)
stacked_from top base low gaps staff more up down count good = absurd (omega (arith, count))

pub stacked_so : (gaps : List ℕ) (staves : List StaffMarks)
    → length gaps ≡ length staves - 1 → AreGoodStaves staves
    → AreStavesStacked (pos 0) gaps staves (bases_under staves gaps) (under_top (bottom_under staves gaps))
stacked_so [] [] count good = omega (arith, ints)
stacked_so (gap ∷ gaps) [] count good = absurd (omega (arith, count))
stacked_so gaps (staff ∷ more) count good =
    let top : under_top 0 ≡ pos 0 = omega (arith, ints) in
    subst (λ z.
    AreStavesStacked z gaps (staff ∷ more) (bases_under (staff ∷ more) gaps)
    (under_top (bottom_under (staff ∷ more) gaps)))
    top
    (stacked_from 0 (above_base staff.high) (above_base staff.high + below_base staff.low) gaps staff more (omega arith)
    refl (omega (arith, count)) good)

pub stacked_at : (gaps : List ℕ) (staves slice : List StaffMarks) (bases : List ℤ) (bottom : ℕ) (height : ℤ)
    → slice ≡ staves → bases ≡ bases_under slice gaps → bottom ≡ bottom_under slice gaps
    → height ≡ pos bottom → length gaps ≡ length staves - 1 → AreGoodStaves staves
    → AreStavesStacked (pos 0) gaps staves bases (pos 0 -ℤ height)
stacked_at gaps staves slice bases bottom height s b l e count good =
    let so = stacked_so gaps slice (subst (λ ss. length gaps ≡ length ss - 1) (sym s) count)
    (subst AreGoodStaves (sym s) good) in
    let of = subst (λ bs. AreStavesStacked (pos 0) gaps slice bs (under_top (bottom_under slice gaps))) (sym b) so in
    let to = subst (λ n. AreStavesStacked (pos 0) gaps slice bases (under_top n)) (sym l) of in
    let high = subst (λ y. AreStavesStacked (pos 0) gaps slice bases (pos 0 -ℤ y)) (sym e) to in
    subst (λ ss. AreStavesStacked (pos 0) gaps ss bases (pos 0 -ℤ height)) s high

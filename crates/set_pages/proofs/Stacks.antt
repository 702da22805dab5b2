-- Staves under one another: each base lies between the top and the bottom of its system, and so do all marks.
use Rattle.std.proofs.Common.{◌≡◌, refl, ap, ℕ, suc, ℤ, pos, ◌+ℤ◌, ◌-ℤ◌, ◌≤ℤ◌, List, [], ◌∷◌, map, length, arith}
use Rattle.std.proofs.lemmas.Int.{ints}
use Rattle.std.proofs.lemmas.List.Elements.{All-cons, All-nil}
use Rattle.std.specs.Prelude.{All}
use Rattle.mus_score.specs.declared.score.Score.{Score}
use Rattle.mus_onsets.specs.declared.keys.ColumnKey.{ColumnKey}
use Rattle.mus_onsets.specs.Onsets.{timeline_of}
use Rattle.mus_drawn.specs.declared.drawn.DrawnVoice.{DrawnVoice}
use Rattle.mus_laid.specs.declared.laid.StaffMarks.{StaffMarks}
use Rattle.mus_laid.specs.declared.laid.SystemMarks.{SystemMarks}
use Rattle.mus_marks.specs.Staff.{staff_marks}
use Rattle.mus_marks.specs.System.{drawn_staves}
use Rattle.mus_marks.specs.Tilt.{IsTilted, tilted_staff}
use Rattle.mus_marks.proofs.Lines.{covers}
use Rattle.{lay_pages.specs.Stacking.{AreGoodStaves, AreStavesStacked}, set_pages.specs.Clear.{AreUnder, LieBetween}}

-- the staves that are called for cover their lines
called_good : (keys : List ColumnKey) (lengths : List ℕ) (at : List ℤ) (a b : ℕ) (staves : List (List DrawnVoice))
    → AreGoodStaves (map (tilted_staff keys lengths at a b) staves)
unfolding staff_marks
called_good keys lengths at a b [] = tt
called_good keys lengths at a b (voices ∷ staves) = (covers _, called_good keys lengths at a b staves)

pub tilted_good : (s : Score) (a b : ℕ) (at : List ℤ) (m : SystemMarks)
    → IsTilted s (timeline_of s) a b at m → AreGoodStaves m.staves
tilted_good s a b at m tilted = rw tilted.staves (called_good m.keys (timeline_of s).lengths at a b (drawn_staves s))

-- a base line between two heights
pub record IsBetween (low high : ℤ) (base : ℤ) : Type 0 where
  pub above : low ≤ℤ base
  pub below : base ≤ℤ high

-- staves that are stacked from a height of their system down lie under that height on the page
lie_between : (shift top bottom high base : ℤ) (staff : StaffMarks)
    → base +ℤ staff.high ≡ top → bottom ≤ℤ (base +ℤ staff.low) → (shift +ℤ top) ≤ℤ high → pos 0 ≤ℤ (shift +ℤ bottom)
    → LieBetween (pos 0) high (shift +ℤ base) staff
lie_between shift top bottom high base staff at under below above =
    record { above = omega (arith, ints); below = omega (arith, ints) }

-- facts of stacked staves: their bottom lies under their top, and each base between both, in their system and
-- wherever it is on a page
pub record LieStacked (top bottom : ℤ) (gaps : List ℕ) (staves : List StaffMarks) (bases : List ℤ) : Type 0 where
  pub low : bottom ≤ℤ top
  pub count : length bases ≡ length staves
  pub between : (highest : ℤ) → top ≤ℤ highest → All (IsBetween bottom highest) bases
  pub under : (shift high : ℤ)
      → (shift +ℤ top) ≤ℤ high → pos 0 ≤ℤ (shift +ℤ bottom)
      → AreUnder high gaps staves (map (λ base. shift +ℤ base) bases)

pub stacked_lie : (top bottom : ℤ) (gaps : List ℕ) (staves : List StaffMarks) (bases : List ℤ)
    → AreGoodStaves staves → AreStavesStacked top gaps staves bases bottom → LieStacked top bottom gaps staves bases
stacked_lie top bottom [] [] [] good stacked = record {
  low = omega (arith, ints);
  count = refl;
  between = λ highest high. All-nil (IsBetween bottom highest);
  under = λ shift high below above. tt;
}
stacked_lie top bottom [] (staff ∷ []) (base ∷ []) good stacked =
    let l = good.0.0 in let h = good.0.1 in let at = stacked.0 in let end = stacked.1 in record {
      low = omega (arith, ints);
      count = refl;
      between =
          λ highest high.
          All-cons (IsBetween bottom highest) base []
          (record { above = omega (arith, ints); below = omega (arith, ints) }) (All-nil (IsBetween bottom highest));
      under =
          λ shift high below above. lie_between shift top bottom high base staff at (omega (arith, ints)) below above;
    }
stacked_lie top bottom (gap ∷ gaps) (staff ∷ next ∷ staves) (base ∷ bases) good stacked =
    let l = good.0.0 in
    let h = good.0.1 in
    let at = stacked.0 in
    let more = stacked_lie ((base +ℤ staff.low) -ℤ pos gap) bottom gaps (next ∷ staves) bases good.1 stacked.1 in
    let under = more.low in record {
      low = omega (arith, ints);
      count = ap suc more.count;
      between =
          λ highest high.
          All-cons (IsBetween bottom highest) base bases
          (record { above = omega (arith, ints); below = omega (arith, ints) })
          (more.between highest (omega (arith, ints)));
      under = λ shift high below above. (
        lie_between shift top bottom high base staff at (omega (arith, ints)) below above,
        more.under shift (((shift +ℤ base) +ℤ staff.low) -ℤ pos gap) (omega (arith, ints)) above,
      );
    }
stacked_lie top bottom gaps staves bases good stacked = absurd stacked

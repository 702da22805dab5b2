-- A drawn system may be placed on a page.
use Rattle.std.proofs.Common.{◌≡◌, ℕ, ◌^◌, ◌<◌, ◌≤◌, ℤ, pos, ◌+ℤ◌, List, [], ◌∷◌, length, All, sym, subst, arith}
use Rattle.std.proofs.lemmas.Int.{ints}
use Rattle.std.proofs.lemmas.List.Elements.{All-head}
use Rattle.mus_units.specs.Distances.{top_line}
use Rattle.mus_laid.specs.declared.laid.StaffMarks.{StaffMarks}
use Rattle.ps_text.specs.Range.{IsNumber, IsStaff, IsJoined, IsSystemItem}
use Rattle.ps_text.specs.declared.sheet.Staff.{Staff}
use Rattle.set_staves.specs.Drawn.{IsBase}
use Rattle.set_staves.specs.Marks.{staves_at}

-- the line that joins staves begins on the page
above : (top base : ℤ) → IsBase top base → IsNumber ((top +ℤ base) +ℤ pos top_line)
above top base b = record { low = omega (arith, ints, b.low, b.high); high = omega (arith, ints, b.low, b.high) }

joined : (width : ℕ) (at : List ℤ) (top : ℤ) (staves : List StaffMarks) (bases : List ℤ)
    → All (IsBase top) bases → IsJoined (staves_at width at top staves bases)
joined width at top [] bases h = tt
joined width at top (s ∷ more) [] h = tt
joined width at top (s ∷ []) (b ∷ bases) h = tt
joined width at top (s ∷ u ∷ more) (b ∷ []) h = tt
joined width at top (s ∷ u ∷ more) (b ∷ c ∷ bases) h = above top b (All-head (IsBase top) b (c ∷ bases) h)

some : (width : ℕ) (at : List ℤ) (top : ℤ) (staves : List StaffMarks) (bases : List ℤ)
    → 1 ≤ length staves → length bases ≡ length staves → 1 ≤ length (staves_at width at top staves bases)
some width at top [] bases h e = absurd (omega arith)
some width at top (s ∷ more) [] h e = absurd (omega arith)
some width at top (s ∷ more) (b ∷ bases) h e = omega arith

pub good_system : (width : ℕ) (at : List ℤ) (top : ℤ) (a b : ℕ) (staves : List StaffMarks) (bases : List ℤ)
    (placed : List Staff)
    → All (IsBase top) bases → a < b → b < 2 ^ 32 → 1 ≤ length staves → length bases ≡ length staves
    → placed ≡ staves_at width at top staves bases → All IsStaff placed
    → IsSystemItem a b placed
good_system width at top a b staves bases placed h rising last least e is good = record {
  rising = rising;
  last = last;
  some = subst (λ p. 1 ≤ length p) (sym is) (some width at top staves bases least e);
  joined = subst (λ p. IsJoined p) (sym is) (joined width at top staves bases h);
  good = good;
}

-- Splitting a length into parts, one by one.
use Rattle.std.proofs.Common.{◌≡◌, sym, subst, ℕ, ◌+◌, ◌*◌, ◌-◌, ◌≤◌, ◌<◌, List, [], ◌∷◌, ◌++◌, length, length-append}
use Rattle.std.proofs.Common.{append_assoc, append-nil, arith}
use Rattle.mus_units.specs.declared.value.Value.{Value}
use Rattle.mus_units.specs.Parts.{units_of, IsLongestValue, ArePartsOf, IsPartsOf}
use Rattle.mus_units.proofs.Longest.{value_short, value_some}

pub parts_within : (vs : List Value) (left : ℕ) → ArePartsOf left vs → left ≤ 2047 * length vs
parts_within [] left h = omega arith
parts_within (v ∷ vs) left h =
    let rest = parts_within vs (left - units_of v) h.1 in let short = value_short v h.0.dots in omega arith

pub too_long : (vs : List Value) (num den all : ℕ)
    → ((left other : ℕ) → left * den ≡ 512 * num → other * den ≡ 512 * num → left ≡ other)
    → all * den ≡ 512 * num → 16384 ≤ all → IsPartsOf num den vs
    → ⊥
too_long vs num den all only is long h =
    let same : all ≡ h.parts.0 = only all h.parts.0 is h.parts.1 in
    let k = parts_within vs h.parts.0 h.parts.2 in
    let few = h.few in
    omega arith

-- what the parts so far leave of the whole
pub record IsCut (all : ℕ) (so_far : List Value) (left : ℕ) : Type 0 where
  pub goes : (vs : List Value) → ArePartsOf left vs → ArePartsOf all (so_far ++ vs)
  pub only : (vs : List Value)
      → ArePartsOf all vs → (ws : List Value) × (length vs ≡ length so_far + length ws) × ArePartsOf left ws

pub cut_none : (all : ℕ) → IsCut all [] all
cut_none all = record { goes = λ vs h. h; only = λ vs h. (vs, omega arith, h) }

same_units : (left : ℕ) (v w : Value) → IsLongestValue left v → IsLongestValue left w → units_of v ≡ units_of w
same_units left v w a b = let k = a.longest w b.dots b.within in let m = b.longest v a.dots a.within in omega arith

pub cut_more : (all : ℕ) (so_far next : List Value) (left rest : ℕ) (v : Value)
    → IsCut all so_far left → IsLongestValue left v → 1 ≤ left → rest ≡ left - units_of v → next ≡ so_far ++ v ∷ []
    → IsCut all next rest
cut_more all so_far next left rest v cut longest some less is =
    rw (is, less) (record { goes = goes; only = only }) where
      goes : (vs : List Value) → ArePartsOf (left - units_of v) vs → ArePartsOf all ((so_far ++ v ∷ []) ++ vs)
      goes vs h = subst (ArePartsOf all) (sym (append_assoc so_far (v ∷ []) vs)) (cut.goes (v ∷ vs) (longest, h))

      by_list : (vs ws : List Value)
          → length vs ≡ length so_far + length ws → ArePartsOf left ws
          → (us : List Value) × (length vs ≡ length (so_far ++ v ∷ []) + length us) × ArePartsOf (left - units_of v) us
      by_list vs [] e h = absurd (omega arith)
      by_list vs (w ∷ us) e h =
          let same = same_units left w v h.0 longest in
          let one = length-append so_far (v ∷ []) in
          let sum : length vs ≡ length (so_far ++ v ∷ []) + length us = omega arith in
          (us, sum, subst (λ u. ArePartsOf (left - u) us) same h.1)

      only : (vs : List Value) → ArePartsOf all vs
          → (us : List Value) × (length vs ≡ length (so_far ++ v ∷ []) + length us) × ArePartsOf (left - units_of v) us
      only vs h = let c = cut.only vs h in by_list vs c.0 c.1 c.2

-- what is left is shorter than any value
pub none_fits : (num den all left : ℕ) (so_far vs : List Value)
    → ((left other : ℕ) → left * den ≡ 512 * num → other * den ≡ 512 * num → left ≡ other)
    → all * den ≡ 512 * num → IsCut all so_far left → 1 ≤ left → left < 8 → IsPartsOf num den vs
    → ⊥
none_fits num den all left so_far vs only is cut some short h = by_list c.0 c.2 where
  same : h.parts.0 ≡ all
  same = only h.parts.0 all h.parts.1 is

  c : (ws : List Value) × (length vs ≡ length so_far + length ws) × ArePartsOf left ws
  c = cut.only vs (subst (λ l. ArePartsOf l vs) same h.parts.2)

  by_list : (ws : List Value) → ArePartsOf left ws → ⊥
  by_list [] e = let k = e in omega arith
  by_list (w ∷ ws) e = let k = value_some w in let m = e.0.within in omega arith

pub parts_made : (num den all left : ℕ) (so_far : List Value)
    → all * den ≡ 512 * num → 1 ≤ num → IsCut all so_far left → left ≡ 0 → length so_far ≤ 8 → IsPartsOf num den so_far
parts_made num den all left so_far is some cut none few =
    record { some = by_list so_far made; few = few; parts = (all, is, made) } where
      made : ArePartsOf all so_far
      made = subst (ArePartsOf all) (append-nil so_far) (cut.goes [] none)

      none_of : all ≡ 0 → ⊥
      none_of k = let m : 0 * den ≡ 512 * num = subst (λ a. a * den ≡ 512 * num) k is in omega arith

      by_list : (vs : List Value) → ArePartsOf all vs → 1 ≤ length vs
      by_list [] e = let k : all ≡ 0 = e in absurd (none_of k)
      by_list (v ∷ vs) e = omega arith

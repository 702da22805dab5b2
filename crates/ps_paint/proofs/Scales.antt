-- Coordinates: how they add up, and that they are near.
use Rattle.std.proofs.Common.{◌≡◌, ℕ, zero, suc, ◌*◌, ◌^◌, ◌<◌, ◌≤◌, ℤ, pos, negsuc, true, refl, arith}
use Rattle.std.proofs.Math.IntN.{◌+ℤ◌, ◌*ℤ◌, +ℤ_idl, suc_ℤ-*ℤ, zero-*ℤ}
use Rattle.std.proofs.lemmas.Int.{ints}
use Rattle.std.specs.Int.Signed.{◌≤ℤ◌}
use Rattle.mus_units.specs.declared.glyph.Size.{Size}
use Rattle.ps_text.specs.declared.sheet.Frame.{Frame}
use Rattle.ps_text.specs.Range.{IsFrame, IsNumber, IsOffset}
use Rattle.ps_steps.specs.Near.{is_near}
use Rattle.ps_paint.specs.Distances.{big_height, line_width, small_height}
use Rattle.ps_paint.specs.PaintOf.{font_height}

-- within 2^43 of 0
pub record IsClose (v : ℤ) : Type 0 where
  pub low : negsuc 8796093022207 ≤ℤ v
  pub high : v ≤ℤ pos 8796093022208

one_more : (p : ℕ) (x : ℤ) → pos (suc p) *ℤ x ≡ (pos p *ℤ x) +ℤ x
one_more p x = suc_ℤ-*ℤ (pos p) x

spread : (p : ℕ) (x y : ℤ) → pos p *ℤ (x +ℤ y) ≡ (pos p *ℤ x) +ℤ (pos p *ℤ y)
spread zero x y = rw (zero-*ℤ (x +ℤ y), zero-*ℤ x, zero-*ℤ y) refl
spread (suc p) x y = rw (one_more p (x +ℤ y), one_more p x, one_more p y, spread p x y) (omega (arith, ints))

record IsWithin (p : ℕ) (z : ℤ) : Type 0 where
  low : negsuc (p * 8796093022208) ≤ℤ z
  high : z ≤ℤ pos (p * 8796093022208)

bounded : (p : ℕ) (x : ℤ) → IsClose x → IsWithin p (pos p *ℤ x)
bounded zero x c = rw (zero-*ℤ x) (record { low = omega (arith, ints); high = omega (arith, ints) })
bounded (suc p) x c =
    let b = bounded p x c in rw (one_more p x) (record { low = omega (arith, ints); high = omega (arith, ints) })

pub near : (z : ℤ) → negsuc 1152921504606846975 ≤ℤ z → z ≤ℤ pos 1152921504606846976 → is_near z ≡ true
near z l h = grind (arith, ints)

-- a, from v, comes to p, a place on a page
pub record Comes (v a p : ℤ) : Type 0 where
  pub is : v +ℤ a ≡ p
  pub close : IsClose p

pub close_number : (z : ℤ) → IsNumber z → IsClose z
close_number z n = record { low = omega (arith, ints); high = omega (arith, ints) }

pub no_way : Comes (pos 0) (pos 0) (pos 0)
no_way = record { is = refl; close = record { low = omega (arith, ints); high = omega (arith, ints) } }

pub from_zero : (z : ℤ) → IsNumber z → Comes (pos 0) z z
from_zero z n = record { is = +ℤ_idl z; close = close_number z n }

pub from_number : (z d : ℤ) → IsNumber z → IsOffset d → Comes z d (z +ℤ d)
from_number z d n o = record { is = refl; close = record { low = omega (arith, ints); high = omega (arith, ints) } }

-- the same with a margin and a scale, across and above
pub comes_to : (margin p : ℕ) {v a w : ℤ}
    → Comes v a w → (pos (100 * margin) +ℤ (pos p *ℤ v)) +ℤ (pos p *ℤ a) ≡ pos (100 * margin) +ℤ (pos p *ℤ w)
comes_to margin p {v} {a} c = rw (← c.is, spread p v a) (omega (arith, ints))

pub near_place : (margin p : ℕ) (x : ℤ)
    → margin < 2 ^ 32 → p ≤ 150 → IsClose x → is_near (pos (100 * margin) +ℤ (pos p *ℤ x)) ≡ true
near_place margin p x l s c =
    let b = bounded p x c in near (pos (100 * margin) +ℤ (pos p *ℤ x)) (omega (arith, ints)) (omega (arith, ints))

pub near_width : (f : Frame) → IsFrame f → is_near (pos line_width *ℤ pos f.scale) ≡ true
near_width f g = near (pos line_width *ℤ pos f.scale) (omega (arith, ints)) (omega (arith, ints))

pub near_size : (f : Frame) (size : Size) → IsFrame f → is_near (font_height size *ℤ pos f.scale) ≡ true
near_size f Size.Small g = near (small_height *ℤ pos f.scale) (omega (arith, ints)) (omega (arith, ints))
near_size f Size.Big g = near (big_height *ℤ pos f.scale) (omega (arith, ints)) (omega (arith, ints))

-- The running least and greatest are the least and the greatest.
use Rattle.std.proofs.Common.{◌≡◌, refl, sym, subst, ℕ, zero, suc, ◌<◌, length, slice_index_or, ℤ, pos, negsuc, int_le}
use Rattle.std.proofs.Common.{Bool, true, ◌&&◌, List, [], ◌∷◌, ◌⊎◌, inl, inr, arith}
use Rattle.std.proofs.lemmas.Int.{ints, fold-int_min_bounds, fold-int_min_reached, fold-int_max_bounds}
use Rattle.std.proofs.lemmas.Int.{fold-int_max_reached}
use Rattle.std.proofs.lemmas.List.Elements.{All-nil}
use Rattle.std.proofs.lemmas.Bool.Decides.{nat_tests}
use Rattle.std.specs.List.{Contains, list_all}
use Rattle.mus_units.specs.declared.glyph.Glyph.{Glyph}
use Rattle.glyph_paths.specs.Rows.{outline_of}
use Rattle.glyph_paths.specs.Bounds.{abscissa, ordinate, least, greatest, IsClose, AreClose, coordinate, IsLeast}
use Rattle.glyph_paths.specs.Bounds.{IsGreatest, AreBounds, further, furthest, first_or_zero, coordinates, extent}
use Rattle.glyph_paths.specs.Bounds.{bounds_in}

at_front : (z r : ℤ) (zs : List ℤ) → (r ≡ z) ⊎ Contains (z ∷ zs) r → Contains (z ∷ zs) r
at_front z r zs (inl e) = (0, omega arith, sym e)
at_front z r zs (inr c) = c

pub least_is : (zs : List ℤ) → IsLeast zs (furthest least (first_or_zero zs) zs)
unfolding further
least_is [] = (All-nil _, inr (refl, refl))
least_is (z ∷ zs) =
    ((fold-int_min_bounds z (z ∷ zs) _ refl).1, inl (at_front z _ zs (fold-int_min_reached z (z ∷ zs) _ refl)))

pub greatest_is : (zs : List ℤ) → IsGreatest zs (furthest greatest (first_or_zero zs) zs)
unfolding further
greatest_is [] = (All-nil _, inr (refl, refl))
greatest_is (z ∷ zs) =
    ((fold-int_max_bounds z (z ∷ zs) _ refl).1, inl (at_front z _ zs (fold-int_max_reached z (z ∷ zs) _ refl)))

pub bounds_are : (g : Glyph) → AreBounds (outline_of g) (bounds_in g)
unfolding bounds_in extent
bounds_are g = record {
  left = least_is (coordinates abscissa (outline_of g));
  low = least_is (coordinates ordinate (outline_of g));
  right = greatest_is (coordinates abscissa (outline_of g));
  high = greatest_is (coordinates ordinate (outline_of g));
}

-- Every point is close, glyph by glyph; so are the least and the greatest of them.
is_close : ℤ → Bool
is_close z = int_le (negsuc 1999) z && int_le z (pos 2000)

points_close : (g : Glyph)
    → (list_all is_close (coordinates abscissa (outline_of g))
    && list_all is_close (coordinates ordinate (outline_of g)))
    ≡ true
unfolding coordinates coordinate is_close
points_close Glyph.Hb = refl
points_close _ = refl

close_at : (zs : List ℤ)
    → list_all is_close zs ≡ true → (k : ℕ) (z : ℤ) → k < length zs → slice_index_or zs k z ≡ z → IsClose z
unfolding is_close
close_at [] h k z lt e = absurd (omega arith)
close_at (x ∷ zs) h zero z lt e = subst IsClose e (grind (arith, ints), grind (arith, ints))
close_at (x ∷ zs) h (suc k) z lt e = close_at zs (grind (arith, ints)) k z (omega arith) e

close_of : (zs : List ℤ) → list_all is_close zs ≡ true → (z : ℤ) → Contains zs z ⊎ ((zs ≡ []) × (z ≡ pos 0)) → IsClose z
close_of zs h z (inr e) = (omega (arith, ints, e.1), omega (arith, ints, e.1))
close_of zs h z (inl c) = close_at zs h c.0 z c.1 c.2

pub bounds_are_close : (g : Glyph) → AreClose (bounds_in g)
bounds_are_close g =
    let are = bounds_are g in
    let points = points_close g in
    let across : list_all is_close (coordinates abscissa (outline_of g)) ≡ true = grind (arith, nat_tests) in
    let up : list_all is_close (coordinates ordinate (outline_of g)) ≡ true = grind (arith, nat_tests) in
    record {
      left = close_of (coordinates abscissa (outline_of g)) across (bounds_in g).left are.left.1;
      low = close_of (coordinates ordinate (outline_of g)) up (bounds_in g).low are.low.1;
      right = close_of (coordinates abscissa (outline_of g)) across (bounds_in g).right are.right.1;
      high = close_of (coordinates ordinate (outline_of g)) up (bounds_in g).high are.high.1;
    }

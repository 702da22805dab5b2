-- Marks of the same shapes, that differ only in heights, have the same boxes.
use Rattle.std.proofs.Common.{◌≡◌, ◌∙◌, sym, ap, subst, refl, ℕ, ℤ, pos, ◌+ℤ◌, ◌≤ℤ◌, List, get_or}
use Rattle.std.proofs.lemmas.List.Elements.{All-contains, Contains-get_or}
use Rattle.std.specs.List.{Contains}
use Rattle.mus_laid.specs.Boxes.{sides_of}
use Rattle.mus_laid.specs.Shapes.{laid_shape, mark_shape, marks_shape}
use Rattle.mus_laid.specs.declared.boxes.Sides.{Sides}
use Rattle.mus_laid.specs.declared.laid.Laid.{Laid}
use Rattle.mus_laid.specs.declared.laid.Mark.{Mark}
use Rattle.lay_reaches.specs.Reaches.{rank_of_mark}
use Rattle.lay_tune.specs.Systems.{x_at}
use Rattle.law_marks_in_range.proofs.Alike.{same_in}
use Rattle.law_marks_apart.specs.Apart.{AreApart, IsBoxed, Keeps, gap_of}

box_shape : (x : Mark) → (rank_of_mark (mark_shape x) ≡ rank_of_mark x) × (sides_of (mark_shape x) ≡ sides_of x)
box_shape (Mark.Glyph glyph rank dx dy) = (refl, refl)
box_shape _ = (refl, refl)

boxed_alike : (x y : Laid) (r : ℕ) (box : Sides) → laid_shape x ≡ laid_shape y → IsBoxed y r box → IsBoxed x r box
boxed_alike x y r box e b = record {
  keeps = subst Keeps (sym (ap (λ (l : Laid). l.lane) e)) b.keeps;
  rank_is = sym (box_shape x.mark).0 ∙ ap (λ (l : Laid). rank_of_mark l.mark) e ∙ (box_shape y.mark).0 ∙ b.rank_is;
  box_is = sym (box_shape x.mark).1 ∙ ap (λ (l : Laid). sides_of l.mark) e ∙ (box_shape y.mark).1 ∙ b.box_is;
}

-- a mark of the same shape
abbrev HasShape : List Laid → Laid → Type 0
HasShape xs y = (x : Laid) × Contains xs x × (laid_shape x ≡ laid_shape y)

other : (xs ys : List Laid) → marks_shape xs ≡ marks_shape ys → (y : Laid) → Contains ys y → HasShape xs y
other xs ys e y has =
    All-contains (HasShape xs) ys y
    (same_in laid_shape (HasShape xs) (λ x z same own. (own.0, own.1, own.2 ∙ same)) xs ys e
    (λ k d less. (get_or xs k d, Contains-get_or xs k d less, refl)))
    has

-- so they are as far apart
pub same_apart : (width : ℕ) (at : List ℤ) (xs ys : List Laid)
    → marks_shape xs ≡ marks_shape ys → AreApart width at xs → AreApart width at ys
same_apart width at xs ys e h = record {
  apart = λ x y r q first second in_x in_y at_x at_y same order.
      let u = other xs ys e x in_x in let v = other xs ys e y in_y in let lane = ap (λ (l : Laid). l.lane) u.2 in
      subst (λ l. ((x_at at r +ℤ first.right) +ℤ pos (gap_of l)) ≤ℤ (x_at at q +ℤ second.left)) lane
      (h.apart u.0 v.0 r q first second u.1 v.1 (boxed_alike u.0 x r first u.2 at_x)
      (boxed_alike v.0 y q second v.2 at_y)
      (lane ∙ same ∙ sym (ap (λ (l : Laid). l.lane) v.2)) order);
  within =
      λ x r box in_x at_x. let u = other xs ys e x in_x in h.within u.0 r box u.1 (boxed_alike u.0 x r box u.2 at_x);
}

-- Marks of the same shapes, that differ only in heights, are at the same columns and show the same texts.
use Rattle.std.proofs.Common.{◌≡◌, ◌∙◌, sym, ap, subst, refl, ℕ, ◌<◌, List, [], ◌∷◌, ◌++◌, length, map, flat_map}
use Rattle.std.proofs.Common.{get_or, arith}
use Rattle.std.proofs.lemmas.List.{get_or-map, length-map}
use Rattle.std.specs.List.{All}
use Rattle.mus_laid.specs.declared.laid.Laid.{Laid}
use Rattle.mus_laid.specs.declared.laid.Mark.{Mark}
use Rattle.mus_laid.specs.declared.laid.StaffMarks.{StaffMarks}
use Rattle.mus_laid.specs.declared.laid.SystemMarks.{SystemMarks}
use Rattle.mus_laid.specs.Shapes.{HaveSameShapes, laid_shape, mark_shape, marks_shape, staff_shape}
use Rattle.law_marks_in_range.specs.Ranks.{AreAnchored, AreMarksRanked, IsRanked, marks_ranks, staves_ranks}
use Rattle.law_marks_in_range.specs.Shown.{IsShown}
use Rattle.law_marks_in_range.specs.Texts.{HasPrinted}

-- what holds of the members of a list holds of those of another with the same images
pub same_in : {X Y : Type 0} (f : X → Y) (P : X → Type 0)
    → ((x y : X) → f x ≡ f y → P x → P y) → (xs ys : List X) → map f xs ≡ map f ys → All P xs → All P ys
same_in f P h xs ys e all k d l =
    let less : k < length xs =
    let a = length-map xs f in let b = length-map ys f in let c = ap (λ zs. length zs) e in omega (arith, a, b, c, l) in
    h (get_or xs k d) (get_or ys k d)
    (sym (get_or-map f xs k d (f d) less) ∙ ap (λ zs. get_or zs k (f d)) e ∙ get_or-map f ys k d (f d) l) (all k d less)

ranked_shape : (n : ℕ) (x : Mark) → IsRanked n (mark_shape x) ≡ IsRanked n x
ranked_shape n (Mark.Glyph glyph rank dx dy) = refl
ranked_shape n _ = refl

printed_shape : (x : Mark) → HasPrinted (mark_shape x) ≡ HasPrinted x
printed_shape (Mark.Glyph glyph rank dx dy) = refl
printed_shape _ = refl

ranks_shape : (all : List Laid) → marks_ranks (marks_shape all) ≡ marks_ranks all
ranks_shape [] = refl
ranks_shape (x ∷ all) = by x.mark (ranks_shape all)
  where
    by : (mark : Mark) → marks_ranks (marks_shape all) ≡ marks_ranks all
        → marks_ranks (marks_shape (record { mark = mark; lane = x.lane } ∷ all))
        ≡ marks_ranks (record { mark = mark; lane = x.lane } ∷ all)
    by (Mark.Glyph glyph rank dx dy) e = ap (λ t. rank ∷ t) e
    by (Mark.Words size rank dx dy text) e = ap (λ t. rank ∷ t) e
    by (Mark.Stem rank dx from to) e = ap (λ t. rank ∷ t) e
    by _ e = e

staves_shape : (staves : List StaffMarks) → staves_ranks staves ≡ flat_map marks_ranks (map staff_shape staves)
staves_shape [] = refl
staves_shape (s ∷ staves) =
    ap (λ t. t ++ staves_ranks staves) (sym (ranks_shape s.marks))
    ∙ ap (λ t. marks_ranks (staff_shape s) ++ t) (staves_shape staves)

-- of all marks of a system
all_same : (P : Laid → Type 0)
    → ((x : Laid) → P (laid_shape x) ≡ P x) → (m n : SystemMarks) → HaveSameShapes m n
    → All (λ s. All P s.marks) m.staves
    → All (λ s. All P s.marks) n.staves
all_same P is m n same =
    same_in staff_shape (λ s. All P s.marks)
    (λ s t e.
    same_in laid_shape P (λ x y f h. subst (λ T. T) (is y) (subst P f (subst (λ T. T) (sym (is x)) h))) s.marks t.marks
    e)
    m.staves n.staves same.staves

-- so what is shown of a system is shown of one of the same shapes
pub alike_shown : (m n : SystemMarks) → HaveSameShapes m n → IsShown m → IsShown n
alike_shown m n same h = record {
  rises = let a = same.from in let b = same.to in let l = h.rises in omega arith;
  staves =
      let a = length-map m.staves staff_shape in let b = length-map n.staves staff_shape in
      let c = ap (λ zs. length zs) same.staves in let l = h.staves in omega arith;
  ranked = subst (λ keys. All (λ s. AreMarksRanked (length keys) s.marks) n.staves) same.keys
      (all_same (λ x. IsRanked (length m.keys) x.mark) (λ x. ranked_shape (length m.keys) x.mark) m n same h.ranked);
  anchored = subst (λ keys. AreAnchored (length keys) (staves_ranks n.staves)) same.keys
      (subst (AreAnchored (length m.keys))
      (staves_shape m.staves ∙ ap (flat_map marks_ranks) same.staves ∙ sym (staves_shape n.staves)) h.anchored);
  texts = all_same (λ x. HasPrinted x.mark) (λ x. printed_shape x.mark) m n same h.texts;
}

-- The columns that a listener finds on a staff of a page are determined by the ranks of its marks.
use Rattle.std.proofs.lemmas.Bool.{cases_order}
use Rattle.std.proofs.lemmas.Bool.Decides.{nat_tests}
use Rattle.std.proofs.lemmas.Cmp.{int_cmp_total}
use Rattle.std.proofs.lemmas.Int.{ints}
use Rattle.std.proofs.lemmas.List.Elements.{All-contains, recursion_from_All}
use Rattle.std.proofs.lemmas.List.Folds.{list_any-from_Any}
use Rattle.std.proofs.lemmas.Map.Keys.{sorted_from_all_adjacent}
use Rattle.std.proofs.lemmas.Map.Views.{Contains-from_any}
use Rattle.std.proofs.Common.{ap₂, ◌∙◌, refl, sym, ap, subst, drop, drop-cons, arith, inl, inr}
use Rattle.std.proofs.Math.ListN.{drop_of_length-le}
use Rattle.std.proofs.lemmas.Option.{same_Some}
use Rattle.std.specs.Ordering.{int_cmp, int_eq}
use Rattle.std.specs.declared.cmp.Ordering.TheVariants.{Less}
use Rattle.std.specs.Prelude.{◌≡◌, ℕ, zero, suc, ◌+◌, ◌<◌, ◌==◌, ◌&&◌, ◌-ℤ◌, ℤ, pos, ◌<ℤ◌, Bool, true, false}
use Rattle.std.specs.Prelude.{if◌then◌else◌, List, [], ◌∷◌, ◌++◌, length, map, flat_map, Some, None}
use Rattle.std.specs.List.{All, AllByRecursion, Contains, list_any}
use Rattle.mus_laid.specs.declared.laid.Laid.{Laid}
use Rattle.mus_laid.specs.declared.laid.Mark.{Mark}
use Rattle.mus_laid.specs.declared.laid.StaffMarks.{StaffMarks}
use Rattle.ps_text.specs.Ranks.{all_ranked, anchors, is_same, rank_of, ranks}
use Rattle.ps_text.specs.declared.marks.PageMark.{PageMark}
use Rattle.ps_text.specs.declared.sheet.Staff.{Staff}
use Rattle.ps_heard.specs.Columns.{column_at, heard_columns_from, heard_columns_of, bulges_as_tie, glyphs_at, noted}
use Rattle.ps_heard.specs.Columns.{rising, tie_at}
use Rattle.ps_heard.specs.Roles.{role_of}
use Rattle.ps_heard.proofs.Places.{rising_is}
use Rattle.set_staves.proofs.Rising.{any_at, ranked_at, rises}
use Rattle.set_staves.proofs.Shown.{x_read}
use Rattle.law_staff_columns.specs.Ranked.{columns_after, noted_at, notes_at, rank_column, ranked_columns, tied_at}
use Rattle.law_staff_columns.specs.Ranked.{tie_ends_at}
use Rattle.set_staves.specs.Marks.{HasColumns, RisesAlong, called_mark, called_marks, x_at}
use Rattle.law_book_sound.proofs.Telling.{column_alike}

-- ---- marks say at a rank what they say as marks called for
rank_test : (i r : ℕ) → int_eq (pos i) (pos r) ≡ (r == i)
rank_test i r = grind (arith, ints, nat_tests)

called_one : (r : ℕ) (m : Mark)
    → (glyphs_at (pos r) (called_mark m) ≡ noted_at r m) × (tie_at (pos r) (called_mark m) ≡ tied_at r m)
called_one r (Mark.Glyph glyph rank dx dy) =
    (ap (λ b. if b then noted (role_of glyph dy) dy else []) (rank_test rank r), refl)
called_one r (Mark.Words size rank dx dy text) = (refl, refl)
called_one r (Mark.Stem rank dx from to) = (refl, refl)
called_one r (Mark.Beam way first last from to) = (refl, refl)
called_one r (Mark.Arc first last from to bulge) =
    (refl, ap (λ b. if b && bulges_as_tie bulge then (to -ℤ bulge) ∷ [] else []) (rank_test last r))

called_all : (r : ℕ) (all : List Laid)
    → (flat_map (glyphs_at (pos r)) (map (λ l. called_mark l.mark) all) ≡ notes_at all r)
    × (flat_map (tie_at (pos r)) (map (λ l. called_mark l.mark) all) ≡ tie_ends_at all r)
called_all r [] = (refl, refl)
called_all r (l ∷ all) = (
  ap₂ (λ a b. a ++ b) (called_one r l.mark).0 (called_all r all).0,
  ap₂ (λ a b. a ++ b) (called_one r l.mark).1 (called_all r all).1,
)

called_column : (r : ℕ) (s : StaffMarks) → column_at (r == 0) (called_marks s) (pos r) ≡ rank_column s.marks r
unfolding column_at
called_column r s =
    ap₂ (λ a b. record { leads = r == 0; notes = a; ties = b }) (called_all r s.marks).0 (called_all r s.marks).1

later : (r : ℕ) → false ≡ (suc r == 0)
later r = grind (arith, nat_tests)

-- ---- numbers, and those among some
same : (x : ℤ) → is_same x x ≡ true
same x = grind (arith, ints)

same_is : (x y : ℤ) → is_same x y ≡ true → x ≡ y
same_is x y e = grind (arith, ints)

less : (x y : ℤ) → x <ℤ y → int_cmp x y ≡ Less
less x y l = grind (arith, ints)

found : (x : ℤ) (xs : List ℤ) → Contains xs x → list_any (is_same x) xs ≡ true
found x xs c = list_any-from_Any (is_same x) xs (c.0, x, c.1, c.2, same x)

given_if : (b : Bool) (r t : ℤ) → (if b then Some r else None) ≡ Some t → b ≡ true
given_if true r t e = refl
given_if false r t e = absurd cc

-- an abscissa that has a rank is an anchor
ranked_is : (all : List ℤ) (y t : ℤ) → rank_of all y ≡ Some t → Contains all y
unfolding rank_of
ranked_is all y t e = Contains-from_any same_is y all (given_if (list_any (is_same y) all) _ t e)

-- ---- the rank of a column's abscissa is the column's
abbrev ArePlaced : List ℤ → List ℤ → Type 0
ArePlaced at xs = (rs : List ℕ) × (xs ≡ map (x_at at) rs) × AllByRecursion (λ r. r < length at) rs

placed : (at xs : List ℤ) → AllByRecursion (Contains at) xs → ArePlaced at xs
placed at [] h = ([], refl, tt)
placed at (x ∷ xs) h =
    let more = placed at xs h.1 in
    (h.0.0 ∷ more.0, ap₂ (λ a b. a ∷ b) (sym (x_read at h.0.0 x h.0.1 ∙ h.0.2)) more.1, (h.0.1, more.2))

module _ (at all : List ℤ) (rise : RisesAlong at) (set : All (Contains at) all) (read : All (Contains all) at) where
  rank_known : (i : ℕ) → i < length at → rank_of all (x_at at i) ≡ Some (pos i)
  rank_known i l =
      let p = placed at all (recursion_from_All (Contains at) all set) in
      subst (λ xs. rank_of xs (x_at at i) ≡ Some (pos i)) (sym p.1)
      (ranked_at at rise i p.0 l p.2 (λ k m.
      sym (any_at at rise k p.0 m p.2)
      ∙ subst (λ xs. list_any (is_same (x_at at k)) xs ≡ true) p.1 (found (x_at at k) all (read k (pos 0) m))))

  test_at : (i j : ℕ) → i < length at → j < length at → int_eq (x_at at i) (x_at at j) ≡ int_eq (pos i) (pos j)
  test_at i j l m = elim (cases_order i j) [
    | inl e ↦ let s = ap (x_at at) e in grind (arith, ints)
    | inr (inl o) ↦ let s = rises at rise i j o m in grind (arith, ints)
    | inr (inr o) ↦ let s = rises at rise j i o l in grind (arith, ints)
  ]

  apart : (r : ℕ) → r < length at → (y t : ℤ) → rank_of all y ≡ Some t → int_eq y (x_at at r) ≡ int_eq t (pos r)
  apart r l y t e =
      let c = All-contains (Contains at) all y set (ranked_is all y t e) in
      let here : y ≡ x_at at c.0 = sym (x_read at c.0 y c.1 ∙ c.2) in
      let rank : pos c.0 ≡ t = same_Some (pos c.0) t (sym (rank_known c.0 c.1) ∙ ap (rank_of all) (sym here) ∙ e) in
      ap (λ w. int_eq w (x_at at r)) here ∙ test_at c.0 r c.1 l ∙ ap (λ w. int_eq w (pos r)) rank

  columns_along : (ms : List PageMark) (s : StaffMarks) → all_ranked all ms ≡ Some (called_marks s)
      → (n r : ℕ) (leads : Bool) → leads ≡ (r == 0) → r + n ≡ length at
      → heard_columns_from leads ms (drop r at) ≡ columns_after s.marks r n
  columns_along ms s e zero r leads first h = ap (heard_columns_from leads ms) (drop_of_length-le at (omega arith))
  columns_along ms s e (suc n) r leads first h =
      let here = column_alike all (x_at at r) (pos r) (apart r (omega arith)) leads ms (called_marks s) e in
      ap (heard_columns_from leads ms) (drop-cons at r (pos 0) (omega arith))
      ∙ ap₂ (λ c cs. c ∷ cs) (here ∙ ap (λ b. column_at b (called_marks s) (pos r)) first ∙ called_column r s)
      (columns_along ms s e n (suc r) false (later r) (omega arith))

  rising_at : at ≡ rising all
  rising_at = rising_is all at (sorted_from_all_adjacent int_cmp_total at (pos 0) (λ k l. less _ _ (rise k l)))
      (λ w c. All-contains (Contains at) all w set c) (λ w c. All-contains (Contains all) at w read c)

  columns_placed : (ms : List PageMark) (s : StaffMarks)
      → all_ranked all ms ≡ Some (called_marks s)
      → heard_columns_from true ms (rising all) ≡ ranked_columns (length at) s.marks
  columns_placed ms s e =
      ap (heard_columns_from true ms) (sym rising_at) ∙ columns_along ms s e (length at) 0 true refl (omega arith)

pub columns_ranked : (system : List Staff) (staff : Staff) (s : StaffMarks) (at : List ℤ)
    → ranks system staff ≡ Some (called_marks s) → HasColumns system at → RisesAlong at
    → heard_columns_of (anchors system) staff.marks ≡ ranked_columns (length at) s.marks
unfolding ranks heard_columns_of
columns_ranked system staff s at ranked has rise =
    columns_placed at (anchors system) rise has.set has.read staff.marks s ranked

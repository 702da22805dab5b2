-- The reaches of a column in a staff's lanes, mark by mark.
use Rattle.std.proofs.Common.{◌≡◌, ◌≢◌, ℕ, ◌<◌, ◌&&◌, ◌==◌, max, true, List, [], ◌∷◌, ◌++◌, map, length, Option, Some}
use Rattle.std.proofs.Common.{None, refl, sym, ap, ◌∙◌, subst, arith, inl, inr, if◌then◌else◌, nat_lt, get_or, set}
use Rattle.std.proofs.Common.{get_or-set_same, get_or-set_other}
use Rattle.std.proofs.lemmas.Bool.{cases_eq}
use Rattle.std.proofs.lemmas.List.{append-nil, length-set}
use Rattle.std.proofs.lemmas.List.Elements.{filter_map-append}
use Rattle.std.proofs.lemmas.List.FromFn.{fill_by_all, length-map-range_with_len, get_or-map-range_with_len}
use Rattle.std.specs.List.{cons_option, range_with_len}
use Rattle.mus_onsets.specs.Onsets.{greatest}
use Rattle.mus_laid.specs.Boxes.{sides_of}
use Rattle.mus_laid.specs.declared.boxes.Sides.{Sides}
use Rattle.mus_laid.specs.declared.laid.Laid.{Laid}
use Rattle.lay_springs.specs.declared.traits.Reach.{Reach}
use Rattle.lay_reaches.specs.Lanes.{lane_number}
use Rattle.lay_reaches.specs.Reaches.{left_of, right_of, rank_of_mark, box_at, boxes_at, reach_over, drawn_reach}
use Rattle.lay_reaches.specs.Reaches.{drawn_row}
use Rattle.lay_reaches.specs.Widened.{reach_widened, widened_row}

-- ---- one more box
greatest_map_more : {X : Type 0} (f : X → ℕ) (xs : List X) (x : X)
    → greatest (map f (xs ++ x ∷ [])) ≡ max (greatest (map f xs)) (f x)
greatest_map_more f [] x = grind arith
greatest_map_more f (y ∷ xs) x = let e = greatest_map_more f xs x in grind (arith, e)

abbrev extended : Option Reach → Option Sides → Option Reach
extended reach None = reach
extended reach (Some box) = Some (reach_widened reach box)

reach_more : (boxes : List Sides) (box : Sides)
    → reach_over (boxes ++ box ∷ []) ≡ Some (reach_widened (reach_over boxes) box)
reach_more [] box = grind arith
reach_more (b ∷ boxes) box =
    let l = greatest_map_more (λ s. left_of s.left) (b ∷ boxes) box in
    let r = greatest_map_more (λ s. right_of s.right) (b ∷ boxes) box in
    rw (l, r) refl

drawn_more : (rank lane : ℕ) (marks : List Laid) (laid : Laid)
    → drawn_reach (marks ++ laid ∷ []) rank lane ≡ extended (drawn_reach marks rank lane) (box_at rank lane laid)
drawn_more rank lane marks laid =
    ap reach_over (filter_map-append (box_at rank lane) marks (laid ∷ []))
    ∙ by (boxes_at rank lane marks) (box_at rank lane laid)
  where
    by : (boxes : List Sides) (o : Option Sides)
        → reach_over (boxes ++ cons_option o []) ≡ extended (reach_over boxes) o
    by [] None = refl
    by (b ∷ boxes) None = ap reach_over (append-nil (b ∷ boxes))
    by boxes (Some box) = reach_more boxes box

-- ---- one more mark
pub box_is : (rank lane r l : ℕ) (box : Sides) (laid : Laid)
    → rank_of_mark laid.mark ≡ Some r → lane_number laid.lane ≡ Some l → sides_of laid.mark ≡ Some box
    → box_at rank lane laid ≡ (if (rank == r) && (lane == l) then Some box else None)
box_is rank lane r l box laid e f g = rw (e, f, g) refl

module _ {X : Type 0} where
  pub same_range : (f g : ℕ → X) (n : ℕ) (d : X)
      → ((k : ℕ) → k < n → f k ≡ g k) → map f (range_with_len 0 n) ≡ map g (range_with_len 0 n)
  same_range f g n d h = fill_by_all g (map f (range_with_len 0 n)) n d (length-map-range_with_len f 0 n)
      (λ k l. get_or-map-range_with_len f 0 n k k d l (omega arith) ∙ h k l)

  set_range : (f g : ℕ → X) (n i : ℕ) (y : X)
      → i < n → g i ≡ y → ((k : ℕ) → k < n → k ≢ i → f k ≡ g k)
      → set (map f (range_with_len 0 n)) i y ≡ map g (range_with_len 0 n)
  set_range f g n i y l e h = fill_by_all g (set (map f (range_with_len 0 n)) i y) n y
      (length-set (map f (range_with_len 0 n)) i y ∙ length-map-range_with_len f 0 n)
      (λ k m. elim (cases_eq k i) [
        | inl same ↦
            let long : i < length (map f (range_with_len 0 n)) =
            subst (λ t. i < t) (sym (length-map-range_with_len f 0 n)) l in
            subst (λ t. get_or (set (map f (range_with_len 0 n)) i y) t y ≡ g t) (sym same)
            (get_or-set_same (map f (range_with_len 0 n)) i y y long ∙ sym e)
        | inr other ↦
            get_or-set_other (map f (range_with_len 0 n)) i k y y other
            ∙ get_or-map-range_with_len f 0 n k k y m (omega arith)
            ∙ h k m other
      ])

pub row_length : (marks : List Laid) (lanes rank : ℕ) → length (drawn_row marks lanes rank) ≡ lanes
row_length marks lanes rank = length-map-range_with_len (drawn_reach marks rank) 0 lanes

-- a box at rank r in lane l widens that entry alone
pub row_more : (marks : List Laid) (laid : Laid) (lanes r l : ℕ) (box : Sides)
    → ((rank lane : ℕ) → box_at rank lane laid ≡ (if (rank == r) && (lane == l) then Some box else None)) → l < lanes
    → widened_row (drawn_row marks lanes r) l box ≡ drawn_row (marks ++ laid ∷ []) lanes r
row_more marks laid lanes r l box is lt =
    let long : l < length (drawn_row marks lanes r) = subst (λ t. l < t) (sym (row_length marks lanes r)) lt in
    let yes : nat_lt l (length (drawn_row marks lanes r)) ≡ true = grind (arith, long) in
    let at : get_or (drawn_row marks lanes r) l None ≡ drawn_reach marks r l =
    get_or-map-range_with_len (drawn_reach marks r) 0 lanes l l None lt (omega arith) in
    rw (yes, at)
    (set_range (drawn_reach marks r) (drawn_reach (marks ++ laid ∷ []) r) lanes l
    (Some (reach_widened (drawn_reach marks r l) box)) lt
    (drawn_more r l marks laid ∙ ap (extended (drawn_reach marks r l)) (is r l ∙ here))
    (λ k m ne. sym (drawn_more r k marks laid ∙ ap (extended (drawn_reach marks r k)) (is r k ∙ apart k ne))))
  where
    here : (if (r == r) && (l == l) then Some box else None) ≡ Some box
    here = grind arith

    apart : (k : ℕ) → k ≢ l → (if (r == r) && (k == l) then Some box else None) ≡ None
    apart k ne = grind (arith, ne)

-- a mark at none of these places widens none
pub none_more : (marks : List Laid) (laid : Laid) (lanes rank : ℕ)
    → ((lane : ℕ) → lane < lanes → box_at rank lane laid ≡ None)
    → drawn_row marks lanes rank ≡ drawn_row (marks ++ laid ∷ []) lanes rank
none_more marks laid lanes rank is =
    same_range (drawn_reach marks rank) (drawn_reach (marks ++ laid ∷ []) rank) lanes None
    (λ k m. sym (drawn_more rank k marks laid ∙ ap (extended (drawn_reach marks rank k)) (is k m)))

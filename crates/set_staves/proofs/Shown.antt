-- The ranks read off a system are those that its marks call for.
use Rattle.std.proofs.Common.{◌≡◌, ℕ, zero, suc, ◌<◌, Bool, true, false, List, [], ◌∷◌, ◌++◌, length, map, get_or, ℤ}
use Rattle.std.proofs.Common.{pos, ◌+ℤ◌, Some, refl, sym, ap, ap₂, subst, ◌∙◌, arith, flat_map}
use Rattle.std.proofs.lemmas.Bool.{eqb-true}
use Rattle.std.proofs.lemmas.List.{map-append}
use Rattle.std.proofs.lemmas.List.Elements.{All-cons, All-head, All-nil, All-tail, recursion_from_All}
use Rattle.std.specs.Prelude.{IsTrue, ◌==◌, ◌||◌}
use Rattle.std.specs.List.{All, AllByRecursion, Contains, cons_option, list_any}
use Rattle.mus_laid.specs.declared.laid.Mark.{Mark}
use Rattle.mus_laid.specs.declared.laid.Laid.{Laid}
use Rattle.mus_laid.specs.declared.laid.StaffMarks.{StaffMarks}
use Rattle.mus_laid.specs.Ranked.{anchor_rank}
use Rattle.ps_text.specs.Ranks.{anchor_of, anchors, rank_of, ranked, all_ranked, ranks}
use Rattle.ps_text.specs.declared.sheet.Staff.{Staff}
use Rattle.law_marks_in_range.specs.Ranks.{AreAnchored, AreMarksRanked, IsRanked, marks_ranks, staves_ranks}
use Rattle.set_staves.specs.Marks.{x_at, page_mark, called_mark, called_marks, staff_at, staves_at, RisesAlong}
use Rattle.set_staves.specs.Marks.{HasColumns, ShowsIn, ShowsCall}
use Rattle.set_staves.proofs.Rising.{ranked_at}

-- ---- the anchors of a system are the abscissas of its anchors' ranks
mark_anchors : (at : List ℤ) (mark : Mark) (xs : List ℤ) (rs : List ℕ)
    → xs ≡ map (x_at at) rs → anchor_of (page_mark at mark) ++ xs ≡ map (x_at at) (cons_option (anchor_rank mark) rs)
mark_anchors at (Mark.Glyph glyph rank dx dy) xs rs e = ap (λ t. x_at at rank ∷ t) e
mark_anchors at (Mark.Words size rank dx dy text) xs rs e = ap (λ t. x_at at rank ∷ t) e
mark_anchors at (Mark.Stem rank dx from to) xs rs e = ap (λ t. x_at at rank ∷ t) e
mark_anchors at (Mark.Beam way first last from to) xs rs e = e
mark_anchors at (Mark.Arc first last from to bulge) xs rs e = e

marks_anchors : (at : List ℤ) (all : List Laid)
    → flat_map anchor_of (map (λ laid. page_mark at laid.mark) all) ≡ map (x_at at) (marks_ranks all)
marks_anchors at [] = refl
marks_anchors at (laid ∷ more) = mark_anchors at laid.mark _ (marks_ranks more) (marks_anchors at more)

staves_anchors : (width : ℕ) (at : List ℤ) (top : ℤ) (staves : List StaffMarks) (bases : List ℤ)
    → length bases ≡ length staves
    → flat_map (λ (s : Staff). flat_map anchor_of s.marks) (staves_at width at top staves bases)
    ≡ map (x_at at) (staves_ranks staves)
staves_anchors width at top [] bases e = refl
staves_anchors width at top (s ∷ more) [] e = absurd (omega arith)
staves_anchors width at top (s ∷ more) (b ∷ bases) e =
    ap₂ (λ xs ys. xs ++ ys) (marks_anchors at s.marks) (staves_anchors width at top more bases (omega arith))
    ∙ sym (map-append (x_at at) (marks_ranks s.marks) (staves_ranks more))

anchors_at : (width : ℕ) (at : List ℤ) (top : ℤ) (staves : List StaffMarks) (bases : List ℤ)
    → length bases ≡ length staves → anchors (staves_at width at top staves bases) ≡ map (x_at at) (staves_ranks staves)
unfolding anchors
anchors_at width at top staves bases e = staves_anchors width at top staves bases e

-- ---- which are below the number of columns
abbrev AreBelow : ℕ → List ℕ → Type 0
AreBelow n all = AllByRecursion (λ r. r < n) all

below_both : (n : ℕ) (rs more : List ℕ) → AreBelow n rs → AreBelow n more → AreBelow n (rs ++ more)
below_both n [] more h k = k
below_both n (r ∷ rs) more (here, rest) k = (here, below_both n rs more rest k)

mark_below : (n : ℕ) (mark : Mark) (rs : List ℕ)
    → IsRanked n mark → AreBelow n rs → AreBelow n (cons_option (anchor_rank mark) rs)
mark_below n (Mark.Glyph glyph rank dx dy) rs h k = (h, k)
mark_below n (Mark.Words size rank dx dy text) rs h k = (h, k)
mark_below n (Mark.Stem rank dx from to) rs h k = (h, k)
mark_below n (Mark.Beam way first last from to) rs h k = k
mark_below n (Mark.Arc first last from to bulge) rs h k = k

-- marks, and staves of marks, whose ranks are all below a number
abbrev Ranked : ℕ → List Laid → Type 0
Ranked n all = AllByRecursion (λ laid. IsRanked n laid.mark) all

abbrev StavesRanked : ℕ → List StaffMarks → Type 0
StavesRanked n staves = AllByRecursion (λ s. Ranked n s.marks) staves

marks_below : (n : ℕ) (all : List Laid) → Ranked n all → AreBelow n (marks_ranks all)
marks_below n [] h = tt
marks_below n (laid ∷ more) h = mark_below n laid.mark (marks_ranks more) h.0 (marks_below n more h.1)

staves_below : (n : ℕ) (staves : List StaffMarks) → StavesRanked n staves → AreBelow n (staves_ranks staves)
staves_below n [] h = tt
staves_below n (s ∷ more) h =
    below_both n (marks_ranks s.marks) (staves_ranks more) (marks_below n s.marks h.0) (staves_below n more h.1)

-- ---- what is read
abbrev IsRead : List ℤ → List ℤ → Type 0
IsRead at all = (i : ℕ) → i < length at → rank_of all (x_at at i) ≡ Some (pos i)

mark_read : (at all : List ℤ)
    → IsRead at all → (mark : Mark) → IsRanked (length at) mark
    → ranked all (page_mark at mark) ≡ Some (called_mark mark)
mark_read at all read (Mark.Glyph glyph rank dx dy) h = rw (read rank h) refl
mark_read at all read (Mark.Words size rank dx dy text) h = rw (read rank h) refl
mark_read at all read (Mark.Stem rank dx from to) h = rw (read rank h) refl
mark_read at all read (Mark.Beam way first last from to) h =
    rw (read first (omega (arith, h.0, h.1)), read last h.1) refl
mark_read at all read (Mark.Arc first last from to bulge) h =
    rw (read first (omega (arith, h.0, h.1)), read last h.1) refl

marks_read : (at all : List ℤ)
    → IsRead at all → (ms : List Laid) → Ranked (length at) ms
    → all_ranked all (map (λ laid. page_mark at laid.mark) ms) ≡ Some (map (λ laid. called_mark laid.mark) ms)
marks_read at all read [] h = refl
marks_read at all read (laid ∷ more) h = rw (mark_read at all read laid.mark h.0, marks_read at all read more h.1) refl

staff_read : (width : ℕ) (at : List ℤ) (base : ℤ) (system : List Staff)
    → IsRead at (anchors system) → (s : StaffMarks) → Ranked (length at) s.marks
    → ranks system (staff_at width at base s) ≡ Some (called_marks s)
unfolding ranks
staff_read width at base system read s h = marks_read at (anchors system) read s.marks h

staves_read : (width : ℕ) (at : List ℤ) (top : ℤ) (system : List Staff)
    → IsRead at (anchors system) → (staves : List StaffMarks) (bases : List ℤ)
    → length bases ≡ length staves → StavesRanked (length at) staves
    → ShowsIn system (staves_at width at top staves bases) staves
staves_read width at top system read [] bases e h = tt
staves_read width at top system read (s ∷ more) [] e h = absurd (omega arith)
staves_read width at top system read (s ∷ more) (b ∷ bases) e h = (
  staff_read width at (top +ℤ b) system read s h.0,
  staves_read width at top system read more bases (omega arith) h.1,
)

by_recursion : (n : ℕ) (staves : List StaffMarks) → All (λ s. AreMarksRanked n s.marks) staves → StavesRanked n staves
by_recursion n [] h = tt
by_recursion n (s ∷ more) h = (
  recursion_from_All (λ laid. IsRanked n laid.mark) s.marks (All-head (λ t. AreMarksRanked n t.marks) s more h),
  by_recursion n more (All-tail (λ t. AreMarksRanked n t.marks) s more h),
)

-- if columns rise, marks have their ranks among them, and each column holds an anchor
pub shows_call : (width : ℕ) (at : List ℤ) (top : ℤ) (staves : List StaffMarks) (bases : List ℤ)
    → RisesAlong at → length bases ≡ length staves
    → All (λ s. AreMarksRanked (length at) s.marks) staves → AreAnchored (length at) (staves_ranks staves)
    → ShowsCall (staves_at width at top staves bases) staves
shows_call width at top staves bases rise e h has =
    let along = by_recursion (length at) staves h in let below = staves_below (length at) staves along in
    staves_read width at top (staves_at width at top staves bases)
    (λ i l.
    ap (λ t. rank_of t (x_at at i)) (anchors_at width at top staves bases e)
    ∙ ranked_at at rise i (staves_ranks staves) l below has)
    staves bases e along

-- ---- the columns that are read are those of the marks
pub x_read : (at : List ℤ) (k : ℕ) (d : ℤ) → k < length at → x_at at k ≡ get_or at k d
x_read [] k d inside = absurd (omega arith)
x_read (x ∷ at) zero d inside = refl
x_read (x ∷ at) (suc k) d inside = x_read at k d (omega arith)

each_set : (at : List ℤ) (ranks : List ℕ) → AreBelow (length at) ranks → All (Contains at) (map (x_at at) ranks)
each_set at [] below = All-nil (Contains at)
each_set at (r ∷ ranks) below =
    All-cons (Contains at) (x_at at r) (map (x_at at) ranks) (r, below.0, sym (x_read at r (x_at at r) below.0))
    (each_set at ranks below.1)

anchored_by : (at : List ℤ) (k r : ℕ) (ranks : List ℕ) (b : Bool)
    → (k == r) ≡ b → (IsTrue (list_any (λ r. k == r) ranks) → Contains (map (x_at at) ranks) (x_at at k))
    → IsTrue (b || list_any (λ r. k == r) ranks) → Contains (x_at at r ∷ map (x_at at) ranks) (x_at at k)
anchored_by at k r ranks true same following has = (0, omega arith, ap (x_at at) (sym (eqb-true k r same)))
anchored_by at k r ranks false other following has =
    let more = following has in (suc more.0, omega (arith, more.1), more.2)

anchored : (at : List ℤ) (k : ℕ) (ranks : List ℕ)
    → IsTrue (list_any (λ r. k == r) ranks) → Contains (map (x_at at) ranks) (x_at at k)
anchored at k [] has = absurd cc
anchored at k (r ∷ ranks) has = anchored_by at k r ranks (k == r) refl (anchored at k ranks) has

pub has_columns : (width : ℕ) (at : List ℤ) (top : ℤ) (staves : List StaffMarks) (bases : List ℤ)
    → length bases ≡ length staves
    → All (λ s. AreMarksRanked (length at) s.marks) staves → AreAnchored (length at) (staves_ranks staves)
    → HasColumns (staves_at width at top staves bases) at
has_columns width at top staves bases e h has =
    let same = sym (anchors_at width at top staves bases e) in record {
      set =
          subst (All (Contains at)) same
          (each_set at (staves_ranks staves) (staves_below (length at) staves (by_recursion (length at) staves h)));
      read =
          λ k d inside.
          subst (λ l. Contains l (get_or at k d)) same
          (subst (Contains (map (x_at at) (staves_ranks staves))) (x_read at k d inside)
          (anchored at k (staves_ranks staves) (has k inside)));
    }

-- What marks say at an abscissa is what their ranked forms say at its rank, if the rank distinguishes the anchor from
-- all others.
use Rattle.std.proofs.Common.{◌≡◌, refl, ap, ap₂, subst, List, [], ◌∷◌, ◌++◌, flat_map, ℤ, ◌-ℤ◌, Bool, Option, Some}
use Rattle.std.proofs.Common.{None}
use Rattle.std.proofs.lemmas.Option.{same_Some}
use Rattle.std.specs.Prelude.{if◌then◌else◌, ◌&&◌}
use Rattle.std.specs.Ordering.{int_eq}
use Rattle.ps_text.specs.Ranks.{all_ranked, rank_of, ranked, ◌>>=◌}
use Rattle.ps_text.specs.declared.marks.PageMark.{PageMark}
use Rattle.ps_heard.specs.Columns.{column_at, bulges_as_tie, glyphs_at, noted, tie_at}
use Rattle.ps_heard.specs.Roles.{role_of}

-- a step that gives something had something
given : {A B : Type 0} (o : Option A) (f : A → Option B) (r : B) (P : Type 0)
    → (o >>= f) ≡ Some r → ((z : A) → o ≡ Some z → f z ≡ Some r → P) → P
given None f r P e k = absurd cc
given (Some z) f r P e k = k z refl e

-- the first marks say at x what the others say at z
abbrev AreAlike : ℤ → ℤ → List PageMark → List PageMark → Type 0
AreAlike x z ms qs =
    (flat_map (glyphs_at x) ms ≡ flat_map (glyphs_at z) qs) × (flat_map (tie_at x) ms ≡ flat_map (tie_at z) qs)

abbrev IsAlike : ℤ → ℤ → PageMark → PageMark → Type 0
IsAlike x z m q = (glyphs_at x m ≡ glyphs_at z q) × (tie_at x m ≡ tie_at z q)

module _ (all : List ℤ) (x z : ℤ) (apart : (y t : ℤ) → rank_of all y ≡ Some t → int_eq y x ≡ int_eq t z) where
  by_rank : (m q : PageMark) (y : ℤ) (f : ℤ → PageMark)
      → (rank_of all y >>= λ t. Some (f t)) ≡ Some q → ((t : ℤ) → rank_of all y ≡ Some t → IsAlike x z m (f t))
      → IsAlike x z m q
  by_rank m q y f e k =
      given (rank_of all y) (λ t. Some (f t)) q _ e (λ t g h. subst (IsAlike x z m) (same_Some (f t) q h) (k t g))

  mark_alike : (m q : PageMark) → ranked all m ≡ Some q → IsAlike x z m q
  mark_alike (PageMark.Glyph g y dx dy) q e =
      by_rank (PageMark.Glyph g y dx dy) q y (λ t. PageMark.Glyph g t dx dy) e
      (λ t f. (ap (λ b. if b then noted (role_of g dy) dy else []) (apart y t f), refl))
  mark_alike (PageMark.Words s y dx dy w) q e =
      by_rank (PageMark.Words s y dx dy w) q y (λ t. PageMark.Words s t dx dy w) e (λ t f. (refl, refl))
  mark_alike (PageMark.Stem y dx from to) q e =
      by_rank (PageMark.Stem y dx from to) q y (λ t. PageMark.Stem t dx from to) e (λ t f. (refl, refl))
  mark_alike (PageMark.Beam way y v from to) q e =
      given (rank_of all y) (λ t. rank_of all v >>= λ u. Some (PageMark.Beam way t u from to)) q _ e
      (λ t f h.
      by_rank (PageMark.Beam way y v from to) q v (λ u. PageMark.Beam way t u from to) h (λ u k. (refl, refl)))
  mark_alike (PageMark.Arc y v from to bulge) q e =
      given (rank_of all y) (λ t. rank_of all v >>= λ u. Some (PageMark.Arc t u from to bulge)) q _ e
      (λ t f h.
      by_rank (PageMark.Arc y v from to bulge) q v (λ u. PageMark.Arc t u from to bulge) h
      (λ u k. (refl, ap (λ b. if b && bulges_as_tie bulge then (to -ℤ bulge) ∷ [] else []) (apart v u k))))

  marks_alike : (ms qs : List PageMark) → all_ranked all ms ≡ Some qs → AreAlike x z ms qs
  marks_alike [] qs e = subst (AreAlike x z []) (same_Some [] qs e) (refl, refl)
  marks_alike (m ∷ ms) qs e = given (ranked all m) (λ r. all_ranked all ms >>= λ rs. Some (r ∷ rs)) qs _ e
      (λ r f h. given (all_ranked all ms) (λ rs. Some (r ∷ rs)) qs _ h
      (λ rs g k. let here = mark_alike m r f in let more = marks_alike ms rs g in
      subst (AreAlike x z (m ∷ ms)) (same_Some (r ∷ rs) qs k)
      (ap₂ (λ a b. a ++ b) here.0 more.0, ap₂ (λ a b. a ++ b) here.1 more.1)))

  pub column_alike : (leads : Bool) (ms qs : List PageMark)
      → all_ranked all ms ≡ Some qs → column_at leads ms x ≡ column_at leads qs z
  unfolding column_at
  column_alike leads ms qs e =
      ap₂ (λ a b. record { leads = leads; notes = a; ties = b }) (marks_alike ms qs e).0 (marks_alike ms qs e).1

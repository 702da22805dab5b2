-- Spans that pass no forced bar keep each of them.
use Rattle.std.proofs.Common.{◌≡◌, ℕ, suc, ◌<◌, ◌≤◌, Bool, true, List, [], ◌∷◌, Option, None, is_some, refl, sym, ◌∙◌}
use Rattle.std.proofs.Common.{ap, subst, arith, inl, inr, Contains}
use Rattle.std.proofs.lemmas.Bool.{true≢false, cases_order}
use Rattle.lay_breaks.specs.Breaking.{FitsFrom, last_from, IsLegal}
use Rattle.lay_cert.specs.Listing.{none_forced}
use Rattle.lay_cert.specs.Laws.{ForcedBySpans}

module _ (cost : ℕ → ℕ → Option ℕ) (forced : ℕ → Bool)
    (stops : (a f b : ℕ) → a < f → f < b → forced f ≡ true → cost a b ≡ None) where
  kept : (a : ℕ) (bs : List ℕ) (f : ℕ)
      → FitsFrom cost a bs → a < f → f ≤ last_from a bs → forced f ≡ true → Contains bs f
  kept a [] f h l m t = absurd (omega arith)
  kept a (b ∷ bs) f h l m t = elim (cases_order f b) [
    | inl e ↦ subst (λ b. Contains (b ∷ bs) f) e (0, omega arith, refl)
    | inr (inl lt) ↦ absurd (true≢false (sym h.0 ∙ ap is_some (stops a f b l lt t)))
    | inr (inr gt) ↦ let k = kept b bs f h.1 gt m t in let n = k.1 in (suc k.0, omega arith, k.2)
  ]

pub forced_by_spans : ForcedBySpans
forced_by_spans cost forced free stops breaks i = (
  (λ h. record { rises = h.rises; ends = h.ends; every_forced = λ f l t. absurd (true≢false (sym t)); fits = h.fits }),
  (λ h. record { rises = h.rises; ends = h.ends; every_forced = λ f l t. every f h l t; fits = h.fits }),
)
  where
    every : (f : ℕ) → IsLegal cost none_forced breaks i → f ≤ i → forced f ≡ true → Contains breaks f
    every f h l t = elim (cases_order f 0) [
      | inl e ↦ absurd (true≢false (sym t ∙ (ap forced e ∙ free)))
      | inr (inl lt) ↦ absurd (omega arith)
      | inr (inr gt) ↦ let e = h.ends in kept cost forced stops 0 breaks f h.fits gt (omega arith) t
    ]

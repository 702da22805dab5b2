-- The reaches of a column that is in one lane alone.
use Rattle.std.proofs.Common.{[], ◌≡◌, ◌≢◌, ◌==◌, if◌then◌else◌, inl, inr, ℕ, zero, suc, ◌<◌, List, replicate, Option}
use Rattle.std.proofs.Common.{Some, None, IfSome, refl, sym, ap, ◌∙◌, subst, set, get_or, get_or-set_same}
use Rattle.std.proofs.Common.{get_or-set_other, slice_get, option_map, option_and_then, unwrap_or}
use Rattle.std.proofs.lemmas.Bool.{cases_eq, eq-eqb, ne_eqb}
use Rattle.std.proofs.lemmas.List.{length-replicate, set-get_or}
use Rattle.std.proofs.lemmas.Option.{unwrap_or-slice_get}
use Rattle.lay_springs.specs.{declared.traits.{Reach.Reach}, ReachView.{cut_reach, reach_in}}

pub in_at : (reaches : List (Option Reach)) (lane : ℕ)
    → reach_in reaches lane ≡ option_map cut_reach (get_or reaches lane None)
unfolding reach_in
in_at reaches lane = ap (option_map cut_reach) (joined (slice_get reaches lane) ∙ unwrap_or-slice_get reaches lane None)
  where
    joined : (o : Option (Option Reach)) → option_and_then (λ r. r) o ≡ unwrap_or o None
    joined None = refl
    joined (Some r) = refl

pub row_at : (row : List (Option Reach)) (lane : ℕ) → get_or row lane None ≡ unwrap_or (slice_get row lane) None
row_at row lane = sym (unwrap_or-slice_get row lane None)

none_at : (lanes lane : ℕ) → ◌≡◌ {A = Option Reach} (get_or (replicate lanes None) lane None) None
none_at zero lane = refl
none_at (suc lanes) zero = refl
none_at (suc lanes) (suc lane) = none_at lanes lane

pub none_set : (lanes lane : ℕ)
    → ◌≡◌ {A = List (Option Reach)} (set (replicate lanes None) lane None) (replicate lanes None)
none_set lanes lane =
    ap (set (replicate lanes None) lane) (sym (none_at lanes lane)) ∙ set-get_or (replicate lanes None) lane None

pub here : (lanes lane : ℕ) (o : Option Reach)
    → IfSome o (λ r. lane < lanes) → get_or (set (replicate lanes None) lane o) lane None ≡ o
here lanes lane None inside = ap (λ xs. get_or xs lane None) (none_set lanes lane) ∙ none_at lanes lane
here lanes lane (Some reach) inside =
    get_or-set_same (replicate lanes None) lane (Some reach) None
    (subst (λ n. lane < n) (sym (length-replicate lanes None)) inside)

pub others : (lanes lane other : ℕ) (o : Option Reach)
    → other ≢ lane → get_or (set (replicate lanes None) lane o) other None ≡ None
others lanes lane other o apart = get_or-set_other (replicate lanes None) lane other o None apart ∙ none_at lanes other

pub lone_known : (lanes lane other : ℕ) (reach : Reach)
    → lane < lanes
    → (if other == lane then Some (cut_reach reach) else None)
    ≡ reach_in (set (replicate lanes None) lane (Some reach)) other
lone_known lanes lane other reach inside = elim (cases_eq other lane) [
  | inl same ↦
      rw (same, eq-eqb lane lane refl)
      (sym (in_at _ lane ∙ ap (option_map cut_reach) (here lanes lane (Some reach) inside)))
  | inr apart ↦
      rw (ne_eqb other lane apart)
      (sym (in_at _ other ∙ ap (option_map cut_reach) (others lanes lane other (Some reach) apart)))
]

pub none_reported : (lanes lane other : ℕ) (o : Option Reach)
    → get_or (set (replicate lanes None) lane o) other None ≡ None
    → reach_in [] other ≡ reach_in (set (replicate lanes None) lane o) other
none_reported lanes lane other o none = in_at [] other ∙ sym (in_at _ other ∙ ap (option_map cut_reach) none)

pub nowhere : (lanes lane other : ℕ)
    → ◌≡◌ {A = Option Reach} (get_or (set (replicate lanes None) lane None) other None) None
nowhere lanes lane other =
    ap (λ (xs : List (Option Reach)). get_or xs other None) (none_set lanes lane) ∙ none_at lanes other

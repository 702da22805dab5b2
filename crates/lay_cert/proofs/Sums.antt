-- How large the sums of a listing are, and that each is one.
use Rattle.std.proofs.Common.{◌≡◌, ℕ, ◌+◌, ◌*◌, ◌^◌, ◌≤◌, Bool, List, [], ◌∷◌, Option, Some, None, IfSome, unwrap_or}
use Rattle.std.proofs.Common.{refl, ap, arith}
use Rattle.lay_breaks.specs.Breaking.{RisesFrom, last_from, sum_from, IsLegal, IsPotential}
use Rattle.lay_breaks.specs.Spans.{AreSpans, listed, listed_small}
use Rattle.lay_cert.specs.Listing.{none_forced}

price_small : (o : Option ℕ) → IfSome o (λ v. v ≤ 2 ^ 40) → unwrap_or o 0 ≤ 2 ^ 40
price_small None h = omega arith
price_small (Some v) h = h

pub sum_within : (cost : ℕ → ℕ → Option ℕ)
    → ((a b : ℕ) → IfSome (cost a b) (λ v. v ≤ 2 ^ 40)) → (a : ℕ) (bs : List ℕ) → RisesFrom a bs
    → sum_from cost a bs + a * 2 ^ 40 ≤ last_from a bs * 2 ^ 40
sum_within cost small a [] h = omega arith
sum_within cost small a (b ∷ bs) h =
    let ih = sum_within cost small b bs h.1 in let p = price_small (cost a b) (small a b) in let l = h.0 in omega arith

pub total_within : (n i : ℕ) (spans : _) (bs : List ℕ)
    → AreSpans n spans → IsLegal (listed spans) none_forced bs i → sum_from (listed spans) 0 bs ≤ i * 2 ^ 40
total_within n i spans bs h k =
    let s = sum_within (listed spans) (listed_small n None spans h) 0 bs k.rises in let e = k.ends in omega arith

pub least_within : (n i v : ℕ) (spans : _)
    → AreSpans n spans → IsPotential (listed spans) none_forced i (Some v) → v ≤ i * 2 ^ 40
least_within n i v spans h k =
    let t = total_within n i spans k.reached.0 h k.reached.1 in let e = k.reached.2 in omega arith

-- a bar has one potential
pub one_potential : (cost : ℕ → ℕ → Option ℕ) (forced : ℕ → Bool) (i : ℕ) (o q : Option ℕ)
    → IsPotential cost forced i o → IsPotential cost forced i q → o ≡ q
one_potential cost forced i None None h k = refl
one_potential cost forced i None (Some v) h k = absurd (h k.reached.0 k.reached.1)
one_potential cost forced i (Some v) None h k = absurd (k h.reached.0 h.reached.1)
one_potential cost forced i (Some v) (Some w) h k =
    let a = h.least k.reached.0 k.reached.1 in
    let b = k.least h.reached.0 h.reached.1 in
    let ea = h.reached.2 in
    let eb = k.reached.2 in
    let e : v ≡ w = omega arith in ap Some e

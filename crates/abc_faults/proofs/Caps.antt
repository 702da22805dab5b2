-- Stored weights: the count becomes too large at the same places as without caps.
use Rattle.mus_score.specs.Limits.{head_limit}
use Rattle.std.proofs.Common.{◌≡◌, ◌∙◌, refl, ap, ℕ, ◌+◌, ◌≤◌, min, List, [], ◌∷◌, ◌++◌, map, Bool, true, false, cond}
use Rattle.std.proofs.Common.{arith}
use Rattle.std.proofs.lemmas.Bool.Decides.{nat_tests}
use Rattle.std.proofs.lemmas.List.{map-append}
use Rattle.std.proofs.lemmas.List.Sums.{sum_by-cons}
use Rattle.std.specs.Prelude.{nat_lt, flat_map}
use Rattle.abc_faults.specs.declared.weights.Weight.{Weight}
use Rattle.abc_faults.specs.Weights.{capped, stands_before, count_up_to, crowd_up_to, crowd_fault, crowd_faults_at}
use Rattle.abc_faults.specs.Weights.{crowded}

pub capped_append : (xs ys : List Weight) → map capped (xs ++ ys) ≡ map capped xs ++ map capped ys
capped_append xs ys = map-append capped xs ys

-- a count with caps, and the whole count: equal if it is not too large
pub record IsCapped (few all : ℕ) : Type 0 where
  pub below : few ≤ all
  pub same : few ≤ head_limit → few ≡ all

both : (a b x y m n : ℕ) → IsCapped a b → IsCapped x y → m ≡ a + x → n ≡ b + y → IsCapped m n
both a b x y m n h i e f = record {
  below = omega (arith, e, f, h.below, i.below);
  same = λ few. omega (arith, e, f, h.same (omega arith), i.same (omega arith));
}

count_capped : (w v : Weight) → IsCapped (count_up_to (capped w) (capped v)) (count_up_to w v)
unfolding stands_before
count_capped w v = by_test (stands_before w v) where
  by_test : (b : Bool) → IsCapped (cond b 0 (min v.count 50001)) (cond b 0 v.count)
  by_test true = record { below = omega arith; same = λ few. refl }
  by_test false = record { below = omega arith; same = λ few. omega arith }

pub crowd_capped : (ws : List Weight) (w : Weight)
    → IsCapped (crowd_up_to (map capped ws) (capped w)) (crowd_up_to ws w)
crowd_capped [] w = record { below = omega arith; same = λ few. refl }
crowd_capped (v ∷ ws) w =
    let few = sum_by-cons (count_up_to (capped w)) (capped v) (map capped ws) in
    both (count_up_to (capped w) (capped v)) (count_up_to w v) (crowd_up_to (map capped ws) (capped w))
    (crowd_up_to ws w) _ _ (count_capped w v) (crowd_capped ws w) few (sum_by-cons (count_up_to w) v ws)

same_test : (few all : ℕ) → IsCapped few all → nat_lt head_limit few ≡ nat_lt head_limit all
same_test few all h = by_test (nat_lt head_limit few) refl where
  by_test : (b : Bool) → nat_lt head_limit few ≡ b → nat_lt head_limit few ≡ nat_lt head_limit all
  by_test true e = let below = h.below in grind (arith, nat_tests)
  by_test false e = let same : few ≡ all = h.same (grind (arith, nat_tests)) in ap (nat_lt head_limit) same

same_faults : (all some : List Weight)
    → flat_map (crowd_faults_at (map capped all)) (map capped some) ≡ flat_map (crowd_faults_at all) some
same_faults all [] = refl
same_faults all (w ∷ ws) =
    let own : crowd_faults_at (map capped all) (capped w) ≡ crowd_faults_at all w =
    ap (λ b. cond b (crowd_fault w ∷ []) []) (same_test _ _ (crowd_capped all w)) in
    ap (λ fs. fs ++ flat_map (crowd_faults_at (map capped all)) (map capped ws)) own
    ∙ ap (λ fs. crowd_faults_at all w ++ fs) (same_faults all ws)

pub crowded_capped : (ws : List Weight) → crowded (map capped ws) ≡ crowded ws
crowded_capped ws = same_faults ws ws

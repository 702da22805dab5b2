-- The list before the first position that passes, given that position.
use Rattle.std.proofs.Common.{◌≡◌, refl, ◌∙◌, sym, ap, ℕ, ◌-◌, ◌≤◌, List, length, take, drop, reverse, Bool, true}
use Rattle.std.proofs.Common.{false, cond, ltb, arith, not, Option, Some, None, ◌++◌, length-drop, unwrap_or}
use Rattle.std.proofs.lemmas.List.{reverse-append, reverse-reverse, length-reverse, take-append-drop, take-append-le}
use Rattle.std.proofs.lemmas.List.{take_all}
use Rattle.std.proofs.lemmas.List.Sums.{prefix_len-le-length}
use Rattle.std.specs.List.{position, position_or_len, before_first}

pub unwrap_position : {X : Type 0} (p : X → Bool) (xs : List X)
    → unwrap_or (position p xs) (length xs) ≡ position_or_len p xs
unwrap_position p xs = by_test (ltb (position_or_len p xs) (length xs)) refl where
  by_test : (b : Bool) → ltb (position_or_len p xs) (length xs) ≡ b
      → unwrap_or (cond b (Some (position_or_len p xs)) None) (length xs) ≡ position_or_len p xs
  by_test true e = refl
  by_test false e = let k : position_or_len p xs ≤ length xs = prefix_len-le-length (λ x. not (p x)) xs in grind arith

pub up_to_place : {X : Type 0} (p : X → Bool) (xs : List X) (n : Option ℕ)
    → n ≡ position p xs → take (unwrap_or n (length xs)) xs ≡ before_first p xs
up_to_place p xs n e = ap (λ k. take k xs) (ap (λ k. unwrap_or k (length xs)) e ∙ unwrap_position p xs)

-- the end of a list, read from its end
turned : {X : Type 0} (xs : List X) (k : ℕ) → k ≤ length xs → drop (length xs - k) xs ≡ reverse (take k (reverse xs))
turned xs k le =
    let m : ℕ = length xs - k in
    let a = take m xs in
    let b = drop m xs in
    let whole : reverse xs ≡ reverse b ++ reverse a = ap reverse (sym (take-append-drop m xs)) ∙ reverse-append a b in
    let long : length (reverse b) ≡ k = length-reverse b ∙ (length-drop m xs ∙ omega arith) in
    let prefix : take k (reverse b ++ reverse a) ≡ reverse b =
    take-append-le k (reverse b) (reverse a) (omega arith) ∙ take_all k (reverse b) (omega arith) in
    sym (ap (λ ys. reverse (take k ys)) whole ∙ (ap reverse prefix ∙ reverse-reverse b))

pub back_to_place : {X : Type 0} (p : X → Bool) (xs : List X) (n : Option ℕ)
    → n ≡ position p (reverse xs)
    → drop (length xs - unwrap_or n (length xs)) xs ≡ reverse (before_first p (reverse xs))
back_to_place p xs n e =
    let k : ℕ = position_or_len p (reverse xs) in
    let same : unwrap_or n (length xs) ≡ k = ap (λ m. unwrap_or m (length xs)) e
    ∙ (ap (λ m. unwrap_or (position p (reverse xs)) m) (sym (length-reverse xs)) ∙ unwrap_position p (reverse xs)) in
    let le : k ≤ length (reverse xs) = prefix_len-le-length (λ x. not (p x)) (reverse xs) in
    let within : k ≤ length xs = rw (sym (length-reverse xs)) le in
    ap (λ m. drop (length xs - m) xs) same ∙ turned xs k within

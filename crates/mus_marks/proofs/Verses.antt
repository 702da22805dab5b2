-- The verses of voices, and of some of them.
use Rattle.std.proofs.Common.{◌≡◌, ◌≤◌, ◌+◌, ℕ, zero, suc, List, [], ◌∷◌, take, drop, map, arith}
use Rattle.std.proofs.lemmas.List.Sums.{sum_by-cons}
use Rattle.mus_drawn.specs.declared.drawn.DrawnVoice.{DrawnVoice}
use Rattle.mus_marks.specs.Staff.{verses_on}

pub verses_cons : (v : DrawnVoice) (vs : List DrawnVoice) → verses_on (v ∷ vs) ≡ v.verses + verses_on vs
verses_cons v vs = sum_by-cons (λ n. n) v.verses (map (λ w. w.verses) vs)

pub verses_drop : (n : ℕ) (vs : List DrawnVoice) → verses_on (drop n vs) ≤ verses_on vs
verses_drop zero vs = omega arith
verses_drop (suc n) [] = omega arith
verses_drop (suc n) (v ∷ vs) = let all = verses_cons v vs in omega (arith, all, verses_drop n vs)

pub verses_take : (n : ℕ) (vs : List DrawnVoice) → verses_on (take n vs) ≤ verses_on vs
verses_take zero vs = omega arith
verses_take (suc n) [] = omega arith
verses_take (suc n) (v ∷ vs) =
    let all = verses_cons v vs in let some = verses_cons v (take n vs) in omega (arith, all, some, verses_take n vs)

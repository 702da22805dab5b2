-- The gaps of all lanes are small, and few if no staff has more than 255 verses.
use Rattle.std.proofs.Common.{ℕ, ◌+◌, ◌*◌, ◌^◌, ◌≤◌, List, [], ◌∷◌, length, replicate, arith}
use Rattle.std.proofs.lemmas.List.{length-append, length-replicate}
use Rattle.std.proofs.lemmas.List.Elements.{All-append, All-cons, All-head, All-nil, All-replicate, All-tail}
use Rattle.std.specs.List.{All}
use Rattle.lay_reaches.specs.Distances.{main_gap, other_gap}
use Rattle.lay_reaches.specs.Lanes.{gaps_of, staff_gaps}

pub gaps_narrow : (verses : List ℕ) → All (λ g. g ≤ 2 ^ 20) (gaps_of verses)
gaps_narrow [] = All-nil (λ g. g ≤ 2 ^ 20)
gaps_narrow (v ∷ verses) = All-append (λ g. g ≤ 2 ^ 20) (staff_gaps v) (gaps_of verses)
    (All-cons (λ g. g ≤ 2 ^ 20) main_gap (replicate (2 + v) other_gap) (omega arith)
    (All-replicate (λ g. g ≤ 2 ^ 20) (2 + v) other_gap (omega arith)))
    (gaps_narrow verses)

pub gaps_few : (verses : List ℕ) → All (λ v. v ≤ 255) verses → length (gaps_of verses) ≤ 258 * length verses
gaps_few [] h = omega arith
gaps_few (v ∷ verses) h =
    let a = gaps_few verses (All-tail (λ v. v ≤ 255) v verses h) in
    let b = All-head (λ v. v ≤ 255) v verses h in
    let c = length-append (staff_gaps v) (gaps_of verses) in
    let d = length-replicate {A = ℕ} (2 + v) other_gap in grind (arith, a, b, c, d)

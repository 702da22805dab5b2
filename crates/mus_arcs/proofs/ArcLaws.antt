-- The arcs that are found from the last event back are those that the rule pairs.
use Rattle.std.proofs.Common.{◌≡◌, ◌<◌, ℕ, suc, ◌+◌, ◌-◌, List, [], ◌∷◌, ◌++◌, drop, append_assoc, refl, sym, ◌∙◌, ap}
use Rattle.std.proofs.Common.{arith, add-one}
use Rattle.mus_arcs.specs.declared.pairing.Arc.{Arc}
use Rattle.mus_arcs.specs.declared.pairing.SlurEnd.{SlurEnd}
use Rattle.mus_arcs.specs.Arcs.{slur_copies, slur, slurs}

pub copies-more : (n : ℕ) (at : SlurEnd) → slur_copies (n + 1) at ≡ at ∷ slur_copies n at
copies-more n at = rw add-one refl

pub slurs-less : (count n : ℕ) (start end : SlurEnd) (ends : List SlurEnd)
    → n < count
    → slurs (slur_copies (count - n) start) (end ∷ ends)
    ≡ slur start end ++ slurs (slur_copies (count - (n + 1)) start) ends
slurs-less count n start end ends lt = let e : count - n ≡ suc (count - (n + 1)) = omega arith in rw e refl

pub drop-less : (count n : ℕ) (end : SlurEnd) (ends : List SlurEnd)
    → n < count → drop (count - n) (end ∷ ends) ≡ drop (count - (n + 1)) ends
drop-less count n end ends lt = let e : count - n ≡ suc (count - (n + 1)) = omega arith in rw e refl

pub slurs-none : (starts : List SlurEnd) → slurs starts [] ≡ []
slurs-none [] = refl
slurs-none (start ∷ starts) = refl

-- one start takes the end that was added last
pub slurs-step : (count n : ℕ) (start end : SlurEnd) (ends before : List SlurEnd) (put put_now all : List Arc)
    → n < count → before ≡ end ∷ ends → put_now ≡ put ++ slur start end
    → put ++ slurs (slur_copies (count - n) start) before ≡ all
    → put_now ++ slurs (slur_copies (count - (n + 1)) start) ends ≡ all
slurs-step count n start end ends before put put_now all lt was now h =
    ap (λ x. x ++ slurs (slur_copies (count - (n + 1)) start) ends) now ∙ append_assoc put (slur start end) _
    ∙ ap (λ x. put ++ x) (sym (slurs-less count n start end ends lt))
    ∙ ap (λ x. put ++ slurs (slur_copies (count - n) start) x) (sym was)
    ∙ h

pub drop-step : (count n : ℕ) (end : SlurEnd) (ends before all : List SlurEnd)
    → n < count → before ≡ end ∷ ends → drop (count - n) before ≡ all → drop (count - (n + 1)) ends ≡ all
drop-step count n end ends before all lt was h =
    sym (drop-less count n end ends lt) ∙ ap (drop (count - n)) (sym was) ∙ h

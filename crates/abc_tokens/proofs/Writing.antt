-- Writing a list element by element.
use Rattle.std.proofs.Common.{◌≡◌, ℕ, zero, suc, List, ◌∷◌, ◌++◌, refl, ap, ◌∙◌, replicate, Result, Ok, Err, OnOk}
use Rattle.std.proofs.Common.{append_assoc}
use Rattle.{abc_notes.specs.Runs.{copies}, abc_tokens.specs.Plain.{PutsBytes}}

puts_copies : (old new : List ℕ) (n b : ℕ) → new ≡ old ++ replicate n b → PutsBytes old new (copies n b)
puts_copies old new n b is =
    λ x. ap (λ s. s ++ x) is ∙ append_assoc old (replicate n b) x ∙ ap (λ s. old ++ s) (joined n b x)
  where
    joined : (n b : ℕ) (x : List ℕ) → replicate n b ++ x ≡ copies n b x
    joined zero b x = refl
    joined (suc n) b x = ap (λ s. b ∷ s) (joined n b x)

pub ok_copies : {A E : Type 0} (r : Result A E) (old new : List ℕ) (n m b c : ℕ)
    → n ≡ m → b ≡ c → OnOk r (new ≡ old ++ replicate n b) → OnOk r (PutsBytes old new (copies m c))
ok_copies (Ok x) old new n m b c e f h = puts_copies old new m c (rw (← e, ← f) h)
ok_copies (Err x) old new n m b c e f h = tt

-- Only one breaking is chosen.
use Rattle.std.proofs.Common.{◌≡◌, ℕ, inl, inr, List, [], ◌∷◌, reverse, refl, sym, ◌∙◌, ap, arith}
use Rattle.std.proofs.lemmas.List.{reverse-reverse}
use Rattle.lay_breaks.specs.Breaking.{LexAtMost, sum_from, OneIsChosen}

lex_same : (xs ys : List ℕ) → LexAtMost xs ys → LexAtMost ys xs → xs ≡ ys
lex_same [] [] h k = refl
lex_same [] (y ∷ ys) h k = absurd k
lex_same (x ∷ xs) [] h k = absurd h
lex_same (x ∷ xs) (y ∷ ys) (inl h) (inl k) = absurd (omega arith)
lex_same (x ∷ xs) (y ∷ ys) (inl h) (inr k) = let e = k.0 in absurd (omega arith)
lex_same (x ∷ xs) (y ∷ ys) (inr h) (inl k) = let e = h.0 in absurd (omega arith)
lex_same (x ∷ xs) (y ∷ ys) (inr h) (inr k) = let t = lex_same xs ys h.1 k.1 in let e = h.0 in cc

pub one_is_chosen : OneIsChosen
one_is_chosen cost forced n xs ys hx hy =
    let a = hx.least ys hy.legal in
    let b = hy.least xs hx.legal in
    let e : sum_from cost 0 ys ≡ sum_from cost 0 xs = omega arith in
    let r = lex_same (reverse xs) (reverse ys) (hy.latest xs hx.legal (sym e)) (hx.latest ys hy.legal e) in
    sym (reverse-reverse xs) ∙ (ap reverse r ∙ reverse-reverse ys)

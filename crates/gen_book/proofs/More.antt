-- One more line or tune.
use Rattle.std.proofs.Common.{◌≡◌, ◌∙◌, subst, ℕ, suc, ◌+◌, ◌-◌, ◌<◌, List, ◌++◌, append_assoc, arith}
use Rattle.gen_book.specs.Book.{number_after_steps, line_after, lines_after, tune, tunes}

pub one_line : (out new whole : List ℕ) (k s t : ℕ)
    → k < 16 → out ++ lines_after (16 - k) s ≡ whole → new ≡ out ++ line_after s → t ≡ number_after_steps 32 s
    → new ++ lines_after (16 - (k + 1)) t ≡ whole
one_line out new whole k s t within so_far put following =
    let left : 16 - k ≡ suc (16 - (k + 1)) = omega arith in
    let line : out ++ lines_after (suc (16 - (k + 1))) s ≡ whole =
    subst (λ n. out ++ lines_after n s ≡ whole) left so_far in
    rw (put, following) (append_assoc out (line_after s) (lines_after (16 - (k + 1)) (number_after_steps 32 s)) ∙ line)

pub one_tune : (out new whole : List ℕ) (n i : ℕ)
    → i < n + 1 → out ++ tunes (n + 1 - i) i ≡ whole → new ≡ out ++ tune i
    → new ++ tunes (n + 1 - (i + 1)) (i + 1) ≡ whole
one_tune out new whole n i within so_far put =
    let left : n + 1 - i ≡ suc (n + 1 - (i + 1)) = omega arith in
    let line : out ++ tunes (suc (n + 1 - (i + 1))) i ≡ whole = subst (λ m. out ++ tunes m i ≡ whole) left so_far in
    rw put (append_assoc out (tune i) (tunes (n + 1 - (i + 1)) (i + 1)) ∙ line)

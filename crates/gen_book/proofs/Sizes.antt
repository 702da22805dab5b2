-- A generated book is short: a tune of it has at most 700 bytes.
use Rattle.std.proofs.Common.{◌≡◌, refl, ℕ, zero, suc, ◌+◌, ◌*◌, ◌≤◌, length, arith}
use Rattle.std.proofs.lemmas.Fmt.{length-decimal-le}
use Rattle.std.proofs.lemmas.List.{length-append}
use Rattle.gen_book.specs.Book.{half_after, heading_of_tune, line_after, measure_after, tune, tunes, book}

line_length : (s : ℕ) → length (line_after s) ≡ 41
unfolding line_after measure_after half_after
line_length s = refl

tune_short : (i : ℕ) → i ≤ 500 → length (tune i) ≤ 700
unfolding tune heading_of_tune
tune_short i few =
    let digits = length-decimal-le 3 i (omega arith) (omega (arith, few)) (omega (arith, few)) in
    simp (length-append, line_length) (omega (arith, digits))

tunes_short : (k i : ℕ) → i + k ≤ 501 → length (tunes k i) ≤ 700 * k
tunes_short zero i few = omega arith
tunes_short (suc k) i few =
    let first = tune_short i (omega (arith, few)) in
    let more = tunes_short k (i + 1) (omega (arith, few)) in
    simp length-append (omega (arith, first, more))

pub book_short : (n : ℕ) → n ≤ 500 → length (book n) ≤ 350000
unfolding book
book_short n few = let all = tunes_short n 1 (omega (arith, few)) in omega (arith, few, all)

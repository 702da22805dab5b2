-- What is printed of a text has characters that a page may show, and so do decimals.
use Rattle.std.proofs.Common.{ℕ, ◌+◌, ◌≤◌, ◌<◌, ◌%◌, ◌∙◌, List, [], ◌∷◌, ◌++◌, length, map, take, refl, arith}
use Rattle.std.proofs.lemmas.Bool.{and_from}
use Rattle.std.proofs.lemmas.Bool.Decides.{nat_tests}
use Rattle.std.proofs.lemmas.Fmt.{decimal_by_steps, decimal_nonempty, length-decimal-le}
use Rattle.std.proofs.lemmas.List.{length-map, length-take}
use Rattle.std.proofs.lemmas.List.Folds.{list_all-append}
use Rattle.std.specs.List.{list_all}
use Rattle.std.specs.Prelude.{IsTrue, decimal}
use Rattle.mus_laid.specs.Printed.{is_printable, printed, printed_byte, printed_within}
use Rattle.law_marks_in_range.specs.Texts.{IsPrinted}

byte_printable : (b : ℕ) → IsTrue (is_printable (printed_byte b))
unfolding printed_byte
byte_printable b = grind (arith, nat_tests)

bytes_printable : (t : List ℕ) → IsTrue (list_all is_printable (map printed_byte t))
bytes_printable [] = refl
bytes_printable (b ∷ t) = and_from _ _ (byte_printable b) (bytes_printable t)

-- at most n characters of a text, if these are any
pub within_printed : (n : ℕ) (t : List ℕ) → n ≤ 60 → 1 ≤ length (printed_within n t) → IsPrinted (printed_within n t)
within_printed n t most some =
    let mapped = length-map (take n t) printed_byte in
    let taken = length-take n t in
    record { printable = bytes_printable (take n t); some = some; few = omega (arith, mapped, taken, most) }

pub text_printed : (t : List ℕ) → 1 ≤ length (printed t) → IsPrinted (printed t)
text_printed t some = within_printed 60 t (omega arith) some

-- decimals of at most two digits
digit_printable : (d : ℕ) → d < 10 → IsTrue (is_printable (48 + d))
digit_printable d h = grind (arith, nat_tests, h)

digits_printable : (n : ℕ) → n ≤ 99 → IsTrue (list_all is_printable (decimal n))
digits_printable n h = decimal_by_steps (λ k ds. IsTrue (list_all is_printable ds)) one more n (omega (arith, h)) where
  one : (k : ℕ) → k < 10 → IsTrue (list_all is_printable ((48 + k) ∷ []))
  one k h = and_from _ _ (digit_printable k h) refl

  more : (k : ℕ) (ds : List ℕ)
      → 10 ≤ k → IsTrue (list_all is_printable ds) → IsTrue (list_all is_printable (ds ++ ((48 + k % 10) ∷ [])))
  more k ds low h = list_all-append is_printable ds ((48 + k % 10) ∷ []) ∙ and_from _ _ h (one (k % 10) (omega arith))

pub digits_printed : (n : ℕ) → n ≤ 99 → IsPrinted (decimal n)
digits_printed n h =
    let some = decimal_nonempty n (omega (arith, h)) in
    let few = length-decimal-le 2 n (omega arith) (omega (arith, h)) (omega (arith, h)) in
    record { printable = digits_printable n h; some = omega (arith, some); few = omega (arith, few) }

-- Numbers of a page, as written in a line.
use Rattle.std.proofs.Common.{◌≡◌, ℕ, ℤ, pos, negsuc, ◌<◌, ◌^◌, Bool, true, false, not, ◌==◌, List, [], ◌∷◌, ◌++◌}
use Rattle.std.proofs.Common.{length, take, drop, append_assoc, ap, refl, sym, ◌∙◌, arith, suc, ◌-◌, int_le}
use Rattle.std.proofs.Common.{unsigned_abs, true≢false}
use Rattle.std.proofs.lemmas.Bool.Decides.{nat_tests}
use Rattle.std.proofs.lemmas.Bool.{and_parts}
use Rattle.std.proofs.lemmas.Grind.{flat_map-append}
use Rattle.std.proofs.lemmas.Int.{ints}
use Rattle.std.proofs.lemmas.Fmt.{decimal_is_IsNumeral}
use Rattle.std.proofs.Math.Seq.{take-append_seam, drop-append_seam, take-length, drop-length}
use Rattle.std.specs.Fmt.{decimal, signed_decimal}
use Rattle.std.specs.List.{prefix_len, list_all}
use Rattle.std.specs.Str.Parse.{AllDigits}
use Rattle.std.specs.Char.{digit_value}
use Rattle.std.specs.Int.RustNames.{FitsSigned}
use Rattle.glyph_paths.specs.Procedure.{numbers}
use lib.Dec.{leb-zero}
use lib.Signed.{mag}
use mir.Syntax.{w64}
use Rattle.ps_text.specs.{Range.IsNumber, Scanning.is_field_byte, Scanning.ReadsNumber}

pub small : (z : ℤ) → IsNumber z → mag z < 2 ^ 63
small (pos n) h = omega (arith, ints)
small (negsuc n) h = omega (arith, ints)

pub fits : (z : ℤ) → IsNumber z → FitsSigned w64 z
fits z n = record { sfits = small z n }

-- a number below 0 has its sign before the digits
pub minus_first : (z : ℤ) → int_le (pos 0) z ≡ false → 45 ∷ decimal (unsigned_abs z) ≡ signed_decimal z
minus_first (pos n) e = absurd (true≢false (sym (leb-zero n) ∙ e))
minus_first (negsuc n) e = refl

-- a number after others
pub one_more : (zs : List ℤ) (z : ℤ) (name : List ℕ)
    → numbers zs ++ (numbers (z ∷ []) ++ name) ≡ numbers (zs ++ z ∷ []) ++ name
unfolding numbers
one_more zs z name =
    sym (ap (λ text. text ++ name) (flat_map-append (λ z. signed_decimal z ++ 32 ∷ []) zs (z ∷ []))
    ∙ append_assoc (numbers zs) (numbers (z ∷ [])) name)

is_false : (b : Bool) → (b ≡ true → ⊥) → not b ≡ true
is_false true f = absurd (f refl)
is_false false f = refl

-- a digit is no space
digit_is_field : (c : ℕ) → digit_value c < 10 → is_field_byte c ≡ true
digit_is_field c h =
    is_false (c == 32) (λ e. let k : c ≡ 32 = grind (arith, nat_tests) in let d = rw k at h in omega (arith, d))

digits_are_fields : (cs : List ℕ) → AllDigits 10 cs → list_all is_field_byte cs ≡ true
digits_are_fields [] h = refl
digits_are_fields (c ∷ cs) h = rw (digit_is_field c h.0) (digits_are_fields cs h.1)

pub decimal_is_field : (n : ℕ) → n < 2 ^ 64 → list_all is_field_byte (decimal n) ≡ true
decimal_is_field n h = let d = (decimal_is_IsNumeral n h).0 in digits_are_fields (decimal n) d.1

pub signed_is_field : (z : ℤ) → IsNumber z → list_all is_field_byte (signed_decimal z) ≡ true
signed_is_field (pos n) h = decimal_is_field n (omega (arith, ints))
signed_is_field (negsuc n) h = decimal_is_field (suc n) (omega (arith, ints))

-- a field ends if a space follows it
pub prefix_len-field : (xs rest : List ℕ)
    → list_all is_field_byte xs ≡ true → prefix_len is_field_byte (xs ++ 32 ∷ rest) ≡ length xs
prefix_len-field [] rest h = refl
prefix_len-field (x ∷ xs) rest h =
    let p = and_parts (is_field_byte x) (list_all is_field_byte xs) h in
    rw (p.0, prefix_len-field xs rest p.1) (omega arith)

pub prefix_len-last : (xs : List ℕ) → list_all is_field_byte xs ≡ true → prefix_len is_field_byte xs ≡ length xs
prefix_len-last [] h = refl
prefix_len-last (x ∷ xs) h =
    let p = and_parts (is_field_byte x) (list_all is_field_byte xs) h in rw (p.0, prefix_len-last xs p.1) (omega arith)

-- the number at the start, and the rest from its space on
pub prefix_of_number : (z : ℤ) (rest bytes : List ℕ)
    → ReadsNumber z rest bytes → take (prefix_len is_field_byte bytes) bytes ≡ signed_decimal z
prefix_of_number z rest bytes h =
    rw (h.spelled, prefix_len-field (signed_decimal z) rest (signed_is_field z h.number))
    (take-append_seam (signed_decimal z) (32 ∷ rest))

pub back_of_number : (z : ℤ) (rest bytes : List ℕ)
    → ReadsNumber z rest bytes → drop (prefix_len is_field_byte bytes) bytes ≡ 32 ∷ rest
back_of_number z rest bytes h =
    rw (h.spelled, prefix_len-field (signed_decimal z) rest (signed_is_field z h.number))
    (drop-append_seam (signed_decimal z) (32 ∷ rest))

-- a slice without its first byte
pub tail_of : (back rest : List ℕ) (b : ℕ) → back ≡ b ∷ rest → take (length back - 1) (drop 1 back) ≡ rest
tail_of back rest b e =
    let n : length {A = ℕ} (b ∷ rest) - 1 ≡ length rest = omega arith in rw (e, n) (take-length rest)

pub no_back : (bytes : List ℕ)
    → list_all is_field_byte bytes ≡ true → length (drop (prefix_len is_field_byte bytes) bytes) < 1
no_back bytes h = rw (prefix_len-last bytes h, drop-length bytes) (omega arith)

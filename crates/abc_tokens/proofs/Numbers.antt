-- Numbers, lengths and octaves in their plain spelling are read as themselves.
use Rattle.std.proofs.Common.{◌≡◌, ℕ, zero, suc, ◌+◌, ◌-◌, ◌^◌, ◌≤◌, ◌<◌, Bool, true, false, cond, eqb, leb, List, []}
use Rattle.std.proofs.Common.{◌∷◌, length, get_or, refl, sym, ap, ◌∙◌, subst, arith, ℤ, pos, negsuc, ◌-ℤ◌, replicate}
use Rattle.std.proofs.Common.{count_by, ◌*◌}
use Rattle.std.proofs.lemmas.Fmt.{decimal-digits_value}
use Rattle.std.proofs.lemmas.Str.Parse.{IsNumeralModel, IsDigitsTest, numerals_by_value}
use Rattle.std.proofs.lemmas.Int.Digits.{digits_value-lt}
use Rattle.std.proofs.lemmas.Int.{ints}
use Rattle.std.proofs.lemmas.List.Folds.{sum_by-replicate}
use Rattle.std.proofs.lemmas.Bool.{cond_both, both_ways, leb-true, leb-false, le-leb, and_from, and_parts, eq-eqb}
use Rattle.std.specs.List.{list_all}
use Rattle.std.specs.Fmt.{decimal}
use Rattle.std.specs.Str.Parse.{digits_value}
use Rattle.mus_units.specs.{declared.note.Head.Head, Bytes.is_digit}
use Rattle.abc_notes.specs.declared.part.Len.{Len}
use Rattle.abc_notes.specs.Runs.{begins, is_mark}
use Rattle.abc_notes.specs.Lengths.{LengthForm, whole, over, halved, AreNumberDigits, IsCount, IsWrittenLength}
use Rattle.abc_notes.specs.Lengths.{count_of, len_of}
use Rattle.abc_notes.specs.Notes.{NoteForm, octave_of, head_of, IsNote}
use Rattle.abc_notes.specs.Chords.{tied_if}
use Rattle.abc_notes.proofs.Bounds.{digit_range}
use Rattle.abc_tokens.specs.Plain.{is_small_letter, marks_of}

-- ---- numbers
abbrev AreDigits : List ℕ → Type 0
AreDigits ds = list_all is_digit ds ≡ true

pub digit_from : (b : ℕ) → (48 ≤ b) × (b ≤ 57) → is_digit b ≡ true
digit_from b r = and_from (leb 48 b) (leb b 57) (le-leb 48 b r.0) (le-leb b 57 r.1)

digit_to : (b : ℕ) → is_digit b ≡ true → (48 ≤ b) × (b ≤ 57)
digit_to b h = let r = digit_range b h in (r.0, omega (arith, r.1))

tells : IsDigitsTest AreDigits
tells = record {
  empty = refl;
  parts = λ c cs h. (let p = and_parts (is_digit c) (list_all is_digit cs) h in (digit_to c p.0, p.1));
  more = λ c cs r h. and_from (is_digit c) (list_all is_digit cs) (digit_from c r) h;
}

model : IsNumeralModel AreDigits (digits_value 10)
model = numerals_by_value AreDigits tells

few_digits : (n : ℕ) → n ≤ 4 → 10 ^ n ≤ 10000
few_digits (suc (suc (suc (suc (suc n))))) h = absurd (omega arith)
few_digits _ h = omega arith

not_zero_first : (ds : List ℕ) → begins (λ b. eqb b 48) ds ≡ false → 0 < length ds → get_or ds 0 0 ≡ 48 → length ds ≡ 1
not_zero_first [] h some e = absurd (omega (arith, some))
not_zero_first (d ∷ ds) h some e = absurd (both_ways (eqb d 48) h (eq-eqb d 48 e))

-- the digits of a number are the ones written for it
pub digits_again : (most : ℕ) (ds : List ℕ) → most ≤ 4 → AreNumberDigits most ds → decimal (digits_value 10 ds) ≡ ds
digits_again most ds few h =
    let below : digits_value 10 ds < 10 ^ length ds = digits_value-lt 10 ds (model.to ds h.digits) in
    let limit : 10 ^ length ds ≤ 10000 = few_digits (length ds) (omega (arith, few, h.few)) in
    decimal-digits_value model ds h.digits (omega (arith, h.some)) (not_zero_first ds h.no_zero (omega (arith, h.some)))
    (omega (arith, below, limit))

-- the bytes written for a number are a number, and mean it
pub record Again (most n : ℕ) : Type 0 where
  pub good : AreNumberDigits most (decimal n)
  pub means : digits_value 10 (decimal n) ≡ n

pub number_again : (most : ℕ) (ds : List ℕ) → most ≤ 4 → AreNumberDigits most ds → Again most (digits_value 10 ds)
number_again most ds few h =
    let e = digits_again most ds few h in
    record { good = subst (AreNumberDigits most) (sym e) h; means = ap (digits_value 10) e }

one_again : (most : ℕ) → 1 ≤ most → most ≤ 4 → Again most 1
one_again most some few =
    number_again most (49 ∷ []) few
    (record { some = omega arith; few = omega (arith, some); digits = refl; no_zero = refl })

pub count_again : (most : ℕ) (c : List ℕ) → 1 ≤ most → most ≤ 4 → IsCount most c → Again most (count_of c)
count_again most [] some few h = one_again most some few
count_again most (d ∷ ds) some few h = number_again most (d ∷ ds) few h

number_count : (most : ℕ) (ds : List ℕ) → AreNumberDigits most ds → IsCount most ds
number_count most [] h = tt
number_count most (d ∷ ds) h = h

count_value : (most : ℕ) (ds : List ℕ) → AreNumberDigits most ds → count_of ds ≡ digits_value 10 ds
count_value most [] h = absurd (omega (arith, h.some))
count_value most (d ∷ ds) h = refl

pub is_count : (most n : ℕ) → Again most n → IsCount most (decimal n)
is_count most n a = number_count most (decimal n) a.good

pub count_means : (most n : ℕ) → Again most n → count_of (decimal n) ≡ n
count_means most n a = count_value most (decimal n) a.good ∙ a.means

-- ---- lengths
abbrev pub len_form : Len → LengthForm
len_form len = over (decimal len.num) (decimal len.den)

pub record GoodLen (len : Len) : Type 0 where
  pub good : IsWrittenLength (len_form len)
  pub means : len_of (len_form len) ≡ len

two_digits : (a b : ℕ) → is_digit a ≡ true → is_digit b ≡ true → eqb a 48 ≡ false → AreNumberDigits 4 (a ∷ b ∷ [])
two_digits a b h k z = record { some = omega arith; few = omega arith; digits = rw (h, k) refl; no_zero = z }

one_digit : (a : ℕ) → is_digit a ≡ true → eqb a 48 ≡ false → AreNumberDigits 4 (a ∷ [])
one_digit a h z = record { some = omega arith; few = omega arith; digits = rw h refl; no_zero = z }

halves_again : (k : ℕ) → 1 ≤ k → k ≤ 6 → Again 4 (2 ^ k)
halves_again zero some few = absurd (omega arith)
halves_again (suc zero) some few = number_again 4 (50 ∷ []) (omega arith) (one_digit 50 refl refl)
halves_again (suc (suc zero)) some few = number_again 4 (52 ∷ []) (omega arith) (one_digit 52 refl refl)
halves_again (suc (suc (suc zero))) some few = number_again 4 (56 ∷ []) (omega arith) (one_digit 56 refl refl)
halves_again (suc (suc (suc (suc zero)))) some few =
    number_again 4 (49 ∷ 54 ∷ []) (omega arith) (two_digits 49 54 refl refl refl)
halves_again (suc (suc (suc (suc (suc zero))))) some few =
    number_again 4 (51 ∷ 50 ∷ []) (omega arith) (two_digits 51 50 refl refl refl)
halves_again (suc (suc (suc (suc (suc (suc zero)))))) some few =
    number_again 4 (54 ∷ 52 ∷ []) (omega arith) (two_digits 54 52 refl refl refl)
halves_again (suc (suc (suc (suc (suc (suc (suc n))))))) some few = absurd (omega arith)

both_again : (len : Len) → Again 4 len.num → Again 4 len.den → GoodLen len
both_again len a b =
    record { good = (is_count 4 len.num a, b.good); means = rw (count_means 4 len.num a, count_means 4 len.den b) refl }

pub len_again : (f : LengthForm) → IsWrittenLength f → GoodLen (len_of f)
len_again (whole c) h =
    both_again (len_of (whole c)) (count_again 4 c (omega arith) (omega arith) h)
    (one_again 4 (omega arith) (omega arith))
len_again (over c b) h =
    both_again (len_of (over c b)) (count_again 4 c (omega arith) (omega arith) h.0)
    (count_again 4 b (omega arith) (omega arith) (number_count 4 b h.1))
len_again (halved c k) h =
    both_again (len_of (halved c k)) (count_again 4 c (omega arith) (omega arith) h.0) (halves_again k h.1 h.2)

-- ---- octaves
counted : (b k n : ℕ) → count_by (λ c. eqb c b) (replicate n k) ≡ n * cond (eqb k b) 1 0
counted b k n = sum_by-replicate (λ c. cond (eqb c b) 1 0) n k

octave_up : (n : ℕ) → octave_of true (replicate n 39) ≡ pos (5 + n)
octave_up n = rw (counted 39 39 n, counted 44 39 n) (omega (arith, ints))

octave_down : (n : ℕ) → octave_of false (replicate n 44) ≡ pos 4 -ℤ pos n
octave_down n = rw (counted 39 44 n, counted 44 44 n) (omega (arith, ints))

same_octave : (o : ℤ) → octave_of (is_small_letter o) (marks_of o) ≡ o
same_octave (pos n) = by_test (leb 5 n) refl
  where
    by_test : (b : Bool) → leb 5 n ≡ b → octave_of b (cond b (replicate (n - 5) 39) (replicate (4 - n) 44)) ≡ pos n
    by_test true e = let le = leb-true 5 n e in octave_up (n - 5) ∙ ap pos (omega arith)
    by_test false e = let lt = leb-false 5 n e in octave_down (4 - n) ∙ omega (arith, ints)
same_octave (negsuc n) = octave_down (n + 5) ∙ omega (arith, ints)

marks_are : (n b : ℕ) → is_mark b ≡ true → list_all is_mark (replicate n b) ≡ true
marks_are zero b h = refl
marks_are (suc n) b h = and_from _ _ h (marks_are n b h)

pub good_marks : (o : ℤ) → list_all is_mark (marks_of o) ≡ true
good_marks (pos n) =
    cond_both (leb 5 n) (replicate (n - 5) 39) (replicate (4 - n) 44) (λ m. list_all is_mark m ≡ true)
    (λ e. marks_are (n - 5) 39 refl) (λ e. marks_are (4 - n) 44 refl)
good_marks (negsuc n) = marks_are (n + 5) 44 refl

-- ---- heads
abbrev pub head_form : Head → LengthForm → NoteForm
head_form head len = record {
  sign = head.sign;
  low = is_small_letter head.pitch.octave;
  letter = head.pitch.letter;
  marks = marks_of head.pitch.octave;
  length = len;
}

pub head_good : (head : Head) (len : LengthForm) → IsWrittenLength len → IsNote (head_form head len)
head_good head len h = record { marks = good_marks head.pitch.octave; length = h }

abbrev untied_at : Head → ℤ → Head
untied_at head octave =
    record { pitch = record { letter = head.pitch.letter; octave = octave }; sign = head.sign; tied = false }

pub head_means : (head : Head) (len : LengthForm) → head_of (head_form head len) ≡ tied_if false head
head_means head len = ap (untied_at head) (same_octave head.pitch.octave)

-- Reading a length gives the longest one.
use Rattle.std.proofs.Common.{◌≡◌, ℕ, zero, suc, ◌+◌, ◌-◌, ◌≤◌, ◌<◌, Bool, true, false, eqb, List, [], ◌∷◌, ◌++◌}
use Rattle.std.proofs.Common.{length, refl, sym, ap, subst, ◌∙◌}
use Rattle.std.proofs.Common.{arith, inl, inr, ◌⊎◌, ◌||◌, append-nil}
use Rattle.std.proofs.lemmas.Bool.{cond_both, and_parts, eqb-true, ne_eqb, both_ways, or_left}
use Rattle.std.proofs.lemmas.Bool.{or_right}
use Rattle.abc_notes.specs.Runs.{copies, span, begins}
use Rattle.abc_notes.specs.Lengths.{LengthForm, whole, over, halved, length_then, IsWrittenLength, AreNumberDigits}
use Rattle.abc_notes.specs.Lengths.{IsCount}
use Rattle.abc_notes.specs.Lengths.{number_at, below_at, is_slash, length_from}
use Rattle.abc_notes.proofs.SpanLaws.{span-takes, span-pass, span-length, span-stops, span-less, span-append}
use Rattle.abc_notes.proofs.SpanLaws.{length-span}
use Rattle.abc_notes.proofs.Bounds.{digit_range}
use Rattle.abc_notes.proofs.RunLaws.{begins_wider}
use Rattle.{std.specs.List.list_all, mus_units.specs.Bytes.is_digit}

abbrev is_zero : ℕ → Bool
is_zero b = eqb b 48

good_from : (n : ℕ) (a b s : List ℕ)
    → s ≡ a ++ b → list_all is_digit a ≡ true → length a ≤ n → begins is_zero s ≡ false → IsCount n a
good_from n [] b s e pass few h = tt
good_from n (d ∷ ds) b s e pass few h =
    record { some = omega arith; few = few; digits = pass; no_zero = subst (λ t. begins is_zero t ≡ false) e h }

number-good : (n : ℕ) (s : List ℕ) → begins is_zero s ≡ false → IsCount n (span is_digit n s).0
number-good n s h = good_from n _ _ s (span-takes is_digit n s) (span-pass is_digit n s) (span-length is_digit n s) h

-- a number at the start
by_zero : (n : ℕ) (s : List ℕ) (P : List ℕ × List ℕ → Type 0) → (begins is_zero s ≡ true → P ([], s)) →
    (begins is_zero s ≡ false → P (span is_digit n s)) → P (number_at n s)
unfolding number_at
by_zero n s P stops goes = cond_both {A = List ℕ × List ℕ} (begins is_zero s) ([], s) (span is_digit n s) P stops goes

pub number-takes : (n : ℕ) (s : List ℕ) → s ≡ (number_at n s).0 ++ (number_at n s).1
number-takes n s = by_zero n s (λ z. s ≡ z.0 ++ z.1) (λ e. refl) (λ e. span-takes is_digit n s)

pub number-count : (n : ℕ) (s : List ℕ) → IsCount n (number_at n s).0
number-count n s = by_zero n s (λ z. IsCount n z.0) (λ e. tt) (λ e. number-good n s e)

pub length-number : (n : ℕ) (s : List ℕ) → length (number_at n s).1 ≤ length s
length-number n s = by_zero n s (λ z. length z.1 ≤ length s) (λ e. omega arith) (λ e. length-span is_digit n s)

-- a reading that leaves less than x, where x begins with such a byte; or that is this one and leaves all of x
abbrev pub Stops : (ℕ → Bool) → List ℕ → {A : Type 0} → A → A × List ℕ → Type 0
Stops more x {A} a z = ((length z.1 < length x) × (begins more x ≡ true)) ⊎ (◌≡◌ {A = A × List ℕ} z (a, x))

pub number-less : (n : ℕ) (x : List ℕ) → Stops is_digit x [] (number_at n x)
number-less n x = by_zero n x (Stops is_digit x []) (λ e. inr refl) (λ e. span-less is_digit n x)

begins_append : (p : ℕ → Bool) (a x : List ℕ) → 1 ≤ length a → begins p (a ++ x) ≡ begins p a
begins_append p [] x h = absurd (omega arith)
begins_append p (b ∷ a) x h = refl

number-reads-as : (n : ℕ) (ds x : List ℕ)
    → AreNumberDigits n ds → let m = span is_digit (n - length ds) x in number_at n (ds ++ x) ≡ (ds ++ m.0, m.1)
number-reads-as n ds x good =
    let no_zero = begins_append is_zero ds x good.some ∙ good.no_zero in
    let sum : length ds + (n - length ds) ≡ n = omega (arith, good.few) in
    let more = span is_digit (n - length ds) x in
    by_zero n (ds ++ x) (λ z. z ≡ (ds ++ more.0, more.1)) (λ e. absurd (both_ways _ no_zero e))
    (λ e. rw sum at (span-append is_digit (n - length ds) ds x good.digits))

number-reads : (n : ℕ) (ds x : List ℕ) → AreNumberDigits n ds → Stops is_digit x ds (number_at n (ds ++ x))
number-reads n ds x good =
    rw (number-reads-as n ds x good)
    (elim (span-less is_digit (n - length ds) x) [
      | inl shorter ↦ inl shorter
      | inr same ↦ inr (rw (same, append-nil) refl)
    ])

pub count-reads : (n : ℕ) (c x : List ℕ) → IsCount n c → Stops is_digit x c (number_at n (c ++ x))
count-reads n [] x good = number-less n x
count-reads n (d ∷ ds) x good = number-reads n (d ∷ ds) x good

-- before a byte that is no digit the number is read as written
pub count-stops : (n : ℕ) (c : List ℕ) (k : ℕ) (x : List ℕ)
    → is_digit k ≡ false → IsCount n c → number_at n (c ++ (k ∷ x)) ≡ (c, k ∷ x)
count-stops n c k x other good =
    elim (count-reads n c (k ∷ x) good) [
      | inl shorter ↦ absurd (both_ways (is_digit k) other shorter.1)
      | inr same ↦ same
    ]

abbrev read_as : LengthForm → List ℕ → LengthForm × List ℕ
read_as f x = (f, x)

-- slashes and nothing else
slashes-are : (ss x : List ℕ) → list_all is_slash ss ≡ true → ss ++ x ≡ copies (length ss) 47 x
slashes-are [] x h = refl
slashes-are (s ∷ ss) x h = let p = and_parts _ _ h in rw (eqb-true s 47 p.0) (ap (λ t. 47 ∷ t) (slashes-are ss x p.1))

copies-pass : (k : ℕ) → list_all is_slash (copies k 47 []) ≡ true
copies-pass zero = refl
copies-pass (suc k) = copies-pass k

pub copies_append : (n b : ℕ) (v y : List ℕ) → copies n b v ++ y ≡ copies n b (v ++ y)
copies_append zero b v y = refl
copies_append (suc n) b v y = ap (λ t. b ∷ t) (copies_append n b v y)

length-copies : (k : ℕ) → length (copies k 47 []) ≡ k
length-copies zero = refl
length-copies (suc k) = ap suc (length-copies k)

-- the start of the text, assembled from its parts
below-takes : (count sl after be last : List ℕ)
    → IsCount 4 count → list_all is_slash sl ≡ true → length sl ≤ 6 → after ≡ be ++ last → IsCount 4 be
    → let z = below_at count (sl, after) (be, last) in
    (count ++ (sl ++ after) ≡ length_then z.0 z.1) × IsWrittenLength z.0
below-takes count [] after be last good pass few g below = (refl, good)
below-takes count (c ∷ []) after [] last good pass few g below =
    (ap (λ t. count ++ t) (slashes-are (c ∷ []) after pass), (good, omega arith, omega arith))
below-takes count (c ∷ []) after (d ∷ ds) last good pass few g below =
    (ap (λ t. count ++ t) (slashes-are (c ∷ []) after pass ∙ ap (λ t. 47 ∷ t) g), (good, below))
below-takes count (c ∷ d ∷ sl) after be last good pass few g below =
    (ap (λ t. count ++ t) (slashes-are (c ∷ d ∷ sl) after pass), (good, omega arith, few))

pub length_at-takes : (s : List ℕ) → let z = length_from s in (s ≡ length_then z.0 z.1) × IsWrittenLength z.0
unfolding length_from
length_at-takes s =
    let count = number_at 4 s in let sl = span is_slash 6 count.1 in
    let pass = span-pass is_slash 6 count.1 in let few = span-length is_slash 6 count.1 in
    let both =
    below-takes count.0 sl.0 sl.1 _ _ (number-count 4 s) pass few (number-takes 4 sl.1) (number-count 4 sl.1) in
    (number-takes 4 s ∙ ap (λ t. count.0 ++ t) (span-takes is_slash 6 count.1) ∙ both.0, both.1)

-- ---- the longest

-- the bytes that continue a length
abbrev pub goes_on : ℕ → Bool
goes_on b = is_digit b || is_slash b

either_left : (x : List ℕ) → begins is_digit x ≡ true → begins goes_on x ≡ true
either_left x = begins_wider is_digit goes_on x (λ b. or_left (is_digit b) (is_slash b))

either_right : (x : List ℕ) → begins is_slash x ≡ true → begins goes_on x ≡ true
either_right x = begins_wider is_slash goes_on x (λ b. or_right (is_digit b) (is_slash b))

length-below : (count : List ℕ) (sl be : List ℕ × List ℕ)
    → length be.1 ≤ length sl.1 → length (below_at count sl be).1 ≤ length sl.1
length-below count ([], rest) be h = omega arith
length-below count (c ∷ [], rest) ([], last) h = omega arith
length-below count (c ∷ [], rest) (d ∷ ds, last) h = h
length-below count (c ∷ d ∷ sl, rest) be h = omega arith

-- after the count
from_count : List ℕ → List ℕ → LengthForm × List ℕ
from_count count s = let sl = span is_slash 6 s in below_at count sl (number_at 4 sl.1)

length-from : (count s : List ℕ) → length (from_count count s).1 ≤ length s
unfolding from_count
length-from count s =
    let sl = span is_slash 6 s in
    omega (arith, length-below count sl (number_at 4 sl.1) (length-number 4 sl.1), length-span is_slash 6 s)

length_at-is : (s : List ℕ) → length_from s ≡ from_count (number_at 4 s).0 (number_at 4 s).1
unfolding length_from from_count
length_at-is s = refl

whole-reaches : (count x : List ℕ) → Stops goes_on x (whole count) (from_count count x)
unfolding from_count
whole-reaches count x =
    let sl = span is_slash 6 x in
    elim (span-less is_slash 6 x) [
      | inl shorter ↦ inl (
        omega (arith, shorter.0, length-below count sl (number_at 4 sl.1) (length-number 4 sl.1)),
        either_right x shorter.1,
      )
      | inr same ↦ inr (rw same refl)
    ]

-- one slash, and no further one
one_slash : (count x : List ℕ)
    → begins is_slash x ≡ false → from_count count (47 ∷ x) ≡ below_at count (47 ∷ [], x) (number_at 4 x)
unfolding from_count
one_slash count x h = rw (span-append is_slash 5 (47 ∷ []) x refl, span-stops is_slash 5 x h) refl

no_slash : (d : ℕ) (ds x : List ℕ) → AreNumberDigits 4 (d ∷ ds) → begins is_slash ((d ∷ ds) ++ x) ≡ false
no_slash d ds x good = let r = digit_range d (and_parts _ _ good.digits).0 in ne_eqb d 47 (omega (arith, r.0))

over-reaches : (count : List ℕ) (d : ℕ) (ds x : List ℕ) → AreNumberDigits 4 (d ∷ ds) →
    Stops goes_on x (over count (d ∷ ds)) (from_count count (47 ∷ ((d ∷ ds) ++ x)))
over-reaches count d ds x good =
    rw (one_slash count ((d ∷ ds) ++ x) (no_slash d ds x good), number-reads-as 4 (d ∷ ds) x good)
    (elim (span-less is_digit (4 - length (d ∷ ds)) x) [
      | inl shorter ↦ inl (shorter.0, either_left x shorter.1)
      | inr same ↦ inr (rw same (ap (λ t. read_as (over count (d ∷ t)) x) (append-nil ds)))
    ])

-- a number was read, so it is below the slash
below-one : (c x : List ℕ) (be : List ℕ × List ℕ)
    → x ≡ be.0 ++ be.1 → length be.1 < length x → length (below_at c (47 ∷ [], x) be).1 < length x
below-one count x ([], last) e h = absurd (omega (arith, ap length e))
below-one count x (d ∷ ds, last) e h = h

-- up to six slashes, and no more of them
last_slash : (count : List ℕ) (k : ℕ) (x : List ℕ)
    → 1 ≤ k → Stops goes_on x (halved count k) (below_at count (copies k 47 [], x) (number_at 4 x))
last_slash count zero x some = absurd (omega (arith, some))
last_slash count (suc zero) x some = elim (number-less 4 x) [
  | inl shorter ↦ inl (below-one count x (number_at 4 x) (number-takes 4 x) shorter.0, either_left x shorter.1)
  | inr same ↦ inr (rw same refl)
]
last_slash count (suc (suc k)) x some = inr (ap (λ n. read_as (halved count (suc (suc n))) x) (length-copies k))

halved-reaches : (count : List ℕ) (k : ℕ) (x : List ℕ)
    → 1 ≤ k → k ≤ 6 → Stops goes_on x (halved count k) (from_count count (copies k 47 x))
unfolding from_count
halved-reaches count k x some few =
    let slashes = copies k 47 [] in let n = 6 - k in let m = span is_slash n x in
    let six : length slashes + n ≡ 6 = omega (arith, length-copies k) in
    let read : span is_slash 6 (copies k 47 x) ≡ (slashes ++ m.0, m.1) =
    rw (sym (copies_append k 47 [] x)) (rw six at (span-append is_slash n slashes x (copies-pass k))) in
    rw read (elim (span-less is_slash n x) [
      | inl shorter ↦
          (let least = length-below count (slashes ++ m.0, m.1) (number_at 4 m.1) (length-number 4 m.1) in
          inl (omega (arith, shorter.0, least), either_right x shorter.1))
      | inr same ↦ rw (same, append-nil) (last_slash count k x some)
    ])

-- the law: a length that is read is at least as long as each length at the same place
pub length_at-reaches : (f : LengthForm) (x : List ℕ)
    → IsWrittenLength f → Stops goes_on x f (length_from (length_then f x))
length_at-reaches (whole count) x good = rw length_at-is (elim (count-reads 4 count x good) [
  | inl shorter ↦ inl (
    omega (arith, shorter.0, length-from (number_at 4 (count ++ x)).0 (number_at 4 (count ++ x)).1),
    either_left x shorter.1,
  )
  | inr same ↦ rw same (whole-reaches count x)
])
length_at-reaches (over count []) x good = absurd (omega (arith, good.1.some))
length_at-reaches (over count (d ∷ ds)) x good =
    rw (length_at-is, count-stops 4 count 47 ((d ∷ ds) ++ x) refl good.0) (over-reaches count d ds x good.1)
length_at-reaches (halved count zero) x good = absurd (omega (arith, good.1))
length_at-reaches (halved count (suc k)) x good =
    rw (length_at-is, count-stops 4 count 47 (copies k 47 x) refl good.0) (halved-reaches count (suc k) x good.1 good.2)

pub length-length_at : (s : List ℕ) → length (length_from s).1 ≤ length s
length-length_at s = rw length_at-is (omega (arith, length-from (number_at 4 s).0 (number_at 4 s).1, length-number 4 s))

pub count-few : (n : ℕ) (ds : List ℕ) → IsCount n ds → length ds ≤ n
count-few n [] good = omega arith
count-few n (d ∷ ds) good = good.few

pub count-digits : (n : ℕ) (ds : List ℕ) → IsCount n ds → list_all is_digit ds ≡ true
count-digits n [] good = refl
count-digits n (d ∷ ds) good = good.digits

-- Options read one after another from the start: what has been read at each step, and that no other options have the
-- same words.
use Rattle.abcps_words.specs.Limits.{job_limit}
use Rattle.std.proofs.Common.{◌≡◌, ℕ, ℤ, pos, negsuc, ◌+◌, ◌<◌, ◌≤◌, ◌^◌, Bool, true, false, cond, ◌||◌, List, [], ◌∷◌}
use Rattle.std.proofs.Common.{◌++◌, length, Option, Some, None, is_some, unwrap_or, All, flat_map, refl, sym, ◌∙◌, ap}
use Rattle.std.proofs.Common.{subst, arith, decimal, append_assoc}
use Rattle.std.proofs.lemmas.Bool.{true≢false}
use Rattle.std.proofs.lemmas.Fmt.{decimal_injective, signed_decimal_injective}
use Rattle.std.proofs.lemmas.Int.{ints}
use Rattle.std.proofs.lemmas.List.{append-nil}
use Rattle.std.proofs.lemmas.List.Elements.{All-head, All-tail, All-push}
use Rattle.std.proofs.lemmas.List.Sums.{sum_by-append}
use Rattle.std.proofs.lemmas.Grind.{flat_map-append}
use Rattle.std.specs.Int.Signed.{mag}
use Rattle.std.specs.List.{list_any, count_by}
use Rattle.std.specs.Option.{option_or}
use Rattle.abcps_words.specs.Words.{IsUpTo, IsMove, flag_words, IsFlag, same_kind, IsOnce, IsSpelled, jobs_of}
use Rattle.abcps_words.specs.Words.{half_steps_of, first_said, said}
use Rattle.abcps_words.specs.declared.options.Flag.{Flag}
use Rattle.abcps_words.specs.declared.options.Options.{Options}
use Rattle.abcps_words.specs.Adding.{has_kind, with_flag, with_option}
use Rattle.abcps_words.proofs.Prefixes.{head_of, tail_of, clash}

one_number : (n m : ℕ) → IsUpTo job_limit n → IsUpTo job_limit m → decimal n ≡ decimal m → n ≡ m
one_number n m a b e = decimal_injective n m (omega (arith, a)) (omega (arith, b)) e

abbrev second : List (List ℕ) → List ℕ
second (x ∷ y ∷ ws) = y
second (x ∷ []) = []
second [] = []

small : (z : ℤ) → IsMove z → mag z < 2 ^ 63
small (pos n) move = omega (arith, ints)
small (negsuc n) move = omega (arith, ints)

-- words begin with one option
one_flag : (f g : Flag) (xs ys : List (List ℕ))
    → IsFlag f → IsFlag g → flag_words f ++ xs ≡ flag_words g ++ ys → (f ≡ g) × (xs ≡ ys)
one_flag Flag.Flow Flag.Flow xs ys a b e = (refl, ap tail_of e)
one_flag Flag.Table Flag.Table xs ys a b e = (refl, ap tail_of e)
one_flag Flag.Even Flag.Even xs ys a b e = (refl, ap tail_of e)
one_flag (Flag.Jobs n) (Flag.Jobs m) xs ys a b e =
    (ap Flag.Jobs (one_number n m a b (ap second e)), ap (λ ws. tail_of (tail_of ws)) e)
one_flag (Flag.Transpose y) (Flag.Transpose z) xs ys a b e = (
  ap Flag.Transpose (signed_decimal_injective y z (small y a) (small z b) (ap second e)),
  ap (λ ws. tail_of (tail_of ws)) e,
)
one_flag f g xs ys a b e = absurd (clash (head_of (flag_words f)) (flag_words f ++ xs) (flag_words g ++ ys) e refl refl)

some_words : (f : Flag) (xs : List (List ℕ)) → flag_words f ++ xs ≡ [] → ⊥
some_words Flag.Flow xs e = let l = ap length e in omega arith
some_words f xs e = let l = ap length e in omega arith

-- what was read is a prefix of any options that have the same words
pub what_follows : (seen flags : List Flag) (rest : List (List ℕ))
    → All IsFlag seen → All IsFlag flags → flat_map flag_words seen ++ rest ≡ flat_map flag_words flags
    → (more : List Flag) × (flags ≡ seen ++ more) × (rest ≡ flat_map flag_words more) × All IsFlag more
what_follows [] flags rest a b e = (flags, refl, e, b)
what_follows (f ∷ seen) [] rest a b e =
    absurd (some_words f (flat_map flag_words seen ++ rest)
    (sym (append_assoc (flag_words f) (flat_map flag_words seen) rest) ∙ e))
what_follows (f ∷ seen) (g ∷ flags) rest a b e =
    let both = one_flag f g (flat_map flag_words seen ++ rest) (flat_map flag_words flags) (All-head IsFlag f seen a)
    (All-head IsFlag g flags b)
    (sym (append_assoc (flag_words f) (flat_map flag_words seen) rest) ∙ e) in
    let more = what_follows seen flags rest (All-tail IsFlag f seen a) (All-tail IsFlag g flags b) both.1 in
    let same : g ∷ flags ≡ f ∷ (seen ++ more.0) = cc (both.0, more.1) in
    (more.0, same, more.2, more.3)

-- how many of a kind there are with one among them
counted : (p : Flag → Bool) (xs : List Flag) (f : Flag) (ys : List Flag)
    → count_by p (xs ++ f ∷ ys) ≡ count_by p xs + (cond (p f) 1 0 + count_by p ys)
counted p xs f ys =
    let one = sum_by-append (λ x. cond (p x) 1 0) xs (f ∷ ys) in
    let two = sum_by-append (λ x. cond (p x) 1 0) (f ∷ []) ys in
    omega arith

any_counted : (p : Flag → Bool) (xs : List Flag) (b : Bool)
    → list_any p xs ≡ b → cond b (1 ≤ count_by p xs) (count_by p xs ≡ 0)
any_counted p [] true e = cc
any_counted p [] false e = refl
any_counted p (x ∷ xs) b e = by_test (any_counted p xs) (p x) refl b e
  where
    by_test : ((b : Bool) → list_any p xs ≡ b → cond b (1 ≤ count_by p xs) (count_by p xs ≡ 0))
        → (t : Bool) → p x ≡ t → (b : Bool) → (t || list_any p xs) ≡ b
        → cond b (1 ≤ count_by p (x ∷ xs)) (count_by p (x ∷ xs) ≡ 0)
    by_test more true is true e =
        (let c : count_by p (x ∷ xs) ≡ 0 + (1 + count_by p xs) = rw is at (counted p [] x xs) in omega arith)
    by_test more true is false e = cc
    by_test more false is true e =
        (let c : count_by p (x ∷ xs) ≡ 0 + (0 + count_by p xs) = rw is at (counted p [] x xs) in
        let k = more true e in
        omega arith)
    by_test more false is false e =
        (let c : count_by p (x ∷ xs) ≡ 0 + (0 + count_by p xs) = rw is at (counted p [] x xs) in
        let k = more false e in
        omega arith)

-- ---- numbers that options give
jobs_any : (n : ℕ) (xs : List Flag) → is_some (first_said jobs_of xs) ≡ list_any (same_kind (Flag.Jobs n)) xs
jobs_any n [] = refl
jobs_any n (Flag.Jobs m ∷ xs) = refl
jobs_any n (f ∷ xs) = jobs_any n xs

half_steps_any : (z : ℤ) (xs : List Flag)
    → is_some (first_said half_steps_of xs) ≡ list_any (same_kind (Flag.Transpose z)) xs
half_steps_any z [] = refl
half_steps_any z (Flag.Transpose y ∷ xs) = refl
half_steps_any z (f ∷ xs) = half_steps_any z xs

first_after : {A : Type 0} (p : Flag → Option A) (xs ys : List Flag)
    → is_some (first_said p xs) ≡ false → first_said p (xs ++ ys) ≡ first_said p ys
first_after p [] ys e = refl
first_after {A} p (x ∷ xs) ys e = by_first (first_after p xs ys) (p x) e
  where
    by_first : (is_some (first_said p xs) ≡ false → first_said p (xs ++ ys) ≡ first_said p ys)
        → (o : Option A) → is_some (option_or o (first_said p xs)) ≡ false
        → option_or o (first_said p (xs ++ ys)) ≡ first_said p ys
    by_first more None e = more e
    by_first more (Some y) e = absurd (true≢false e)

first_kept : {A : Type 0} (p : Flag → Option A) (xs : List Flag) (f : Flag)
    → p f ≡ None → first_said p (xs ++ f ∷ []) ≡ first_said p xs
first_kept p [] f e = rw e refl
first_kept p (x ∷ xs) f e = ap (λ o. option_or (p x) o) (first_kept p xs f e)

-- These words begin with options that were read, each once, followed by the rest; together the options say this.
pub record IsRead (words rest : List (List ℕ)) (o : Options) : Type 0 where
  pub seen : List Flag
  pub spelled : words ≡ flat_map flag_words seen ++ rest
  pub in_range : All IsFlag seen
  pub once : IsOnce seen
  pub says : o ≡ said seen

any_new : (p : Flag → Bool) (seen : List Flag) (f : Flag) → p f ≡ true → list_any p (seen ++ f ∷ []) ≡ true
any_new p [] f e = rw e refl
any_new p (x ∷ seen) f e = by_test (any_new p seen f e) (p x)
  where
    by_test : list_any p (seen ++ f ∷ []) ≡ true → (b : Bool) → (b || list_any p (seen ++ f ∷ [])) ≡ true
    by_test more true = refl
    by_test more false = more

any_kept : (p : Flag → Bool) (seen : List Flag) (f : Flag) → p f ≡ false → list_any p (seen ++ f ∷ []) ≡ list_any p seen
any_kept p [] f e = rw e refl
any_kept p (x ∷ seen) f e = ap (λ b. p x || b) (any_kept p seen f e)

-- ---- options of one kind
own_kind : (f : Flag) → same_kind f f ≡ true
own_kind Flag.Flow = refl
own_kind f = refl

kinds_alike : (o : Options) (f g : Flag) → same_kind g f ≡ true → has_kind o f ≡ has_kind o g
kinds_alike o Flag.Flow Flag.Flow is = refl
kinds_alike o Flag.Table Flag.Table is = refl
kinds_alike o Flag.Even Flag.Even is = refl
kinds_alike o (Flag.Jobs n) (Flag.Jobs m) is = refl
kinds_alike o (Flag.Transpose y) (Flag.Transpose z) is = refl
kinds_alike o f g is = absurd (true≢false (sym is))

kinds_said : (f : Flag) (seen : List Flag) → has_kind (said seen) f ≡ list_any (same_kind f) seen
kinds_said Flag.Flow seen = refl
kinds_said Flag.Table seen = refl
kinds_said Flag.Even seen = refl
kinds_said (Flag.Jobs n) seen = jobs_any n seen
kinds_said (Flag.Transpose z) seen = half_steps_any z seen

-- what options say with one more
said_more : (seen : List Flag) (f : Flag)
    → has_kind (said seen) f ≡ false → with_flag (said seen) f ≡ said (seen ++ f ∷ [])
said_more seen Flag.Flow none =
    rw (
      any_new (same_kind Flag.Flow) seen Flag.Flow refl,
      any_kept (same_kind Flag.Table) seen Flag.Flow refl,
      any_kept (same_kind Flag.Even) seen Flag.Flow refl,
      first_kept jobs_of seen Flag.Flow refl,
      first_kept half_steps_of seen Flag.Flow refl,
    ) refl
said_more seen Flag.Table none =
    rw (
      any_kept (same_kind Flag.Flow) seen Flag.Table refl,
      any_new (same_kind Flag.Table) seen Flag.Table refl,
      any_kept (same_kind Flag.Even) seen Flag.Table refl,
      first_kept jobs_of seen Flag.Table refl,
      first_kept half_steps_of seen Flag.Table refl,
    ) refl
said_more seen Flag.Even none =
    rw (
      any_kept (same_kind Flag.Flow) seen Flag.Even refl,
      any_kept (same_kind Flag.Table) seen Flag.Even refl,
      any_new (same_kind Flag.Even) seen Flag.Even refl,
      first_kept jobs_of seen Flag.Even refl,
      first_kept half_steps_of seen Flag.Even refl,
    ) refl
said_more seen (Flag.Jobs n) none =
    let f = Flag.Jobs n in
    rw (
      any_kept (same_kind Flag.Flow) seen f refl,
      any_kept (same_kind Flag.Table) seen f refl,
      any_kept (same_kind Flag.Even) seen f refl,
      first_after jobs_of seen (f ∷ []) none,
      first_kept half_steps_of seen f refl,
    ) refl
said_more seen (Flag.Transpose z) none =
    let f = Flag.Transpose z in
    rw (
      any_kept (same_kind Flag.Flow) seen f refl,
      any_kept (same_kind Flag.Table) seen f refl,
      any_kept (same_kind Flag.Even) seen f refl,
      first_kept jobs_of seen f refl,
      first_after half_steps_of seen (f ∷ []) none,
    ) refl

-- one more option that may be given
fits : (seen : List Flag) → IsOnce seen → (f : Flag) → has_kind (said seen) f ≡ false → IsOnce (seen ++ f ∷ [])
fits seen once f none g = by_test (same_kind g f) refl
  where
    by_test : (b : Bool) → same_kind g f ≡ b → count_by (same_kind g) (seen ++ f ∷ []) ≤ 1
    by_test true is =
        let n =
        any_counted (same_kind g) seen false (sym (kinds_said g seen) ∙ sym (kinds_alike (said seen) f g is) ∙ none) in
        let c : count_by (same_kind g) (seen ++ f ∷ []) ≡ count_by (same_kind g) seen + (1 + 0) =
        rw is at (counted (same_kind g) seen f []) in
        omega arith
    by_test false is =
        let c : count_by (same_kind g) (seen ++ f ∷ []) ≡ count_by (same_kind g) seen + (0 + 0) =
        rw is at (counted (same_kind g) seen f []) in
        omega (arith, once g)

adds_one : (seen : List Flag)
    → IsOnce seen → (f : Flag) (o : Options) → with_option (said seen) f ≡ Some o
    → IsOnce (seen ++ f ∷ []) × (o ≡ said (seen ++ f ∷ []))
adds_one seen once f o e = by_kind (has_kind (said seen) f) refl e
  where
    by_kind : (b : Bool) → has_kind (said seen) f ≡ b
        → cond {A = Option Options} b None (Some (with_flag (said seen) f)) ≡ Some o
        → IsOnce (seen ++ f ∷ []) × (o ≡ said (seen ++ f ∷ []))
    by_kind true is e = cc
    by_kind false is e =
        (fits seen once f is, (let same : with_flag (said seen) f ≡ o = cc in sym same ∙ said_more seen f is))

-- an option that may not be given again
twice : (seen more : List Flag) (f : Flag) → with_option (said seen) f ≡ None → IsOnce (seen ++ f ∷ more) → ⊥
twice seen more f e once = by_kind (has_kind (said seen) f) refl e
  where
    by_kind : (b : Bool)
        → has_kind (said seen) f ≡ b → cond {A = Option Options} b None (Some (with_flag (said seen) f)) ≡ None → ⊥
    by_kind true is e =
        let n = any_counted (same_kind f) seen true (sym (kinds_said f seen) ∙ is) in
        let c : count_by (same_kind f) (seen ++ f ∷ more) ≡ count_by (same_kind f) seen +
        (1 + count_by (same_kind f) more) = rw (own_kind f) at (counted (same_kind f) seen f more) in
        omega (arith, once f)
    by_kind false is e = cc

pub one_more : (words rest following : List (List ℕ)) (o p : Options) (f : Flag)
    → IsRead words rest o → IsFlag f → rest ≡ flag_words f ++ following → with_option o f ≡ Some p
    → IsRead words following p
one_more words rest following o p f read good e adds =
    let fit = adds_one read.seen read.once f p (subst (λ o. with_option o f ≡ Some p) read.says adds) in
    record {
      seen = read.seen ++ f ∷ [];
      spelled = read.spelled ∙ ap (λ ws. flat_map flag_words read.seen ++ ws) e ∙ put_in read.seen;
      in_range = All-push IsFlag read.seen f read.in_range good;
      once = fit.0;
      says = fit.1;
    }
  where
    put_in : (seen : List Flag)
        → flat_map flag_words seen ++ (flag_words f ++ following) ≡ flat_map flag_words (seen ++ f ∷ []) ++ following
    put_in seen =
        rw (
          flat_map-append flag_words seen (f ∷ []),
          append-nil (flag_words f),
          append_assoc (flat_map flag_words seen) (flag_words f) following,
        ) refl

-- what the words that are left must be
left : (words rest : List (List ℕ)) (o : Options) (read : IsRead words rest o) (flags : List Flag)
    → IsSpelled flags words
    → (more : List Flag) × (flags ≡ read.seen ++ more) × (rest ≡ flat_map flag_words more) × All IsFlag more
left words rest o read flags is =
    what_follows read.seen flags rest read.in_range is.in_range (sym read.spelled ∙ is.spelled)

pub unreadable : (words rest : List (List ℕ)) (o : Options) → IsRead words rest o → 0 < length rest
    → ((f : Flag) (following : List (List ℕ)) → IsFlag f → rest ≡ flag_words f ++ following → ⊥)
    → (flags : List Flag) → IsSpelled flags words
    → ⊥
unreadable words rest o read some none flags is = (let l = left words rest o read flags is in by_more l.0 l.2 l.3)
  where
    by_more : (more : List Flag) → rest ≡ flat_map flag_words more → All IsFlag more → ⊥
    by_more [] e good = (let l = ap length e in omega arith)
    by_more (f ∷ more) e good = none f (flat_map flag_words more) (All-head IsFlag f more good) e

pub repeated : (words rest following : List (List ℕ)) (o : Options) (f : Flag)
    → IsRead words rest o → IsFlag f → rest ≡ flag_words f ++ following → with_option o f ≡ None → (flags : List Flag)
    → IsSpelled flags words
    → ⊥
repeated words rest following o f read fine e adds flags is =
    (let l = left words rest o read flags is in by_more l.0 l.1 l.2 l.3)
  where
    by_more : (more : List Flag) → flags ≡ read.seen ++ more → rest ≡ flat_map flag_words more → All IsFlag more → ⊥
    by_more [] a b good = some_words f following (sym e ∙ b)
    by_more (g ∷ more) a b good =
        let same = one_flag f g following (flat_map flag_words more) fine (All-head IsFlag g more good) (sym e ∙ b) in
        let stand : flags ≡ read.seen ++ f ∷ more = a ∙ ap (λ h. read.seen ++ h ∷ more) (sym same.0) in
        twice read.seen more f (subst (λ o. with_option o f ≡ None) read.says adds) (subst IsOnce stand is.once)

-- options that have the same words are the same
pub one_spelling : (flags others : List Flag) (words : List (List ℕ))
    → IsSpelled flags words → IsSpelled others words → flags ≡ others
one_spelling flags others words a b =
    let l = what_follows flags others [] a.in_range b.in_range
    (append-nil (flat_map flag_words flags) ∙ sym a.spelled ∙ b.spelled) in
    by_more l.0 l.1 l.2
  where
    by_more : (more : List Flag) → others ≡ flags ++ more → [] ≡ flat_map flag_words more → flags ≡ others
    by_more [] e none = sym (append-nil flags) ∙ sym e
    by_more (f ∷ more) e none = absurd (some_words f (flat_map flag_words more) (sym none))

-- the numbers that options say are in range
pub jobs_good : (flags : List Flag) → All IsFlag flags → IsUpTo job_limit (unwrap_or (first_said jobs_of flags) 1)
jobs_good [] good = record { low = omega arith; high = omega arith }
jobs_good (Flag.Jobs n ∷ flags) good = All-head IsFlag (Flag.Jobs n) flags good
jobs_good (f ∷ flags) good = jobs_good flags (All-tail IsFlag f flags good)

pub half_steps_good : (flags : List Flag)
    → All IsFlag flags → IsMove (unwrap_or (first_said half_steps_of flags) (pos 0))
half_steps_good [] good = record { low = omega arith; high = omega arith }
half_steps_good (Flag.Transpose z ∷ flags) good = All-head IsFlag (Flag.Transpose z) flags good
half_steps_good (f ∷ flags) good = half_steps_good flags (All-tail IsFlag f flags good)

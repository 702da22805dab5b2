-- Numbers in rising order, each once, and the search for one of them.
use Rattle.std.proofs.Common.{◌≡◌, refl, sym, ap, ◌∙◌, subst, ℕ, ◌<◌, ◌≤◌, Bool, true, false, cond, ◌||◌, nat_lt, List}
use Rattle.std.proofs.Common.{[], ◌∷◌, length, get_or, arith, ℤ}
use Rattle.std.proofs.lemmas.Bool.{false≢true}
use Rattle.std.proofs.lemmas.Bool.Decides.{nat_tests}
use Rattle.std.proofs.lemmas.Cmp.{int_cmp_total, int_eq_equiv}
use Rattle.std.proofs.lemmas.Int.{ints}
use Rattle.std.proofs.lemmas.Map.Keys.{Less-from_sorted}
use Rattle.std.proofs.lemmas.Map.Views.{Contains-from_any, list_any-from_Contains}
use Rattle.std.specs.Prelude.{int_lt, if◌then◌else◌}
use Rattle.std.specs.List.{AllByRecursion, Contains, list_any}
use Rattle.std.specs.List.Sorted.{IsNonDecreasingBy, IsPartitionPoint, IsStrictlySortedBy}
use Rattle.std.specs.Ordering.{int_cmp, int_eq, is_eq, is_gt, ordering_index}
use Rattle.std.specs.declared.cmp.Ordering.{Ordering}
use Rattle.std.specs.declared.cmp.Ordering.TheVariants.{Less, Equal, Greater}
use Rattle.std.specs.FinMap.{int_cmp-IsAntisymmetric}
use Rattle.ps_heard.specs.Columns.{inserted, rising}

abbrev pub Below : ℤ → List ℤ → Type 0
Below x ys = AllByRecursion (λ y. int_cmp x y ≡ Less) ys

pub eq_is : (x y : ℤ) → int_eq x y ≡ true → x ≡ y
eq_is x y e = grind (arith, ints)

pub itself : (x : ℤ) → int_eq x x ≡ true
itself x = grind (arith, ints)

less_of : (x y : ℤ) → int_lt x y ≡ true → int_cmp x y ≡ Less
less_of x y e = ap (λ b. cond b Less (cond (int_lt y x) Greater Equal)) e

past : (x y : ℤ) → int_lt x y ≡ false → int_eq x y ≡ false → int_lt y x ≡ true
past x y e f = grind (arith, ints)

-- a number that is less isn't equal
apart : (x y : ℤ) → int_cmp x y ≡ Less → int_eq x y ≡ false
apart x y e = ap is_eq e

below_more : (x y : ℤ) (ws : List ℤ) → int_cmp x y ≡ Less → Below y ws → Below x ws
below_more x y [] l b = tt
below_more x y (w ∷ ws) l b = (int_cmp_total.trans x y w l b.0, below_more x y ws l b.1)

pub not_among : (x : ℤ) (ws : List ℤ) → Below x ws → list_any (int_eq x) ws ≡ false
not_among x [] b = refl
not_among x (w ∷ ws) b = ap (λ t. t || list_any (int_eq x) ws) (apart x w b.0) ∙ not_among x ws b.1

-- ---- in rising order
below_if : (w x y : ℤ) (ys : List ℤ) (a b : Bool)
    → int_cmp w x ≡ Less → int_cmp w y ≡ Less → Below w ys → Below w (inserted x ys)
    → Below w (if a then x ∷ y ∷ ys else if b then y ∷ ys else y ∷ inserted x ys)
below_if w x y ys true b l m rest more = (l, (m, rest))
below_if w x y ys false true l m rest more = (m, rest)
below_if w x y ys false false l m rest more = (m, more)

below_inserted : (w x : ℤ) (ys : List ℤ) → int_cmp w x ≡ Less → Below w ys → Below w (inserted x ys)
below_inserted w x [] l b = (l, tt)
below_inserted w x (y ∷ ys) l b = below_if w x y ys (int_lt x y) (int_eq x y) l b.0 b.1 (below_inserted w x ys l b.1)

rise_if : (x y : ℤ) (ys : List ℤ) (a b : Bool)
    → int_lt x y ≡ a → int_eq x y ≡ b → Below y ys → IsStrictlySortedBy int_cmp ys
    → IsStrictlySortedBy int_cmp (inserted x ys)
    → IsStrictlySortedBy int_cmp (if a then x ∷ y ∷ ys else if b then y ∷ ys else y ∷ inserted x ys)
unfolding IsStrictlySortedBy
rise_if x y ys true b e f low rest more = ((less_of x y e, below_more x y ys (less_of x y e) low), (low, rest))
rise_if x y ys false true e f low rest more = (low, rest)
rise_if x y ys false false e f low rest more = (below_inserted y x ys (less_of y x (past x y e f)) low, more)

rise_inserted : (x : ℤ) (ys : List ℤ) → IsStrictlySortedBy int_cmp ys → IsStrictlySortedBy int_cmp (inserted x ys)
unfolding IsStrictlySortedBy
rise_inserted x [] s = (tt, tt)
rise_inserted x (y ∷ ys) s = rise_if x y ys (int_lt x y) (int_eq x y) refl refl s.0 s.1 (rise_inserted x ys s.1)

rise_rising : (xs : List ℤ) → IsStrictlySortedBy int_cmp (rising xs)
unfolding IsStrictlySortedBy
rise_rising [] = tt
rise_rising (x ∷ xs) = rise_inserted x (rising xs) (rise_rising xs)

-- ---- with the same members
twice : (p r : Bool) → (p || r) ≡ (p || (p || r))
twice true r = refl
twice false r = refl

swapped : (p q r : Bool) → (p || (q || r)) ≡ (q || (p || r))
swapped true true r = refl
swapped true false r = refl
swapped false q r = refl

among_if : (z x y : ℤ) (ys : List ℤ) (a b : Bool)
    → int_eq x y ≡ b → list_any (int_eq z) (inserted x ys) ≡ (int_eq z x || list_any (int_eq z) ys)
    → list_any (int_eq z) (if a then x ∷ y ∷ ys else if b then y ∷ ys else y ∷ inserted x ys)
    ≡ (int_eq z x || (int_eq z y || list_any (int_eq z) ys))
among_if z x y ys true b f more = refl
among_if z x y ys false true f more =
    twice (int_eq z y) (list_any (int_eq z) ys)
    ∙ ap (λ w. int_eq z w || (int_eq z y || list_any (int_eq z) ys)) (sym (eq_is x y f))
among_if z x y ys false false f more =
    ap (λ t. int_eq z y || t) more ∙ swapped (int_eq z y) (int_eq z x) (list_any (int_eq z) ys)

among_inserted : (z x : ℤ) (ys : List ℤ) → list_any (int_eq z) (inserted x ys) ≡ (int_eq z x || list_any (int_eq z) ys)
among_inserted z x [] = refl
among_inserted z x (y ∷ ys) = among_if z x y ys (int_lt x y) (int_eq x y) refl (among_inserted z x ys)

among_rising : (z : ℤ) (xs : List ℤ) → list_any (int_eq z) (rising xs) ≡ list_any (int_eq z) xs
among_rising z [] = refl
among_rising z (x ∷ xs) = among_inserted z x (rising xs) ∙ ap (λ t. int_eq z x || t) (among_rising z xs)

-- ---- and only one such list
abbrev pub Same : List ℤ → List ℤ → Type 0
Same xs ys = (z : ℤ) → list_any (int_eq z) xs ≡ list_any (int_eq z) ys

or_left : (b p q : Bool) → b ≡ false → (b || p) ≡ (b || q) → p ≡ q
or_left true p q e f = absurd (false≢true (sym e))
or_left false p q e f = f

tail_same : (z x : ℤ) (xs ys : List ℤ) (b : Bool)
    → int_eq z x ≡ b → Below x xs → Below x ys → Same (x ∷ xs) (x ∷ ys)
    → list_any (int_eq z) xs ≡ list_any (int_eq z) ys
tail_same z x xs ys true e l m same =
    subst (λ w. list_any (int_eq w) xs ≡ list_any (int_eq w) ys) (sym (eq_is z x e))
    (not_among x xs l ∙ sym (not_among x ys m))
tail_same z x xs ys false e l m same = or_left (int_eq z x) (list_any (int_eq z) xs) (list_any (int_eq z) ys) e (same z)

missing : (x : ℤ) (xs ws : List ℤ) → Below x ws → Same (x ∷ xs) ws → ⊥
missing x xs ws b same =
    false≢true (sym (not_among x ws b) ∙ sym (same x) ∙ ap (λ t. t || list_any (int_eq x) xs) (itself x))

heads_by : (x y : ℤ) (xs ys : List ℤ) (a b : Bool)
    → int_lt x y ≡ a → int_eq x y ≡ b → Below x xs → Below y ys → Same (x ∷ xs) (y ∷ ys) → x ≡ y
heads_by x y xs ys true b e f l m same =
    absurd (missing x xs (y ∷ ys) (less_of x y e, below_more x y ys (less_of x y e) m) same)
heads_by x y xs ys false true e f l m same = eq_is x y f
heads_by x y xs ys false false e f l m same =
    let g = less_of y x (past x y e f) in absurd (missing y ys (x ∷ xs) (g, below_more y x xs g l) (λ z. sym (same z)))

joined : (x y : ℤ) (xs ys : List ℤ) → x ≡ y → xs ≡ ys → x ∷ xs ≡ y ∷ ys
joined x y xs ys e f = rw (e, f) refl

tails : (x y : ℤ) (xs ys : List ℤ) → x ≡ y → Below x xs → Below y ys → Same (x ∷ xs) (y ∷ ys) → Same xs ys
tails x y xs ys e l m same z =
    tail_same z x xs ys (int_eq z x) refl l (subst (λ w. Below w ys) (sym e) m)
    (subst (λ w. Same (x ∷ xs) (w ∷ ys)) (sym e) same)

only_one : (xs ys : List ℤ) → IsStrictlySortedBy int_cmp xs → IsStrictlySortedBy int_cmp ys → Same xs ys → xs ≡ ys
unfolding IsStrictlySortedBy
only_one [] [] s t same = refl
only_one [] (y ∷ ys) s t same = absurd (missing y ys [] tt (λ z. sym (same z)))
only_one (x ∷ xs) [] s t same = absurd (missing x xs [] tt same)
only_one (x ∷ xs) (y ∷ ys) s t same =
    let e = heads_by x y xs ys (int_lt x y) (int_eq x y) refl refl s.0 t.0 same in
    joined x y xs ys e (only_one xs ys s.1 t.1 (tails x y xs ys e s.0 t.0 same))

same_tests : (p q : Bool) → (p ≡ true → q ≡ true) → (q ≡ true → p ≡ true) → p ≡ q
same_tests true q f g = sym (f refl)
same_tests false true f g = g refl
same_tests false false f g = refl

among : (z : ℤ) (xs ys : List ℤ)
    → ((w : ℤ) → Contains xs w → Contains ys w) → list_any (int_eq z) xs ≡ true → list_any (int_eq z) ys ≡ true
among z xs ys all e = list_any-from_Contains int_eq_equiv z ys (all z (Contains-from_any eq_is z xs e))

-- a list that rises and has the numbers of another
pub rising_is : (xs ys : List ℤ)
    → IsStrictlySortedBy int_cmp ys → ((w : ℤ) → Contains xs w → Contains ys w)
    → ((w : ℤ) → Contains ys w → Contains xs w)
    → ys ≡ rising xs
rising_is xs ys s all only =
    only_one ys (rising xs) s (rise_rising xs)
    (λ z.
    same_tests (list_any (int_eq z) ys) (list_any (int_eq z) xs) (among z ys xs only) (among z xs ys all)
    ∙ sym (among_rising z xs))

-- ---- the search
index_by : (a b x : ℤ) (r s : Ordering)
    → int_cmp a x ≡ r → int_cmp b x ≡ s → int_cmp a b ≡ Less → ordering_index r ≤ ordering_index s
index_by a b x Less Less e f l = omega arith
index_by a b x Less Equal e f l = omega arith
index_by a b x Less Greater e f l = omega arith
index_by a b x Equal Less e f l = absurd (false≢true (ap is_eq (sym (int_cmp_total.trans a b x l f) ∙ e)))
index_by a b x Equal Equal e f l = omega arith
index_by a b x Equal Greater e f l = omega arith
index_by a b x Greater Less e f l = absurd (false≢true (ap is_gt (sym (int_cmp_total.trans a b x l f) ∙ e)))
index_by a b x Greater Equal e f l =
    absurd (false≢true (ap is_gt (sym (subst (λ z. int_cmp a z ≡ Less) (int_cmp-IsAntisymmetric b x f) l) ∙ e)))
index_by a b x Greater Greater e f l = omega arith

lt_of : (i j : ℕ) → nat_lt i j ≡ true → i < j
lt_of i j e = grind (arith, nat_tests)

le_of : (i j : ℕ) → nat_lt i j ≡ false → j ≤ i
le_of i j e = grind (arith, nat_tests)

index_cases : (xs : List ℤ) (x : ℤ) (i j : ℕ) (d : ℤ) (b : Bool)
    → nat_lt i j ≡ b → IsStrictlySortedBy int_cmp xs → i ≤ j → j < length xs
    → ordering_index (int_cmp (get_or xs i d) x) ≤ ordering_index (int_cmp (get_or xs j d) x)
index_cases xs x i j d true e s l h =
    index_by (get_or xs i d) (get_or xs j d) x (int_cmp (get_or xs i d) x) (int_cmp (get_or xs j d) x) refl refl
    (Less-from_sorted int_cmp xs i j d s (lt_of i j e) h)
index_cases xs x i j d false e s l h =
    let g = le_of i j e in
    let same : i ≡ j = omega arith in
    subst (λ k. ordering_index (int_cmp (get_or xs i d) x) ≤ ordering_index (int_cmp (get_or xs k d) x)) same
    (omega arith)

-- the comparison with the sought number never falls along rising numbers
pub sought : (xs : List ℤ) (x : ℤ)
    → IsStrictlySortedBy int_cmp xs → IsNonDecreasingBy (λ y. ordering_index (int_cmp y x)) xs
sought xs x s i j d l h = index_cases xs x i j d (nat_lt i j) refl s l h

lies : (x : ℤ) (xs : List ℤ) (i k : ℕ) (b : Bool)
    → nat_lt k i ≡ b → k < length xs → get_or xs k x ≡ x
    → IsPartitionPoint (λ y. int_cmp y x ≡ Less) (λ y. int_cmp y x ≡ Greater) xs i
    → ⊥
lies x xs i k true l h e p =
    false≢true (ap is_eq (sym (subst (λ w. int_cmp w x ≡ Less) e (p.0 k x (omega arith) (lt_of k i l)))) ∙ itself x)
lies x xs i k false l h e p =
    false≢true (ap is_eq (sym (subst (λ w. int_cmp w x ≡ Greater) e (p.1 k x (le_of k i l) h))) ∙ itself x)

none_by : (x : ℤ) (xs : List ℤ) (i : ℕ) (b : Bool)
    → list_any (int_eq x) xs ≡ b
    → IsPartitionPoint (λ y. int_cmp y x ≡ Less) (λ y. int_cmp y x ≡ Greater) xs i
    → list_any (int_eq x) xs ≡ false
none_by x xs i false e p = e
none_by x xs i true e p =
    let c = Contains-from_any eq_is x xs e in absurd (lies x xs i c.0 (nat_lt c.0 i) refl c.1 c.2 p)

-- after all that are less and before all that are greater there is none
pub none_there : (x : ℤ) (xs : List ℤ) (i : ℕ)
    → IsPartitionPoint (λ y. int_cmp y x ≡ Less) (λ y. int_cmp y x ≡ Greater) xs i → list_any (int_eq x) xs ≡ false
none_there x xs i p = none_by x xs i (list_any (int_eq x) xs) refl p

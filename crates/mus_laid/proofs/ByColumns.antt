-- Marks that are added to their columns one by one end up there part by part.
use Rattle.std.proofs.Common.{◌≡◌, ◌∙◌, ℕ, zero, suc, ◌+◌, ◌<◌, ◌≤◌, cond, Bool, true, false, List, [], ◌∷◌, ◌++◌}
use Rattle.std.proofs.Common.{length, get_or, set, map, Some, None, refl, sym, ap, append_assoc, arith}
use Rattle.std.proofs.lemmas.Bool.Decides.{nat_tests}
use Rattle.std.proofs.lemmas.List.{append-nil}
use Rattle.std.proofs.lemmas.List.FromFn.{map-range_with_len_more}
use Rattle.std.specs.List.{filter, flat_map, range_with_len}
use Rattle.mus_laid.specs.declared.laid.Laid.{Laid}
use Rattle.mus_laid.specs.Ranked.{anchor_rank, at_rank, by_columns, is_rank, stands_at_rank, with_mark, with_part}
use Rattle.mus_laid.specs.Ranked.{with_parts}

-- ---- one mark
stands : (r q : ℕ) (x : Laid) → anchor_rank x.mark ≡ Some q → r ≡ q → stands_at_rank r x ≡ true
stands r q x is same = ap (is_rank r) is ∙ grind (arith, nat_tests, same)

stands_not : (r q : ℕ) (x : Laid) → anchor_rank x.mark ≡ Some q → (r ≡ q → ⊥) → stands_at_rank r x ≡ false
stands_not r q x is other = ap (is_rank r) is ∙ grind (arith, nat_tests, other)

-- in no column from rank r on
nowhere : (r : ℕ) (x : Laid) (columns : List (List Laid))
    → ((k : ℕ) → stands_at_rank (r + k) x ≡ false) → with_mark r x columns ≡ columns
nowhere r x [] none = refl
nowhere r x (column ∷ columns) none =
    let here : r + 0 ≡ r = omega arith in
    ap (λ b. cond b (column ++ x ∷ []) column ∷ with_mark (r + 1) x columns)
    (ap (λ n. stands_at_rank n x) (sym here) ∙ none 0)
    ∙ ap (λ t. column ∷ t)
    (nowhere (r + 1) x columns
    (λ k. let e : r + suc k ≡ r + 1 + k = omega arith in ap (λ n. stands_at_rank n x) (sym e) ∙ none (suc k)))

-- in the i-th column from rank r on
there : (r i q : ℕ) (x : Laid) (columns : List (List Laid)) (d : List Laid)
    → anchor_rank x.mark ≡ Some q → r + i ≡ q → i < length columns
    → with_mark r x columns ≡ set columns i (get_or columns i d ++ x ∷ [])
there r i q x [] d is at inside = absurd (omega (arith, inside))
there r zero q x (column ∷ columns) d is at inside =
    ap (λ b. cond b (column ++ x ∷ []) column ∷ with_mark (r + 1) x columns) (stands r q x is (omega (arith, at)))
    ∙ ap (λ t. (column ++ x ∷ []) ∷ t)
    (nowhere (r + 1) x columns (λ k. stands_not (r + 1 + k) q x is (λ e. omega (arith, e, at))))
there r (suc i) q x (column ∷ columns) d is at inside =
    ap (λ b. cond b (column ++ x ∷ []) column ∷ with_mark (r + 1) x columns)
    (stands_not r q x is (λ e. omega (arith, e, at)))
    ∙ ap (λ t. column ∷ t) (there (r + 1) i q x columns d is (omega (arith, at)) (omega (arith, inside)))

short : (r q : ℕ) (x : Laid) (columns : List (List Laid))
    → anchor_rank x.mark ≡ Some q → r + length columns ≤ q → with_mark r x columns ≡ columns
short r q x [] is far = refl
short r q x (column ∷ columns) is far =
    ap (λ b. cond b (column ++ x ∷ []) column ∷ with_mark (r + 1) x columns)
    (stands_not r q x is (λ e. omega (arith, e, far)))
    ∙ ap (λ t. column ∷ t) (short (r + 1) q x columns is (omega (arith, far)))

pub put_there : (q : ℕ) (x : Laid) (columns : List (List Laid)) (d : List Laid)
    → anchor_rank x.mark ≡ Some q → q < length columns
    → set columns q (get_or columns q d ++ x ∷ []) ≡ with_mark 0 x columns
put_there q x columns d is inside = sym (there 0 q q x columns d is (omega arith) inside)

pub put_far : (q : ℕ) (x : Laid) (columns : List (List Laid))
    → anchor_rank x.mark ≡ Some q → length columns ≤ q → columns ≡ with_mark 0 x columns
put_far q x columns is far = sym (short 0 q x columns is (omega (arith, far)))

pub put_nowhere : (x : Laid) (columns : List (List Laid)) → anchor_rank x.mark ≡ None → columns ≡ with_mark 0 x columns
put_nowhere x columns is = sym (nowhere 0 x columns (λ k. ap (is_rank (0 + k)) is))

-- ---- empty columns
pub empty_more : (columns new : List (List Laid)) (i : ℕ)
    → columns ≡ map (at_rank []) (range_with_len 0 i) → new ≡ columns ++ [] ∷ []
    → new ≡ map (at_rank []) (range_with_len 0 (i + 1))
empty_more columns new i so_far put =
    put ∙ ap (λ t. t ++ [] ∷ []) so_far ∙ sym (map-range_with_len_more (at_rank []) 0 i i (omega arith))

-- ---- all parts: each column has the marks of its rank, part by part
same_map : {A : Type 0} (f g : ℕ → A)
    → ((k : ℕ) → f k ≡ g k) → (r n : ℕ) → map f (range_with_len r n) ≡ map g (range_with_len r n)
same_map f g same r zero = refl
same_map f g same r (suc n) =
    ap (λ t. t ∷ map f (range_with_len (r + 1) n)) (same r) ∙ ap (λ t. g r ∷ t) (same_map f g same (r + 1) n)

one_more : (f : ℕ → List Laid) (x : Laid) (r n : ℕ)
    → with_mark r x (map f (range_with_len r n))
    ≡ map (λ k. f k ++ filter (stands_at_rank k) (x ∷ [])) (range_with_len r n)
one_more f x r zero = refl
one_more f x r (suc n) =
    ap (λ t. t ∷ with_mark (r + 1) x (map f (range_with_len (r + 1) n))) (by (stands_at_rank r x) (f r))
    ∙ ap (λ t. (f r ++ filter (stands_at_rank r) (x ∷ [])) ∷ t) (one_more f x (r + 1) n)
  where
    by : (b : Bool) (column : List Laid) → cond b (column ++ x ∷ []) column ≡ column ++ cond b (x ∷ []) []
    by true column = refl
    by false column = sym (append-nil column)

part_more : (f : ℕ → List Laid) (xs : List Laid) (n : ℕ)
    → with_part xs (map f (range_with_len 0 n)) ≡ map (λ k. f k ++ filter (stands_at_rank k) xs) (range_with_len 0 n)
part_more f [] n = same_map f (λ k. f k ++ []) (λ k. sym (append-nil (f k))) 0 n
part_more f (x ∷ xs) n =
    ap (with_part xs) (one_more f x 0 n) ∙ part_more (λ k. f k ++ filter (stands_at_rank k) (x ∷ [])) xs n
    ∙ same_map (λ k. f k ++ filter (stands_at_rank k) (x ∷ []) ++ filter (stands_at_rank k) xs)
    (λ k. f k ++ filter (stands_at_rank k) (x ∷ xs)) (λ k. by (stands_at_rank k x) (f k) (filter (stands_at_rank k) xs))
    0 n
  where
    by : (b : Bool) (column more : List Laid) → column ++ cond b (x ∷ []) [] ++ more ≡ column ++ cond b (x ∷ more) more
    by true column more = append_assoc column (x ∷ []) more
    by false column more = ap (λ t. t ++ more) (append-nil column)

parts_more : (f : ℕ → List Laid) (parts : List (List Laid)) (n : ℕ)
    → with_parts parts (map f (range_with_len 0 n)) ≡ map (λ k. f k ++ at_rank parts k) (range_with_len 0 n)
parts_more f [] n = same_map f (λ k. f k ++ []) (λ k. sym (append-nil (f k))) 0 n
parts_more f (part ∷ parts) n =
    ap (with_parts parts) (part_more f part n) ∙ parts_more (λ k. f k ++ filter (stands_at_rank k) part) parts n
    ∙ same_map (λ k. f k ++ filter (stands_at_rank k) part ++ at_rank parts k) (λ k. f k ++ at_rank (part ∷ parts) k)
    (λ k. append_assoc (f k) (filter (stands_at_rank k) part) (at_rank parts k)) 0 n

joined_map : (f : ℕ → List Laid) (ns : List ℕ) → flat_map (λ column. column) (map f ns) ≡ flat_map f ns
joined_map f [] = refl
joined_map f (n ∷ ns) = ap (λ t. f n ++ t) (joined_map f ns)

all_parts : (parts : List (List Laid)) (n : ℕ)
    → flat_map (λ column. column) (with_parts parts (map (at_rank []) (range_with_len 0 n)))
    ≡ flat_map (at_rank parts) (range_with_len 0 n)
all_parts parts n =
    ap (flat_map (λ column. column))
    (parts_more (at_rank []) parts n ∙ same_map (λ k. at_rank [] k ++ at_rank parts k) (at_rank parts) (λ k. refl) 0 n)
    ∙ joined_map (at_rank parts) (range_with_len 0 n)

pub columns_joined : (n : ℕ) (parts : List (List Laid))
    → (length parts ≡ 1 → ⊥)
    → flat_map (λ column. column) (with_parts parts (map (at_rank []) (range_with_len 0 n))) ≡ by_columns n parts
columns_joined n [] h = all_parts [] n
columns_joined n (part ∷ []) h = absurd (h refl)
columns_joined n (part ∷ other ∷ parts) h = all_parts (part ∷ other ∷ parts) n

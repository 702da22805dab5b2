-- Among rising keys those before a given key come first, and their number is its rank. Ranks rise with keys, and the
-- rank of a key of the system is below the number of its keys; the i-th key has rank i.
use Rattle.std.proofs.Common.{◌≡◌, ℕ, zero, suc, ◌+◌, ◌≤◌, ◌<◌, Bool, true, false, List, [], ◌∷◌, ◌++◌, length, subst}
use Rattle.std.proofs.Common.{refl, sym, ap, ◌∙◌, if◌then◌else◌, arith}
use Rattle.std.proofs.lemmas.Bool.Decides.{nat_tests}
use Rattle.std.specs.List.{AllByRecursion, AllWithin, Contains, slice_index_or}
use Rattle.std.specs.List.Sorted.{IsPartitionPoint, IsPartitionedBy}
use Rattle.std.specs.Ordering.{partial_lt}
use Rattle.mus_onsets.specs.contracts.keys.ColumnKeyPartialOrd.TheImpl.{ghosts}
use Rattle.mus_onsets.specs.declared.keys.ColumnKey.{ColumnKey}
use Rattle.mus_onsets.specs.Order.{is_below, BelowAll, Rises, key_rank}
use Rattle.mus_onsets.proofs.Orders.{below_through, lower, not_both, not_itself}

pub below_is : (k l : ColumnKey) → partial_lt ghosts.partial_cmp k l ≡ is_below k l
unfolding is_below
below_is k l = grind (arith, nat_tests)

below_later : (k m : ColumnKey) (ls : List ColumnKey) (j : ℕ) (d : ColumnKey)
    → j < length ls → BelowAll k ls → is_below (slice_index_or ls j d) m ≡ true → is_below k m ≡ true
below_later k m [] j d inside below h = absurd (omega (arith, inside))
below_later k m (l ∷ ls) zero d inside below h = below_through k l m below.0 h
below_later k m (l ∷ ls) (suc j) d inside below h = below_later k m ls j d (omega (arith, inside)) below.1 h

-- no key before a given one comes after a key that is not before it
pub parted : (ks : List ColumnKey) (m : ColumnKey) → Rises ks → IsPartitionedBy (λ k. is_below k m) ks
parted [] m rise i j d o inside h = absurd (omega (arith, inside))
parted (k ∷ ks) m rise zero zero d o inside h = h
parted (k ∷ ks) m rise zero (suc j) d o inside h = below_later k m ks j d (omega (arith, inside)) rise.0 h
parted (k ∷ ks) m rise (suc i) zero d o inside h = absurd (omega (arith, o))
parted (k ∷ ks) m rise (suc i) (suc j) d o inside h =
    parted ks m rise.1 i j d (omega (arith, o)) (omega (arith, inside)) h

no_others : (ks : List ColumnKey) (m : ColumnKey)
    → AllWithin (λ k. is_below k m ≡ false) ks 0 (length ks) → key_rank ks m ≡ 0
no_others [] m h = refl
no_others (k ∷ ks) m h = ap (λ b. if b then 1 + key_rank ks m else key_rank ks m) (h 0 k (omega arith) (omega arith))
    ∙ no_others ks m (λ j d from to. h (suc j) d (omega arith) (omega (arith, to)))

-- if the keys before one are the first i, its rank is i
pub ranked : (ks : List ColumnKey) (m : ColumnKey) (i : ℕ)
    → i ≤ length ks → IsPartitionPoint (λ k. is_below k m ≡ true) (λ k. is_below k m ≡ false) ks i → i ≡ key_rank ks m
ranked [] m zero inside at = refl
ranked [] m (suc i) inside at = absurd (omega (arith, inside))
ranked (k ∷ ks) m zero inside at = sym (no_others (k ∷ ks) m at.1)
ranked (k ∷ ks) m (suc i) inside at =
    let more = ranked ks m i (omega (arith, inside)) (
      λ j d from to. at.0 (suc j) d (omega arith) (omega (arith, to)),
      λ j d from to. at.1 (suc j) d (omega (arith, from)) (omega (arith, to)),
    ) in
    omega (arith, more)
    ∙ ap (λ b. if b then 1 + key_rank ks m else key_rank ks m) (sym (at.0 0 k (omega arith) (omega arith)))

-- ---- ranks of keys
pub false_not_true : false ≡ true → ⊥
false_not_true h = cc

none_below : (k : ColumnKey) (ks : List ColumnKey) → BelowAll k ks → key_rank ks k ≡ 0
none_below k [] h = refl
none_below k (l ∷ ls) h =
    ap (λ c. if c then 1 + key_rank ls k else key_rank ls k) (not_both k l h.0) ∙ none_below k ls h.1

first_rank : (k : ColumnKey) (ks : List ColumnKey) → BelowAll k ks → key_rank (k ∷ ks) k ≡ 0
first_rank k ks h = ap (λ c. if c then 1 + key_rank ks k else key_rank ks k) (not_itself k) ∙ none_below k ks h

pub rank_most : (xs : List ColumnKey) (k : ColumnKey) → key_rank xs k ≤ length xs
rank_most [] k = omega arith
rank_most (x ∷ xs) k = by (is_below x k) (rank_most xs k)
  where
    by : (c : Bool) → key_rank xs k ≤ length xs → (if c then 1 + key_rank xs k else key_rank xs k) ≤ suc (length xs)
    by true more = omega (arith, more)
    by false more = omega (arith, more)

-- the rank of a key of the list is below its length
pub rank_less : (xs : List ColumnKey) (k : ColumnKey) → Contains xs k → key_rank xs k < length xs
rank_less [] k (i, inside, is) = absurd (omega (arith, inside))
rank_less (x ∷ xs) k (zero, inside, is) =
    let e : key_rank (x ∷ xs) k ≡ key_rank xs k = ap (λ c. if c then 1 + key_rank xs k else key_rank xs k)
    (subst (λ z. is_below z k ≡ false) (sym is) (not_itself k)) in
    let most = rank_most xs k in
    omega (arith, e, most)
rank_less (x ∷ xs) k (suc i, inside, is) = by (is_below x k) (rank_less xs k (i, omega (arith, inside), is))
  where
    by : (c : Bool) → key_rank xs k < length xs → (if c then 1 + key_rank xs k else key_rank xs k) < suc (length xs)
    by true more = omega (arith, more)
    by false more = omega (arith, more)

below_at : (k : ColumnKey) (ls : List ColumnKey) (i : ℕ) (d : ColumnKey)
    → BelowAll k ls → i < length ls → is_below k (slice_index_or ls i d) ≡ true
below_at k [] i d h inside = absurd (omega (arith, inside))
below_at k (l ∷ ls) zero d h inside = h.0
below_at k (l ∷ ls) (suc i) d h inside = below_at k ls i d h.1 (omega (arith, inside))

-- the i-th of rising keys has rank i
pub rank_at_place : (keys : List ColumnKey) (i : ℕ) (d : ColumnKey)
    → Rises keys → i < length keys → key_rank keys (slice_index_or keys i d) ≡ i
rank_at_place [] i d rise inside = absurd (omega (arith, inside))
rank_at_place (k ∷ ks) zero d rise inside = first_rank k ks rise.0
rank_at_place (k ∷ ks) (suc i) d rise inside =
    let at = slice_index_or ks i d in let more = rank_at_place ks i d rise.1 (omega (arith, inside)) in
    ap (λ c. if c then 1 + key_rank ks at else key_rank ks at) (below_at k ks i d rise.0 (omega (arith, inside)))
    ∙ omega (arith, more)

-- ranks rise with keys
pub rank_rises : (ks : List ColumnKey) (k l : ColumnKey) → is_below k l ≡ true → key_rank ks k ≤ key_rank ks l
rank_rises [] k l h = omega arith
rank_rises (x ∷ ks) k l h = by (is_below x k) (is_below x l) (below_through x k l) (rank_rises ks k l h)
  where
    by : (b c : Bool) → (b ≡ true → is_below k l ≡ true → c ≡ true) → key_rank ks k ≤ key_rank ks l
        → (if b then 1 + key_rank ks k else key_rank ks k) ≤ (if c then 1 + key_rank ks l else key_rank ks l)
    by true true f more = omega (arith, more)
    by true false f more = absurd (false_not_true (f refl h))
    by false true f more = omega (arith, more)
    by false false f more = omega (arith, more)

-- and strictly, if the lower key is one of them
pub rank_rises_more : (ks : List ColumnKey) (k l : ColumnKey)
    → is_below k l ≡ true → Contains ks k → key_rank ks k < key_rank ks l
rank_rises_more [] k l h (i, inside, is) = absurd (omega (arith, inside))
rank_rises_more (x ∷ ks) k l h (zero, inside, is) =
    let e : key_rank (x ∷ ks) k ≡ key_rank ks k = ap (λ c. if c then 1 + key_rank ks k else key_rank ks k)
    (subst (λ z. is_below z k ≡ false) (sym is) (not_itself k)) in
    let f : key_rank (x ∷ ks) l ≡ 1 + key_rank ks l =
    ap (λ c. if c then 1 + key_rank ks l else key_rank ks l) (subst (λ z. is_below z l ≡ true) (sym is) h) in
    let more = rank_rises ks k l h in
    omega (arith, e, f, more)
rank_rises_more (x ∷ ks) k l h (suc i, inside, is) =
    by (is_below x k) (is_below x l) (below_through x k l) (rank_rises_more ks k l h (i, omega (arith, inside), is))
  where
    by : (b c : Bool) → (b ≡ true → is_below k l ≡ true → c ≡ true) → key_rank ks k < key_rank ks l
        → (if b then 1 + key_rank ks k else key_rank ks k) < (if c then 1 + key_rank ks l else key_rank ks l)
    by true true f more = omega (arith, more)
    by true false f more = absurd (false_not_true (f refl h))
    by false true f more = omega (arith, more)
    by false false f more = omega (arith, more)

-- keys of earlier measures, then keys of later ones
pub rises_join : (b : ℕ) (xs ys : List ColumnKey)
    → Rises xs → Rises ys → AllByRecursion (λ k. k.measure < b) xs → AllByRecursion (λ k. b ≤ k.measure) ys
    → Rises (xs ++ ys)
rises_join b [] ys p q to from = q
rises_join b (x ∷ xs) ys p q to from = (below_more xs p.0, rises_join b xs ys p.1 q to.1 from)
  where
    below_late : (zs : List ColumnKey) → AllByRecursion (λ k. b ≤ k.measure) zs → BelowAll x zs
    below_late [] h = tt
    below_late (z ∷ zs) h = (let t = to.0 in let f = h.0 in lower x z (omega (arith, t, f)), below_late zs h.1)

    below_more : (zs : List ColumnKey) → BelowAll x zs → BelowAll x (zs ++ ys)
    below_more [] h = below_late ys from
    below_more (z ∷ zs) h = (h.0, below_more zs h.1)

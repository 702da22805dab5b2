-- What stands at a key, among things that have column keys: at most one if their keys rise. Along the keys of a
-- system things come in the order of their keys, and each where its rank says.
use Rattle.std.proofs.Common.{◌≡◌, ◌∙◌, ℕ, zero, suc, ◌+◌, ◌<◌, ◌≤◌, ◌==◌, ◌⊎◌, inl, inr, Bool, true, false, cond, List}
use Rattle.std.proofs.Common.{[], ◌∷◌, ◌++◌, length, map, refl, sym, ap, subst, if◌then◌else◌, arith}
use Rattle.std.proofs.lemmas.Bool.{eq-eqb, ne_eqb}
use Rattle.std.proofs.lemmas.Bool.Decides.{nat_tests}
use Rattle.std.proofs.lemmas.List.{append-nil}
use Rattle.std.proofs.lemmas.List.Elements.{filter-append}
use Rattle.std.specs.List.{AllByRecursion, Contains, filter, flat_map, range_with_len, slice_index_or}
use Rattle.mus_onsets.specs.declared.keys.Class.{Class}
use Rattle.mus_onsets.specs.declared.keys.ColumnKey.{ColumnKey}
use Rattle.mus_onsets.specs.Keys.{key_at}
use Rattle.mus_onsets.specs.Order.{BelowAll, Rises, class_number, is_below, key_rank, same_key}
use Rattle.mus_onsets.proofs.Orders.{below_through, not_itself}
use Rattle.mus_onsets.proofs.RankLaws.{rank_rises_more}
use Rattle.mus_laid.specs.declared.drawn.Ink.{Ink}
use Rattle.mus_laid.specs.declared.drawn.LaneInk.{LaneInk}
use Rattle.mus_laid.specs.declared.laid.Laid.{Laid}
use Rattle.mus_laid.specs.Ranked.{drawn_at, ink_at, stands_at_rank}

pub false_not_true : false ≡ true → ⊥
false_not_true h = cc

-- ---- keys
pub same_itself : (k : ColumnKey) → same_key k k ≡ true
unfolding same_key
same_itself k = grind (arith, nat_tests)

pub below_differs : (k l : ColumnKey) → is_below k l ≡ true → same_key l k ≡ false
unfolding is_below same_key
below_differs k l h = grind (arith, nat_tests)

pub above_differs : (k l : ColumnKey) → is_below k l ≡ true → same_key k l ≡ false
unfolding is_below same_key
above_differs k l h = grind (arith, nat_tests)

pub same_unless_below : (k l : ColumnKey) → is_below k l ≡ false → is_below l k ≡ false → same_key l k ≡ true
unfolding is_below same_key
same_unless_below k l h g = grind (arith, nat_tests)

same_class : (k l : Class) → class_number k ≡ class_number l → k ≡ l
same_class k l h = grind (arith, nat_tests)

same_parts : (m n t u : ℕ) (c d : Class) (p q : ℕ) → m ≡ n → t ≡ u → c ≡ d → p ≡ q → key_at m t c p ≡ key_at n u d q
same_parts m n t u c d p q e f g h = rw (e, f, g, h) refl

pub is_same : (k l : ColumnKey) → same_key k l ≡ true → k ≡ l
unfolding same_key
is_same k l h =
    same_parts k.measure l.measure k.tick l.tick k.class l.class k.place l.place (grind (arith, nat_tests))
    (grind (arith, nat_tests)) (same_class k.class l.class (grind (arith, nat_tests))) (grind (arith, nat_tests))

-- two keys of a system have one rank if they are the same
pub rank_same : (keys : List ColumnKey) (k l : ColumnKey)
    → Contains keys k → Contains keys l → (key_rank keys k == key_rank keys l) ≡ same_key l k
rank_same keys k l has own = by (is_below k l) (is_below l k) refl refl
  where
    by : (b c : Bool) → is_below k l ≡ b → is_below l k ≡ c → (key_rank keys k == key_rank keys l) ≡ same_key l k
    by true c e f =
        let less = rank_rises_more keys k l e has in
        ne_eqb (key_rank keys k) (key_rank keys l) (λ same. omega (arith, same, less)) ∙ sym (below_differs k l e)
    by false true e f =
        let less = rank_rises_more keys l k f own in
        ne_eqb (key_rank keys k) (key_rank keys l) (λ same. omega (arith, same, less)) ∙ sym (above_differs l k f)
    by false false e f =
        let same = same_unless_below k l e f in
        eq-eqb (key_rank keys k) (key_rank keys l) (ap (key_rank keys) (sym (is_same l k same))) ∙ sym same

-- ---- keys that rise
pub below_in : (k l : ColumnKey) (ls : List ColumnKey) → BelowAll k ls → Contains ls l → is_below k l ≡ true
below_in k l [] below (i, inside, is) = absurd (omega (arith, inside))
below_in k l (m ∷ ls) below (zero, inside, is) = subst (λ x. is_below k x ≡ true) is below.0
below_in k l (m ∷ ls) below (suc i, inside, is) = below_in k l ls below.1 (i, omega (arith, inside), is)

no_key_below : (k : ColumnKey) (ls : List ColumnKey) → BelowAll k ls → filter (λ l. same_key l k) ls ≡ []
no_key_below k [] below = refl
no_key_below k (l ∷ ls) below =
    ap (λ b. cond b (l ∷ filter (λ l. same_key l k) ls) (filter (λ l. same_key l k) ls)) (below_differs k l below.0)
    ∙ no_key_below k ls below.1

-- have each of their keys once
pub once : (k : ColumnKey) (ls : List ColumnKey)
    → Rises ls → Contains ls k → filter (λ l. same_key l k) ls ≡ k ∷ []
once k [] rise (i, inside, is) = absurd (omega (arith, inside))
once k (l ∷ ls) rise (zero, inside, is) =
    ap (λ b. cond b (l ∷ filter (λ l. same_key l k) ls) (filter (λ l. same_key l k) ls))
    (ap (λ z. same_key z k) is ∙ same_itself k)
    ∙ ap (λ t. l ∷ t) (no_key_below k ls (subst (λ z. BelowAll z ls) is rise.0))
    ∙ ap (λ z. z ∷ []) is
once k (l ∷ ls) rise (suc i, inside, is) =
    let has : Contains ls k = (i, omega (arith, inside), is) in
    ap (λ b. cond b (l ∷ filter (λ l. same_key l k) ls) (filter (λ l. same_key l k) ls))
    (above_differs l k (below_in l k ls rise.0 has))
    ∙ once k ls rise.1 has

-- ---- along the keys of a system
pub along : {A : Type 0} (f : ℕ → List A) (g : ColumnKey → List A) (ks : List ColumnKey) (r : ℕ)
    → ((i : ℕ) (d : ColumnKey) → i < length ks → f (r + i) ≡ g (slice_index_or ks i d))
    → flat_map f (range_with_len r (length ks)) ≡ flat_map g ks
along f g [] r same = refl
along f g (k ∷ ks) r same =
    let here : r + 0 ≡ r = omega arith in
    ap (λ t. t ++ flat_map f (range_with_len (r + 1) (length ks))) (sym (ap f here) ∙ same 0 k (omega arith))
    ∙ ap (λ t. g k ++ t)
    (along f g ks (r + 1)
    (λ i d inside.
    let e : r + 1 + i ≡ r + suc i = omega arith in ap f e ∙ same (suc i) d (omega (arith, inside))))

-- ---- things with keys
module _ {S : Type 0} (key : S → ColumnKey) where
  abbrev pub at : ColumnKey → List S → List S
  at k ss = filter (λ s. same_key (key s) k) ss

  -- nothing, or one thing with that key
  abbrev pub AtMostOne : ColumnKey → List S → Type 0
  AtMostOne k found = (found ≡ []) ⊎ ((s : S) × (key s ≡ k) × (found ≡ s ∷ []))

  none_above : (k l : ColumnKey) (ss : List S) → is_below k l ≡ true → BelowAll l (map key ss) → at k ss ≡ []
  none_above k l [] h below = refl
  none_above k l (s ∷ ss) h below =
      ap (λ b. cond b (s ∷ at k ss) (at k ss)) (below_differs k (key s) (below_through k l (key s) h below.0))
      ∙ none_above k l ss h below.1

  none_at : (k : ColumnKey) (ss : List S) → BelowAll k (map key ss) → at k ss ≡ []
  none_at k [] below = refl
  none_at k (s ∷ ss) below =
      ap (λ b. cond b (s ∷ at k ss) (at k ss)) (below_differs k (key s) below.0) ∙ none_at k ss below.1

  none_unlike : (k : ColumnKey) (ss : List S) → AllByRecursion (λ s. same_key (key s) k ≡ false) ss → at k ss ≡ []
  none_unlike k [] unlike = refl
  none_unlike k (s ∷ ss) unlike =
      ap (λ b. cond b (s ∷ at k ss) (at k ss)) unlike.0 ∙ none_unlike k ss unlike.1

  -- before or after things that have other keys
  pub at_after : (k : ColumnKey) (ss ts : List S)
      → AllByRecursion (λ s. same_key (key s) k ≡ false) ss → at k (ss ++ ts) ≡ at k ts
  at_after k ss ts unlike =
      filter-append (λ s. same_key (key s) k) ss ts ∙ ap (λ t. t ++ at k ts) (none_unlike k ss unlike)

  pub at_before : (k : ColumnKey) (ss ts : List S)
      → AllByRecursion (λ t. same_key (key t) k ≡ false) ts → at k (ss ++ ts) ≡ at k ss
  at_before k ss ts unlike =
      filter-append (λ s. same_key (key s) k) ss ts
      ∙ ap (λ t. at k ss ++ t) (none_unlike k ts unlike) ∙ append-nil (at k ss)

  pub one_at : (k : ColumnKey) (ss : List S) → Rises (map key ss) → AtMostOne k (at k ss)
  one_at k [] rise = inl refl
  one_at k (s ∷ ss) rise = by (same_key (key s) k) refl (one_at k ss rise.1)
    where
      by : (b : Bool)
          → same_key (key s) k ≡ b → AtMostOne k (at k ss) → AtMostOne k (cond b (s ∷ at k ss) (at k ss))
      by true e more =
          let same = is_same (key s) k e in
          inr (s, same, ap (λ t. s ∷ t) (none_at k ss (subst (λ l. BelowAll l (map key ss)) same rise.0)))
      by false e more = more

  pub some_at : (k : ColumnKey) (ss : List S) → Contains (map key ss) k → 1 ≤ length (at k ss)
  some_at k [] (i, inside, is) = absurd (omega (arith, inside))
  some_at k (s ∷ ss) (zero, inside, is) =
      subst (λ b. 1 ≤ length (cond b (s ∷ at k ss) (at k ss))) (sym (ap (λ l. same_key l k) is ∙ same_itself k))
      (omega arith)
  some_at k (s ∷ ss) (suc i, inside, is) = by (same_key (key s) k) (some_at k ss (i, omega (arith, inside), is))
    where
      by : (b : Bool) → 1 ≤ length (at k ss) → 1 ≤ length (cond b (s ∷ at k ss) (at k ss))
      by true more = omega arith
      by false more = more

  module _ {A : Type 0} (f : S → List A) where
    abbrev here_at : List S → ColumnKey → List A
    here_at ss k = flat_map f (at k ss)

    nothing_left : (ks : List ColumnKey) → flat_map (here_at []) ks ≡ []
    nothing_left [] = refl
    nothing_left (k ∷ ks) = nothing_left ks

    -- a thing before all these keys is at none of them
    skipped : (s : S) (ss : List S) (ks : List ColumnKey)
        → BelowAll (key s) ks → flat_map (here_at (s ∷ ss)) ks ≡ flat_map (here_at ss) ks
    skipped s ss [] below = refl
    skipped s ss (k ∷ ks) below =
        ap (λ b. flat_map f (cond b (s ∷ at k ss) (at k ss)) ++ flat_map (here_at (s ∷ ss)) ks)
        (above_differs (key s) k below.0)
        ∙ ap (λ t. here_at ss k ++ t) (skipped s ss ks below.1)

    -- keys of things after a key are among the keys after it
    still_among : (k : ColumnKey) (ks : List ColumnKey) (ss : List S)
        → BelowAll k (map key ss) → AllByRecursion (λ s. Contains (k ∷ ks) (key s)) ss
        → AllByRecursion (λ s. Contains ks (key s)) ss
    still_among k ks [] below among = tt
    still_among k ks (s ∷ ss) below among = (by among.0, still_among k ks ss below.1 among.1)
      where
        by : Contains (k ∷ ks) (key s) → Contains ks (key s)
        by (zero, inside, is) =
            absurd (false_not_true (sym (not_itself k) ∙ subst (λ l. is_below k l ≡ true) (sym is) below.0))
        by (suc i, inside, is) = (i, omega (arith, inside), is)

    below_rest : (k l : ColumnKey) (ls : List ColumnKey) → is_below k l ≡ true → BelowAll l ls → BelowAll k ls
    below_rest k l [] h below = tt
    below_rest k l (m ∷ ls) h below = (below_through k l m h below.0, below_rest k l ls h below.1)

    -- things whose keys rise, each among the rising keys of a system, come in the order of these
    pub in_order : (ks : List ColumnKey) (ss : List S)
        → Rises ks → Rises (map key ss) → AllByRecursion (λ s. Contains ks (key s)) ss
        → flat_map f ss ≡ flat_map (here_at ss) ks
    in_order ks [] rise own among = sym (nothing_left ks)
    in_order [] (s ∷ ss) rise own ((i, inside, is), more) = absurd (omega (arith, inside))
    in_order (k ∷ ks) (s ∷ ss) rise own ((zero, inside, is), more) =
        let after = subst (λ l. BelowAll l (map key ss)) (sym is) own.0 in
        let rest = in_order ks ss rise.1 own.1 (still_among k ks ss after more) in
        let one : at k (s ∷ ss) ≡ s ∷ [] =
        ap (λ b. cond b (s ∷ at k ss) (at k ss))
        (ap (λ l. same_key l k) (sym is) ∙ same_itself k)
        ∙ ap (λ t. s ∷ t) (none_at k ss after) in
        ap (λ t. f s ++ t) (rest ∙ sym (skipped s ss ks (subst (λ l. BelowAll l ks) is rise.0)))
        ∙ ap (λ t. t ++ flat_map (here_at (s ∷ ss)) ks) (sym (append-nil (f s)) ∙ ap (flat_map f) (sym one))
    in_order (k ∷ ks) (s ∷ ss) rise own ((suc i, inside, is), more) =
        let has : Contains ks (key s) = (i, omega (arith, inside), is) in
        let less = below_in k (key s) ks rise.0 has in
        let none : at k (s ∷ ss) ≡ [] =
        ap (λ b. cond b (s ∷ at k ss) (at k ss)) (below_differs k (key s) less)
        ∙ none_at k ss (below_rest k (key s) (map key ss) less own.0) in
        in_order ks (s ∷ ss) rise.1 own
        (has, still_among k ks ss (below_rest k (key s) (map key ss) less own.0) more)
        ∙ ap (λ t. flat_map f t ++ flat_map (here_at (s ∷ ss)) ks) (sym none)

  -- ---- the marks of things in their columns
  module _ (keys : List ColumnKey) (ink : S → List LaneInk) where
    abbrev pub laid_at_key : S → List Laid
    laid_at_key s = map (drawn_at (key_rank keys (key s))) (ink s)

    stands : (r q : ℕ) (d : LaneInk) → stands_at_rank r (drawn_at q d) ≡ (r == q)
    stands r q d = by d.ink
      where
        by : (i : Ink) → stands_at_rank r (record { mark = ink_at q i; lane = d.lane }) ≡ (r == q)
        by (Ink.Glyph glyph dx dy) = refl
        by (Ink.Words size dx dy text) = refl
        by (Ink.Stem dx from to) = refl

    pub column_kept : (r q : ℕ) (b : Bool) (ds : List LaneInk)
        → (r == q) ≡ b → filter (stands_at_rank r) (map (drawn_at q) ds) ≡ (if b then map (drawn_at q) ds else [])
    column_kept r q true [] e = refl
    column_kept r q false [] e = refl
    column_kept r q true (d ∷ ds) e =
        ap (λ b. cond b (drawn_at q d ∷ filter (stands_at_rank r) (map (drawn_at q) ds))
        (filter (stands_at_rank r) (map (drawn_at q) ds)))
        (stands r q d ∙ e)
        ∙ ap (λ t. drawn_at q d ∷ t) (column_kept r q true ds e)
    column_kept r q false (d ∷ ds) e =
        ap (λ b. cond b (drawn_at q d ∷ filter (stands_at_rank r) (map (drawn_at q) ds))
        (filter (stands_at_rank r) (map (drawn_at q) ds)))
        (stands r q d ∙ e)
        ∙ column_kept r q false ds e

    -- marks in the column of a key are those of the things at it
    pub in_column : (k : ColumnKey) (ss : List S)
        → Contains keys k → AllByRecursion (λ s. Contains keys (key s)) ss
        → filter (stands_at_rank (key_rank keys k)) (flat_map laid_at_key ss) ≡ flat_map laid_at_key (at k ss)
    in_column k [] has among = refl
    in_column k (s ∷ ss) has among =
        let r = key_rank keys k in
        let q = key_rank keys (key s) in
        filter-append (stands_at_rank r) (laid_at_key s) (flat_map laid_at_key ss)
        ∙ ap (λ t. t ++ filter (stands_at_rank r) (flat_map laid_at_key ss))
        (column_kept r q (same_key (key s) k) (ink s) (rank_same keys k (key s) has among.0))
        ∙ ap (λ t. cond (same_key (key s) k) (laid_at_key s) [] ++ t) (in_column k ss has among.1)
        ∙ by (same_key (key s) k)
      where
        by : (b : Bool)
            → cond b (laid_at_key s) [] ++ flat_map laid_at_key (at k ss)
            ≡ flat_map laid_at_key (cond b (s ∷ at k ss) (at k ss))
        by true = refl
        by false = refl

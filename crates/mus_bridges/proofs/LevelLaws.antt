-- The beams that are drawn event by event are those of the levels.
use Rattle.std.proofs.Common.{◌≡◌, ℕ, zero, suc, ◌+◌, ◌-◌, ◌≤◌, ◌<◌, ◌==◌, ◌⊎◌, inl, inr, nat_lt, Bool, true, false}
use Rattle.std.proofs.Common.{cond, ◌&&◌, List, [], ◌∷◌, ◌++◌, append-nil, map, take, drop, filter, refl, sym, ◌∙◌, ap}
use Rattle.std.proofs.Common.{arith}
use Rattle.std.proofs.lemmas.Bool.{true≢false, false≢true, cases_lt, eq-eqb, ne_eqb, lt-ltb, ltb-true, ltb-false}
use Rattle.std.proofs.lemmas.Bool.{le-ltb, and_right}
use Rattle.std.specs.List.{AllByRecursion}
use Rattle.mus_stems.specs.Runs.{runs, put_before, run_more}
use Rattle.mus_stems.proofs.RunLaws.{maximal_runs, runs_prefix}
use Rattle.mus_ink.proofs.Counting.{one_less}
use Rattle.mus_bridges.specs.declared.stems.BeamStem.{BeamStem}
use Rattle.mus_bridges.specs.Beams.{goes_on_at_level, last_at, level_from, levels_from, levels_before, beams_at}
use Rattle.mus_bridges.specs.Beams.{beams_from, beam_marks}
use Rattle.mus_bridges.specs.Levels.{joins, Level, last_in, long_runs, is_at, LevelsRise, ByFirst, AreLevels, bridge_of}
use Rattle.mus_bridges.specs.Levels.{OfOtherKeys, KeysDiffer, BeamsByLevels}
use Rattle.mus_onsets.specs.{declared.keys.ColumnKey.ColumnKey, Order.same_key}

-- one level fewer
pub levels_step : (k n : ℕ) (p : BeamStem) (qs : List BeamStem) → k < n →
    levels_from k (n - k) p qs ≡ level_from k p (last_at k p qs) ++ levels_from (k + 1) (n - (k + 1)) p qs
levels_step k n p qs lt = rw (one_less k n lt) refl

-- the levels that begin at an event, one after another
abbrev level_at : ℕ → BeamStem → List BeamStem → List Level
level_at k p [] = []
level_at k p (q ∷ qs) = cond (goes_on_at_level k p q) (record { level = k; first = p; last = last_at k q qs } ∷ []) []

abbrev levels_at : ℕ → ℕ → BeamStem → List BeamStem → List Level
levels_at k zero p qs = []
levels_at k (suc n) p qs = level_at k p qs ++ levels_at (k + 1) n p qs

levels_of : ℕ → ℕ → List BeamStem → List Level
levels_of group flags [] = []
levels_of group flags (p ∷ ps) =
    levels_at (levels_before p group flags) (p.flags - levels_before p group flags) p ps ++ levels_of p.group p.flags ps

and_both : (x y : Bool) → (x && y) ≡ true → (x ≡ true) × (y ≡ true)
and_both true y e = (refl, e)
and_both false y e = absurd (false≢true e)

-- of the runs that begin at an event at most one is at a level
filter_append : (k : ℕ) (xs ys : List Level) → filter (is_at k) (xs ++ ys) ≡ filter (is_at k) xs ++ filter (is_at k) ys
filter_append k [] ys = refl
filter_append k (x ∷ xs) ys = step (is_at k x) (filter_append k xs ys)
  where
    step : (b : Bool) → filter (is_at k) (xs ++ ys) ≡ filter (is_at k) xs ++ filter (is_at k) ys →
        cond b (x ∷ filter (is_at k) (xs ++ ys)) (filter (is_at k) (xs ++ ys))
        ≡ cond b (x ∷ filter (is_at k) xs) (filter (is_at k) xs) ++ filter (is_at k) ys
    step true e = ap (λ t. x ∷ t) e
    step false e = e

pick_none : (b : Bool) → [] ≡ cond {A = List Level} b [] []
pick_none true = refl
pick_none false = refl

one_level : (k j : ℕ) (p : BeamStem) (qs : List BeamStem)
    → filter (is_at k) (level_at j p qs) ≡ cond (j == k) (level_at j p qs) []
one_level k j p [] = pick_none (j == k)
one_level k j p (q ∷ qs) = step (goes_on_at_level j p q)
  where
    step : (g : Bool)
        → filter (is_at k) (cond g (record { level = j; first = p; last = last_at j q qs } ∷ []) [])
        ≡ cond (j == k) (cond g (record { level = j; first = p; last = last_at j q qs } ∷ []) []) []
    step true = refl
    step false = pick_none (j == k)

none_at : (k j n : ℕ) (p : BeamStem) (qs : List BeamStem)
    → (j ≤ k → j + n ≤ k) → filter (is_at k) (levels_at j n p qs) ≡ []
none_at k j zero p qs h = refl
none_at k j (suc n) p qs h =
    let other : (j == k) ≡ false = ne_eqb j k (λ e. (let g = h (omega (arith, e)) in omega (arith, e, g))) in
    filter_append k (level_at j p qs) (levels_at (j + 1) n p qs)
    ∙ (λ i.
    (one_level k j p qs ∙ ap (λ b. cond b (level_at j p qs) []) other) i
    ++ none_at k (j + 1) n p qs (λ l. (let g = h (omega (arith, l)) in omega (arith, g))) i)

some_at : (k j n : ℕ) (p : BeamStem) (qs : List BeamStem)
    → j ≤ k → k < j + n → filter (is_at k) (levels_at j n p qs) ≡ level_at k p qs
some_at k j zero p qs low high = absurd (omega (arith, low, high))
some_at k j (suc n) p qs low high =
    by (cases_lt j k) (λ l. some_at k (j + 1) n p qs (omega (arith, l)) (omega (arith, high)))
  where
    split : filter (is_at k) (levels_at j (suc n) p qs)
        ≡ cond (j == k) (level_at j p qs) [] ++ filter (is_at k) (levels_at (j + 1) n p qs)
    split =
        filter_append k (level_at j p qs) (levels_at (j + 1) n p qs)
        ∙ ap (λ t. t ++ filter (is_at k) (levels_at (j + 1) n p qs)) (one_level k j p qs)

    by : (j < k) ⊎ (k ≤ j)
        → (j < k → filter (is_at k) (levels_at (j + 1) n p qs) ≡ level_at k p qs)
        → filter (is_at k) (levels_at j (suc n) p qs) ≡ level_at k p qs
    by (inl l) more =
        let other : (j == k) ≡ false = ne_eqb j k (λ e. omega (arith, e, l)) in
        split ∙ (λ i. cond (other i) (level_at j p qs) [] ++ more l i)
    by (inr g) more =
        let same : j ≡ k = omega (arith, low, g) in
        split
        ∙ (λ i.
        cond (eq-eqb j k same i) (level_at (same i) p qs) []
        ++ none_at k (j + 1) n p qs (λ l. absurd (omega (arith, l, g))) i)
        ∙ append-nil (level_at k p qs)

alone : (k j n : ℕ) (p : BeamStem) → filter (is_at k) (levels_at j n p []) ≡ []
alone k j zero p = refl
alone k j (suc n) p = alone k (j + 1) n p

-- the run that continues from an event
run_last : (k : ℕ) (q : BeamStem) (qs : List BeamStem)
    → k < q.flags → last_at k q qs ≡ last_in q (take (run_more (joins k) q qs) qs)
unfolding goes_on_at_level
run_last k q [] has = refl
run_last k q (x ∷ xs) has = step (goes_on_at_level k q x) refl (run_last k x xs)
  where
    at : nat_lt k q.flags ≡ true
    at = lt-ltb k q.flags has

    step : (g : Bool)
        → goes_on_at_level k q x ≡ g → (k < x.flags → last_at k x xs ≡ last_in x (take (run_more (joins k) x xs) xs))
        → cond g (last_at k x xs) q
        ≡ last_in q (take (cond (g && nat_lt k q.flags) (suc (run_more (joins k) x xs)) 0) (x ∷ xs))
    step true e more = rw at (more (ltb-true k x.flags ((and_both (x.group == q.group) (nat_lt k x.flags) e).1)))
    step false e more = refl

-- whether the first event continues a run at level k of an event before it, in a beam with this number of flags
goes_on_from : ℕ → ℕ → ℕ → BeamStem → Bool
goes_on_from k group flags p = ((p.group == group) && nat_lt k p.flags) && nat_lt k flags

abbrev skip : Bool → List (List BeamStem) → List (List BeamStem)
skip false rs = rs
skip true [] = []
skip true (r ∷ rs) = rs

abbrev fresh : ℕ → ℕ → ℕ → List BeamStem → List (List BeamStem)
fresh k group flags [] = []
fresh k group flags (p ∷ ps) = skip (goes_on_from k group flags p) (runs (joins k) (p ∷ ps))

-- what begins at an event at level k
begins_not : (k group flags : ℕ) (p : BeamStem) (qs : List BeamStem) → goes_on_from k group flags p ≡ true →
    filter (is_at k) (levels_at (levels_before p group flags) (p.flags - levels_before p group flags) p qs) ≡ []
unfolding goes_on_from levels_before
begins_not k group flags p qs e =
    let parts = and_both ((p.group == group) && nat_lt k p.flags) (nat_lt k flags) e in
    let more = and_both (p.group == group) (nat_lt k p.flags) parts.0 in
    let below : k < flags = ltb-true k flags parts.1 in
    rw more.0 (none_at k flags (p.flags - flags) p qs (λ l. absurd (omega (arith, l, below))))

begins_here : (k group flags : ℕ) (p : BeamStem) (qs : List BeamStem)
    → k < p.flags → goes_on_from k group flags p ≡ false
    → filter (is_at k) (levels_at (levels_before p group flags) (p.flags - levels_before p group flags) p qs)
    ≡ level_at k p qs
unfolding goes_on_from levels_before
begins_here k group flags p qs has e =
    step (p.group == group) (ap (λ b. ((p.group == group) && b) && nat_lt k flags) (sym (lt-ltb k p.flags has)) ∙ e)
  where
    step : (g : Bool) → (g && true) && nat_lt k flags ≡ false
        → filter (is_at k) (levels_at (cond g flags 0) (p.flags - cond g flags 0) p qs) ≡ level_at k p qs
    step true h =
        (let above = ltb-false k flags h in some_at k flags (p.flags - flags) p qs above (omega (arith, above, has)))
    step false h = some_at k 0 (p.flags - 0) p qs (omega arith) (omega (arith, has))

begins_never : (k group flags : ℕ) (p : BeamStem) (qs : List BeamStem) → p.flags ≤ k →
    filter (is_at k) (levels_at (levels_before p group flags) (p.flags - levels_before p group flags) p qs) ≡ []
begins_never k group flags p qs few =
    let lb = levels_before p group flags in none_at k lb (p.flags - lb) p qs (λ l. omega (arith, few, l))

-- the levels that are drawn are those of the runs, event by event
levels_are : (k group flags : ℕ) (es : List BeamStem)
    → filter (is_at k) (levels_of group flags es) ≡ long_runs k (fresh k group flags es)
unfolding levels_of goes_on_from goes_on_at_level
levels_are k group flags [] = refl
levels_are k group flags (p ∷ []) =
    filter_append k (levels_at (levels_before p group flags) (p.flags - levels_before p group flags) p []) []
    ∙ ap (λ t. t ++ []) (alone k (levels_before p group flags) (p.flags - levels_before p group flags) p)
    ∙ none (goes_on_from k group flags p)
  where
    none : (b : Bool) → [] ≡ long_runs k (skip b ((p ∷ []) ∷ []))
    none true = refl
    none false = refl
levels_are k group flags (p ∷ q ∷ qs) =
    filter_append k here (levels_of p.group p.flags (q ∷ qs))
    ∙ ap (λ t. filter (is_at k) here ++ t)
    (levels_are k p.group p.flags (q ∷ qs) ∙ ap (λ t. long_runs k (skip (goes_on_from k p.group p.flags q) t)) prefix)
    ∙ by (goes_on_from k group flags p) refl (cases_lt k p.flags)
    ∙ sym (ap (λ t. long_runs k (skip (goes_on_from k group flags p) (put_before (joins k) p t))) prefix)
  where
    here : List Level
    here = levels_at (levels_before p group flags) (p.flags - levels_before p group flags) p (q ∷ qs)

    r : List BeamStem
    r = take (run_more (joins k) q qs) qs

    rs : List (List BeamStem)
    rs = runs (joins k) (drop (run_more (joins k) q qs) qs)

    prefix : runs (joins k) (q ∷ qs) ≡ (q ∷ r) ∷ rs
    prefix = runs_prefix (joins k) q qs

    -- the first run is passed over if p continues into it
    two : (j b : Bool) → (b ≡ true)
        → long_runs k (skip j ((q ∷ r) ∷ rs))
        ≡ long_runs k (skip b (cond j ((p ∷ q ∷ r) ∷ rs) ((p ∷ []) ∷ (q ∷ r) ∷ rs)))
    two true true e = refl
    two false true e = refl
    two j false e = absurd (false≢true e)

    apart : (j : Bool) → j ≡ false
        → long_runs k (skip j ((q ∷ r) ∷ rs)) ≡ long_runs k (cond j ((p ∷ q ∷ r) ∷ rs) ((p ∷ []) ∷ (q ∷ r) ∷ rs))
    apart true e = absurd (true≢false e)
    apart false e = refl

    begun : (g : Bool) → goes_on_at_level k p q ≡ g → nat_lt k p.flags ≡ true →
        cond g (record { level = k; first = p; last = last_at k q qs } ∷ []) []
        ++ long_runs k (skip (g && nat_lt k p.flags) ((q ∷ r) ∷ rs))
        ≡ long_runs k (cond (g && nat_lt k p.flags) ((p ∷ q ∷ r) ∷ rs) ((p ∷ []) ∷ (q ∷ r) ∷ rs))
    begun true e f =
        rw f (ap (λ z. record { level = k; first = p; last = z } ∷ long_runs k rs)
        (run_last k q qs (ltb-true k q.flags (and_both (q.group == p.group) (nat_lt k q.flags) e).1)))
    begun false e f = refl

    by : (b : Bool) → goes_on_from k group flags p ≡ b → (k < p.flags) ⊎ (p.flags ≤ k) →
        filter (is_at k) here ++ long_runs k (skip (goes_on_from k p.group p.flags q) ((q ∷ r) ∷ rs))
        ≡ long_runs k (skip (goes_on_from k group flags p) (put_before (joins k) p ((q ∷ r) ∷ rs)))
    by true e h =
        ap (λ t. t ++ long_runs k (skip (goes_on_from k p.group p.flags q) ((q ∷ r) ∷ rs)))
        (begins_not k group flags p (q ∷ qs) e)
        ∙ two (goes_on_from k p.group p.flags q) (goes_on_from k group flags p) e
    by false e (inl has) =
        ap (λ t. t ++ long_runs k (skip (goes_on_from k p.group p.flags q) ((q ∷ r) ∷ rs)))
        (begins_here k group flags p (q ∷ qs) has e)
        ∙ begun (goes_on_at_level k p q) refl (lt-ltb k p.flags has)
        ∙ ap (λ b. long_runs k (skip b (put_before (joins k) p ((q ∷ r) ∷ rs)))) (sym e)
    by false e (inr few) =
        ap (λ t. t ++ long_runs k (skip (goes_on_from k p.group p.flags q) ((q ∷ r) ∷ rs)))
        (begins_never k group flags p (q ∷ qs) few)
        ∙ apart (goes_on_from k p.group p.flags q)
        (and_right ((q.group == p.group) && nat_lt k q.flags) (nat_lt k p.flags) (le-ltb k p.flags few))
        ∙ ap (λ b. long_runs k (skip b (put_before (joins k) p ((q ∷ r) ∷ rs)))) (sym e)

-- by first event, and at one event by level
begin_there : (j n : ℕ) (p : BeamStem) (qs : List BeamStem)
    → AllByRecursion (λ (l : Level). l.first ≡ p) (levels_at j n p qs)
begin_there j zero p qs = tt {0}
begin_there j (suc n) p [] = begin_there (j + 1) n p []
begin_there j (suc n) p (q ∷ qs) = step (goes_on_at_level j p q) (begin_there (j + 1) n p (q ∷ qs))
  where
    step : (g : Bool) → AllByRecursion (λ (l : Level). l.first ≡ p) (levels_at (j + 1) n p (q ∷ qs)) →
        AllByRecursion (λ (l : Level). l.first ≡ p)
        (cond g (record { level = j; first = p; last = last_at j q qs } ∷ []) [] ++ levels_at (j + 1) n p (q ∷ qs))
    step true h = (refl, h)
    step false h = h

lower : (k j : ℕ) (ls : List Level) → k ≤ j → LevelsRise j ls → LevelsRise k ls
lower k j [] le rise = tt {0}
lower k j (l ∷ ls) le rise = ((let h = rise.0 in omega (arith, h, le)), rise.1)

rise_there : (j n : ℕ) (p : BeamStem) (qs : List BeamStem) → LevelsRise j (levels_at j n p qs)
rise_there j zero p qs = tt {0}
rise_there j (suc n) p [] = lower j (j + 1) (levels_at (j + 1) n p []) (omega arith) (rise_there (j + 1) n p [])
rise_there j (suc n) p (q ∷ qs) = step (goes_on_at_level j p q) (rise_there (j + 1) n p (q ∷ qs))
  where
    step : (g : Bool) → LevelsRise (j + 1) (levels_at (j + 1) n p (q ∷ qs)) →
        LevelsRise j
        (cond g (record { level = j; first = p; last = last_at j q qs } ∷ []) [] ++ levels_at (j + 1) n p (q ∷ qs))
    step true h = (omega arith, h)
    step false h = lower j (j + 1) (levels_at (j + 1) n p (q ∷ qs)) (omega arith) h

by_first : (group flags : ℕ) (es : List BeamStem) → ByFirst es (levels_of group flags es)
unfolding levels_of
by_first group flags [] = refl
by_first group flags (p ∷ ps) =
    let lb = levels_before p group flags in (
      levels_at lb (p.flags - lb) p ps,
      levels_of p.group p.flags ps,
      refl,
      begin_there lb (p.flags - lb) p ps,
      lower 0 lb (levels_at lb (p.flags - lb) p ps) (omega arith) (rise_there lb (p.flags - lb) p ps),
      by_first p.group p.flags ps,
    )

none_before : (k : ℕ) (es : List BeamStem) → fresh k 0 0 es ≡ runs (joins k) es
unfolding goes_on_from
none_before k [] = refl
none_before k (p ∷ ps) =
    ap (λ b. skip b (runs (joins k) (p ∷ ps)))
    (and_right ((p.group == 0) && nat_lt k p.flags) (nat_lt k 0) (le-ltb k 0 (omega arith)))

are_levels : (es : List BeamStem) → AreLevels es (levels_of 0 0 es)
are_levels es = record {
  runs = λ k rs a.
      levels_are k 0 0 es ∙ ap (λ t. long_runs k t) (none_before k es ∙ sym (maximal_runs (joins k) es rs a));
  order = by_first 0 0 es;
}

-- if the events have distinct keys, a beam is drawn exactly when the run continues
last_is_other : (k : ℕ) (p q : BeamStem) (qs : List BeamStem)
    → OfOtherKeys p (q ∷ qs) → same_key p.key (last_at k q qs).key ≡ false
last_is_other k p q [] others = others.0
last_is_other k p q (x ∷ xs) others = step (goes_on_at_level k q x) (last_is_other k p x xs others.1)
  where
    step : (g : Bool)
        → same_key p.key (last_at k x xs).key ≡ false → same_key p.key (cond g (last_at k x xs) q).key ≡ false
    step true e = e
    step false e = others.0

own_key : (k : ColumnKey) → same_key k k ≡ true
unfolding same_key
own_key k = grind arith

level_drawn : (k : ℕ) (p : BeamStem) (qs : List BeamStem)
    → OfOtherKeys p qs → level_from k p (last_at k p qs) ≡ map bridge_of (level_at k p qs)
unfolding level_from
level_drawn k p [] others = rw (own_key p.key) refl
level_drawn k p (q ∷ qs) others = step (goes_on_at_level k p q)
  where
    step : (g : Bool)
        → level_from k p (cond g (last_at k q qs) p)
        ≡ map bridge_of (cond g (record { level = k; first = p; last = last_at k q qs } ∷ []) [])
    step true = rw (last_is_other k p q qs others) refl
    step false = rw (own_key p.key) refl

map_append : (xs ys : List Level) → map bridge_of (xs ++ ys) ≡ map bridge_of xs ++ map bridge_of ys
map_append [] ys = refl
map_append (x ∷ xs) ys = ap (λ t. bridge_of x ∷ t) (map_append xs ys)

levels_drawn : (k n : ℕ) (p : BeamStem) (qs : List BeamStem)
    → OfOtherKeys p qs → levels_from k n p qs ≡ map bridge_of (levels_at k n p qs)
levels_drawn k zero p qs others = refl
levels_drawn k (suc n) p qs others =
    (λ i. level_drawn k p qs others i ++ levels_drawn (k + 1) n p qs others i)
    ∙ sym (map_append (level_at k p qs) (levels_at (k + 1) n p qs))

all_drawn : (group flags : ℕ) (es : List BeamStem)
    → KeysDiffer es → beams_from group flags es ≡ map bridge_of (levels_of group flags es)
unfolding beams_at levels_of
all_drawn group flags [] differ = refl
all_drawn group flags (p ∷ ps) differ =
    let lb = levels_before p group flags in
    (λ i. levels_drawn lb (p.flags - lb) p ps differ.0 i ++ all_drawn p.group p.flags ps differ.1 i)
    ∙ sym (map_append (levels_at lb (p.flags - lb) p ps) (levels_of p.group p.flags ps))

pub beams_by_levels : BeamsByLevels
unfolding beam_marks
beams_by_levels es differ = record { levels = levels_of 0 0 es; are = are_levels es; drawn = all_drawn 0 0 es differ }

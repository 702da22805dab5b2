-- There is a chosen breaking, or none is legal and some bar is the last that is reached.
use Rattle.std.proofs.Common.{◌≡◌, ◌∙◌, refl, sym, ap, subst, ℕ, zero, suc, ◌+◌, ◌-◌, ◌<◌, ◌≤◌, ◌⊎◌, inl, inr, Bool}
use Rattle.std.proofs.Common.{true, false, List, [], ◌∷◌, length, reverse, replicate, Option, None, Some, IsSome}
use Rattle.std.proofs.Common.{is_some, slice_index, slice_index_or, slice_set, arith}
use Rattle.std.proofs.lemmas.Bool.{cases_lt, cases_eq, true≢false}
use Rattle.std.proofs.lemmas.List.{length-set, length-replicate, get_or-replicate, reverse-reverse, ext_get_or}
use Rattle.lay_breaks.specs.Breaking.{IsChosen, IsPotential, IsReached, NoneLegal, sum_from}
use Rattle.lay_breaks.specs.Table.{IsRow, IsLeastBack, IsBreakTable, IsTrying, IsOffered, LeadsBack}
use Rattle.lay_breaks.proofs.Choice.{table_some}
use Rattle.lay_breaks.proofs.Trying.{trying_first, trying_done, trying_more, trying_none}
use Rattle.lay_breaks.specs.declared.breaking.Breaking.{Breaking}
use Rattle.lay_breaks.proofs.Unique.{one_is_chosen}
use Rattle.lay_breaks.proofs.Whole as whole

abbrev no_sum : Option ℕ
no_sum = None

-- a breaking of n bars that is chosen, with its sums
pub record HasBreaking (cost : ℕ → ℕ → Option ℕ) (forced : ℕ → Bool) (n : ℕ) : Type 0 where
  pub breaks : List ℕ
  pub total : ℕ
  pub potentials : List (Option ℕ)
  pub chosen : IsChosen cost forced n breaks
  pub sum : total ≡ sum_from cost 0 breaks
  pub one_each : length potentials ≡ n + 1
  pub each : (i : ℕ) → i ≤ n → IsPotential cost forced i (slice_index_or potentials i None)

module _ (cost : ℕ → ℕ → Option ℕ) (forced : ℕ → Bool) (n : ℕ)
    (stops : (a b c : ℕ) → a < b → b < c → cost a b ≡ None → cost a c ≡ None) (free : forced 0 ≡ false) where
  -- a table of the bars, once the spans that begin below a have been tried
  record Filled (a : ℕ) : Type 0 where
    ps : List (Option ℕ)
    fs : List ℕ
    long : length ps ≡ n + 1
    wide : length fs ≡ n + 1
    known : IsBreakTable cost forced n a ps fs

  filled_as : (a : ℕ) (ps : List (Option ℕ)) (fs : List ℕ)
      → length ps ≡ n + 1 → length fs ≡ n + 1 → IsBreakTable cost forced n a ps fs → Filled a
  filled_as a ps fs long wide known = record { ps = ps; fs = fs; long = long; wide = wide; known = known }

  empty : Filled 0
  empty = record {
    ps = Some 0 ∷ replicate n no_sum;
    fs = 0 ∷ replicate n 0;
    long = let l = length-replicate n no_sum in omega (arith, l);
    wide = let l = length-replicate {A = ℕ} n 0 in omega (arith, l);
    known = record { zero_is = refl; rows = rows; falls = falls };
  }
    where
      rows : (i : ℕ) → 0 < i → i ≤ n
          → IsRow cost forced 0 i (slice_index_or (Some 0 ∷ replicate n no_sum) i None)
          (slice_index (0 ∷ replicate n 0) i)
      rows zero l m = absurd (omega (arith, l))
      rows (suc i) l m =
          rw (get_or-replicate n i no_sum None (omega (arith, m))) (λ r h. let below = h.below in omega (arith, below))

      falls : (i : ℕ) → 0 < i → i ≤ n → slice_index (0 ∷ replicate n 0) i < i
      falls zero l m = absurd (omega (arith, l))
      falls (suc i) l m = rw (get_or-replicate {A = ℕ} n i 0 0 (omega (arith, m))) (omega arith)

  record Offered (ps : List (Option ℕ)) (fs : List ℕ) (a b sum : ℕ) : Type 0 where
    qs : List (Option ℕ)
    gs : List ℕ
    long : length qs ≡ length ps
    wide : length gs ≡ length fs
    so : IsOffered (slice_index_or ps b None) sum ((qs ≡ slice_set ps b (Some sum)) × (gs ≡ slice_set fs b a))
        ((qs ≡ ps) × (gs ≡ fs))

  offer : (ps : List (Option ℕ)) (fs : List ℕ) (a b sum : ℕ) (o : Option ℕ)
      → slice_index_or ps b None ≡ o → Offered ps fs a b sum
  offer ps fs a b sum None e = record {
    qs = slice_set ps b (Some sum);
    gs = slice_set fs b a;
    long = length-set ps b (Some sum);
    wide = length-set fs b a;
    so = rw e (refl, refl);
  }
  offer ps fs a b sum (Some old) e = elim (cases_lt old sum) [
    | inl worse ↦ record { qs = ps; gs = fs; long = refl; wide = refl; so = rw e (inr (worse, (refl, refl))) }
    | inr better ↦ record {
      qs = slice_set ps b (Some sum);
      gs = slice_set fs b a;
      long = length-set ps b (Some sum);
      wide = length-set fs b a;
      so = rw e (inl (better, (refl, refl)));
    }
  ]

  module _ (a p : ℕ) (best : IsLeastBack cost forced a p) where
    -- what continues after bar b
    abbrev GoesOn : ℕ → Type 0
    GoesOn b =
        (ps : List (Option ℕ)) (fs : List ℕ)
        → length ps ≡ n + 1 → length fs ≡ n + 1 → ((f : ℕ) → a < f → f < b → forced f ≡ true → ⊥)
        → IsTrying cost forced n a b ps fs
        → Filled (a + 1)

    by_forced : (b : ℕ) (ps : List (Option ℕ)) (fs : List ℕ) (t : Bool)
        → forced b ≡ t → a < b → length ps ≡ n + 1 → length fs ≡ n + 1
        → ((f : ℕ) → a < f → f < b → forced f ≡ true → ⊥) → IsTrying cost forced n a (b + 1) ps fs → GoesOn (b + 1)
        → Filled (a + 1)
    by_forced b ps fs true is l long wide none h on =
        filled_as (a + 1) ps fs long wide
        (trying_done cost forced n a (b + 1) ps fs (omega arith) (λ i m k s. s.free b l (omega arith) is) h)
    by_forced b ps fs false is l long wide none h on =
        on ps fs long wide
        (λ f m k t. elim (cases_eq f b) [
          | inl same ↦ true≢false (sym t ∙ ap forced same ∙ is)
          | inr d ↦ none f m (grind (arith, k, d)) t
        ]) h

    by_cost : (b : ℕ) (ps : List (Option ℕ)) (fs : List ℕ) (o : Option ℕ)
        → cost a b ≡ o → b ≤ n → a < b → length ps ≡ n + 1 → length fs ≡ n + 1
        → ((f : ℕ) → a < f → f < b → forced f ≡ true → ⊥) → IsTrying cost forced n a b ps fs → GoesOn (b + 1)
        → Filled (a + 1)
    by_cost b ps fs None is e l long wide none h on =
        filled_as (a + 1) ps fs long wide
        (trying_done cost forced n a b ps fs (omega arith) (λ i m k s. elim (cases_eq b i) [
          | inl same ↦ true≢false (sym s.fits ∙ ap is_some (subst (λ i. cost a i ≡ None) same is))
          | inr d ↦ true≢false (sym s.fits ∙ ap is_some (stops a b i l (grind (arith, m, d)) is))
        ]) h)
    by_cost b ps fs (Some c) is e l long wide none h on =
        let o = offer ps fs a b (p + c) (slice_index_or ps b None) refl in
        by_forced b o.qs o.gs (forced b) refl l (o.long ∙ long) (o.wide ∙ wide) none
        (trying_more cost forced n a b c p ps o.qs fs o.gs l (omega arith) (omega arith) (omega arith) best is
        (record { rises = l; fits = rw is refl; free = none }) o.so h) on

    tried : (d b : ℕ) → b + d ≡ n + 1 → a < b → GoesOn b
    tried zero b e l ps fs long wide none h =
        filled_as (a + 1) ps fs long wide (trying_done cost forced n a b ps fs (omega arith) (λ i m k s. omega arith) h)
    tried (suc d) b e l ps fs long wide none h =
        by_cost b ps fs (cost a b) refl (omega arith) l long wide none h (tried d (b + 1) (omega arith) (omega arith))

  more : (a : ℕ) → a < n → Filled a → Filled (a + 1)
  more a l t = by (slice_index_or t.ps a None) refl
    where
      by : (o : Option ℕ) → slice_index_or t.ps a None ≡ o → Filled (a + 1)
      by None e = record {
        ps = t.ps;
        fs = t.fs;
        long = t.long;
        wide = t.wide;
        known = trying_none cost forced n a t.ps t.fs (omega arith) e t.known;
      }
      by (Some p) e =
          tried a p (table_some cost forced n a a p t.ps t.fs (omega arith) (omega arith) e t.known) (n - a) (a + 1)
          (omega arith) (omega arith) t.ps t.fs t.long t.wide
          (λ f m k is. omega arith) (trying_first cost forced n a t.ps t.fs t.known)

  filled : (a : ℕ) → a ≤ n → Filled a
  filled zero l = empty
  filled (suc a) l = let e : a + 1 ≡ suc a = omega arith in subst Filled e (more a l (filled a (omega arith)))

  walked : (fs : List ℕ)
      → ((i : ℕ) → 0 < i → i ≤ n → slice_index fs i < i) → (k i : ℕ) → i ≤ k → i ≤ n → (r : List ℕ) × LeadsBack fs i r
  walked fs falls k zero l m = ([], refl)
  walked fs falls zero (suc i) l m = absurd (omega (arith, l))
  walked fs falls (suc k) (suc i) l m =
      let f = falls (suc i) (omega arith) m in
      let w = walked fs falls k (slice_index fs (suc i)) (omega (arith, f, l)) (omega (arith, f, m)) in
      (suc i ∷ w.0, (refl, omega arith, w.1))

  record Last (ps : List (Option ℕ)) : Type 0 where
    bar : ℕ
    within : bar ≤ n
    some : IsSome (slice_index_or ps bar None)
    greatest : (i : ℕ) → i ≤ n → IsSome (slice_index_or ps i None) → i ≤ bar

  last : (ps : List (Option ℕ))
      → slice_index_or ps 0 None ≡ Some 0 → (m : ℕ) → m ≤ n
      → ((i : ℕ) → i ≤ n → IsSome (slice_index_or ps i None) → i ≤ m)
      → Last ps
  last ps z zero l top = record { bar = 0; within = l; some = rw z refl; greatest = top }
  last ps z (suc m) l top = by (slice_index_or ps (suc m) None) refl (λ t. last ps z m (omega arith) t)
    where
      by : (o : Option ℕ) → slice_index_or ps (suc m) None ≡ o
          → (((i : ℕ) → i ≤ n → IsSome (slice_index_or ps i None) → i ≤ m) → Last ps)
          → Last ps
      by (Some v) e on = record { bar = suc m; within = l; some = rw e refl; greatest = top }
      by None e on =
          on (λ i k s. elim (cases_eq i (suc m)) [
            | inl same ↦ absurd (true≢false (sym s ∙ ap is_some (ap (λ j. slice_index_or ps j None) same ∙ e)))
            | inr d ↦ (let t = top i k s in grind (arith, t, d))
          ])

  pub has_breaking : HasBreaking cost forced n
      ⊎ (NoneLegal cost forced n × ((reached : ℕ) × IsReached cost forced n reached))
  has_breaking = by (slice_index_or t.ps n None) refl
    where
      t : Filled n
      t = filled n (omega arith)

      by : (o : Option ℕ) → slice_index_or t.ps n None ≡ o
          → HasBreaking cost forced n ⊎ (NoneLegal cost forced n × ((reached : ℕ) × IsReached cost forced n reached))
      by (Some v) e =
          let w = walked t.fs t.known.falls n n (omega arith) (omega arith) in
          let f = subst (λ r. LeadsBack t.fs n r) (sym (reverse-reverse w.0)) w.1 in
          inl (record {
            breaks = reverse w.0;
            total = v;
            potentials = t.ps;
            chosen = whole.chosen cost forced free n t.ps t.fs t.known v e (reverse w.0) f;
            sum = whole.total cost forced free n t.ps t.fs t.known v e (reverse w.0) f;
            one_each = t.long;
            each = whole.potential cost forced free n t.ps t.fs t.known;
          })
      by None e =
          let k = last t.ps t.known.zero_is n (omega arith) (λ i l s. l) in
          inr (
            whole.none_at cost forced free n t.ps t.fs t.known e,
            (k.bar, whole.reached cost forced free n t.ps t.fs t.known k.bar k.within k.some k.greatest),
          )

-- a chosen breaking of n bars, its cost, and the potential of each bar
pub record IsBreaking (cost : ℕ → ℕ → Option ℕ) (forced : ℕ → Bool) (n : ℕ) (breaking : Breaking) : Type 0 where
  pub chosen : IsChosen cost forced n breaking.breaks
  pub total : breaking.total ≡ sum_from cost 0 breaking.breaks
  pub one_each : length breaking.potentials ≡ n + 1
  pub potentials : (i : ℕ) → i ≤ n → IsPotential cost forced i (slice_index_or breaking.potentials i None)

-- a bar has one potential
one_potential : (cost : ℕ → ℕ → Option ℕ) (forced : ℕ → Bool) (i : ℕ) (o p : Option ℕ)
    → IsPotential cost forced i o → IsPotential cost forced i p → o ≡ p
one_potential cost forced i None None h k = refl
one_potential cost forced i None (Some w) h k = absurd (h k.reached.0 k.reached.1)
one_potential cost forced i (Some v) None h k = absurd (k h.reached.0 h.reached.1)
one_potential cost forced i (Some v) (Some w) h k =
    let a = h.least k.reached.0 k.reached.1 in
    let b = k.least h.reached.0 h.reached.1 in
    let c = h.reached.2 in
    let d = k.reached.2 in
    let e : v ≡ w = omega (arith, a, b, c, d) in
    ap Some e

abbrev breaking_of : List ℕ → ℕ → List (Option ℕ) → Breaking
breaking_of breaks total potentials = record { breaks = breaks; total = total; potentials = potentials }

pub one_breaking : (cost : ℕ → ℕ → Option ℕ) (forced : ℕ → Bool) (n : ℕ) (x y : Breaking)
    → IsBreaking cost forced n x → IsBreaking cost forced n y → x ≡ y
one_breaking cost forced n x y h k =
    let breaks = one_is_chosen cost forced n x.breaks y.breaks h.chosen k.chosen in
    let total : x.total ≡ y.total = h.total ∙ sym (k.total ∙ rw breaks refl) in
    let long = h.one_each in
    let potentials = ext_get_or None x.potentials y.potentials (h.one_each ∙ sym k.one_each) (λ i less.
    let within : i ≤ n = omega (arith, less, long) in
    one_potential cost forced i (slice_index_or x.potentials i None) (slice_index_or y.potentials i None)
    (h.potentials i within) (k.potentials i within)) in
    let made : breaking_of x.breaks x.total x.potentials ≡ breaking_of y.breaks y.total y.potentials = cc in made

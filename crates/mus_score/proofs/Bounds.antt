-- Invariants of good music: intermediate products are small, durations are neither 0 nor too long, and no head is
-- lost.
use Rattle.mus_score.specs.Limits.{head_limit}
use Rattle.std.proofs.Common.{◌≡◌, ℕ, zero, suc, ◌+◌, ◌*◌, ◌/◌, ◌≤◌, List, [], ◌∷◌, ◌++◌, map, Bool, true, false, ◌&&◌}
use Rattle.std.proofs.Common.{max, length, length-append, refl, sym, ◌∙◌, ap, subst, nat_le, arith, lit≤, inl, inr}
use Rattle.std.proofs.Common.{if◌then◌else◌, mul_assoc, one-mul, div-le_self, le-mul_of_pos_right, le_trans, add-mul}
use Rattle.std.proofs.Common.{mul-le-mul_right}
use Rattle.std.proofs.lemmas.Bool.{and_parts, cases_Bool, leb-true}
use Rattle.std.proofs.lemmas.Bool.Decides.{nat_tests}
use Rattle.std.proofs.lemmas.List.Sums.{sum_by-cons, sum_by-append}
use Rattle.std.proofs.lemmas.List.{map-append, length-map}
use Rattle.std.proofs.lemmas.List.Elements.{All-from_recursion}
use Rattle.std.proofs.lemmas.Nat.{le-div, mul-le}
use Rattle.std.specs.List.{sum, sum_by, AllByRecursion, All}
use Rattle.mus_units.specs.declared.value.Base.{Base}
use Rattle.mus_units.specs.declared.value.Value.{Value}
use Rattle.mus_units.specs.Value.{base_length, with_dots, value_length, whole_note}
use Rattle.mus_score.specs.Good.{IsGoodNode, node_verdict, all_judged, tuplet_judged, good_step, judged_within}
use Rattle.mus_score.specs.Good.{weight_step, weight, outside, IsGoodBody, is_good_note, is_rest, longest_ticks}
use Rattle.mus_score.specs.Good.{IsGoodFlat, total_ticks, head_count, flat_weight, flat_count}
use Rattle.mus_score.specs.Times.{all_products_fit, durations_within, duration_of, flats_of, InTuplets, Leafing}
use Rattle.mus_score.specs.Times.{scaled_ticks, is_scalable, all_fit, sum_within, leaf, in_row, no_pending_leaf}
use Rattle.mus_score.specs.Times.{duration_step, duration_within, products_step, products_fit, leaves_step}
use Rattle.mus_score.specs.Times.{leaves_within}
use Rattle.mus_score.specs.declared.good.NodeVerdict.{NodeVerdict}
use Rattle.mus_score.specs.declared.good.NodeContext.{NodeContext}
use Rattle.mus_score.specs.declared.score.Event.{Event}
use Rattle.mus_score.specs.declared.score.Flat.{Flat}
use Rattle.mus_score.specs.declared.score.Music.{Music}
use Rattle.mus_score.specs.declared.score.Music.TheOpen.{Music-F}
use Rattle.mus_score.specs.declared.score.Music.TheFolds.{fold-roll-Music, map-Music, ind-Music}
use Rattle.mus_score.specs.declared.score.Music.TheViews.{roll-Music}
use Rattle.mus_score.specs.declared.times.PendingLeaf.{PendingLeaf}

-- The length of a value.
base_low : (b : Base) → 81 ≤ base_length b
base_low Base.Breve = lit≤ tt
base_low _ = lit≤ tt

base_high : (b : Base) → base_length b ≤ 2 * whole_note
base_high Base.Breve = lit≤ tt
base_high _ = lit≤ tt

dots_low : (dots n : ℕ) → n ≤ with_dots dots n
dots_low zero n = omega arith
dots_low (suc dots) n = omega arith

dots_high : (dots n : ℕ) → with_dots dots n ≤ 2 * n
dots_high zero n = omega arith
dots_high (suc dots) n = omega (arith, dots_high dots (n / 2))

pub value_low : (v : Value) → 81 ≤ value_length v
value_low v = omega (arith, base_low v.base, dots_low v.dots (base_length v.base))

pub value_high : (v : Value) → value_length v ≤ 99 * whole_note
value_high v = omega (arith, base_high v.base, dots_high v.dots (base_length v.base))

-- Events.
abbrev HasTicks : Event → Type 0
HasTicks e = e.ticks ≡ value_length e.value

pub note_ticks : (e : Event) → is_good_note e ≡ true → HasTicks e
note_ticks e h = grind (arith, nat_tests)

pub note_dots : (e : Event) → is_good_note e ≡ true → e.value.dots ≤ 3
note_dots e h = grind (arith, nat_tests)

note_heads : (e : Event) → is_good_note e ≡ true → 1 ≤ length e.heads
note_heads e h = grind (arith, nat_tests)

pub rest_ticks_inner : (e : Event) → is_rest true e ≡ true → HasTicks e
rest_ticks_inner e h = grind (arith, nat_tests)

rest_ticks_low : (e : Event) → is_rest false e ≡ true → 1 ≤ e.ticks
rest_ticks_low e h = grind (arith, nat_tests)

rest_ticks_high : (e : Event) → is_rest false e ≡ true → e.ticks ≤ 99 * whole_note
rest_ticks_high e h = grind (arith, nat_tests)

pub rest_dots : (b : Bool) (e : Event) → is_rest b e ≡ true → e.value.dots ≤ 3
rest_dots b e h = grind (arith, nat_tests)

rest_heads : (b : Bool) (e : Event) → is_rest b e ≡ true → length e.heads ≡ 0
rest_heads b e h = grind (arith, nat_tests)

-- The products of the tuplets around a node: at most nine times nine, if one tuplet is inside the other.
abbrev nines : ℕ → ℕ
nines zero = 1
nines (suc n) = 9 * nines n

nines_some : (n : ℕ) → 1 ≤ nines n
nines_some zero = omega arith
nines_some (suc n) = omega (arith, nines_some n)

pub record Around (at : NodeContext) (qs ps : ℕ) : Type 0 where
  pub some_q : 1 ≤ qs
  pub some_p : 1 ≤ ps
  pub few_q : qs * nines at.deeper ≤ 81
  pub few_p : ps * nines at.deeper ≤ 81
  pub plain : at.inner ≡ false → ps ≡ 1

within_nines : (a n : ℕ) → a * nines n ≤ 81 → a ≤ 81
within_nines a n h = le_trans (le-mul_of_pos_right a (nines_some n)) h

more_nines : (a b n : ℕ) → a * (9 * nines n) ≤ 81 → b ≤ 9 → a * b * nines n ≤ 81
more_nines a b n h k =
    let e : a * 9 * nines n ≤ 81 = subst (λ z. z ≤ 81) (sym (mul_assoc a 9 (nines n))) h in
    le_trans (mul-le (a * b) (nines n) (a * 9) (nines n) (mul-le a b a 9 (omega arith) k) (omega arith)) e

-- ticks that an event may have in a context
pub record MayLast (at : NodeContext) (ticks : ℕ) : Type 0 where
  pub low : 1 ≤ ticks
  pub high : ticks ≤ 99 * whole_note
  pub long : at.inner ≡ true → 81 ≤ ticks

scalable : (ticks qs ps : ℕ) → ticks ≤ 99 * whole_note → qs ≤ 81 → 1 ≤ ps → is_scalable ticks qs ps ≡ true
unfolding is_scalable
scalable ticks qs ps t q p =
    let h : ticks * qs ≤ 99 * whole_note * 81 = mul-le ticks qs (99 * whole_note) 81 t q in grind (arith, nat_tests)

scaled_high : (ticks qs ps : ℕ) → ticks ≤ 99 * whole_note → qs ≤ 81 → scaled_ticks ticks qs ps ≤ longest_ticks
scaled_high ticks qs ps t q = le_trans (div-le_self (ticks * qs) ps) (mul-le ticks qs (99 * whole_note) 81 t q)

scaled_low : (ticks qs ps : ℕ) → ps ≤ ticks → 1 ≤ qs → 1 ≤ ps → 1 ≤ scaled_ticks ticks qs ps
scaled_low ticks qs ps t q p =
    le-div 1 (ticks * qs) ps p
    (subst (λ z. z ≤ ticks * qs) (sym (one-mul ps)) (le_trans t (le-mul_of_pos_right ticks q)))

reaches : (at : NodeContext) (ticks qs ps : ℕ) → Around at qs ps → MayLast at ticks → ps ≤ ticks
reaches at ticks qs ps a m = elim (cases_Bool at.inner) [
  | inl i ↦ le_trans (within_nines ps at.deeper a.few_p) (m.long i)
  | inr o ↦ subst (λ z. z ≤ ticks) (sym (a.plain o)) m.low
]

-- What one or more nodes keep in a context, where w is their weight, f says that products fit, d is their duration
-- and l their leaves.
pub record Kept (at : NodeContext) (w : ℕ) (f : InTuplets Bool) (d : InTuplets ℕ) (l : Leafing)
    (qs ps : ℕ) : Type 0 where
  pub fits : f qs ps ≡ true
  pub short : d qs ps ≤ w * longest_ticks
  pub flats : (waits : PendingLeaf) → AllByRecursion IsGoodFlat (l qs ps waits).flats
  pub total : (waits : PendingLeaf) → total_ticks (l qs ps waits).flats ≡ d qs ps
  pub weights : (waits : PendingLeaf)
      → sum_by flat_weight (l qs ps waits).flats + head_count (l qs ps waits).waits.graces ≡ w + head_count waits.graces
  pub counts : (waits : PendingLeaf)
      → sum_by flat_count (l qs ps waits).flats + length (l qs ps waits).waits.graces ≤ w + length waits.graces
  pub few : (waits : PendingLeaf) → length (l qs ps waits).flats ≤ w
  pub notes : at.grace ≡ true → (waits : PendingLeaf) → head_count (map (λ x. x.event) (l qs ps waits).flats) ≡ w

abbrev Keeps : (NodeContext → NodeVerdict) → ℕ → InTuplets Bool → InTuplets ℕ → Leafing → Type 0
Keeps j w f d l = (at : NodeContext) (qs ps : ℕ) → Around at qs ps → (j at).good ≡ true → Kept at w f d l qs ps

event_keeps : (at : NodeContext) (qs ps : ℕ) (e : Event) (w : ℕ)
    → Around at qs ps → MayLast at e.ticks → e.value.dots ≤ 3 → w ≡ max 1 (length e.heads)
    → (at.grace ≡ true → length e.heads ≡ w)
    → Kept at w (is_scalable e.ticks) (scaled_ticks e.ticks) (leaf e) qs ps
event_keeps at qs ps e w a m dots is notes =
    let q : qs ≤ 81 = within_nines qs at.deeper a.few_q in
    let high : scaled_ticks e.ticks qs ps ≤ longest_ticks = scaled_high e.ticks qs ps m.high q in
    let low : 1 ≤ scaled_ticks e.ticks qs ps =
    scaled_low e.ticks qs ps (reaches at e.ticks qs ps a m) a.some_q a.some_p in
    record {
      fits = scalable e.ticks qs ps m.high q a.some_p;
      short = omega arith;
      flats = λ waits. (record { some = low; short = high; dots = dots }, tt);
      total = λ waits. omega arith;
      weights = λ waits. omega arith;
      counts = λ waits. omega arith;
      few = λ waits. omega arith;
      notes = λ g waits. let n : length e.heads ≡ w = notes g in omega arith;
    }

note_keeps : (e : Event)
    → Keeps (λ at. node_verdict (is_good_note e) true) (length e.heads) (is_scalable e.ticks) (scaled_ticks e.ticks)
    (leaf e)
note_keeps e at qs ps a good =
    let t : e.ticks ≡ value_length e.value = note_ticks e good in
    let l : 81 ≤ value_length e.value = value_low e.value in
    let h : value_length e.value ≤ 99 * whole_note = value_high e.value in
    let n : 1 ≤ length e.heads = note_heads e good in
    event_keeps at qs ps e (length e.heads) a
    (record { low = omega arith; high = omega arith; long = λ _. omega arith }) (note_dots e good) (omega arith)
    (λ _. refl)

pub guarded : (b c : Bool) → (if b then false else c) ≡ true → (b ≡ false) × (c ≡ true)
guarded true c h = absurd (cc)
guarded false c h = (refl, h)

rest_lasts : (b : Bool) (e : Event)
    → is_rest b e ≡ true → (1 ≤ e.ticks) × (e.ticks ≤ 99 * whole_note) × (b ≡ true → 81 ≤ e.ticks)
rest_lasts true e h =
    let t : e.ticks ≡ value_length e.value = rest_ticks_inner e h in
    let l : 81 ≤ value_length e.value = value_low e.value in
    let k : value_length e.value ≤ 99 * whole_note = value_high e.value in
    (omega arith, omega arith, λ _. omega arith)
rest_lasts false e h = (rest_ticks_low e h, rest_ticks_high e h, λ i. absurd (cc))

rest_keeps : (e : Event)
    → Keeps (λ at. node_verdict (if at.grace then false else is_rest at.inner e) true) 1 (is_scalable e.ticks)
    (scaled_ticks e.ticks) (leaf e)
rest_keeps e at qs ps a good =
    let g = guarded at.grace (is_rest at.inner e) good in
    let t = rest_lasts at.inner e g.1 in
    let z : length e.heads ≡ 0 = rest_heads at.inner e g.1 in
    let o : at.grace ≡ false = g.0 in
    event_keeps at qs ps e 1 a (record { low = t.0; high = t.1; long = t.2 }) (rest_dots at.inner e g.1) (omega arith)
    (λ k. absurd (cc))

-- Lists of nodes.
none_kept : (at : NodeContext) (qs ps : ℕ) → Kept at 0 (all_fit []) (sum_within []) (in_row []) qs ps
none_kept at qs ps = record {
  fits = refl;
  short = omega arith;
  flats = λ waits. tt;
  total = λ waits. refl;
  weights = λ waits. omega arith;
  counts = λ waits. omega arith;
  few = λ waits. omega arith;
  notes = λ g waits. refl;
}

all_good_append : (xs ys : List Flat)
    → AllByRecursion IsGoodFlat xs → AllByRecursion IsGoodFlat ys → AllByRecursion IsGoodFlat (xs ++ ys)
all_good_append [] ys a b = b
all_good_append (x ∷ xs) ys a b = (a.0, all_good_append xs ys a.1 b)

more_kept : (at : NodeContext) (qs ps w v : ℕ) (f : InTuplets Bool) (fs : List (InTuplets Bool)) (d : InTuplets ℕ)
    (ds : List (InTuplets ℕ)) (l : Leafing) (ls : List Leafing)
    → Kept at w f d l qs ps → Kept at v (all_fit fs) (sum_within ds) (in_row ls) qs ps
    → Kept at (w + v) (all_fit (f ∷ fs)) (sum_within (d ∷ ds)) (in_row (l ∷ ls)) qs ps
more_kept at qs ps w v f fs d ds l ls a b = record {
  fits = let x = a.fits in let y = b.fits in grind (arith, nat_tests);
  short = omega (arith, a.short, b.short, add-mul w v longest_ticks);
  flats =
      λ waits.
      all_good_append (l qs ps waits).flats (in_row ls qs ps (l qs ps waits).waits).flats (a.flats waits)
      (b.flats (l qs ps waits).waits);
  total = λ waits.
      sum_by-append (λ x. x.duration) (l qs ps waits).flats (in_row ls qs ps (l qs ps waits).waits).flats
      ∙ (let x = a.total waits in let y = b.total (l qs ps waits).waits in omega arith);
  weights = λ waits.
      let e = sum_by-append flat_weight (l qs ps waits).flats (in_row ls qs ps (l qs ps waits).waits).flats in
      let x = a.weights waits in
      let y = b.weights (l qs ps waits).waits in
      omega arith;
  counts = λ waits.
      let e = sum_by-append flat_count (l qs ps waits).flats (in_row ls qs ps (l qs ps waits).waits).flats in
      let x = a.counts waits in
      let y = b.counts (l qs ps waits).waits in
      omega arith;
  few = λ waits.
      let e = length-append (l qs ps waits).flats (in_row ls qs ps (l qs ps waits).waits).flats in
      let x = a.few waits in
      let y = b.few (l qs ps waits).waits in
      omega arith;
  notes = λ g waits.
      let fs = (l qs ps waits).flats in let gs = (in_row ls qs ps (l qs ps waits).waits).flats in
      let e : head_count (map (λ x. x.event) (fs ++ gs))
      ≡ head_count (map (λ x. x.event) fs) + head_count (map (λ x. x.event) gs) =
      ap head_count (map-append (λ x. x.event) fs gs)
      ∙ sum_by-append (λ x. length x.heads) (map (λ x. x.event) fs) (map (λ x. x.event) gs) in
      let x = a.notes g waits in let y = b.notes g (l qs ps waits).waits in omega arith;
}

abbrev MusicKeeps : Music → Type 0
MusicKeeps m = Keeps (judged_within m) (weight m) (products_fit m) (duration_within m) (leaves_within m)

abbrev BodyKeeps : List Music → Type 0
BodyKeeps ms =
    Keeps (all_judged (map judged_within ms)) (sum (map weight ms)) (all_fit (map products_fit ms))
    (sum_within (map duration_within ms)) (in_row (map leaves_within ms))

body_keeps : (ms : List Music) → AllByRecursion MusicKeeps ms → BodyKeeps ms
body_keeps [] all at qs ps a good = none_kept at qs ps
body_keeps (m ∷ ms) all at qs ps a good =
    let g = and_parts (judged_within m at).good (all_judged (map judged_within ms) at).good good in
    let first = all.0 at qs ps a g.0 in
    let others = body_keeps ms all.1 at qs ps a g.1 in
    let e : weight m + sum (map weight ms) ≡ sum (map weight (m ∷ ms)) =
    sym (sum_by-cons (λ x. x) (weight m) (map weight ms)) in
    subst (λ w.
    Kept at w (all_fit (map products_fit (m ∷ ms))) (sum_within (map duration_within (m ∷ ms)))
    (in_row (map leaves_within (m ∷ ms))) qs ps)
    e
    (more_kept at qs ps (weight m) (sum (map weight ms)) (products_fit m) (map products_fit ms) (duration_within m)
    (map duration_within ms) (leaves_within m) (map leaves_within ms) first others)

-- Graces and tuplets, by the nodes in them.
grace_keeps : (ms : List Music) (slash : Bool)
    → BodyKeeps ms
    → Keeps (good_step (Music-F.Grace (map judged_within ms) slash)) (weight_step (Music-F.Grace (map weight ms) slash))
    (products_step (Music-F.Grace (map products_fit ms) slash))
    (duration_step (Music-F.Grace (map duration_within ms) slash))
    (leaves_step (Music-F.Grace (map leaves_within ms) slash))
grace_keeps ms slash body at qs ps a good =
    let g = guarded at.grace (all_judged (map judged_within ms) (record at { grace = true })).good good in
    let some : nines at.deeper ≤ 81 = le_trans (omega (arith, mul-le-mul_right (nines at.deeper) a.some_q)) a.few_q in
    let inside = body (record at { grace = true }) 1 1
    (record { some_q = omega arith; some_p = omega arith; few_q = omega arith; few_p = omega arith; plain = λ _. refl })
    g.1 in
    let o : at.grace ≡ false = g.0 in
    record {
      fits = inside.fits;
      short = omega arith;
      flats = λ waits. tt;
      total = λ waits. refl;
      weights = λ waits.
          let n = inside.notes refl no_pending_leaf in
          let e = sum_by-append (λ x. length x.heads) waits.graces
          (map (λ x. x.event) (in_row (map leaves_within ms) 1 1 no_pending_leaf).flats) in
          omega arith;
      counts = λ waits.
          let n = inside.few no_pending_leaf in
          let gs = (in_row (map leaves_within ms) 1 1 no_pending_leaf).flats in
          let e = length-append waits.graces (map (λ x. x.event) gs) in
          let k = length-map gs (λ (x : Flat). x.event) in omega arith;
      few = λ waits. omega arith;
      notes = λ k. absurd (cc);
    }

pub record GoodTuplet (p q deeper : ℕ) (j : NodeContext → NodeVerdict) : Type 0 where
  pub some_p : 1 ≤ p
  pub few_p : p ≤ 9
  pub some_q : 1 ≤ q
  pub few_q : q ≤ 9
  pub inside : (j (record { deeper = deeper; inner = true; grace = false })).good ≡ true

tuplet_parts : (p q : ℕ) (n b : Bool)
    → (nat_le 2 p && nat_le p 9 && nat_le 1 q && nat_le q 9 && n && b) ≡ true
    → (2 ≤ p) × (p ≤ 9) × (1 ≤ q) × (q ≤ 9) × (b ≡ true)
tuplet_parts p q n b h =
    let e = and_parts (nat_le 2 p && nat_le p 9 && nat_le 1 q && nat_le q 9 && n) b h in
    let d = and_parts (nat_le 2 p && nat_le p 9 && nat_le 1 q && nat_le q 9) n e.0 in
    let c = and_parts (nat_le 2 p && nat_le p 9 && nat_le 1 q) (nat_le q 9) d.0 in
    let b = and_parts (nat_le 2 p && nat_le p 9) (nat_le 1 q) c.0 in
    let a = and_parts (nat_le 2 p) (nat_le p 9) b.0 in
    (leb-true 2 p a.0, leb-true p 9 a.1, leb-true 1 q b.1, leb-true q 9 c.1, e.1)

pub deeper_good : (p q deeper : ℕ) (js : List (NodeContext → NodeVerdict))
    → (tuplet_judged p q js deeper).good ≡ true → (d : ℕ) × (deeper ≡ suc d) × GoodTuplet p q d (all_judged js)
deeper_good p q zero js h = absurd (cc)
deeper_good p q (suc d) js h =
    let inside = all_judged js (record { deeper = d; inner = true; grace = false }) in
    let t = tuplet_parts p q inside.some inside.good h in
    (d, refl, record { some_p = omega (arith, t.0); few_p = t.1; some_q = t.2; few_q = t.3; inside = t.4 })

pub tuplet_good : (g : Bool) (p q deeper : ℕ) (js : List (NodeContext → NodeVerdict))
    → (if g then node_verdict false false else tuplet_judged p q js deeper).good ≡ true
    → (g ≡ false) × ((d : ℕ) × (deeper ≡ suc d) × GoodTuplet p q d (all_judged js))
tuplet_good true p q deeper js h = absurd (cc)
tuplet_good false p q deeper js h = (refl, deeper_good p q deeper js h)

tuplet_keeps : (p q : ℕ) (ms : List Music)
    → BodyKeeps ms
    → Keeps (good_step (Music-F.Tuplet p q (map judged_within ms))) (weight_step (Music-F.Tuplet p q (map weight ms)))
    (products_step (Music-F.Tuplet p q (map products_fit ms)))
    (duration_step (Music-F.Tuplet p q (map duration_within ms)))
    (leaves_step (Music-F.Tuplet p q (map leaves_within ms)))
tuplet_keeps p q ms body at qs ps a good =
    let g = tuplet_good at.grace p q at.deeper (map judged_within ms) good in
    let d : ℕ = g.1.0 in
    let t : GoodTuplet p q d (all_judged (map judged_within ms)) = g.1.2 in
    let more_q : qs * (9 * nines d) ≤ 81 = subst (λ z. qs * nines z ≤ 81) g.1.1 a.few_q in
    let more_p : ps * (9 * nines d) ≤ 81 = subst (λ z. ps * nines z ≤ 81) g.1.1 a.few_p in
    let few_q = more_nines qs q d more_q t.few_q in let few_p = more_nines ps p d more_p t.few_p in
    let inside = body (record { deeper = d; inner = true; grace = false }) (qs * q) (ps * p) (record {
      some_q = mul-le 1 1 qs q a.some_q t.some_q;
      some_p = mul-le 1 1 ps p a.some_p t.some_p;
      few_q = few_q;
      few_p = few_p;
      plain = λ o. absurd (cc);
    }) t.inside in
    let o : at.grace ≡ false = g.0 in
    let high_q : qs * q ≤ 81 = within_nines (qs * q) d few_q in
    let high_p : ps * p ≤ 81 = within_nines (ps * p) d few_p in
    let f = inside.fits in
    record {
      fits = grind (arith, nat_tests);
      short = inside.short;
      flats = λ waits. inside.flats (record waits { tuplets = waits.tuplets ++ p ∷ [] });
      total = λ waits. inside.total (record waits { tuplets = waits.tuplets ++ p ∷ [] });
      weights = λ waits. inside.weights (record waits { tuplets = waits.tuplets ++ p ∷ [] });
      counts = λ waits. inside.counts (record waits { tuplets = waits.tuplets ++ p ∷ [] });
      few = λ waits. inside.few (record waits { tuplets = waits.tuplets ++ p ∷ [] });
      notes = λ k. absurd (cc);
    }

-- Every node.
keeps_along : (i j : NodeContext → NodeVerdict) (v w : ℕ) (e f : InTuplets Bool) (c d : InTuplets ℕ) (k l : Leafing)
    → i ≡ j → v ≡ w → e ≡ f → c ≡ d → k ≡ l → Keeps i v e c k → Keeps j w f d l
keeps_along i j v w e f c d k l ij vw ef cd kl h =
    subst (λ z. Keeps j w f d z) kl
    (subst (λ z. Keeps j w f z k) cd
    (subst (λ z. Keeps j w z c k) ef (subst (λ z. Keeps j z e c k) vw (subst (λ z. Keeps z v e c k) ij h))))

abbrev StepKeeps : Music-F Music → Type 0
StepKeeps x =
    Keeps (good_step (map-Music Music (NodeContext → NodeVerdict) judged_within x))
    (weight_step (map-Music Music ℕ weight x)) (products_step (map-Music Music (InTuplets Bool) products_fit x))
    (duration_step (map-Music Music (InTuplets ℕ) duration_within x))
    (leaves_step (map-Music Music Leafing leaves_within x))

along : (x : Music-F Music) → StepKeeps x → MusicKeeps (roll-Music x)
along x h =
    keeps_along _ _ _ _ _ _ _ _ _ _
    (sym (fold-roll-Music (NodeContext → NodeVerdict) good_step x))
    (sym (fold-roll-Music ℕ weight_step x))
    (sym (fold-roll-Music (InTuplets Bool) products_step x))
    (sym (fold-roll-Music (InTuplets ℕ) duration_step x))
    (sym (fold-roll-Music Leafing leaves_step x))
    h

pub gathered : (P : Music → Type 0) (ys : List ((m : Music) × P m)) → AllByRecursion P (map (λ e. e.0) ys)
gathered P [] = tt
gathered P (y ∷ ys) = (y.1, gathered P ys)

pub all_music : (P : Music → Type 0) → ((m : Music) → P m) → (ms : List Music) → AllByRecursion P ms
all_music P each [] = tt
all_music P each (m ∷ ms) = (each m, all_music P each ms)

step_keeps : (y : Music-F ((m : Music) × MusicKeeps m))
    → StepKeeps (map-Music ((m : Music) × MusicKeeps m) Music (λ e. e.0) y)
step_keeps (Music-F.Note e) = note_keeps e
step_keeps (Music-F.Rest e) = rest_keeps e
step_keeps (Music-F.Grace ys slash) =
    grace_keeps (map (λ e. e.0) ys) slash (body_keeps (map (λ e. e.0) ys) (gathered MusicKeeps ys))
step_keeps (Music-F.Tuplet p q ys) =
    tuplet_keeps p q (map (λ e. e.0) ys) (body_keeps (map (λ e. e.0) ys) (gathered MusicKeeps ys))

music_keeps : (m : Music) → MusicKeeps m
music_keeps =
    ind-Music MusicKeeps (λ x y is.
    subst (λ z. MusicKeeps (roll-Music z)) is
    (along (map-Music ((m : Music) × MusicKeeps m) Music (λ e. e.0) y) (step_keeps y)))

-- Good bodies.
outermost : Around outside 1 1
outermost = record { some_q = omega arith; some_p = omega arith; few_q = lit≤ tt; few_p = lit≤ tt; plain = λ _. refl }

good_body : (ms : List Music)
    → IsGoodBody ms
    → Kept outside (sum (map weight ms)) (all_fit (map products_fit ms)) (sum_within (map duration_within ms))
    (in_row (map leaves_within ms)) 1 1
good_body ms good = body_keeps ms (all_music MusicKeeps music_keeps ms) outside 1 1 outermost good.good

pub body_fits : (ms : List Music) → IsGoodBody ms → all_products_fit ms 1 1 ≡ true
body_fits ms good = (good_body ms good).fits

pub body_short : (ms : List Music) → IsGoodBody ms → durations_within ms 1 1 ≤ head_limit * longest_ticks
body_short ms good = omega (arith, (good_body ms good).short, good.few)

pub node_fits : (m : Music) → IsGoodNode m → products_fit m 1 1 ≡ true
node_fits m good =
    let h : (products_fit m 1 1 && true) ≡ true = body_fits (m ∷ []) good in (and_parts (products_fit m 1 1) true h).0

pub node_short : (m : Music) → IsGoodNode m → duration_of m ≤ head_limit * longest_ticks
node_short m good = omega (arith, body_short (m ∷ []) good)

pub flats_good : (ms : List Music) → IsGoodBody ms → All IsGoodFlat (flats_of ms)
flats_good ms good = All-from_recursion IsGoodFlat (flats_of ms) ((good_body ms good).flats no_pending_leaf)

sum_of_nodes : (ms : List Music) → durations_within ms 1 1 ≡ sum_by duration_of ms
sum_of_nodes [] = refl
sum_of_nodes (m ∷ ms) = omega (arith, sum_of_nodes ms, sum_by-cons duration_of m ms)

pub flats_total : (ms : List Music) → IsGoodBody ms → total_ticks (flats_of ms) ≡ sum_by duration_of ms
flats_total ms good = (good_body ms good).total no_pending_leaf ∙ sum_of_nodes ms

pub flats_short : (ms : List Music) → IsGoodBody ms → total_ticks (flats_of ms) ≤ head_limit * longest_ticks
flats_short ms good = omega (arith, (good_body ms good).total no_pending_leaf, body_short ms good)

pub flats_weigh : (ms : List Music) → IsGoodBody ms → sum_by flat_weight (flats_of ms) ≤ sum (map weight ms)
flats_weigh ms good = omega (arith, (good_body ms good).weights no_pending_leaf)

pub flats_few : (ms : List Music) → IsGoodBody ms → sum_by flat_count (flats_of ms) ≤ head_limit
flats_few ms good = omega (arith, (good_body ms good).counts no_pending_leaf, good.few)

pub body_total : (ms : List Music) → IsGoodBody ms → durations_within ms 1 1 ≡ total_ticks (flats_of ms)
body_total ms good = sym ((good_body ms good).total no_pending_leaf)

pub node_total : (m : Music) → IsGoodNode m → duration_of m ≡ total_ticks (flats_of (m ∷ []))
node_total m good = omega (arith, body_total (m ∷ []) good)

pub ruleset total_bounds = (body_fits, body_short, body_total)

pub ruleset node_bounds = (node_fits, node_short)

pub ruleset body_bounds = (body_fits, flats_good, flats_total, flats_short, flats_few, flats_weigh)

-- In a good body every duration is exact: a value's ticks are a multiple of 2^6 * 3^4 * 5^2 * 7^2, and a product of
-- two numbers from 2 to 9 divides that.
use Rattle.std.proofs.Common.{◌≡◌, ℕ, zero, suc, ◌*◌, ◌/◌, ◌≤◌, List, [], ◌∷◌, ◌++◌, map, Bool, true, false, refl, sym}
use Rattle.std.proofs.Common.{◌∙◌, ap, subst, arith, if◌then◌else◌}
use Rattle.std.proofs.lemmas.Bool.{and_parts}
use Rattle.std.proofs.Math.Nat.{mul-div_cancel_left}
use Rattle.std.specs.List.{AllByRecursion, AllZip}
use Rattle.mus_units.specs.declared.value.Base.{Base}
use Rattle.mus_units.specs.declared.value.Value.{Value}
use Rattle.mus_units.specs.Value.{base_length, with_dots, value_length}
use Rattle.mus_units.specs.Parts.{base_units, units_of}
use Rattle.mus_score.specs.declared.good.NodeVerdict.{NodeVerdict}
use Rattle.mus_score.specs.declared.good.NodeContext.{NodeContext}
use Rattle.mus_score.specs.declared.score.Event.{Event}
use Rattle.mus_score.specs.declared.score.Flat.{Flat}
use Rattle.mus_score.specs.declared.score.Music.{Music}
use Rattle.mus_score.specs.declared.score.Music.TheOpen.{Music-F}
use Rattle.mus_score.specs.declared.score.Music.TheFolds.{fold-roll-Music, map-Music, ind-Music}
use Rattle.mus_score.specs.declared.score.Music.TheViews.{roll-Music}
use Rattle.mus_score.specs.declared.times.PendingLeaf.{PendingLeaf}
use Rattle.mus_score.specs.Good.{IsGoodNode, node_verdict, all_judged, good_step, judged_within, outside, IsGoodBody}
use Rattle.mus_score.specs.Good.{is_good_note, is_rest}
use Rattle.mus_score.specs.Times.{flats_of, InTuplets, Leafing, scaled_ticks, leaf, in_row, no_pending_leaf}
use Rattle.mus_score.specs.Times.{leaves_step, leaves_within}
use Rattle.mus_score.specs.Even.{Ratio, ratios_in_row, ratios_step, ratios_within, IsEven, AreEvenEvents}
use Rattle.mus_score.proofs.Bounds.{note_ticks, note_dots, rest_ticks_inner, rest_dots, guarded, gathered, all_music}
use Rattle.mus_score.proofs.Bounds.{GoodTuplet, tuplet_good}

-- The ticks of a value.
abbrev part : ℕ
part = 6350400

dotted : (b : Base) (dots : ℕ) → dots ≤ 3 → with_dots dots (base_length b) ≡ with_dots dots (base_units b) * part
dotted Base.Breve zero few = refl
dotted _ zero few = refl
dotted Base.Breve (suc zero) few = refl
dotted _ (suc zero) few = refl
dotted Base.Breve (suc (suc zero)) few = refl
dotted _ (suc (suc zero)) few = refl
dotted Base.Breve (suc (suc (suc zero))) few = refl
dotted _ (suc (suc (suc zero))) few = refl
dotted _ (suc (suc (suc (suc n)))) few = absurd (omega arith)

pub value_parts : (v : Value) → v.dots ≤ 3 → value_length v ≡ units_of v * part
value_parts v few = dotted v.base v.dots few

-- The products of the tuplets around a node.
abbrev left : ℕ → ℕ
left zero = 1
left (suc n) = 2520 * left n

-- the product of the p around a node divides what is left for the tuplets that may still be nested in it
pub record Divides (at : NodeContext) (ps : ℕ) : Type 0 where
  pub some : 1 ≤ ps
  pub factor : ℕ
  pub all : ps * (factor * left at.deeper) ≡ part
  pub plain : at.inner ≡ false → ps ≡ 1

divisor : (p : ℕ) → 1 ≤ p → p ≤ 9 → (k : ℕ) × (p * k ≡ 2520)
divisor zero some few = absurd (omega arith)
divisor (suc zero) some few = (2520, omega arith)
divisor (suc (suc zero)) some few = (1260, omega arith)
divisor (suc (suc (suc zero))) some few = (840, omega arith)
divisor (suc (suc (suc (suc zero)))) some few = (630, omega arith)
divisor (suc (suc (suc (suc (suc zero))))) some few = (504, omega arith)
divisor (suc (suc (suc (suc (suc (suc zero)))))) some few = (420, omega arith)
divisor (suc (suc (suc (suc (suc (suc (suc zero))))))) some few = (360, omega arith)
divisor (suc (suc (suc (suc (suc (suc (suc (suc zero)))))))) some few = (315, omega arith)
divisor (suc (suc (suc (suc (suc (suc (suc (suc (suc zero))))))))) some few = (280, omega arith)
divisor (suc (suc (suc (suc (suc (suc (suc (suc (suc (suc n)))))))))) some few = absurd (omega arith)

regrouped : (ps f p m l : ℕ) → ps * (f * ((p * m) * l)) ≡ (ps * p) * ((f * m) * l)
regrouped ps f p m l = omega arith

taken_out : (t u qs ps k : ℕ) → t ≡ u * part → ps * k ≡ part → t * qs ≡ ps * (u * k * qs)
taken_out t u qs ps k e h =
    let g : t * qs ≡ u * (ps * k) * qs = ap (λ z. z * qs) e ∙ ap (λ z. u * z * qs) (sym h) in
    let r : u * (ps * k) * qs ≡ ps * (u * k * qs) = omega arith in
    g ∙ r

divided : (t qs ps k : ℕ) → 1 ≤ ps → t * qs ≡ ps * k → ps * scaled_ticks t qs ps ≡ t * qs
divided t qs ps k some e = ap (λ z. ps * (z / ps)) e ∙ ap (λ z. ps * z) (mul-div_cancel_left k some) ∙ sym e

value_even : (at : NodeContext) (v : Value) (t qs ps : ℕ)
    → t ≡ value_length v → v.dots ≤ 3 → Divides at ps → ps * scaled_ticks t qs ps ≡ t * qs
value_even at v t qs ps e dots d =
    let k = d.factor * left at.deeper in
    divided t qs ps (units_of v * k * qs) d.some (taken_out t (units_of v) qs ps k (e ∙ value_parts v dots) d.all)

plain_even : (t qs ps : ℕ) → ps ≡ 1 → ps * scaled_ticks t qs ps ≡ t * qs
plain_even t qs ps e =
    divided t qs ps (t * qs) (omega arith)
    (let r : 1 * (t * qs) ≡ t * qs = omega arith in sym (subst (λ z. z * (t * qs) ≡ t * qs) (sym e) r))

-- Nodes.
abbrev Evens : (NodeContext → NodeVerdict) → Leafing → InTuplets (List Ratio) → Type 0
Evens j l r =
    (at : NodeContext) (qs ps : ℕ)
    → Divides at ps → (j at).good ≡ true → (waits : PendingLeaf) → AllZip IsEven (l qs ps waits).flats (r qs ps)

note_even : (e : Event)
    → Evens (λ at. node_verdict (is_good_note e) true) (leaf e) (λ qs ps. record { qs = qs; ps = ps } ∷ [])
note_even e at qs ps d good waits = (value_even at e.value e.ticks qs ps (note_ticks e good) (note_dots e good) d, tt)

rest_within : (b : Bool) (at : NodeContext) (e : Event) (qs ps : ℕ)
    → at.inner ≡ b → is_rest b e ≡ true → Divides at ps → ps * scaled_ticks e.ticks qs ps ≡ e.ticks * qs
rest_within true at e qs ps i h d = value_even at e.value e.ticks qs ps (rest_ticks_inner e h) (rest_dots true e h) d
rest_within false at e qs ps i h d = plain_even e.ticks qs ps (d.plain i)

rest_even : (e : Event)
    → Evens (λ at. node_verdict (if at.grace then false else is_rest at.inner e) true) (leaf e)
    (λ qs ps. record { qs = qs; ps = ps } ∷ [])
rest_even e at qs ps d good waits =
    (rest_within at.inner at e qs ps refl (guarded at.grace (is_rest at.inner e) good).1 d, tt)

-- Lists of nodes.
zip_append : (fs gs : List Flat) (rs ts : List Ratio)
    → AllZip IsEven fs rs → AllZip IsEven gs ts → AllZip IsEven (fs ++ gs) (rs ++ ts)
zip_append [] gs [] ts a b = b
zip_append [] gs (r ∷ rs) ts a b = absurd a
zip_append (f ∷ fs) gs [] ts a b = absurd a
zip_append (f ∷ fs) gs (r ∷ rs) ts a b = (a.0, zip_append fs gs rs ts a.1 b)

abbrev MusicEven : Music → Type 0
MusicEven m = Evens (judged_within m) (leaves_within m) (ratios_within m)

abbrev BodyEven : List Music → Type 0
BodyEven ms =
    Evens (all_judged (map judged_within ms)) (in_row (map leaves_within ms)) (ratios_in_row (map ratios_within ms))

body_even : (ms : List Music) → AllByRecursion MusicEven ms → BodyEven ms
body_even [] all at qs ps d good waits = tt
body_even (m ∷ ms) all at qs ps d good waits =
    let g = and_parts (judged_within m at).good (all_judged (map judged_within ms) at).good good in
    let others = in_row (map leaves_within ms) qs ps (leaves_within m qs ps waits).waits in
    zip_append (leaves_within m qs ps waits).flats others.flats (ratios_within m qs ps)
    (ratios_in_row (map ratios_within ms) qs ps)
    (all.0 at qs ps d g.0 waits) (body_even ms all.1 at qs ps d g.1 (leaves_within m qs ps waits).waits)

tuplet_even : (p q : ℕ) (ms : List Music)
    → BodyEven ms
    → Evens (good_step (Music-F.Tuplet p q (map judged_within ms)))
    (leaves_step (Music-F.Tuplet p q (map leaves_within ms))) (ratios_step (Music-F.Tuplet p q (map ratios_within ms)))
tuplet_even p q ms body at qs ps d good waits =
    let g = tuplet_good at.grace p q at.deeper (map judged_within ms) good in
    let deeper : ℕ = g.1.0 in
    let t : GoodTuplet p q deeper (all_judged (map judged_within ms)) = g.1.2 in
    let k = divisor p t.some_p t.few_p in
    let outer : ps * (d.factor * (2520 * left deeper)) ≡ part =
    subst (λ z. ps * (d.factor * left z) ≡ part) g.1.1 d.all in
    let split : ps * (d.factor * ((p * k.0) * left deeper)) ≡ part =
    subst (λ z. ps * (d.factor * (z * left deeper)) ≡ part) (sym k.1) outer in
    body (record { deeper = deeper; inner = true; grace = false }) (qs * q) (ps * p) (record {
      some = let a = d.some in let b = t.some_p in grind arith;
      factor = d.factor * k.0;
      all = sym (regrouped ps d.factor p k.0 (left deeper)) ∙ split;
      plain = λ o. absurd (cc);
    }) t.inside (record waits { tuplets = waits.tuplets ++ p ∷ [] })

-- Every node.
evens_along : (i j : NodeContext → NodeVerdict) (k l : Leafing) (r s : InTuplets (List Ratio))
    → i ≡ j → k ≡ l → r ≡ s → Evens i k r → Evens j l s
evens_along i j k l r s ij kl rs h =
    subst (λ z. Evens j l z) rs (subst (λ z. Evens j z r) kl (subst (λ z. Evens z k r) ij h))

abbrev StepEven : Music-F Music → Type 0
StepEven x =
    Evens (good_step (map-Music Music (NodeContext → NodeVerdict) judged_within x))
    (leaves_step (map-Music Music Leafing leaves_within x))
    (ratios_step (map-Music Music (InTuplets (List Ratio)) ratios_within x))

along : (x : Music-F Music) → StepEven x → MusicEven (roll-Music x)
along x h =
    evens_along _ _ _ _ _ _
    (sym (fold-roll-Music (NodeContext → NodeVerdict) good_step x))
    (sym (fold-roll-Music Leafing leaves_step x))
    (sym (fold-roll-Music (InTuplets (List Ratio)) ratios_step x))
    h

step_even : (y : Music-F ((m : Music) × MusicEven m))
    → StepEven (map-Music ((m : Music) × MusicEven m) Music (λ e. e.0) y)
step_even (Music-F.Note e) = note_even e
step_even (Music-F.Rest e) = rest_even e
step_even (Music-F.Grace ys slash) = λ at qs ps d good waits. tt
step_even (Music-F.Tuplet p q ys) =
    tuplet_even p q (map (λ e. e.0) ys) (body_even (map (λ e. e.0) ys) (gathered MusicEven ys))

music_even : (m : Music) → MusicEven m
music_even =
    ind-Music MusicEven (λ x y is.
    subst (λ z. MusicEven (roll-Music z)) is
    (along (map-Music ((m : Music) × MusicEven m) Music (λ e. e.0) y) (step_even y)))

outermost : Divides outside 1
outermost = record { some = omega arith; factor = 1; all = refl; plain = λ _. refl }

pub flats_even : (ms : List Music) → IsGoodBody ms → AreEvenEvents (flats_of ms) ms
flats_even ms good = body_even ms (all_music MusicEven music_even ms) outside 1 1 outermost good.good no_pending_leaf

pub node_even : (m : Music) → IsGoodNode m → AreEvenEvents (flats_of (m ∷ [])) (m ∷ [])
node_even m good = flats_even (m ∷ []) good

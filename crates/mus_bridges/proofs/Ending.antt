-- Events and measures with other ends, one by one and some of them; and what does not depend on ends.
use Rattle.std.proofs.Common.{◌≡◌, ◌∙◌, ℕ, zero, suc, ℤ, ◌+◌, ◌-◌, ◌<◌, ◌≤◌, nat_lt, true, false, List, []}
use Rattle.std.proofs.Common.{if◌then◌else◌, ◌∷◌, ◌++◌, length, get_or, take, drop, Option, Some, None}
use Rattle.std.proofs.Common.{refl, sym, ap, arith}
use Rattle.std.proofs.lemmas.Bool.Decides.{nat_tests}
use Rattle.std.proofs.lemmas.List.{drop_more}
use Rattle.std.specs.List.{flat_map, slice_get, slice_range}
use Rattle.std.specs.Option.{option_map}
use Rattle.mus_drawn.specs.declared.drawn.DrawnEvent.{DrawnEvent}
use Rattle.mus_drawn.specs.declared.drawn.DrawnMeasure.{DrawnMeasure}
use Rattle.mus_drawn.specs.declared.drawn.DrawnVoice.{DrawnVoice}
use Rattle.mus_bridges.specs.Arcs.{arcs_between}
use Rattle.mus_bridges.specs.Bridges.{beams_between, bridges_of, event_grace_beam, grace_beams_between}
use Rattle.mus_bridges.specs.Ends.{ends_from, event_ended, measure_ended, over, voice_ended}

drop_none : {B : Type 0} (i : ℕ) → drop {A = B} i [] ≡ []
drop_none zero = refl
drop_none (suc i) = refl

none_at : {B : Type 0} (i : ℕ) (d : B) → get_or {A = B} [] i d ≡ d
none_at zero d = refl
none_at (suc i) d = refl

module _ {A B : Type 0} (f : B → A → A) where
  -- the i-th element, given what stands for its entry if it has none
  pub over_step : (ts : List B) (xs : List A) (i : ℕ) (d : B) (x : A)
      → i < length xs → x ≡ get_or xs i x → f d x ≡ x
      → over f (drop i ts) (drop i xs) ≡ f (get_or ts i d) x ∷ over f (drop (i + 1) ts) (drop (i + 1) xs)
  over_step ts [] i d x inside at same = absurd (omega (arith, inside))
  over_step [] (y ∷ xs) i d x inside at same =
      ap (λ t. over f t (drop i (y ∷ xs))) (drop_none i)
      ∙ drop_more (y ∷ xs) i x inside
      ∙ ap (λ z. z ∷ drop (i + 1) (y ∷ xs)) (sym at ∙ sym same ∙ ap (λ t. f t x) (sym (none_at i d)))
      ∙ ap (λ t. f (get_or [] i d) x ∷ over f t (drop (i + 1) (y ∷ xs))) (sym (drop_none (i + 1)))
  over_step (t ∷ ts) (y ∷ xs) zero d x inside at same = ap (λ z. f t z ∷ over f ts xs) (sym at)
  over_step (t ∷ ts) (y ∷ xs) (suc i) d x inside at same =
      let e : suc (i + 1) ≡ suc i + 1 = omega arith in
      over_step ts xs i d x (omega (arith, inside)) at same
      ∙ ap (λ n. f (get_or ts i d) x ∷ over f (drop n (t ∷ ts)) (drop n (y ∷ xs))) e

  over_nothing : (ts : List B) → over f ts [] ≡ []
  over_nothing [] = refl
  over_nothing (t ∷ ts) = refl

  past_end : (xs : List A) (i : ℕ) → length xs ≤ i → drop i xs ≡ []
  past_end [] i h = drop_none i
  past_end (x ∷ xs) zero h = absurd (omega (arith, h))
  past_end (x ∷ xs) (suc i) h = past_end xs i (omega (arith, h))

  pub over_done : (ts : List B) (xs : List A) (i : ℕ) → length xs ≤ i → over f (drop i ts) (drop i xs) ≡ []
  over_done ts xs i h = ap (over f (drop i ts)) (past_end xs i h) ∙ over_nothing (drop i ts)

  pub over_take : (n : ℕ) (ts : List B) (xs : List A) → take n (over f ts xs) ≡ over f ts (take n xs)
  over_take zero [] xs = refl
  over_take zero (t ∷ ts) xs = refl
  over_take (suc n) [] xs = refl
  over_take (suc n) (t ∷ ts) [] = refl
  over_take (suc n) (t ∷ ts) (x ∷ xs) = ap (λ z. f t x ∷ z) (over_take n ts xs)

  pub over_get : (ts : List B) (xs : List A) (i : ℕ) (d : B)
      → ((x : A) → f d x ≡ x) → slice_get (over f ts xs) i ≡ option_map (f (get_or ts i d)) (slice_get xs i)
  over_get [] xs i d same =
      kept (slice_get xs i) ∙ ap (λ t. option_map (f t) (slice_get xs i)) (sym (none_at i d))
    where
      kept : (o : Option A) → o ≡ option_map (f d) o
      kept None = refl
      kept (Some x) = ap Some (sym (same x))
  over_get (t ∷ ts) [] i d same = refl
  over_get (t ∷ ts) (x ∷ xs) zero d same = refl
  over_get (t ∷ ts) (x ∷ xs) (suc i) d same = over_get ts xs i d same

-- one measure of a voice
pub ended_at : (a m : ℕ) (ends : List (List ℤ)) (ds : List DrawnMeasure)
    → slice_get (take a ds ++ over measure_ended ends (drop a ds)) m
    ≡ option_map (measure_ended (ends_from ends a m)) (slice_get ds m)
ended_at zero m ends ds =
    let none : nat_lt m 0 ≡ false = grind (arith, nat_tests) in
    let all : m ≡ m - 0 = omega arith in
    over_get measure_ended ends ds m [] (λ d. refl)
    ∙ ap (λ n. option_map (measure_ended (get_or ends n [])) (slice_get ds m)) all
    ∙ ap (λ b. option_map (measure_ended (if b then [] else get_or ends (m - 0) [])) (slice_get ds m)) (sym none)
ended_at (suc a) m ends [] = ap (λ t. slice_get t m) (over_nothing measure_ended ends)
ended_at (suc a) zero ends (d ∷ ds) =
    let early : nat_lt 0 (suc a) ≡ true = grind (arith, nat_tests) in
    ap (λ b. Some (measure_ended (if b then [] else get_or ends (0 - suc a) []) d)) (sym early)
ended_at (suc a) (suc m) ends (d ∷ ds) =
    let same : (if nat_lt m a then [] else get_or ends (m - a) []) ≡ ends_from ends (suc a) (suc m) =
    ap (λ b. if b then [] else get_or ends (m - a) []) (grind (arith, nat_tests))
    ∙ ap (λ n. if nat_lt (suc m) (suc a) then [] else get_or ends n []) (omega arith) in
    ended_at a m ends ds ∙ ap (λ es. option_map (measure_ended es) (slice_get ds m)) same

pub seam : {A : Type 0} (a : ℕ) (xs ys : List A)
    → a ≤ length xs → (take a (take a xs ++ ys) ≡ take a xs) × (drop a (take a xs ++ ys) ≡ ys)
seam zero xs ys h = (refl, refl)
seam (suc a) [] ys h = absurd (omega (arith, h))
seam (suc a) (x ∷ xs) ys h = let more = seam a xs ys (omega (arith, h)) in (ap (λ z. x ∷ z) more.0, more.1)

-- the measures of a system
pub ended_range : (a b : ℕ) (ends : List (List ℤ)) (v : DrawnVoice)
    → a ≤ length v.measures
    → slice_range (voice_ended a ends v).measures a b ≡ over measure_ended ends (slice_range v.measures a b)
ended_range a b ends v within =
    ap (take (b - a)) (seam a v.measures (over measure_ended ends (drop a v.measures)) within).1
    ∙ over_take measure_ended (b - a) ends (drop a v.measures)

-- beams of graces
graces_same : (m : ℕ) (ends : List ℤ) (es : List DrawnEvent)
    → flat_map (event_grace_beam m) (over event_ended ends es) ≡ flat_map (event_grace_beam m) es
graces_same m [] es = refl
graces_same m (t ∷ ts) [] = refl
graces_same m (t ∷ ts) (e ∷ es) = ap (λ z. event_grace_beam m e ++ z) (graces_same m ts es)

pub all_graces_same : (m : ℕ) (ends : List (List ℤ)) (ds : List DrawnMeasure)
    → grace_beams_between m (over measure_ended ends ds) ≡ grace_beams_between m ds
all_graces_same m [] ds = refl
all_graces_same m (t ∷ ts) [] = refl
all_graces_same m (t ∷ ts) (d ∷ ds) =
    ap (λ z. z ++ grace_beams_between (m + 1) (over measure_ended ts ds)) (graces_same m t d.events)
    ∙ ap (λ z. flat_map (event_grace_beam m) d.events ++ z) (all_graces_same (m + 1) ts ds)

-- what a voice has between columns
pub bridges_ended : (lengths : List ℕ) (a b : ℕ) (ends : List (List ℤ)) (v : DrawnVoice)
    → a ≤ length v.measures
    → (beams_between a (over measure_ended ends (slice_range v.measures a b))
    ++ grace_beams_between a (slice_range v.measures a b))
    ++ arcs_between lengths a b (take a v.measures ++ over measure_ended ends (drop a v.measures)) v.arcs
    ≡ bridges_of lengths a b (voice_ended a ends v)
bridges_ended lengths a b ends v within =
    let ds = slice_range v.measures a b in
    let arcs = arcs_between lengths a b (voice_ended a ends v).measures v.arcs in
    ap (λ t. (beams_between a (over measure_ended ends ds) ++ t) ++ arcs) (sym (all_graces_same a ends ds))
    ∙ ap (λ t. (beams_between a t ++ grace_beams_between a t) ++ arcs) (sym (ended_range a b ends v within))

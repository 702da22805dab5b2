-- Lines of beams: events lie within them, and their rise is bounded.
use Rattle.std.proofs.Common.{◌≡◌, ℕ, zero, suc, ◌+◌, ◌*◌, ◌/◌, ◌<◌, ◌≤◌, ℤ, pos, negsuc, ◌-ℤ◌, ◌*ℤ◌, ◌≤ℤ◌, ◌<ℤ◌, Bool}
use Rattle.std.proofs.Common.{true, false, cond, List, [], ◌∷◌, take, drop, refl, subst, sym, ap, ◌∙◌, length, arith}
use Rattle.std.proofs.lemmas.Int.{ints, clamps, unsigned_abs-mul}
use Rattle.std.proofs.Math.Nat.{div-le_of_le-mul, div-lt_iff_lt-mul, mul-le-mul}
use Rattle.std.specs.Int.RustNames.{unsigned_abs}
use Rattle.std.specs.Int.{int_div_euclid}
use Rattle.mus_stems.specs.Distances.{steepest_climb, steepest, steepest_down}
use Rattle.mus_stems.specs.Slope.{slope_input, slope_inputs, shares_beam, last_input, slope_line, rise_at, base_along}
use Rattle.mus_stems.specs.Slope.{ends_along, beam_ends, sloped_ends, with_ends, sloped, ArePlaces, RisesInBeams}
use Rattle.mus_stems.specs.Slope.{RisesAfter, IsAnchor, AreAnchors, IsLine, IsOver, AreOver, Rise, RiseFrom, IsBeamBase}
use Rattle.mus_stems.specs.declared.plans.StemPlan.{StemPlan}
use Rattle.mus_stems.specs.declared.slopes.SlopeInput.{SlopeInput}
use Rattle.mus_stems.specs.declared.slopes.BeamLine.{BeamLine}
use Rattle.mus_stems.specs.Plans.{AllEndsNear}
use Rattle.mus_stems.specs.Runs.{run_more}
use Rattle.mus_stems.specs.Ends.{further_end}
use Rattle.mus_stems.proofs.RunLaws.{run_is, runs_length}

all_anchors : (ps : List StemPlan) (xs : List ℤ) → AllEndsNear ps → ArePlaces xs → AreAnchors (slope_inputs ps xs)
unfolding slope_input
all_anchors [] xs near places = tt {0}
all_anchors (p ∷ ps) [] near places = tt {0}
all_anchors (p ∷ ps) (x ∷ xs) near places = ((near.0.0, near.0.1, places.0), all_anchors ps xs near.1 places.1)

pub anchors_are : (es : List SlopeInput) (ps : List StemPlan) (xs : List ℤ)
    → es ≡ slope_inputs ps xs → AllEndsNear ps → ArePlaces xs → AreAnchors es
anchors_are es ps xs e near places = subst AreAnchors (sym e) (all_anchors ps xs near places)

-- events of a beam lie within the line from its first to its last

-- what is said of a beam's events holds for any line with the same ends
between : (lo hi : ℤ) (a : SlopeInput)
    → IsAnchor a → lo ≤ℤ a.x → a.x ≤ℤ hi → (climb : ℤ) → IsOver (record { first = lo; last = hi; climb = climb }) a
between lo hi a is after before climb = record { own_low = is.0; own_high = is.1; after = after; before = before }

first_before : (a : SlopeInput) (es : List SlopeInput) → RiseFrom a es → a.x ≤ℤ (last_input a es).x
first_before a [] r = omega (arith, ints)
first_before a (b ∷ es) r = let h = first_before b es r.1 in let g = r.0 in omega (arith, ints, g, h)

all_between : (lo climb : ℤ) (a : SlopeInput) (es : List SlopeInput)
    → lo ≤ℤ a.x → IsAnchor a → AreAnchors es → RiseFrom a es
    → AreOver (record { first = lo; last = (last_input a es).x; climb = climb }) (a ∷ es)
all_between lo climb a [] after is are r = (between lo a.x a is after (omega (arith, ints)) climb, tt {0})
all_between lo climb a (b ∷ es) after is are r =
    let g = r.0 in (
      between lo (last_input b es).x a is after (first_before a (b ∷ es) r) climb,
      all_between lo climb b es (omega (arith, ints, g, after)) are.0 are.1 r.1,
    )

last_anchor : (a : SlopeInput) (es : List SlopeInput) → IsAnchor a → AreAnchors es → IsAnchor (last_input a es)
last_anchor a [] is are = is
last_anchor a (b ∷ es) is are = last_anchor b es are.0 are.1

-- a quotient is at most the steepest climb if that times the divisor is no less than the dividend
pub quotient_near : (z m : ℤ)
    → pos 0 <ℤ m → unsigned_abs z ≤ steepest_climb * unsigned_abs m
    → (steepest_down ≤ℤ int_div_euclid z m) × (int_div_euclid z m ≤ℤ steepest)
quotient_near (pos a) (pos b) some few =
    let q : a / b ≤ steepest_climb = div-le_of_le-mul b (omega (arith, few)) in
    (omega (arith, ints), omega (arith, ints, q))
quotient_near (negsuc a) (pos b) some few =
    let b_some : 0 < b = omega (arith, ints, some) in
    let q : a / b < steepest_climb = (div-lt_iff_lt-mul b_some).1 (omega (arith, few)) in
    (omega (arith, ints, q), omega (arith, ints))
quotient_near z (negsuc b) some few = absurd (omega (arith, ints, some))

pub rise_near : (climb along length : ℤ)
    → steepest_down ≤ℤ climb → climb ≤ℤ steepest → pos 0 ≤ℤ along → along ≤ℤ length → pos 0 <ℤ length
    → (steepest_down ≤ℤ int_div_euclid (climb *ℤ along) length) × (int_div_euclid (climb *ℤ along) length ≤ℤ steepest)
rise_near climb along length low high begun within some =
    let c : unsigned_abs climb ≤ steepest_climb = omega (arith, ints, low, high) in
    let a : unsigned_abs along ≤ unsigned_abs length = omega (arith, ints, begun, within) in
    quotient_near (climb *ℤ along) length some
    (subst (λ n. n ≤ steepest_climb * unsigned_abs length) (sym (unsigned_abs-mul climb along)) (mul-le-mul c a))

-- the rise of a line over an event of its beam
rise_over : (line : BeamLine) (a : SlopeInput)
    → IsLine line → IsOver line a → (steepest_down ≤ℤ rise_at line a.x) × (rise_at line a.x ≤ℤ steepest)
unfolding rise_at
rise_over line a is over =
    let after = over.after in let before = over.before in let rising = is.rising in
    rise_near line.climb (a.x -ℤ line.first) (line.last -ℤ line.first) is.low is.high (omega (arith, ints, after))
    (omega (arith, ints, before)) (omega (arith, ints, rising))

ask_near : (line : BeamLine) (a : SlopeInput) → IsLine line → IsOver line a → IsBeamBase (a.own -ℤ rise_at line a.x)
ask_near line a is over =
    let r = rise_over line a is over in
    let low = over.own_low in
    let high = over.own_high in
    (omega (arith, ints, low, r.1), omega (arith, ints, high, r.0))

further_near : (up : Bool) (y z : ℤ) → IsBeamBase y → IsBeamBase z → IsBeamBase (further_end up y z)
unfolding further_end
further_near true y z p q = (omega (arith, ints, clamps, p.0, q.0), omega (arith, ints, clamps, p.1, q.1))
further_near false y z p q = (omega (arith, ints, clamps, p.0, q.0), omega (arith, ints, clamps, p.1, q.1))

along_near : (up : Bool) (line : BeamLine) (z : ℤ) (es : List SlopeInput)
    → IsLine line → IsBeamBase z → AreOver line es → IsBeamBase (base_along up line z es)
along_near up line z [] is near are = near
along_near up line z (a ∷ es) is near are =
    along_near up line (further_end up z (a.own -ℤ rise_at line a.x)) es is
    (further_near up z (a.own -ℤ rise_at line a.x) near (ask_near line a is are.0)) are.1

-- the base of a beam is in range
pub base_near : (line : BeamLine) (a : SlopeInput) (others beam : List SlopeInput) (base : ℤ)
    → base ≡ base_along a.up line (a.own -ℤ rise_at line a.x) others
    → beam ≡ a ∷ others → IsLine line → AreOver line beam → IsBeamBase base
base_near line a others beam base e f is are =
    let over = subst (AreOver line) f are in
    subst IsBeamBase (sym e)
    (along_near a.up line (a.own -ℤ rise_at line a.x) others is (ask_near line a is over.0) over.1)

-- the line of a beam goes to the right, and its events lie within it
pub line_goes : (a b z : SlopeInput) (beam others more : List SlopeInput) (line : BeamLine)
    → beam ≡ a ∷ others → others ≡ b ∷ more → z ≡ last_input b more → line ≡ slope_line a z
    → AreAnchors beam → Rise beam → IsLine line × AreOver line beam
unfolding slope_line
line_goes a b z beam others more line e f g h are rise =
    let whole = e ∙ ap (λ t. a ∷ t) f in let are1 = subst AreAnchors whole are in let rise1 = subst Rise whole rise in
    let goes : IsLine (slope_line a (last_input b more)) =
    (let r = rise1.0 in let l = first_before b more rise1.1 in
    record {
      first = are1.0.2.0;
      rising = omega (arith, ints, r, l);
      last = (last_anchor b more are1.1.0 are1.1.1).2.1;
      low = omega (arith, ints, clamps);
      high = omega (arith, ints, clamps);
    }) in
    let over : AreOver (slope_line a (last_input b more)) (a ∷ b ∷ more) =
    all_between a.x (slope_line a (last_input b more)).climb a (b ∷ more) (omega (arith, ints)) are1.0 are1.1 rise1 in
    let same : line ≡ slope_line a (last_input b more) = h ∙ ap (slope_line a) g in (
      subst IsLine (sym same) goes,
      subst (λ t. AreOver line t) (sym whole) (subst (λ l. AreOver l (a ∷ b ∷ more)) (sym same) over),
    )

-- the abscissas of a beam rise, and so do those after it
rise_prefix : (a : SlopeInput) (es : List SlopeInput)
    → RisesAfter a es → RiseFrom a (take (run_more shares_beam a es) es)
rise_prefix a [] r = tt {0}
rise_prefix a (b ∷ bs) r = step (shares_beam a b) r.0 (rise_prefix b bs r.1)
  where
    step : (t : Bool) → (t ≡ true → a.x <ℤ b.x) → RiseFrom b (take (run_more shares_beam b bs) bs)
        → RiseFrom a (take (cond t (suc (run_more shares_beam b bs)) 0) (b ∷ bs))
    step true h rest = (h refl, rest)
    step false h rest = tt {0}

pub beam_rises : (a : SlopeInput) (more rest beam : List SlopeInput) (n : ℕ)
    → rest ≡ a ∷ more → n ≡ run_more shares_beam a more → beam ≡ take (n + 1) rest → RisesInBeams rest → Rise beam
beam_rises a more rest beam n e1 e2 e3 r =
    subst Rise (sym (run_is shares_beam a more rest beam n e1 e2 e3)) (rise_prefix a more (subst RisesInBeams e1 r))

pub rise_after : (n : ℕ) (es : List SlopeInput) → RisesInBeams es → RisesInBeams (drop n es)
rise_after zero es r = r
rise_after (suc n) [] r = r
rise_after (suc zero) (a ∷ []) r = tt {0}
rise_after (suc (suc n)) (a ∷ []) r = tt {0}
rise_after (suc n) (a ∷ b ∷ bs) r = rise_after n (b ∷ bs) r.1

-- as many ends as events
ends_along_length : (line : BeamLine) (base : ℤ) (es : List SlopeInput) → length (ends_along line base es) ≡ length es
ends_along_length line base [] = refl
ends_along_length line base (a ∷ es) = ap suc (ends_along_length line base es)

beam_ends_length : (es : List SlopeInput) → length (beam_ends es) ≡ length es
beam_ends_length [] = refl
beam_ends_length (a ∷ []) = refl
beam_ends_length (a ∷ b ∷ bs) = ends_along_length _ _ (a ∷ b ∷ bs)

anchors_length : (ps : List StemPlan) (xs : List ℤ) → length xs ≡ length ps → length (slope_inputs ps xs) ≡ length ps
anchors_length [] xs h = refl
anchors_length (p ∷ ps) [] h = h
anchors_length (p ∷ ps) (x ∷ xs) h = ap suc (anchors_length ps xs (omega (arith, h)))

pub ends_length : (ends : List ℤ) (es : List SlopeInput) (ps : List StemPlan) (xs : List ℤ)
    → ends ≡ sloped_ends es → es ≡ slope_inputs ps xs → length xs ≡ length ps → length ends ≡ length ps
ends_length ends es ps xs e f h =
    ap (λ t. length t) e
    ∙ runs_length shares_beam beam_ends beam_ends_length es
    ∙ ap (λ t. length t) f
    ∙ anchors_length ps xs h

with_ends_length : (ps : List StemPlan) (zs : List ℤ) → length zs ≡ length ps → length (with_ends ps zs) ≡ length ps
with_ends_length [] zs h = refl
with_ends_length (p ∷ ps) [] h = h
with_ends_length (p ∷ ps) (z ∷ zs) h = ap suc (with_ends_length ps zs (omega (arith, h)))

-- as many plans as before
pub sloped_length : (plans : List StemPlan) (ps : List StemPlan) (xs : List ℤ)
    → plans ≡ sloped ps xs → length xs ≡ length ps → length plans ≡ length ps
unfolding sloped
sloped_length plans ps xs e h =
    ap (λ t. length t) e
    ∙ with_ends_length ps (sloped_ends (slope_inputs ps xs))
    (ends_length (sloped_ends (slope_inputs ps xs)) (slope_inputs ps xs) ps xs refl refl h)

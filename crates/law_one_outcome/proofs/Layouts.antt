-- Every good score has one layout on a width, or no legal breaking there and one bar that is reached.
use Rattle.std.specs.Prelude.{◌<◌, ◌≤◌, length}
use Rattle.std.specs.List.{All, AllByRecursion, AllZip}
use Rattle.std.proofs.Common.{ℕ, inl, inr, refl, ap, List, [], ◌∷◌, arith, ◌≡◌, Bool, Option, Result, Ok, Err, subst}
use Rattle.std.proofs.lemmas.List.Elements.{All-from_recursion}
use Rattle.mus_score.specs.declared.score.Score.{Score}
use Rattle.mus_score.specs.GoodScore.{IsGoodScore}
use Rattle.mus_onsets.specs.Onsets.{timeline_of}
use Rattle.mus_laid.specs.declared.laid.SystemMarks.{SystemMarks}
use Rattle.mus_laid.specs.Boxes.{AreGoodMarks}
use Rattle.mus_marks.proofs.Alike.{tilted_good}
use Rattle.lay_springs.specs.declared.margin.Placed.{Placed}
use Rattle.lay_pages.specs.declared.stacking.Heights.{Heights}
use Rattle.lay_breaks.specs.declared.costs.Span.{Span}
use Rattle.lay_breaks.specs.Breaking.{FitsFrom, RisesFrom, last_from, IsReached, NoneLegal}
use Rattle.lay_breaks.specs.Spans.{AreSpans, listed, listed_stops}
use Rattle.lay_tune.specs.declared.layout.Layout.{Layout}
use Rattle.lay_tune.specs.Layout.{IsLayout, IsNoWay}
use Rattle.lay_tune.specs.Spans.{AreSpansOf, is_forced_in}
use Rattle.lay_tune.specs.Systems.{EachSpan, IsSetSystem, IsStack, IsPlaced}
use Rattle.lay_tune.proofs.Breakings.{least_of, no_way_of}
use Rattle.lay_tune.proofs.Open.{past_last, some_of}
use Rattle.law_one_outcome.specs.Stages.{IsLayoutResult}
use Rattle.law_one_outcome.proofs.Broken.{has_breaking}
use Rattle.law_one_outcome.proofs.Set.{has_set_system}
use Rattle.law_one_outcome.proofs.Spans.{has_spans}
use Rattle.law_one_outcome.proofs.Stacked.{has_stack}
use Rattle.mus_marks.specs.Tilt.{IsTilted}
use Rattle.lay_breaks.specs.declared.breaking.Breaking.{Breaking}
use Rattle.lay_tune.proofs.Called.{one_system, one_tilted}
use Rattle.law_one_outcome.proofs.Broken.{IsBreaking, one_breaking}
use Rattle.law_one_outcome.proofs.Set.{one_placed}
use Rattle.law_one_outcome.proofs.Spans.{one_list}
use Rattle.law_one_outcome.proofs.Stacked.{one_zip, one_stacked}

-- the texts of a system are good
abbrev HaveGoodTexts : SystemMarks → Type 0
HaveGoodTexts m = All (λ staff. AreGoodMarks staff.marks) m.staves

module _ (s : Score) (width : ℕ) (good : IsGoodScore s) (heard : 0 < s.measures → 1 ≤ length s.voices)
    (spans : List Span) (exact : AreSpansOf s width spans) where
  -- the systems of bars whose spans are listed
  has_systems : (a : ℕ) (bs : List ℕ) → RisesFrom a bs → last_from a bs ≤ s.measures → FitsFrom (listed spans) a bs
      → (ms : List SystemMarks)
      × (ps : List Placed)
      × (hs : List Heights)
      × EachSpan (IsSetSystem s width) a bs ms ps
      × AllZip (IsStack s) ms hs
      × AllByRecursion HaveGoodTexts ms
  has_systems a [] rises within fits = ([], [], [], tt, tt, tt)
  has_systems a (b ∷ bs) rises within fits =
      let past = past_last b bs rises.1 in let cost = some_of (listed spans a b) fits.0 in
      let inside : b ≤ s.measures = omega (arith, past, within) in
      let set =
      has_set_system s width a b cost.0 good heard rises.0 inside (exact.each a b cost.0 rises.0 inside cost.1) in
      let stack = has_stack s a b set.1.at set.0 good set.2.tilted in
      let more = has_systems b bs rises.1 within fits.1 in (
        set.0 ∷ more.0,
        set.1 ∷ more.1,
        stack.0 ∷ more.2,
        (set.2, more.3),
        (stack.1, more.4),
        (tilted_good s (timeline_of s) a b set.1.at set.0 set.2.tilted good, more.5),
      )

  has_layout : AreSpans s.measures spans → (result : Result Layout ℕ) × IsLayoutResult s width result
  has_layout form =
      elim (has_breaking (listed spans) (is_forced_in s) s.measures (listed_stops s.measures spans form) refl) [
        | inl b ↦
            let legal = b.chosen.legal in
            let ends = legal.ends in
            let all = has_systems 0 b.breaks legal.rises (omega (arith, ends)) legal.fits in (
              Ok (record {
                breaking = record { breaks = b.breaks; total = b.total; potentials = b.potentials };
                systems = all.0;
                placed = all.1;
                spans = spans;
                heights = all.2;
              }),
              record {
                form = form;
                spans = exact;
                chosen = b.chosen;
                total = b.sum;
                least = least_of s width spans exact b.breaks b.total b.chosen b.sum;
                one_each = b.one_each;
                potentials = b.each;
                systems = all.3;
                heights = all.4;
                texts = All-from_recursion HaveGoodTexts all.0 all.5;
              },
            )
        | inr (none, (reached, furthest)) ↦
            (Err reached, (spans, no_way_of s width spans exact reached form none furthest))
      ]

-- a score has one system of any measures on a width
one_set : (s : Score) (width a b : ℕ) (m n : SystemMarks) (p q : Placed)
    → IsSetSystem s width a b m p → IsSetSystem s width a b n q → (m ≡ n) × (p ≡ q)
one_set s width a b m n p q h k =
    let flat = one_system s a b k.flat h.flat k.called h.called in
    let placed = one_placed s width h.flat p q h.placed (subst (λ f. IsPlaced s width f q) flat k.placed) in (
      one_tilted s a b q.at m n (subst (λ (x : Placed). IsTilted s (timeline_of s) a b x.at m) placed h.tilted)
          k.tilted,
      placed,
    )

-- two things for each span, each of which is unique for the span
one_each : {X Y : Type 0} (P : ℕ → ℕ → X → Y → Type 0)
    → ((a b : ℕ) (x u : X) (y v : Y) → P a b x y → P a b u v → (x ≡ u) × (y ≡ v))
    → (a : ℕ) (breaks : List ℕ) (xs us : List X) (ys vs : List Y)
    → EachSpan P a breaks xs ys → EachSpan P a breaks us vs
    → (xs ≡ us) × (ys ≡ vs)
one_each P one a [] [] [] [] [] h k = (refl, refl)
one_each P one a [] [] us [] vs h k = absurd k
one_each P one a (b ∷ bs) (x ∷ xs) (u ∷ us) (y ∷ ys) (v ∷ vs) h k =
    let e = one a b x u y v h.0 k.0 in
    let more = one_each P one b bs xs us ys vs h.1 k.1 in
    (cc (e.0, more.0), cc (e.1, more.1))
one_each P one a (b ∷ bs) (x ∷ xs) us (y ∷ ys) vs h k = absurd k
one_each P one a _ _ us _ vs h k = absurd h

-- the chosen breaking and its sums, over the same spans
breaks_over : (s : Score) (width : ℕ) (l : Layout) (spans : List Span)
    → l.spans ≡ spans → IsLayout s width l → IsBreaking (listed spans) (is_forced_in s) s.measures l.breaking
breaks_over s width l spans e h =
    subst (λ these. IsBreaking (listed these) (is_forced_in s) s.measures l.breaking) e
    (record { chosen = h.chosen; total = h.total; one_each = h.one_each; potentials = h.potentials })

abbrev laid_as : Breaking → List SystemMarks → List Placed → List Span → List Heights → Layout
laid_as breaking systems placed spans heights =
    record { breaking = breaking; systems = systems; placed = placed; spans = spans; heights = heights }

-- a score has one layout on a width
one_layout : (s : Score) (width : ℕ) (l m : Layout) → IsLayout s width l → IsLayout s width m → l ≡ m
one_layout s width l m h k =
    let spans = one_list s width l.spans m.spans h.form k.form h.spans k.spans in
    let breaking = one_breaking (listed m.spans) (is_forced_in s) s.measures l.breaking m.breaking
    (breaks_over s width l m.spans spans h) (breaks_over s width m m.spans refl k) in
    let parts = one_each (IsSetSystem s width) (one_set s width) 0 m.breaking.breaks l.systems m.systems l.placed
    m.placed
    (subst (λ (b : Breaking). EachSpan (IsSetSystem s width) 0 b.breaks l.systems l.placed) breaking h.systems)
    k.systems in
    let heights = one_zip (IsStack s) (one_stacked s) m.systems l.heights m.heights
    (subst (λ systems. AllZip (IsStack s) systems l.heights) parts.0 h.heights) k.heights in
    let systems = parts.0 in let placed = parts.1 in
    let made : laid_as l.breaking l.systems l.placed l.spans l.heights ≡ laid_as m.breaking m.systems m.placed m.spans
    m.heights = cc in
    made

-- ---- no layout
one_reached : (cost : ℕ → ℕ → Option ℕ) (forced : ℕ → Bool) (n i j : ℕ)
    → IsReached cost forced n i → IsReached cost forced n j → i ≡ j
one_reached cost forced n i j a b =
    let over = a.greatest j b.legal.0 b.within b.legal.1 in
    let under = b.greatest i a.legal.0 a.within a.legal.1 in
    omega (arith, over, under)

-- the bar that is reached does not depend on how the spans were listed
one_way : (s : Score) (width i j : ℕ) (xs ys : List Span) → IsNoWay s width i xs → IsNoWay s width j ys → i ≡ j
one_way s width i j xs ys a b =
    let same : ys ≡ xs = one_list s width ys xs b.form a.form b.exact a.exact in
    one_reached (listed xs) (is_forced_in s) s.measures i j a.furthest
    (subst (λ zs. IsReached (listed zs) (is_forced_in s) s.measures j) same b.furthest)

no_way_laid : (s : Score) (width reached : ℕ) (spans : List Span) (l : Layout)
    → IsNoWay s width reached spans → IsLayout s width l → ⊥
no_way_laid s width reached spans l a b =
    let same : spans ≡ l.spans = one_list s width spans l.spans a.form b.form a.exact b.spans in
    subst (λ zs. NoneLegal (listed zs) (is_forced_in s) s.measures) same a.none l.breaking.breaks b.chosen.legal

-- ---- one result
pub laid_once : (s : Score) (width : ℕ) (r q : Result Layout ℕ)
    → IsLayoutResult s width r → IsLayoutResult s width q → r ≡ q
laid_once s width (Ok l) (Ok m) h k = ap Ok (one_layout s width l m h k)
laid_once s width (Ok l) (Err j) h (ys, k) = absurd (no_way_laid s width j ys l k h)
laid_once s width (Err i) (Ok m) (xs, h) k = absurd (no_way_laid s width i xs m h k)
laid_once s width (Err i) (Err j) (xs, h) (ys, k) = ap Err (one_way s width i j xs ys h k)

pub one_laid : (s : Score) (width : ℕ) → IsGoodScore s → (0 < s.measures → 1 ≤ length s.voices)
    → (result : Result Layout ℕ)
    × IsLayoutResult s width result
    × ((other : Result Layout ℕ) → IsLayoutResult s width other → result ≡ other)
one_laid s width good heard =
    let listed = has_spans s width good heard in
    let laid = has_layout s width good heard listed.0 listed.2 listed.1 in
    (laid.0, laid.1, λ other is. laid_once s width laid.0 other laid.1 is)

-- A span is found by the index of the first span from its bar.
use Rattle.std.proofs.Common.{◌≡◌, ◌≢◌, ℕ, zero, suc, ◌+◌, ◌-◌, ◌<◌, ◌≤◌, ◌⊎◌, inl, inr, Bool, true, false, List, []}
use Rattle.std.proofs.Common.{◌∷◌, ◌++◌, length, Option, Some, None, MatchOption, refl, sym, ◌∙◌, ap, subst, arith}
use Rattle.std.proofs.Common.{if◌then◌else◌, option_and_then, slice_get, slice_index, slice_set, get_or-set_same}
use Rattle.std.proofs.Common.{get_or-set_other}
use Rattle.std.proofs.lemmas.Bool.{cases_eq}
use Rattle.std.proofs.lemmas.Option.{none-some, same_Some}
use Rattle.std.proofs.lemmas.List.{length-append}
use Rattle.lay_breaks.specs.Spans.{IsNextSpan, MayFollow, SpansFrom, AreSpans, listed, has_ends, ends_are}
use Rattle.lay_breaks.specs.declared.costs.Span.{Span}
use Rattle.lay_cert.specs.{ReaderStates.last_span_from, Indexed.IsIndexed, Indexed.looked_up, Indexed.cost_if}

-- the one span with these ends is the one that is listed
found : (a b j : ℕ) (spans : List Span) (s : Span) → slice_get spans j ≡ Some s → has_ends a b s ≡ true
    → ((i : ℕ) (t : Span) → slice_get spans i ≡ Some t → has_ends a b t ≡ true → i ≡ j)
    → listed spans a b ≡ Some s.badness
found a b j [] s e h one = absurd (none-some s e)
found a b zero (x ∷ xs) s e h one =
    let is : x ≡ s = same_Some x s e in
    let x_has : has_ends a b x ≡ true = ap (has_ends a b) is ∙ h in
    rw x_has (ap (λ s. Some s.badness) is)
found a b (suc j) (x ∷ xs) s e h one =
    at (has_ends a b x) refl (found a b j xs s e h (λ i t f k. let m = one (suc i) t f k in omega arith))
  where
    at : (t : Bool) → has_ends a b x ≡ t → listed xs a b ≡ Some s.badness
        → (if t then Some x.badness else listed xs a b) ≡ Some s.badness
    at true is more = let m = one 0 x refl is in absurd (omega arith)
    at false is more = more

-- what is listed has an index
somewhere : (a b v : ℕ) (spans : List Span)
    → listed spans a b ≡ Some v → (i : ℕ) × (t : Span) × (slice_get spans i ≡ Some t) × (has_ends a b t ≡ true)
somewhere a b v [] e = absurd (none-some v e)
somewhere a b v (x ∷ xs) e = at (has_ends a b x) refl e (λ k. somewhere a b v xs k)
  where
    at : (t : Bool) → has_ends a b x ≡ t → (if t then Some x.badness else listed xs a b) ≡ Some v
        → (listed xs a b ≡ Some v → (i : ℕ) × (t : Span) × (slice_get xs i ≡ Some t) × (has_ends a b t ≡ true))
        → (i : ℕ) × (t : Span) × (slice_get (x ∷ xs) i ≡ Some t) × (has_ends a b t ≡ true)
    at true is e more = (0, x, refl, is)
    at false is e more = let m = more e in (suc m.0, m.1, m.2, m.3)

module _ (spans : List Span) (firsts : List ℕ) (indexed : IsIndexed spans firsts) (a b : ℕ) where
  place : ℕ
  place = slice_index firsts a + (b - a - 1)

  stands_there : (i : ℕ) (t : Span)
      → slice_get spans i ≡ Some t → has_ends a b t ≡ true → i ≡ slice_index firsts a + (b - a - 1)
  stands_there i t f k =
      let ends = ends_are a b t k in
      subst (λ b. i ≡ slice_index firsts a + (b - a - 1)) ends.1
      (subst (λ a. i ≡ slice_index firsts a + (t.b - a - 1)) ends.0 (indexed.each i t f))

  nothing : looked_up spans firsts a b ≡ None → (o : Option ℕ) → listed spans a b ≡ o → None ≡ o
  nothing e None f = refl
  nothing e (Some v) f =
      let m = somewhere a b v spans f in
      let at = stands_there m.0 m.1 m.2 m.3 in
      let here : slice_get spans (slice_index firsts a + (b - a - 1)) ≡ Some m.1 =
      subst (λ i. slice_get spans i ≡ Some m.1) at m.2 in
      let got : looked_up spans firsts a b ≡ Some m.1.badness =
      ap (λ o. option_and_then (λ s. cost_if a b s) o) here ∙ ap (λ t. if t then Some m.1.badness else None) m.3 in
      absurd (none-some m.1.badness (sym e ∙ got))

  pub agrees : looked_up spans firsts a b ≡ listed spans a b
  agrees = at (slice_get spans (slice_index firsts a + (b - a - 1))) refl
    where
      has : (s : Span) (t : Bool)
          → slice_get spans (slice_index firsts a + (b - a - 1)) ≡ Some s
          → has_ends a b s ≡ t
          → (if t then Some s.badness else None) ≡ listed spans a b
      has s true e is = sym (found a b (slice_index firsts a + (b - a - 1)) spans s e is stands_there)
      has s false e is =
          nothing (ap (λ o. option_and_then (λ s. cost_if a b s) o) e ∙ ap (λ t. if t then Some s.badness else None) is)
          (listed spans a b) refl

      at : (o : Option Span)
          → slice_get spans (slice_index firsts a + (b - a - 1)) ≡ o → looked_up spans firsts a b ≡ listed spans a b
      at None e =
          let got : looked_up spans firsts a b ≡ None = ap (λ o. option_and_then (λ s. cost_if a b s) o) e in
          got ∙ nothing got (listed spans a b) refl
      at (Some s) e = ap (λ o. option_and_then (λ s. cost_if a b s) o) e ∙ has s (has_ends a b s) e refl

get_push : (xs : List Span) (x : Span) (i : ℕ) (t : Span)
    → slice_get (xs ++ x ∷ []) i ≡ Some t → (slice_get xs i ≡ Some t) ⊎ ((i ≡ length xs) × (x ≡ t))
get_push [] x zero t e = inr (refl, same_Some x t e)
get_push [] x (suc i) t e = absurd (none-some t e)
get_push (y ∷ xs) x zero t e = inl e
get_push (y ∷ xs) x (suc i) t e =
    elim (get_push xs x i t e) [ inl h ↦ inl h | inr h ↦ let k = h.0 in inr ((omega arith), h.1) ]

-- no span begins after the last span does
last_rises : (n : ℕ) (s : Span) (ss : List Span)
    → SpansFrom n (Some s) ss → MatchOption (last_span_from (Some s) ss) ⊥ (λ p. s.a ≤ p.a)
last_rises n s [] h = omega arith
last_rises n s (t ∷ ss) h = at (last_span_from (Some t) ss) (last_rises n t ss h.1) h.0.follows
  where
    at : (o : Option Span) → MatchOption o ⊥ (λ p. t.a ≤ p.a) → IsNextSpan s t → MatchOption o ⊥ (λ p. s.a ≤ p.a)
    at None h k = h
    at (Some p) h (inl k) = let l = k.0 in omega arith
    at (Some p) h (inr k) = let e = k.0 in omega arith

earlier : (n : ℕ) (last : Option Span) (ss : List Span) (i : ℕ) (t : Span)
    → SpansFrom n last ss → slice_get ss i ≡ Some t → MatchOption (last_span_from last ss) ⊥ (λ p. t.a ≤ p.a)
earlier n last [] i t h e = absurd (none-some t e)
earlier n last (s ∷ ss) zero t h e =
    subst (λ t. MatchOption (last_span_from (Some s) ss) ⊥ (λ p. t.a ≤ p.a)) (same_Some s t e) (last_rises n s ss h.1)
earlier n last (s ∷ ss) (suc i) t h e = earlier n (Some s) ss i t h.1 e

each_rises : (n : ℕ) (last : Option Span) (ss : List Span) (i : ℕ) (t : Span)
    → SpansFrom n last ss → slice_get ss i ≡ Some t → t.a < t.b
each_rises n last [] i t h e = absurd (none-some t e)
each_rises n last (s ∷ ss) zero t h e = subst (λ t. t.a < t.b) (same_Some s t e) h.0.rises
each_rises n last (s ∷ ss) (suc i) t h e = each_rises n (Some s) ss i t h.1 e

-- the last span is at the end
last_stands : (last : Option Span) (ss : List Span) (p : Span)
    → last_span_from last ss ≡ Some p
    → ((ss ≡ []) × (last ≡ Some p)) ⊎ ((i : ℕ) × (suc i ≡ length ss) × (slice_get ss i ≡ Some p))
last_stands last [] p e = inl (refl, e)
last_stands last (s ∷ ss) p e = elim (last_stands (Some s) ss p e) [
  | inl h ↦ let n = ap length h.0 in inr (0, omega arith, h.1)
  | inr h ↦ let k = h.1 in inr (suc h.0, omega arith, h.2)
]

module _ (n : ℕ) (spans : List Span) (firsts : List ℕ) (s : Span) (h : AreSpans n spans)
    (m : MayFollow n (last_span_from None spans) s)
    (indexed : IsIndexed spans firsts) where
  -- the span is the first from its bar
  pub index_first : s.b ≡ s.a + 1
      → s.a < length firsts → IsIndexed (spans ++ s ∷ []) (slice_set firsts s.a (length spans))
  index_first new l = record {
    each = λ i t e. elim (get_push spans s i t e) [
      | inl k ↦
          let before = fresh t (last_span_from None spans) refl (earlier n None spans i t h k) m.follows in
          let ne : t.a ≢ s.a = omega arith in
          let other = get_or-set_other firsts s.a t.a (length spans) 0 ne in
          let old = indexed.each i t k in omega (arith, other, old)
      | inr k ↦ subst (λ t. i ≡ slice_index (slice_set firsts s.a (length spans)) t.a + (t.b - t.a - 1)) k.1
          (let same = get_or-set_same firsts s.a (length spans) 0 l in let at = k.0 in omega (arith, same, at))
    ];
    inside = λ a. elim (cases_eq a s.a) [
      | inl e ↦ let same = get_or-set_same firsts s.a (length spans) 0 l in let more = length-append spans (s ∷ []) in
          subst (λ a. slice_index (slice_set firsts s.a (length spans)) a ≤ length (spans ++ s ∷ [])) (sym e)
          (omega (arith, same, more))
      | inr ne ↦
          let other = get_or-set_other firsts s.a a (length spans) 0 ne in
          let old = indexed.inside a in
          let more = length-append spans (s ∷ []) in
          omega (arith, other, old, more)
    ];
  }
    where
      fresh : (t : Span) (o : Option Span)
          → last_span_from None spans ≡ o → MatchOption o ⊥ (λ p. t.a ≤ p.a)
          → MatchOption o (s.b ≡ s.a + 1) (λ p. IsNextSpan p s)
          → t.a < s.a
      fresh t None e k f = absurd k
      fresh t (Some p) e k (inl f) = let l = f.0 in omega arith
      fresh t (Some p) e k (inr f) = elim (last_stands None spans p e) [
        | inl q ↦ absurd (none-some p q.1)
        | inr q ↦ let r = each_rises n None spans q.0 p h q.2 in let ea = f.0 in let eb = f.1 in absurd (omega arith)
      ]

  -- the span is the one before it with one bar more
  pub index_later : s.b ≢ s.a + 1 → IsIndexed (spans ++ s ∷ []) firsts
  index_later later = record {
    each =
        λ i t e. elim (get_push spans s i t e) [
          | inl k ↦ indexed.each i t k
          | inr k ↦
              subst (λ t. i ≡ slice_index firsts t.a + (t.b - t.a - 1)) k.1
              (k.0 ∙ following (last_span_from None spans) refl m.follows)
        ];
    inside = λ a. let old = indexed.inside a in let more = length-append spans (s ∷ []) in omega (arith, old, more);
  }
    where
      following : (o : Option Span)
          → last_span_from None spans ≡ o → MatchOption o (s.b ≡ s.a + 1) (λ p. IsNextSpan p s)
          → length spans ≡ slice_index firsts s.a + (s.b - s.a - 1)
      following None e f = absurd (later f)
      following (Some p) e (inl f) = absurd (later f.1)
      following (Some p) e (inr f) = elim (last_stands None spans p e) [
        | inl k ↦ absurd (none-some p k.1)
        | inr k ↦
            let old = indexed.each k.0 p k.2 in
            let same : slice_index firsts p.a ≡ slice_index firsts s.a = ap (slice_index firsts) (sym f.0) in
            let ea = f.0 in let eb = f.1 in let n = k.1 in let up = m.rises in omega (arith, old, same, ea, eb, n, up)
      ]

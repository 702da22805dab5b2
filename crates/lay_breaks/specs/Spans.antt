-- Costs as a list of the spans that fit, by the bar at which they begin and then by the bar at which they end. From
-- each bar the list has the spans from the shortest to the longest that fits, so a span that is longer than one that
-- isn't listed isn't listed either.
use Rattle.std.specs.Prelude.{◌≡◌, ℕ, ◌+◌, ◌-◌, ◌<◌, ◌≤◌, ◌^◌, ◌⊎◌, ◌==◌, ◌&&◌, Bool, true, false, List, [], ◌∷◌}
use Rattle.std.specs.Prelude.{Option, Some, None, MatchOption, IfSome, IsSome, if◌then◌else◌, zero, suc, refl}
use Rattle.std.proofs.Common.{arith, sym, ◌∙◌, ap, subst, inl, inr, is_some}
use Rattle.std.proofs.lemmas.Bool.{true≢false}
use Rattle.std.proofs.lemmas.Bool.Decides.{nat_tests}
use Rattle.lay_breaks.specs.declared.costs.Span.{Span}

-- the span s comes directly after the span p: it begins further on and is the shortest from its bar, or it is p with
-- one more bar
abbrev pub IsNextSpan : Span → Span → Type 0
IsNextSpan p s = ((p.a < s.a) × (s.b ≡ s.a + 1)) ⊎ ((s.a ≡ p.a) × (s.b ≡ p.b + 1))

-- of n bars the span s may come after the last span so far, if there is one
pub record MayFollow (n : ℕ) (last : Option Span) (s : Span) : Type 0 where
  pub rises : s.a < s.b
  pub within : s.b ≤ n
  pub small : s.badness ≤ 2 ^ 40
  pub follows : MatchOption last (s.b ≡ s.a + 1) (λ p. IsNextSpan p s)

abbrev pub SpansFrom : ℕ → Option Span → List Span → Type 0
SpansFrom n last [] = Unit {0}
SpansFrom n last (s ∷ ss) = MayFollow n last s × SpansFrom n (Some s) ss

-- a list of the spans that fit among n bars
abbrev pub AreSpans : ℕ → List Span → Type 0
AreSpans n spans = SpansFrom n None spans

abbrev pub has_ends : ℕ → ℕ → Span → Bool
has_ends a b s = (s.a == a) && (s.b == b)

-- the cost of the span from a to b, or None if it isn't listed
abbrev pub listed : List Span → ℕ → ℕ → Option ℕ
listed [] a b = None
listed (s ∷ ss) a b = if has_ends a b s then Some s.badness else listed ss a b

-- Consequences of the form: the two laws of costs.
pub listed_small : (n : ℕ) (last : Option Span) (ss : List Span)
    → SpansFrom n last ss → (a b : ℕ) → IfSome (listed ss a b) (λ v. v ≤ 2 ^ 40)
listed_small n last [] h a b = tt
listed_small n last (s ∷ ss) h a b =
    elim (has_ends a b s) as (λ t. IfSome (if t then Some s.badness else listed ss a b) (λ v. v ≤ 2 ^ 40)) [
      | true ↦ h.0.small
      | false ↦ listed_small n (Some s) ss h.1 a b
    ]

pub ends_are : (a b : ℕ) (s : Span) → has_ends a b s ≡ true → (s.a ≡ a) × (s.b ≡ b)
ends_are a b s e = grind (arith, nat_tests)

pub has_these : (a b : ℕ) (s : Span) → s.a ≡ a → s.b ≡ b → has_ends a b s ≡ true
has_these a b s e f = grind (arith, nat_tests)

-- the list after s has the span, or s is it
pub listed_more : (a b : ℕ) (s : Span) (ss : List Span) → IsSome (listed ss a b) → IsSome (listed (s ∷ ss) a b)
listed_more a b s ss h =
    elim (has_ends a b s) as (λ t. IsSome (if t then Some s.badness else listed ss a b)) [ true ↦ refl | false ↦ h ]

pub listed_first : (a b : ℕ) (s : Span) (ss : List Span) → s.a ≡ a → s.b ≡ b → IsSome (listed (s ∷ ss) a b)
listed_first a b s ss e f = rw (has_these a b s e f) refl

-- if a span is listed, so is the span with one bar less, or it is the one before the list
span_one_less : (n : ℕ) (last : Option Span) (ss : List Span) (a c : ℕ)
    → a < c → SpansFrom n last ss → IsSome (listed ss a (c + 1))
    → IsSome (listed ss a c) ⊎ MatchOption last ⊥ (λ p. (p.a ≡ a) × (p.b ≡ c))
span_one_less n last [] a c l h e = absurd (true≢false (sym e))
span_one_less n last (s ∷ ss) a c l h e =
    at (λ k. span_one_less n (Some s) ss a c l h.1 k) (has_ends a (c + 1) s) refl e
  where
    before : (last : Option Span)
        → MatchOption last (s.b ≡ s.a + 1) (λ p. IsNextSpan p s) → s.a ≡ a → s.b ≡ c + 1
        → MatchOption last ⊥ (λ p. (p.a ≡ a) × (p.b ≡ c))
    before None f ea eb = absurd (omega arith)
    before (Some p) (inl f) ea eb = let k = f.1 in absurd (omega arith)
    before (Some p) (inr f) ea eb = let k = f.0 in let m = f.1 in (omega arith, omega arith)

    at : (IsSome (listed ss a (c + 1)) → IsSome (listed ss a c) ⊎ ((s.a ≡ a) × (s.b ≡ c)))
        → (t : Bool) → has_ends a (c + 1) s ≡ t → IsSome (if t then Some s.badness else listed ss a (c + 1))
        → IsSome (listed (s ∷ ss) a c) ⊎ MatchOption last ⊥ (λ p. (p.a ≡ a) × (p.b ≡ c))
    at more true is e = let k = ends_are a (c + 1) s is in inr (before last h.0.follows k.0 k.1)
    at more false is e =
        elim (more e) [ inl k ↦ inl (listed_more a c s ss k) | inr k ↦ inl (listed_first a c s ss k.0 k.1) ]

still_listed : (n : ℕ) (spans : List Span) (a b d : ℕ)
    → AreSpans n spans → a < b → IsSome (listed spans a (b + d)) → IsSome (listed spans a b)
still_listed n spans a b zero h l e = let k : b + 0 ≡ b = omega arith in subst (λ c. IsSome (listed spans a c)) k e
still_listed n spans a b (suc d) h l e =
    let k : b + suc d ≡ b + d + 1 = omega arith in
    elim (span_one_less n None spans a (b + d) (omega arith) h (subst (λ c. IsSome (listed spans a c)) k e)) [
      | inl m ↦ still_listed n spans a b d h l m
      | inr m ↦ absurd m
    ]

none_from : (o q : Option ℕ) → (IsSome q → IsSome o) → o ≡ None → q ≡ None
none_from o None f e = refl
none_from o (Some v) f e = absurd (true≢false (sym (f refl) ∙ ap is_some e))

pub listed_stops : (n : ℕ) (spans : List Span)
    → AreSpans n spans → (a b c : ℕ) → a < b → b < c → listed spans a b ≡ None → listed spans a c ≡ None
listed_stops n spans h a b c l m e =
    let k : b + (c - b) ≡ c = omega arith in
    none_from (listed spans a b) (listed spans a c)
    (λ some. still_listed n spans a b (c - b) h l (subst (λ c. IsSome (listed spans a c)) (sym k) some)) e

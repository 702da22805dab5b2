-- Where a listed span is.
use Rattle.std.proofs.Common.{◌≡◌, ℕ, zero, suc, ◌+◌, ◌<◌, ◌≤◌, Bool, true, false, nat_lt, List, [], ◌∷◌, length, drop}
use Rattle.std.proofs.Common.{Option, Some, None, option_map, if◌then◌else◌, arith, refl, sym, ◌∙◌, ap, subst, inl, inr}
use Rattle.std.proofs.Common.{unwrap_or}
use Rattle.std.proofs.lemmas.Bool.Decides.{nat_tests}
use Rattle.std.proofs.lemmas.List.Sorted.{IsNonDecreasingBy-from_all_adjacent}
use Rattle.std.specs.List.{AllWithin, find, slice_index_or}
use Rattle.std.specs.List.Sorted.{IsNonDecreasingBy}
use Rattle.lay_breaks.specs.{declared.costs.Span.Span, Spans.{AreSpans, IsNextSpan, SpansFrom, has_ends, listed}}

next_begins : (p s : Span) → IsNextSpan p s → p.a ≤ s.a
next_begins p s (inl h) = let l = h.0 in omega arith
next_begins p s (inr h) = let e = h.0 in omega arith

begin_in_order : (n : ℕ) (last : Option Span) (ss : List Span)
    → SpansFrom n last ss → (k : ℕ) (d : Span) → suc k < length ss
    → (slice_index_or ss k d).a ≤ (slice_index_or ss (suc k) d).a
begin_in_order n last (s ∷ t ∷ ss) h zero d l = next_begins s t h.1.0.follows
begin_in_order n last (s ∷ t ∷ ss) h (suc k) d l = begin_in_order n (Some s) (t ∷ ss) h.1 k d (omega (arith, l))
begin_in_order n last ss h k d l = absurd (omega (arith, l))

-- listed spans are sorted by the bar at which they begin
pub in_order : (n : ℕ) (ss : List Span) → AreSpans n ss → IsNonDecreasingBy (λ s. s.a) ss
in_order n ss h = IsNonDecreasingBy-from_all_adjacent (λ s. s.a) ss (λ k d l.
    let e : suc k ≡ k + 1 = omega arith in
    subst (λ j. (slice_index_or ss k d).a ≤ (slice_index_or ss j d).a) e
    (begin_in_order n None ss h k d (omega (arith, l))))

-- the first span with these ends is the one that is listed
pub listed_is : (ss : List Span) (a b : ℕ) → option_map (λ s. s.badness) (find (has_ends a b) ss) ≡ listed ss a b
listed_is [] a b = refl
listed_is (s ∷ ss) a b = at (listed_is ss a b) (has_ends a b s)
  where
    at : option_map (λ s. s.badness) (find (has_ends a b) ss) ≡ listed ss a b
        → (t : Bool)
        → option_map (λ s. s.badness) (if t then Some s else find (has_ends a b) ss)
        ≡ (if t then Some s.badness else listed ss a b)
    at more true = refl
    at more false = more

other_ends : (a b : ℕ) (s : Span) → nat_lt s.a a ≡ true → has_ends a b s ≡ false
other_ends a b s h = grind (arith, nat_tests)

-- spans that begin before bar a needn't be looked at
pub listed_past : (ss : List Span) (i a b : ℕ)
    → i ≤ length ss → AllWithin (λ s. nat_lt s.a a ≡ true) ss 0 i → listed (drop i ss) a b ≡ listed ss a b
listed_past ss zero a b l h = refl
listed_past [] (suc i) a b l h = absurd (omega (arith, l))
listed_past (s ∷ ss) (suc i) a b l h =
    listed_past ss i a b (omega (arith, l)) (λ k d from to. h (suc k) d (omega arith) (omega (arith, to)))
    ∙ sym (ap (λ t. if t then Some s.badness else listed ss a b) (other_ends a b s (h 0 s (omega arith) (omega arith))))

pub badness_is : (ss : List Span) (a b : ℕ) (o : Option Span)
    → o ≡ find (has_ends a b) ss → unwrap_or (option_map (λ s. s.badness) o) 0 ≡ unwrap_or (listed ss a b) 0
badness_is ss a b o e =
    ap (λ o. unwrap_or (option_map (λ s. s.badness) o) 0) e ∙ ap (λ o. unwrap_or o 0) (listed_is ss a b)

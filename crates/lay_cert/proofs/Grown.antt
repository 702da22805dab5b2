-- Each part of a listing with one more at its end.
use Rattle.std.proofs.Common.{◌≡◌, ℕ, suc, ◌+◌, ◌<◌, ◌≤◌, Bool, true, false, List, [], ◌∷◌, ◌++◌, length, Option, Some}
use Rattle.std.proofs.Common.{IsSome, refl, sym, ◌∙◌, ap, arith, if◌then◌else◌}
use Rattle.std.proofs.lemmas.Bool.{true≢false}
use mathlib.Core.List.{append_assoc, append-nil}
use Rattle.lay_breaks.specs.Breaking.{RisesFrom, FitsFrom, last_from, IsLegal}
use Rattle.lay_breaks.specs.Spans.{MayFollow, SpansFrom, listed, has_ends, ends_are}
use Rattle.lay_breaks.specs.declared.costs.Span.{Span}
use Rattle.lay_cert.specs.Listing.{Entry, IsEntry, EntriesFrom, none_forced, entry_lines, all_lines, potential_lines}
use Rattle.lay_cert.specs.ReaderStates.{last_tune_from, last_span_from}
use Rattle.lay_cert.specs.declared.lines.ListingLine.{ListingLine}

pub push_potential : (i : ℕ) (ps : List (Option ℕ)) (p : Option ℕ)
    → potential_lines i (ps ++ p ∷ []) ≡ potential_lines i ps ++ ListingLine.Potential (i + length ps) p ∷ []
push_potential i [] p = let e : i ≡ i + 0 = omega arith in ap (λ j. ListingLine.Potential j p ∷ []) e
push_potential i (q ∷ ps) p =
    let e : i + 1 + length ps ≡ i + suc (length ps) = omega arith in
    ap (λ t. ListingLine.Potential i q ∷ t)
    (push_potential (i + 1) ps p ∙ ap (λ j. potential_lines (i + 1) ps ++ ListingLine.Potential j p ∷ []) e)

pub push_entry : (es : List Entry) (e : Entry) → all_lines (es ++ e ∷ []) ≡ all_lines es ++ entry_lines e
push_entry [] e = append-nil (entry_lines e)
push_entry (x ∷ es) e =
    ap (λ t. entry_lines x ++ t) (push_entry es e) ∙ sym (append_assoc (entry_lines x) (all_lines es) (entry_lines e))

pub push_entries : (k : ℕ) (es : List Entry) (e : Entry)
    → EntriesFrom k es → last_tune_from k es < e.tune → IsEntry e → EntriesFrom k (es ++ e ∷ [])
push_entries k [] e h l is = (l, is, tt)
push_entries k (x ∷ es) e h l is = (h.0, h.1, push_entries x.tune es e h.2 l is)

pub push_tune : (k : ℕ) (es : List Entry) (e : Entry) → last_tune_from k (es ++ e ∷ []) ≡ e.tune
push_tune k [] e = refl
push_tune k (x ∷ es) e = push_tune x.tune es e

pub push_span : (n : ℕ) (last : Option Span) (ss : List Span) (s : Span)
    → SpansFrom n last ss → MayFollow n (last_span_from last ss) s → SpansFrom n last (ss ++ s ∷ [])
push_span n last [] s h m = (m, tt)
push_span n last (x ∷ ss) s h m = (h.0, push_span n (Some x) ss s h.1 m)

pub push_last_span : (last : Option Span) (ss : List Span) (s : Span) → last_span_from last (ss ++ s ∷ []) ≡ Some s
push_last_span last [] s = refl
push_last_span last (x ∷ ss) s = push_last_span (Some x) ss s

pub push_last : (a b : ℕ) (bs : List ℕ) → last_from a (bs ++ b ∷ []) ≡ b
push_last a b [] = refl
push_last a b (x ∷ bs) = push_last x b bs

push_rises : (a b : ℕ) (bs : List ℕ) → RisesFrom a bs → last_from a bs < b → RisesFrom a (bs ++ b ∷ [])
push_rises a b [] h l = (l, tt)
push_rises a b (x ∷ bs) h l = (h.0, push_rises x b bs h.1 l)

push_fits : (cost : ℕ → ℕ → Option ℕ) (a b : ℕ) (bs : List ℕ)
    → FitsFrom cost a bs → IsSome (cost (last_from a bs) b) → FitsFrom cost a (bs ++ b ∷ [])
push_fits cost a b [] h l = (l, tt)
push_fits cost a b (x ∷ bs) h l = (h.0, push_fits cost x b bs h.1 l)

-- of two legal prefixes without forced bars, only rising and fitting counts
pub push_legal : (cost : ℕ → ℕ → Option ℕ) (bs : List ℕ) (b : ℕ)
    → IsLegal cost none_forced bs (last_from 0 bs) → last_from 0 bs < b
    → IsSome (cost (last_from 0 bs) b) → IsLegal cost none_forced (bs ++ b ∷ []) (last_from 0 (bs ++ b ∷ []))
push_legal cost bs b h l some = record {
  rises = push_rises 0 b bs h.rises l;
  ends = refl;
  every_forced = λ f le t. absurd (true≢false (sym t));
  fits = push_fits cost 0 b bs h.fits some;
}

-- a listed span rises and is among the bars
pub listed_within : (n : ℕ) (last : Option Span) (ss : List Span) (a b : ℕ)
    → SpansFrom n last ss → IsSome (listed ss a b) → (a < b) × (b ≤ n)
listed_within n last [] a b h some = absurd (true≢false (sym some))
listed_within n last (s ∷ ss) a b h some = at (has_ends a b s) refl (λ k. listed_within n (Some s) ss a b h.1 k) some
  where
    at : (t : Bool) → has_ends a b s ≡ t → (IsSome (listed ss a b) → (a < b) × (b ≤ n))
        → IsSome (if t then Some s.badness else listed ss a b)
        → (a < b) × (b ≤ n)
    at true e more some =
        let k = ends_are a b s e in let r = h.0.rises in let w = h.0.within in (omega arith, omega arith)
    at false e more some = more some

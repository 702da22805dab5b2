-- What the checker stores while spans and breaks are read.
use Rattle.std.proofs.Common.{◌≡◌, ◌≢◌, ℕ, ◌+◌, ◌^◌, ◌<◌, ◌≤◌, List, [], ◌∷◌, ◌++◌, length, Option, Some, None, IsSome}
use Rattle.std.proofs.Common.{is_some, unwrap_or, refl, sym, ◌∙◌, ap, subst, arith, inl, inr, slice_set, Vec}
use Rattle.std.proofs.lemmas.Bool.{true≢false, cases_eq}
use Rattle.std.proofs.lemmas.List.{length-set}
use Rattle.std.specs.Global.{Global}
use Rattle.lay_breaks.specs.Breaking.{FitsFrom, last_from, sum_from, IsLegal}
use Rattle.lay_breaks.specs.Spans.{MayFollow, AreSpans, listed, listed_small}
use Rattle.lay_breaks.specs.declared.costs.Span.{Span}
use Rattle.lay_cert.specs.Indexed.{IsIndexed}
use Rattle.lay_cert.specs.Listing.{none_forced}
use Rattle.lay_cert.specs.ReaderStates.{last_span_from}
use Rattle.lay_cert.specs.Represents.{IsChoosing}
use Rattle.lay_cert.specs.declared.state.Choosing.{Choosing}
use Rattle.lay_cert.proofs.Grown.{push_span, push_last_span, push_last, push_legal, listed_within}
use Rattle.lay_cert.proofs.Indexing.{index_first, index_later}
use Rattle.lay_cert.proofs.Sums.{total_within}

-- no span leads back
pub listed_past : (n a b : ℕ) (ss : List Span) → AreSpans n ss → b ≤ a → None ≡ listed ss a b
listed_past n a b ss h l = at (listed ss a b) refl
  where
    at : (o : Option ℕ) → listed ss a b ≡ o → None ≡ o
    at None e = refl
    at (Some v) e = let w = listed_within n None ss a b h (ap is_some e) in absurd (omega arith)

-- no break is past the last bar
pub last_within : (n a : ℕ) (ss : List Span) (bs : List ℕ)
    → AreSpans n ss → FitsFrom (listed ss) a bs → a ≤ n → last_from a bs ≤ n
last_within n a ss [] h f l = l
last_within n a ss (b ∷ bs) h f l = last_within n b ss bs h f.1 (listed_within n None ss a b h f.0).1

pub at_within : (c : Choosing) → IsChoosing c → c.at ≤ c.bars
at_within c h =
    let l = last_within c.bars 0 c.spans c.breaks h.spans h.choice.fits (omega arith) in let e = h.at in omega arith

push_sum : (cost : ℕ → ℕ → Option ℕ) (a b : ℕ) (bs : List ℕ)
    → sum_from cost a (bs ++ b ∷ []) ≡ sum_from cost a bs + unwrap_or (cost (last_from a bs) b) 0
push_sum cost a b [] = omega arith
push_sum cost a b (x ∷ bs) = let ih = push_sum cost x b bs in omega arith

pub small_cost : (n a b v : ℕ) (ss : List Span) → AreSpans n ss → listed ss a b ≡ Some v → v ≤ 2 ^ 40
small_cost n a b v ss h e = rw e at (listed_small n None ss h a b)

pub total_fits : (c : Choosing) (bar cost : ℕ)
    → IsChoosing c → listed c.spans c.at bar ≡ Some cost → c.total + cost < 2 ^ 64
total_fits c bar cost h e =
    let t = total_within c.bars (last_from 0 c.breaks) c.spans c.breaks h.spans h.choice in
    let is = h.total in
    let l = at_within c h in
    let a = h.at in
    let f = h.few in
    let s = small_cost c.bars c.at bar cost c.spans h.spans e in omega arith

pub kept_break : (c : Choosing) (bar cost : ℕ) → IsChoosing c → listed c.spans c.at bar ≡ Some cost
    → IsChoosing
    (record {
      tune = c.tune;
      bars = c.bars;
      spans = c.spans;
      last = c.last;
      firsts = c.firsts;
      breaks = c.breaks ++ bar ∷ [];
      at = bar;
      total = c.total + cost;
    })
kept_break c bar cost h e =
    let here : listed c.spans (last_from 0 c.breaks) bar ≡ Some cost = ap (λ a. listed c.spans a bar) (sym h.at) ∙ e in
    let some : IsSome (listed c.spans (last_from 0 c.breaks) bar) = ap is_some here in
    let w = listed_within c.bars None c.spans (last_from 0 c.breaks) bar h.spans some in
    let p : unwrap_or (listed c.spans (last_from 0 c.breaks) bar) 0 ≡ cost = ap (λ o. unwrap_or o 0) here in
    let s = push_sum (listed c.spans) 0 bar c.breaks in
    let t = h.total in
    record {
      few = h.few;
      spans = h.spans;
      last = h.last;
      one_each = h.one_each;
      indexed = h.indexed;
      at = sym (push_last 0 bar c.breaks);
      choice = push_legal (listed c.spans) c.breaks bar h.choice w.0 some;
      total = omega (arith, s, p, t);
    }

-- no break, no cost
none_chosen : (ss : List Span) (bs : List ℕ) → bs ≡ [] → IsLegal (listed ss) none_forced bs (last_from 0 bs)
none_chosen ss bs e = subst (λ bs. IsLegal (listed ss) none_forced bs (last_from 0 bs)) (sym e)
    (record { rises = tt; ends = refl; every_forced = λ f le t. absurd (true≢false (sym t)); fits = tt })

pub kept_span : (c : Choosing) (s : Span) (firsts : Vec ℕ Global)
    → IsChoosing c → c.breaks ≡ [] → MayFollow c.bars c.last s
    → (s.b ≡ s.a + 1 → firsts.items ≡ slice_set c.firsts.items s.a (length c.spans))
    → (s.b ≢ s.a + 1 → firsts.items ≡ c.firsts.items)
    → IsChoosing
    (record {
      tune = c.tune;
      bars = c.bars;
      spans = c.spans ++ s ∷ [];
      last = Some s;
      firsts = firsts;
      breaks = c.breaks;
      at = c.at;
      total = c.total;
    })
kept_span c s firsts h none m first later = record {
  few = h.few;
  spans = push_span c.bars None c.spans s h.spans follows;
  last = sym (push_last_span None c.spans s);
  one_each = elim (cases_eq s.b (s.a + 1)) [
    | inl e ↦ ap length (first e) ∙ (length-set c.firsts.items s.a (length c.spans) ∙ h.one_each)
    | inr e ↦ ap length (later e) ∙ h.one_each
  ];
  indexed = elim (cases_eq s.b (s.a + 1)) [
    | inl e ↦ subst (λ fs. IsIndexed (c.spans ++ s ∷ []) fs) (sym (first e))
        (index_first c.bars c.spans c.firsts.items s h.spans follows h.indexed e
        (let n = h.one_each in let r = follows.rises in let w = follows.within in omega arith))
    | inr e ↦
        subst (λ fs. IsIndexed (c.spans ++ s ∷ []) fs) (sym (later e))
        (index_later c.bars c.spans c.firsts.items s h.spans follows h.indexed e)
  ];
  at = h.at;
  choice = none_chosen (c.spans ++ s ∷ []) c.breaks none;
  total =
      h.total
      ∙ (ap (λ bs. sum_from (listed c.spans) 0 bs) none
      ∙ ap (λ bs. sum_from (listed (c.spans ++ s ∷ [])) 0 bs) (sym none));
}
  where
    follows : MayFollow c.bars (last_span_from None c.spans) s
    follows = subst (λ o. MayFollow c.bars o s) h.last m

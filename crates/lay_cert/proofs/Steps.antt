-- A line that may come keeps what holds for the entries so far, and is the next of their lines.
use Rattle.std.proofs.Common.{◌≡◌, ℕ, ◌+◌, ◌<◌, ◌≤◌, ◌==◌, Bool, true, false, List, [], ◌∷◌, ◌++◌, length, map, Option}
use Rattle.std.proofs.Common.{None, refl, sym, ◌∙◌, ap, subst, arith, inl, inr, if◌then◌else◌, slice_index_or}
use Rattle.std.proofs.lemmas.Bool.{cases_lt, true≢false, eqb-true, eqb-false}
use Rattle.std.proofs.lemmas.List.{map-append, length-append, get_or_append_left}
use Rattle.std.proofs.Math.Seq.{get_or-append_seam}
use mathlib.Core.List.{append_assoc, append-nil}
use Rattle.eng_reader.specs.Grammar.{Leads}
use Rattle.lay_breaks.specs.Breaking.{IsLegal, last_from, IsPotential}
use Rattle.lay_breaks.specs.Spans.{listed}
use Rattle.lay_breaks.specs.declared.costs.Span.{Span}
use Rattle.lay_cert.specs.Listing.{Entry, IsEntry, none_forced, entry_lines, all_lines, potential_lines}
use Rattle.lay_cert.specs.ReaderStates.{ReaderState, begun, between, choosing, proving, MayCome, state_after, listings}
use Rattle.lay_cert.specs.ReaderStates.{last_tune_from}
use Rattle.lay_cert.specs.Reported.{IsProving, IsGood, lines_of_state, begun_lines}
use Rattle.lay_cert.specs.declared.lines.ListingLine.{ListingLine}
use Rattle.lay_cert.proofs.Grown.{push_potential, push_entry, push_entries, push_span, push_legal, listed_within}

-- an unfinished entry with one more potential
abbrev pub one_more : Entry → Option ℕ → Entry
one_more e p = record {
  tune = e.tune;
  bars = e.bars;
  spans = e.spans;
  breaks = e.breaks;
  total = e.total;
  potentials = e.potentials ++ p ∷ [];
}

-- the potentials so far are those of the first bars
push_known : (P : ℕ → Option ℕ → Type 0) (ps : List (Option ℕ)) (p : Option ℕ)
    → ((i : ℕ) → i < length ps → P i (slice_index_or ps i None)) → P (length ps) p
    → (i : ℕ) → i < length ps + 1 → P i (slice_index_or (ps ++ p ∷ []) i None)
push_known P ps p h k i l = elim (cases_lt i (length ps)) [
  | inl lt ↦ subst (λ q. P i q) (sym (get_or_append_left ps (p ∷ []) None i lt)) (h i lt)
  | inr ge ↦ let e : length ps ≡ i = omega arith in
      subst (λ i. P i (slice_index_or (ps ++ p ∷ []) i None)) e
      (subst (λ q. P (length ps) q) (sym (get_or-append_seam ps p [] None)) k)
]

whole : (k : ℕ) (e : Entry) (p : Option ℕ)
    → IsProving k e → length e.potentials ≡ e.bars
    → IsPotential (listed e.spans) none_forced (length e.potentials) p
    → IsEntry (one_more e p)
whole k e p h is known = record {
  numbered = h.begun.numbered;
  few = h.begun.few;
  spans = h.begun.spans;
  choice = subst (λ i. IsLegal (listed e.spans) none_forced e.breaks i) h.ends h.begun.choice;
  total = h.total;
  one_each = length-append e.potentials (p ∷ []) ∙ ap (λ n. n + 1) is;
  potentials =
      λ i l.
      push_known (IsPotential (listed e.spans) none_forced) e.potentials p h.potentials known i (omega (arith, is));
}

part : (k : ℕ) (e : Entry) (p : Option ℕ)
    → IsProving k e → length e.potentials < e.bars
    → IsPotential (listed e.spans) none_forced (length e.potentials) p
    → IsProving k (one_more e p)
part k e p h l known = record {
  begun = record {
    past = h.begun.past;
    numbered = h.begun.numbered;
    few = h.begun.few;
    spans = h.begun.spans;
    choice = h.begun.choice;
  };
  ends = h.ends;
  total = h.total;
  some_left = let n = length-append e.potentials (p ∷ []) in omega arith;
  potentials =
      λ i m.
      let n = length-append e.potentials (p ∷ []) in
      push_known (IsPotential (listed e.spans) none_forced) e.potentials p h.potentials known i (omega arith);
}

-- by whether the potential is that of the last bar
potential_cases : (e : Entry) (P : Bool → Type 0)
    → (length e.potentials ≡ e.bars → P true) → (length e.potentials < e.bars → P false) → length e.potentials ≤ e.bars
    → P (length e.potentials == e.bars)
potential_cases e P f g le = at (length e.potentials == e.bars) refl
  where
    at : (t : Bool) → (length e.potentials == e.bars) ≡ t → P t
    at true is = f (eqb-true (length e.potentials) e.bars is)
    at false is = let ne = eqb-false (length e.potentials) e.bars is in g (omega (arith, ne, le))

pub step_good : (p : ReaderState) (l : ListingLine) → MayCome p l → IsGood p → IsGood (state_after p l)
step_good begun ListingLine.Listing m h = tt
step_good (between es) (ListingLine.Tune tune bars) m h = (
  h,
  record {
    past = m.0;
    numbered = m.1;
    few = m.2;
    spans = tt;
    choice = record { rises = tt; ends = refl; every_forced = λ f le t. absurd (true≢false (sym t)); fits = tt };
  },
)
step_good (between es) ListingLine.End m h = h
step_good (choosing es e) (ListingLine.OneSpan s) m h = (
  h.0,
  record {
    past = h.1.past;
    numbered = h.1.numbered;
    few = h.1.few;
    spans = push_span e.bars None e.spans s h.1.spans m.1;
    choice = subst (λ bs. IsLegal (listed (e.spans ++ s ∷ [])) none_forced bs (last_from 0 bs)) (sym m.0)
        (record { rises = tt; ends = refl; every_forced = λ f le t. absurd (true≢false (sym t)); fits = tt });
  },
)
step_good (choosing es e) (ListingLine.Choose bar) m h =
    let w = listed_within e.bars None e.spans (last_from 0 e.breaks) bar h.1.spans m in (
      h.0,
      record {
        past = h.1.past;
        numbered = h.1.numbered;
        few = h.1.few;
        spans = h.1.spans;
        choice = push_legal (listed e.spans) e.breaks bar h.1.choice w.0 m;
      },
    )
step_good (choosing es e) (ListingLine.Total total) m h = (
  h.0,
  record {
    begun = record { past = h.1.past; numbered = h.1.numbered; few = h.1.few; spans = h.1.spans; choice = h.1.choice };
    ends = m.0;
    total = m.1;
    some_left = omega arith;
    potentials = λ i l. absurd (omega arith);
  },
)
step_good (proving es e) (ListingLine.Potential bar least) m h =
    let known = subst (λ i. IsPotential (listed e.spans) none_forced i least) m.0 m.1 in
    potential_cases e (λ t. IsGood (if t then between (es ++ one_more e least ∷ []) else proving es (one_more e least)))
    (λ is. push_entries 0 es (one_more e least) h.0 h.1.begun.past (whole (last_tune_from 0 es) e least h.1 is known))
    (λ l. (h.0, part (last_tune_from 0 es) e least h.1 l known)) h.1.some_left
step_good p l m h = absurd m

-- one more line after the entries so far
following : (es : List Entry) (xs ys : List ListingLine) (l : ListingLine)
    → xs ≡ ys ++ l ∷ []
    → (ListingLine.Listing ∷ all_lines es) ++ xs ≡ ((ListingLine.Listing ∷ all_lines es) ++ ys) ++ l ∷ []
following es xs ys l e =
    ap (λ t. (ListingLine.Listing ∷ all_lines es) ++ t) e
    ∙ sym (append_assoc (ListingLine.Listing ∷ all_lines es) ys (l ∷ []))

begun_span : (tune bars : ℕ) (spans : List Span) (breaks : List ℕ) (s : Span)
    → breaks ≡ []
    → ListingLine.Tune tune bars ∷ map ListingLine.OneSpan (spans ++ s ∷ []) ++ map ListingLine.Choose breaks
    ≡ (ListingLine.Tune tune bars ∷ map ListingLine.OneSpan spans ++ map ListingLine.Choose breaks)
    ++ ListingLine.OneSpan s ∷ []
begun_span tune bars spans breaks s e =
    rw e (ap (λ t. ListingLine.Tune tune bars ∷ t) (append-nil (map ListingLine.OneSpan (spans ++ s ∷ []))
    ∙ (map-append ListingLine.OneSpan spans (s ∷ [])
    ∙ ap (λ t. t ++ ListingLine.OneSpan s ∷ []) (sym (append-nil (map ListingLine.OneSpan spans))))))

begun_break : (tune bars : ℕ) (spans : List Span) (breaks : List ℕ) (bar : ℕ)
    → ListingLine.Tune tune bars ∷ map ListingLine.OneSpan spans ++ map ListingLine.Choose (breaks ++ bar ∷ [])
    ≡ (ListingLine.Tune tune bars ∷ map ListingLine.OneSpan spans ++ map ListingLine.Choose breaks)
    ++ ListingLine.Choose bar ∷ []
begun_break tune bars spans breaks bar = rw (map-append ListingLine.Choose breaks (bar ∷ [])) (simp append_assoc)

proved_more : (e : Entry) (bar : ℕ) (least : Option ℕ)
    → bar ≡ length e.potentials → entry_lines (one_more e least) ≡ entry_lines e ++ ListingLine.Potential bar least ∷ []
proved_more e bar least is =
    let at : 0 + length e.potentials ≡ bar = omega arith in
    let more = push_potential 0 e.potentials least
    ∙ ap (λ i. potential_lines 0 e.potentials ++ ListingLine.Potential i least ∷ []) at in
    ap (λ t. begun_lines e ++ ListingLine.Total e.total ∷ t) more
    ∙ sym (append_assoc (begun_lines e) (ListingLine.Total e.total ∷ potential_lines 0 e.potentials)
    (ListingLine.Potential bar least ∷ []))

pub step_lines : (p : ReaderState) (l : ListingLine)
    → MayCome p l → IsGood p → lines_of_state (state_after p l) ≡ lines_of_state p ++ l ∷ []
step_lines begun ListingLine.Listing m h = refl
step_lines (between es) (ListingLine.Tune tune bars) m h = refl
step_lines (between es) ListingLine.End m h = refl
step_lines (choosing es e) (ListingLine.OneSpan s) m h =
    following es _ (begun_lines e) (ListingLine.OneSpan s) (begun_span e.tune e.bars e.spans e.breaks s m.0)
step_lines (choosing es e) (ListingLine.Choose bar) m h =
    following es _ (begun_lines e) (ListingLine.Choose bar) (begun_break e.tune e.bars e.spans e.breaks bar)
step_lines (choosing es e) (ListingLine.Total total) m h =
    sym (append_assoc (ListingLine.Listing ∷ all_lines es) (begun_lines e) (ListingLine.Total total ∷ []))
step_lines (proving es e) (ListingLine.Potential bar least) m h =
    let reported = following es (entry_lines (one_more e least)) (entry_lines e) (ListingLine.Potential bar least)
    (proved_more e bar least m.0) in
    potential_cases e
    (λ t.
    lines_of_state (if t then between (es ++ one_more e least ∷ []) else proving es (one_more e least))
    ≡ ((ListingLine.Listing ∷ all_lines es) ++ entry_lines e) ++ ListingLine.Potential bar least ∷ [])
    (λ is. ap (λ t. ListingLine.Listing ∷ t) (push_entry es (one_more e least)) ∙ reported)
    (λ l. reported) h.1.some_left
step_lines p l m h = absurd m

pub leads_good : (p : ReaderState) (ls : List ListingLine) (q : ReaderState)
    → Leads listings p ls q → IsGood p → IsGood q
leads_good p [] q h g = subst IsGood h g
leads_good p (l ∷ ls) q h g = leads_good (state_after p l) ls q h.1 (step_good p l h.0 g)

pub leads_lines : (p : ReaderState) (ls : List ListingLine) (q : ReaderState)
    → Leads listings p ls q → IsGood p → lines_of_state q ≡ lines_of_state p ++ ls
leads_lines p [] q h g = ap lines_of_state (sym h) ∙ sym (append-nil (lines_of_state p))
leads_lines p (l ∷ ls) q h g =
    leads_lines (state_after p l) ls q h.1 (step_good p l h.0 g)
    ∙ (ap (λ t. t ++ ls) (step_lines p l h.0 g) ∙ append_assoc (lines_of_state p) (l ∷ []) ls)

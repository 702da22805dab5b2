-- A step of the checker is one line, and its end is the end of the listing.
use Rattle.std.proofs.Common.{◌≡◌, ◌≢◌, ℕ, ◌+◌, ◌^◌, ◌<◌, ◌≤◌, ◌⊎◌, inl, inr, true, List, [], ◌∷◌, ◌++◌, length, Option}
use Rattle.std.proofs.Common.{None, is_some, refl, sym, ◌∙◌, ap, subst, arith, slice_index_or, if◌then◌else◌}
use Rattle.std.proofs.Common.{◌==◌}
use Rattle.std.proofs.lemmas.Bool.{true≢false, eq-eqb, eqb-true, ne_eqb}
use Rattle.std.proofs.lemmas.List.{length-append, nil_from_length}
use Rattle.lay_breaks.specs.{Breaking.last_from, Spans.MayFollow, Spans.listed, declared.costs.Span.Span}
use Rattle.lay_cert.specs.Lines.{line_text}
use Rattle.lay_cert.specs.Listing.{Entry}
use Rattle.lay_cert.specs.ReaderStates.{ReaderState, between, choosing, proving, ended, MayCome}
use Rattle.lay_cert.specs.ReaderStates.{listings, last_tune_from, last_span_from}
use Rattle.lay_cert.specs.Verdicts.{AreVerdicts, IsVerdict}
use Rattle.lay_cert.specs.Represents.{IsChoosing, IsSound, Proves, Represents, entry_so_far}
use Rattle.lay_cert.specs.declared.lines.ListingLine.{ListingLine}
use Rattle.lay_cert.specs.declared.check.Judged.{Judged}
use Rattle.lay_cert.specs.declared.check.Verdict.{Verdict}
use Rattle.lay_cert.specs.declared.state.Choosing.{Choosing}
use Rattle.lay_cert.specs.declared.state.Proving.{Proving}
use Rattle.lay_cert.specs.declared.state.ListingState.{ListingState}
use Rattle.lay_cert.proofs.Grown.{listed_within, push_tune}
use Rattle.lay_cert.proofs.Steps.{one_more}
use Rattle.lay_cert.proofs.Through.{begun_with}
use Rattle.lay_cert.proofs.Alone.{apart, tune_alone, span_alone, choice_alone}
use Rattle.eng_reader.specs.Answers.{NoneComes, Comes}

pub none_refused : (es : List Entry) (raw : List ℕ) (tune bars : ℕ)
    → raw ≡ line_text (ListingLine.Tune tune bars) → tune < 2 ^ 32 → bars < 2 ^ 32
    → (tune ≤ last_tune_from 0 es) ⊎ (4000 < bars)
    → NoneComes listings (between es) raw
none_refused es raw tune bars is lt lb out (ListingLine.Tune t b) e m =
    let k0 = m.0 in
    let k1 = m.1 in
    let k2 = m.2 in
    let f = tune_alone tune bars t b (omega arith) (omega arith) (omega arith) (omega arith) (sym is ∙ e) in
    let f0 = f.0 in
    let f1 = f.1 in
    elim out [ inl h ↦ absurd (omega arith) | inr h ↦ absurd (omega arith) ]
none_refused es raw tune bars is lt lb out ListingLine.End e m = apart _ _ refl (sym is ∙ e)
none_refused es raw tune bars is lt lb out l e m = absurd m

pub none_span : (es : List Entry) (c : Choosing) (s : Span)
    → IsChoosing c → s.a < 2 ^ 32 → s.b < 2 ^ 32 → s.badness < 2 ^ 64
    → (c.breaks ≡ [] → MayFollow c.bars c.last s → ⊥)
    → NoneComes listings (choosing es (entry_so_far c)) (line_text (ListingLine.OneSpan s))
none_span es c s h la lb lc f (ListingLine.OneSpan t) e m =
    let ka = m.1.rises in
    let kb = m.1.within in
    let kc = m.1.small in
    let few = h.few in
    let is : t ≡ s = sym (span_alone s t (omega arith) (omega arith) lc (omega arith) (omega arith) (omega arith) e) in
    f m.0 (subst (λ o. MayFollow c.bars o s) (sym h.last)
    (subst (λ t. MayFollow c.bars (last_span_from None c.spans) t) is m.1))
none_span es c s h la lb lc f (ListingLine.Choose b) e m = apart _ _ refl e
none_span es c s h la lb lc f (ListingLine.Total t) e m = apart _ _ refl e
none_span es c s h la lb lc f l e m = absurd m

pub none_break : (es : List Entry) (c : Choosing) (bar : ℕ)
    → IsChoosing c → bar < 2 ^ 32 → listed c.spans c.at bar ≡ None
    → NoneComes listings (choosing es (entry_so_far c)) (line_text (ListingLine.Choose bar))
none_break es c bar h l f (ListingLine.Choose b) e m =
    let w = (listed_within c.bars None c.spans (last_from 0 c.breaks) b h.spans m).1 in
    let few = h.few in
    let is : b ≡ bar = sym (choice_alone bar b (omega arith) (omega arith) e) in
    let n : listed c.spans (last_from 0 c.breaks) b ≡ None =
    ap (λ b. listed c.spans (last_from 0 c.breaks) b) is ∙ (ap (λ a. listed c.spans a bar) (sym h.at) ∙ f) in
    true≢false (sym m ∙ ap is_some n)
none_break es c bar h l f (ListingLine.OneSpan s) e m = apart _ _ refl e
none_break es c bar h l f (ListingLine.Total t) e m = apart _ _ refl e
none_break es c bar h l f m e k = absurd k

pub none_choosing : (es : List Entry) (c : Choosing) (raw : List ℕ) → IsChoosing c
    → ((s : Span) → s.a < 2 ^ 32 → s.b < 2 ^ 32 → s.badness < 2 ^ 64 → raw ≡ line_text (ListingLine.OneSpan s) → ⊥)
    → ((bar : ℕ) → bar < 2 ^ 32 → raw ≡ line_text (ListingLine.Choose bar) → ⊥)
    → (c.at ≡ c.bars → raw ≡ line_text (ListingLine.Total c.total) → ⊥)
    → NoneComes listings (choosing es (entry_so_far c)) raw
none_choosing es c raw h f g k (ListingLine.OneSpan s) e m =
    let ka = m.1.rises in
    let kb = m.1.within in
    let kc = m.1.small in
    let few = h.few in
    f s (omega arith) (omega arith) (omega arith) e
none_choosing es c raw h f g k (ListingLine.Choose b) e m =
    let w = (listed_within c.bars None c.spans (last_from 0 c.breaks) b h.spans m).1 in
    let few = h.few in
    g b (omega arith) e
none_choosing es c raw h f g k (ListingLine.Total t) e m =
    k (h.at ∙ m.0) (e ∙ ap (λ t. line_text (ListingLine.Total t)) (m.1 ∙ sym h.total))
none_choosing es c raw h f g k l e m = absurd m

-- an entry is determined by its parts
pub entry_same : (c : Choosing) (t n : ℕ) (ss : List Span) (bs : List ℕ)
    → c.tune ≡ t → c.bars ≡ n → c.spans ≡ ss → c.breaks ≡ bs → begun_with t n ss bs ≡ entry_so_far c
entry_same c t n ss bs et en es eb =
    ap (λ t. begun_with t n ss bs) (sym et) ∙ (ap (λ n. begun_with c.tune n ss bs) (sym en)
    ∙ (ap (λ ss. begun_with c.tune c.bars ss bs) (sym es) ∙ ap (λ bs. begun_with c.tune c.bars c.spans bs) (sym eb)))

pub verdicts_more : (es : List Entry) (js : List Judged) (e : Entry) (j : Judged)
    → AreVerdicts es js → j.tune ≡ e.tune → IsVerdict e j.verdict → AreVerdicts (es ++ e ∷ []) (js ++ j ∷ [])
verdicts_more [] [] e j h t v = (t, v, tt)
verdicts_more (x ∷ es) (k ∷ js) e j h t v = (h.0, h.1, verdicts_more es js e j h.2 t v)
verdicts_more es js e j h t v = absurd h

pub at_ended : (js : List Judged) (p : ReaderState)
    → Represents ListingState.Ended js p → (es : List Entry) × (p ≡ ended es) × AreVerdicts es js
at_ended js (ended es) h = (es, refl, h)
at_ended js p h = absurd h

pub is_sound : (s : ListingState) (js : List Judged) (p : ReaderState) → Represents s js p → IsSound s
is_sound (ListingState.Choosing c) js (choosing es e) h = h.1
is_sound (ListingState.Proving v) js (proving es e) h = h.1.kept
is_sound ListingState.Begun js p h = tt
is_sound (ListingState.Between last) js p h = tt
is_sound ListingState.Ended js p h = tt
is_sound s js p h = absurd h

-- only the last checker state represents the end
pub ended_stage : (s : ListingState) (js : List Judged) (es : List Entry)
    → Represents s js (ended es) → s ≡ ListingState.Ended
ended_stage ListingState.Ended js es h = refl
ended_stage s js es h = absurd h

potential_here : (es : List Entry) (e : Entry) (v : Proving)
    → Proves v e → MayCome (proving es e) (ListingLine.Potential v.next (slice_index_or v.potentials v.next None))
potential_here es e v h = let le = h.kept.some_left in let eb = h.bars in (h.next, h.potentials v.next (omega arith))

verdict_on : (e : Entry) (p : Option ℕ) (w : Verdict) → IsVerdict e w → IsVerdict (one_more e p) w
verdict_on e p (Verdict.Least t) k = k
verdict_on e p (Verdict.NotLeast t b bs) k = k

-- the potential of the last bar
pub proved_all : (es : List Entry) (js : List Judged) (e : Entry) (v : Proving) (raw : List ℕ)
    → AreVerdicts es js → Proves v e → v.next ≡ v.bars
    → raw ≡ line_text (ListingLine.Potential v.next (slice_index_or v.potentials v.next None))
    → Comes listings (proving es e) raw
    (Represents (ListingState.Between v.tune) (js ++ record { tune = v.tune; verdict = v.verdict } ∷ []))
proved_all es js e v raw known h last is =
    let p : Option ℕ = slice_index_or v.potentials v.next None in
    let n = h.next in
    let b = h.bars in
    let all : length e.potentials ≡ e.bars = omega arith in
    let j : Judged = record { tune = v.tune; verdict = v.verdict } in
    record {
      line = ListingLine.Potential v.next p;
      spelled = is;
      may = potential_here es e v h;
      next =
          subst (λ t.
          Represents (ListingState.Between v.tune) (js ++ j ∷ [])
          (if t then between (es ++ one_more e p ∷ []) else proving es (one_more e p)))
          (sym (eq-eqb (length e.potentials) e.bars all)) (
            h.tune ∙ sym (push_tune 0 es (one_more e p)),
            verdicts_more es js (one_more e p) j known h.tune (verdict_on e p v.verdict h.verdict),
          );
    }

-- the potential of a bar before it
pub proved_one : (es : List Entry) (js : List Judged) (e : Entry) (v : Proving) (raw : List ℕ)
    → AreVerdicts es js → Proves v e → v.next ≢ v.bars
    → raw ≡ line_text (ListingLine.Potential v.next (slice_index_or v.potentials v.next None))
    → Comes listings (proving es e) raw
    (Represents
    (ListingState.Proving
    (record { tune = v.tune; bars = v.bars; potentials = v.potentials; next = v.next + 1; verdict = v.verdict }))
    js)
proved_one es js e v raw known h last is =
    let p : Option ℕ = slice_index_or v.potentials v.next None in
    let n = h.next in
    let b = h.bars in
    let part : length e.potentials ≢ e.bars = omega arith in
    let le = h.kept.some_left in let some : v.next < v.bars = omega arith in
    record {
      line = ListingLine.Potential v.next p;
      spelled = is;
      may = potential_here es e v h;
      next =
          subst (λ t.
          Represents
          (ListingState.Proving
          (record { tune = v.tune; bars = v.bars; potentials = v.potentials; next = v.next + 1; verdict = v.verdict }))
          js
          (if t then between (es ++ one_more e p ∷ []) else proving es (one_more e p)))
          (sym (ne_eqb (length e.potentials) e.bars part)) (
            known,
            record {
              kept = record { few = h.kept.few; some_left = omega arith; one_each = h.kept.one_each };
              tune = h.tune;
              bars = h.bars;
              next = let m = length-append e.potentials (p ∷ []) in omega (arith, m);
              verdict = verdict_on e p v.verdict h.verdict;
              potentials = h.potentials;
            },
          );
    }

pub no_length : (xs : List ℕ) → (length xs == 0) ≡ true → xs ≡ []
no_length xs e = nil_from_length xs (eqb-true (length xs) 0 e)

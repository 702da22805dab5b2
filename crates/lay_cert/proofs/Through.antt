-- The lines of a listing are good, each after those before it.
use Rattle.std.proofs.Common.{◌≡◌, ℕ, suc, ◌+◌, ◌<◌, ◌≤◌, List, [], ◌∷◌, ◌++◌, length, map, Option, None, refl, sym, ap}
use Rattle.std.proofs.Common.{subst, arith, if◌then◌else◌, slice_index_or}
use Rattle.std.proofs.lemmas.Bool.{eq-eqb, ne_eqb}
use Rattle.std.proofs.lemmas.List.{length-append}
use mathlib.Core.List.{append_assoc, append-nil}
use Rattle.eng_reader.{specs.Grammar.Leads, proofs.Ways.leads_both}
use Rattle.lay_breaks.specs.Breaking.{FitsFrom, last_from, IsPotential}
use Rattle.lay_breaks.specs.Spans.{SpansFrom, listed}
use Rattle.lay_breaks.specs.declared.costs.Span.{Span}
use Rattle.lay_cert.specs.Listing.{Entry, IsEntry, EntriesFrom, none_forced, entry_lines, all_lines, listing_lines}
use Rattle.lay_cert.specs.Listing.{potential_lines}
use Rattle.lay_cert.specs.ReaderStates.{begun, between, choosing, proving, ended, listings, last_tune_from}
use Rattle.lay_cert.specs.ReaderStates.{last_span_from}
use Rattle.lay_cert.specs.declared.lines.ListingLine.{ListingLine}
use Rattle.lay_cert.proofs.Grown.{push_last_span, push_last, push_tune}

abbrev pub begun_with : ℕ → ℕ → List Span → List ℕ → Entry
begun_with k n spans breaks = record { tune = k; bars = n; spans = spans; breaks = breaks; total = 0; potentials = [] }

abbrev reported : Entry → List (Option ℕ) → Entry
reported e ps =
    record { tune = e.tune; bars = e.bars; spans = e.spans; breaks = e.breaks; total = e.total; potentials = ps }

spans_lead : (es : List Entry) (k n : ℕ) (so_far ss : List Span) → SpansFrom n (last_span_from None so_far) ss
    → Leads listings (choosing es (begun_with k n so_far [])) (map ListingLine.OneSpan ss)
    (choosing es (begun_with k n (so_far ++ ss) []))
spans_lead es k n so_far [] h = ap (λ t. choosing es (begun_with k n t [])) (sym (append-nil so_far))
spans_lead es k n so_far (s ∷ ss) h = (
  (refl, h.0),
  subst (λ t.
      Leads listings (choosing es (begun_with k n (so_far ++ s ∷ []) [])) (map ListingLine.OneSpan ss)
      (choosing es (begun_with k n t [])))
      (append_assoc so_far (s ∷ []) ss)
      (spans_lead es k n (so_far ++ s ∷ []) ss
      (subst (λ o. SpansFrom n o ss) (sym (push_last_span None so_far s)) h.1)),
)

breaks_lead : (es : List Entry) (k n : ℕ) (spans : List Span) (so_far bs : List ℕ)
    → FitsFrom (listed spans) (last_from 0 so_far) bs
    → Leads listings (choosing es (begun_with k n spans so_far)) (map ListingLine.Choose bs)
    (choosing es (begun_with k n spans (so_far ++ bs)))
breaks_lead es k n spans so_far [] h = ap (λ t. choosing es (begun_with k n spans t)) (sym (append-nil so_far))
breaks_lead es k n spans so_far (b ∷ bs) h = (
  h.0,
  subst (λ t.
      Leads listings (choosing es (begun_with k n spans (so_far ++ b ∷ []))) (map ListingLine.Choose bs)
      (choosing es (begun_with k n spans t)))
      (append_assoc so_far (b ∷ []) bs)
      (breaks_lead es k n spans (so_far ++ b ∷ []) bs
      (subst (λ i. FitsFrom (listed spans) i bs) (sym (push_last 0 b so_far)) h.1)),
)

potentials_lead : (es : List Entry) (e : Entry) (so_far : List (Option ℕ)) (q : Option ℕ) (qs : List (Option ℕ))
    → length so_far + length qs ≡ e.bars
    → ((i : ℕ) → i < suc (length qs)
    → IsPotential (listed e.spans) none_forced (length so_far + i) (slice_index_or (q ∷ qs) i None))
    → Leads listings (proving es (reported e so_far)) (potential_lines (length so_far) (q ∷ qs))
    (between (es ++ reported e (so_far ++ (q ∷ qs)) ∷ []))
potentials_lead es e so_far q [] n known =
    let is : length so_far ≡ e.bars = omega arith in
    let here : length so_far + 0 ≡ length so_far = omega arith in (
      (refl, subst (λ i. IsPotential (listed e.spans) none_forced i q) here (known 0 (omega arith))),
      ap (λ t.
          if t then between (es ++ reported e (so_far ++ q ∷ []) ∷ []) else proving es (reported e (so_far ++ q ∷ [])))
          (eq-eqb (length so_far) e.bars is),
    )
potentials_lead es e so_far q (r ∷ qs) n known =
    let ne : length so_far < e.bars = omega arith in let here : length so_far + 0 ≡ length so_far = omega arith in
    let more : length (so_far ++ q ∷ []) ≡ length so_far + 1 = length-append so_far (q ∷ []) in (
      (refl, subst (λ i. IsPotential (listed e.spans) none_forced i q) here (known 0 (omega arith))),
      subst (λ p.
          Leads listings p (potential_lines (length so_far + 1) (r ∷ qs))
          (between (es ++ reported e (so_far ++ (q ∷ r ∷ qs)) ∷ [])))
          (sym (ap
          (λ t.
          if t then between (es ++ reported e (so_far ++ q ∷ []) ∷ []) else proving es (reported e (so_far ++ q ∷ [])))
          (ne_eqb (length so_far) e.bars (omega arith))))
          (subst (λ t.
          Leads listings (proving es (reported e (so_far ++ q ∷ []))) (potential_lines (length so_far + 1) (r ∷ qs))
          (between (es ++ reported e t ∷ [])))
          (append_assoc so_far (q ∷ []) (r ∷ qs))
          (subst (λ i.
          Leads listings (proving es (reported e (so_far ++ q ∷ []))) (potential_lines i (r ∷ qs))
          (between (es ++ reported e ((so_far ++ q ∷ []) ++ (r ∷ qs)) ∷ [])))
          more
          (potentials_lead es e (so_far ++ q ∷ []) r qs (omega arith) (λ i l.
          let at : length so_far + suc i ≡ length (so_far ++ q ∷ []) + i = omega arith in
          subst (λ j. IsPotential (listed e.spans) none_forced j (slice_index_or (r ∷ qs) i None)) at
          (known (suc i) (omega arith)))))),
    )

after_total : (es : List Entry) (e : Entry) (ps : List (Option ℕ))
    → length ps ≡ e.bars + 1
    → ((i : ℕ) → i ≤ e.bars → IsPotential (listed e.spans) none_forced i (slice_index_or ps i None))
    → Leads listings (proving es (reported e [])) (potential_lines 0 ps) (between (es ++ reported e ps ∷ []))
after_total es e [] n known = absurd (omega arith)
after_total es e (p ∷ ps) n known =
    potentials_lead es e [] p ps (omega arith) (λ i l. let at : i ≡ 0 + i = omega arith in
    subst (λ j. IsPotential (listed e.spans) none_forced j (slice_index_or (p ∷ ps) i None)) at (known i (omega arith)))

pub entry_leads : (es : List Entry) (e : Entry)
    → IsEntry e → last_tune_from 0 es < e.tune → Leads listings (between es) (entry_lines e) (between (es ++ e ∷ []))
entry_leads es e h past = (
  (past, h.numbered, h.few),
  leads_both listings _ _ _ _ _
      (leads_both listings _ _ _ _ _ (spans_lead es e.tune e.bars [] e.spans h.spans)
      (breaks_lead es e.tune e.bars e.spans [] e.breaks h.choice.fits))
      ((h.choice.ends, h.total), after_total es e e.potentials h.one_each h.potentials),
)

all_lead : (es done : List Entry)
    → EntriesFrom (last_tune_from 0 done) es → Leads listings (between done) (all_lines es) (between (done ++ es))
all_lead [] done h = ap between (sym (append-nil done))
all_lead (e ∷ es) done h =
    leads_both listings (between done) (entry_lines e) (between (done ++ e ∷ [])) (all_lines es)
    (between (done ++ (e ∷ es)))
    (entry_leads done e h.1 h.0)
    (subst (λ t. Leads listings (between (done ++ e ∷ [])) (all_lines es) (between t)) (append_assoc done (e ∷ []) es)
    (all_lead es (done ++ e ∷ []) (subst (λ k. EntriesFrom k es) (sym (push_tune 0 done e)) h.2)))

pub listing_leads : (es : List Entry) → EntriesFrom 0 es → Leads listings begun (listing_lines es) (ended es)
listing_leads es h = (
  tt,
  leads_both listings (between []) (all_lines es) (between es) (ListingLine.End ∷ []) (ended es) (all_lead es [] h)
      (tt, refl),
)

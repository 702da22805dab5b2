-- A text is split into good lines in one way.
use Rattle.std.proofs.Common.{◌≡◌, ℕ, ◌<◌, ◌≤◌, ◌^◌, ◌==◌, Bool, true, false, List, [], ◌∷◌, ◌++◌, Option, Some, None}
use Rattle.std.proofs.Common.{refl, sym, ◌∙◌, ap, subst, arith, inl, codes, decimal, if◌then◌else◌}
use Rattle.std.proofs.lemmas.Bool.{true≢false, eq-eqb}
use Rattle.std.proofs.lemmas.Fmt.{decimal_injective}
use Rattle.eng_reader.specs.Answers as lines
use Rattle.eng_reader.specs.Grammar.{Leads, IsUnambiguous}
use Rattle.eng_reader.specs.declared.reading.LineError.{LineError}
use Rattle.eng_reader.proofs.Ways.{one_whole}
use Rattle.eng_reader.proofs.Ways as ways
use Rattle.lay_breaks.specs.Breaking.{last_from, IsPotential}
use Rattle.lay_breaks.specs.Spans.{AreSpans, listed}
use Rattle.lay_breaks.specs.declared.costs.Span.{Span}
use Rattle.lay_cert.specs.Lines.{line_text, lines_then, sum_text}
use Rattle.lay_cert.specs.Listing.{Entry, none_forced, IsListing, listing_lines}
use Rattle.lay_cert.specs.ReaderStates.{ReaderState, begun, between, choosing, proving, ended, MayCome, state_after}
use Rattle.lay_cert.specs.ReaderStates.{listings}
use Rattle.lay_cert.specs.Answers.{IsCause, cert_error}
use Rattle.lay_cert.specs.Reported.{IsGood}
use Rattle.lay_cert.specs.Laws.{GoodByLines, TellsOne, FaultsTellNone, NoPrefix}
use Rattle.lay_cert.specs.declared.lines.ListingLine.{ListingLine}
use Rattle.lay_cert.proofs.Forms.{span_text, tune_text}
use Rattle.lay_cert.proofs.Grown.{listed_within}
use Rattle.lay_cert.proofs.Sums.{total_within, least_within, one_potential}
use Rattle.lay_cert.proofs.Steps.{leads_good, leads_lines}
use Rattle.lay_cert.proofs.Through.{listing_leads}
use Rattle.eng_lines.specs.Lines.{Lacks}
use Rattle.eng_lines.proofs.Words.{lacks_both, decimal_lacks, one_field, after_prefix, head_of}

abbrev lacks_test : ℕ → List ℕ → Bool
lacks_test b [] = true
lacks_test b (x ∷ s) = if x == b then false else lacks_test b s

pub lacks_by : (b : ℕ) (s : List ℕ) → lacks_test b s ≡ true → Lacks b s
lacks_by b [] e = tt
lacks_by b (x ∷ s) e = at (x == b) refl e (λ k. lacks_by b s k)
  where
    at : (t : Bool) → (x == b) ≡ t → (if t then false else lacks_test b s) ≡ true → (lacks_test b s ≡ true → Lacks b s)
        → Lacks b (x ∷ s)
    at true is e more = absurd (true≢false (sym e))
    at false is e more = (λ q. true≢false (sym (eq-eqb x b q) ∙ is), more e)

digits_lack : (n : ℕ) → n < 2 ^ 64 → Lacks 10 (decimal n)
digits_lack n l = decimal_lacks 10 n (inl (omega arith)) l

space_lacks : (xs : List ℕ) → Lacks 10 xs → Lacks 10 (32 ∷ xs)
space_lacks xs h = ((λ e. absurd (omega arith)), h)

sum_lacks : (o : Option ℕ) (i n : ℕ) (spans : List Span)
    → i ≤ 4000 → AreSpans n spans → IsPotential (listed spans) none_forced i o → Lacks 10 (sum_text o)
sum_lacks None i n spans l h k = lacks_by 10 (codes "none") refl
sum_lacks (Some v) i n spans l h k = let w = least_within n i v spans h k in digits_lack v (omega arith)

-- no good line contains a line feed
pub may_lack : (p : ReaderState) (l : ListingLine) → MayCome p l → IsGood p → Lacks 10 (line_text l)
may_lack begun ListingLine.Listing m g = lacks_by 10 (codes "listing 1") refl
may_lack (between es) (ListingLine.Tune tune bars) m g =
    lacks_both 10 (codes "tune " ++ decimal tune ++ 32 ∷ codes "measures ") (decimal bars)
    (lacks_both 10 (codes "tune " ++ decimal tune) (32 ∷ codes "measures ")
    (lacks_both 10 (codes "tune ") (decimal tune) (lacks_by 10 (codes "tune ") refl)
    (let l = m.1 in digits_lack tune (omega arith)))
    (lacks_by 10 (32 ∷ codes "measures ") refl))
    (let l = m.2 in digits_lack bars (omega arith))
may_lack (between es) ListingLine.End m g = lacks_by 10 (codes "end") refl
may_lack (choosing es e) (ListingLine.OneSpan s) m g =
    let r = m.1.rises in let w = m.1.within in let k = m.1.small in let f = g.1.few in
    lacks_both 10 (codes "span " ++ decimal s.a ++ 32 ∷ decimal s.b) (32 ∷ decimal s.badness)
    (lacks_both 10 (codes "span " ++ decimal s.a) (32 ∷ decimal s.b)
    (lacks_both 10 (codes "span ") (decimal s.a) (lacks_by 10 (codes "span ") refl) (digits_lack s.a (omega arith)))
    (space_lacks (decimal s.b) (digits_lack s.b (omega arith))))
    (space_lacks (decimal s.badness) (digits_lack s.badness (omega arith)))
may_lack (choosing es e) (ListingLine.Choose bar) m g =
    let w = (listed_within e.bars None e.spans (last_from 0 e.breaks) bar g.1.spans m).1 in let f = g.1.few in
    lacks_both 10 (codes "choose ") (decimal bar) (lacks_by 10 (codes "choose ") refl) (digits_lack bar (omega arith))
may_lack (choosing es e) (ListingLine.Total total) m g =
    let t = total_within e.bars (last_from 0 e.breaks) e.spans e.breaks g.1.spans g.1.choice in
    let f = g.1.few in
    let is = m.1 in
    let ends = m.0 in
    lacks_both 10 (codes "total ") (decimal total) (lacks_by 10 (codes "total ") refl) (digits_lack total (omega arith))
may_lack (proving es e) (ListingLine.Potential bar least) m g =
    let f = g.1.begun.few in let s = g.1.some_left in let is = m.0 in
    lacks_both 10 (codes "potential " ++ decimal bar) (32 ∷ sum_text least)
    (lacks_both 10 (codes "potential ") (decimal bar) (lacks_by 10 (codes "potential ") refl)
    (digits_lack bar (omega arith)))
    (space_lacks (sum_text least) (sum_lacks least bar e.bars e.spans (omega arith) g.1.begun.spans m.1))
may_lack p l m g = absurd m

-- texts that begin with different bytes are different
pub apart : (a b : List ℕ) → (head_of a == head_of b) ≡ false → a ≡ b → ⊥
apart a b n e = true≢false (sym (eq-eqb (head_of a) (head_of b) (ap head_of e)) ∙ n)

abbrev span_of : ℕ → ℕ → ℕ → Span
span_of a b badness = record { a = a; b = b; badness = badness }

-- lines of one kind with the same text say the same
pub tune_alone : (tune bars t b : ℕ)
    → tune < 2 ^ 64 → bars < 2 ^ 64 → t < 2 ^ 64 → b < 2 ^ 64
    → line_text (ListingLine.Tune tune bars) ≡ line_text (ListingLine.Tune t b)
    → (tune ≡ t) × (bars ≡ b)
tune_alone tune bars t b la lb ka kb e =
    let r = after_prefix (codes "tune ") (line_text (ListingLine.Tune tune bars))
    (decimal tune ++ (32 ∷ (codes "measures " ++ decimal bars))) (decimal t ++ (32 ∷ (codes "measures " ++ decimal b)))
    (tune_text tune bars) (e ∙ tune_text t b) in
    let f = one_field tune t _ (codes "measures " ++ decimal bars) (codes "measures " ++ decimal b) la ka refl r in (
      f.0,
      decimal_injective bars b lb kb
          (after_prefix (codes "measures ") (codes "measures " ++ decimal bars) (decimal bars) (decimal b) refl f.1),
    )

pub span_alone : (s t : Span)
    → s.a < 2 ^ 64 → s.b < 2 ^ 64 → s.badness < 2 ^ 64 → t.a < 2 ^ 64 → t.b < 2 ^ 64 → t.badness < 2 ^ 64
    → line_text (ListingLine.OneSpan s) ≡ line_text (ListingLine.OneSpan t)
    → s ≡ t
span_alone s t ha hb hc ka kb kc e =
    let r = after_prefix (codes "span ") (line_text (ListingLine.OneSpan s))
    (decimal s.a ++ (32 ∷ (decimal s.b ++ (32 ∷ decimal s.badness))))
    (decimal t.a ++ (32 ∷ (decimal t.b ++ (32 ∷ decimal t.badness))))
    (span_text s) (e ∙ span_text t) in
    let a = one_field s.a t.a _ (decimal s.b ++ (32 ∷ decimal s.badness)) (decimal t.b ++ (32 ∷ decimal t.badness)) ha
    ka refl r in
    let b = one_field s.b t.b _ (decimal s.badness) (decimal t.badness) hb kb refl a.1 in
    let c = decimal_injective s.badness t.badness hc kc b.1 in
    ap (λ a. span_of a s.b s.badness) a.0 ∙ (ap (λ b. span_of t.a b s.badness) b.0 ∙ ap (λ c. span_of t.a t.b c) c)

pub choice_alone : (bar b : ℕ)
    → bar < 2 ^ 64 → b < 2 ^ 64 → line_text (ListingLine.Choose bar) ≡ line_text (ListingLine.Choose b) → bar ≡ b
choice_alone bar b l k e =
    decimal_injective bar b l k
    (after_prefix (codes "choose ") (line_text (ListingLine.Choose bar)) (decimal bar) (decimal b) refl e)

same_tune : (es : List Entry) (tune bars : ℕ) (m : ListingLine)
    → MayCome (between es) (ListingLine.Tune tune bars) → MayCome (between es) m
    → line_text (ListingLine.Tune tune bars) ≡ line_text m
    → ListingLine.Tune tune bars ≡ m
same_tune es tune bars (ListingLine.Tune t b) h k e =
    let la = h.1 in
    let lb = h.2 in
    let ka = k.1 in
    let kb = k.2 in
    let f = tune_alone tune bars t b (omega arith) (omega arith) (omega arith) (omega arith) e in
    ap (λ t. ListingLine.Tune t bars) f.0 ∙ ap (λ b. ListingLine.Tune t b) f.1
same_tune es tune bars ListingLine.End h k e = absurd (apart _ _ refl e)
same_tune es tune bars m h k e = absurd k

same_end : (es : List Entry) (m : ListingLine)
    → MayCome (between es) m → line_text ListingLine.End ≡ line_text m → ListingLine.End ≡ m
same_end es ListingLine.End k e = refl
same_end es (ListingLine.Tune t b) k e = absurd (apart _ _ refl e)
same_end es m k e = absurd k

same_span : (es : List Entry) (x : Entry) (s : Span) (m : ListingLine)
    → x.bars ≤ 4000 → MayCome (choosing es x) (ListingLine.OneSpan s) → MayCome (choosing es x) m
    → line_text (ListingLine.OneSpan s) ≡ line_text m
    → ListingLine.OneSpan s ≡ m
same_span es x s (ListingLine.OneSpan t) f h k e =
    let ha = h.1.rises in
    let hb = h.1.within in
    let hc = h.1.small in
    let ka = k.1.rises in
    let kb = k.1.within in
    let kc = k.1.small in
    ap ListingLine.OneSpan
    (span_alone s t (omega arith) (omega arith) (omega arith) (omega arith) (omega arith) (omega arith) e)
same_span es x s (ListingLine.Choose b) f h k e = absurd (apart _ _ refl e)
same_span es x s (ListingLine.Total t) f h k e = absurd (apart _ _ refl e)
same_span es x s m f h k e = absurd k

same_choice : (es : List Entry) (x : Entry) (bar : ℕ) (m : ListingLine)
    → IsGood (choosing es x) → MayCome (choosing es x) (ListingLine.Choose bar) → MayCome (choosing es x) m
    → line_text (ListingLine.Choose bar) ≡ line_text m → ListingLine.Choose bar ≡ m
same_choice es x bar (ListingLine.Choose b) g h k e =
    let w = (listed_within x.bars None x.spans (last_from 0 x.breaks) bar g.1.spans h).1 in
    let v = (listed_within x.bars None x.spans (last_from 0 x.breaks) b g.1.spans k).1 in
    let f = g.1.few in
    ap ListingLine.Choose (choice_alone bar b (omega arith) (omega arith) e)
same_choice es x bar (ListingLine.OneSpan s) g h k e = absurd (apart _ _ refl e)
same_choice es x bar (ListingLine.Total t) g h k e = absurd (apart _ _ refl e)
same_choice es x bar m g h k e = absurd k

same_total : (es : List Entry) (x : Entry) (total : ℕ) (m : ListingLine)
    → MayCome (choosing es x) (ListingLine.Total total) → MayCome (choosing es x) m
    → line_text (ListingLine.Total total) ≡ line_text m
    → ListingLine.Total total ≡ m
same_total es x total (ListingLine.Total t) h k e = ap ListingLine.Total (h.1 ∙ sym k.1)
same_total es x total (ListingLine.OneSpan s) h k e = absurd (apart _ _ refl e)
same_total es x total (ListingLine.Choose b) h k e = absurd (apart _ _ refl e)
same_total es x total m h k e = absurd k

same_potential : (es : List Entry) (x : Entry) (bar : ℕ) (least : Option ℕ) (m : ListingLine)
    → MayCome (proving es x) (ListingLine.Potential bar least) → MayCome (proving es x) m
    → ListingLine.Potential bar least ≡ m
same_potential es x bar least (ListingLine.Potential b o) h k =
    let e : bar ≡ b = h.0 ∙ sym k.0 in
    let f = one_potential (listed x.spans) none_forced bar least o h.1
    (subst (λ i. IsPotential (listed x.spans) none_forced i o) (sym e) k.1) in
    ap (λ i. ListingLine.Potential i least) e ∙ ap (λ o. ListingLine.Potential b o) f
same_potential es x bar least m h k = absurd k

same_listing : (m : ListingLine) → MayCome begun m → ListingLine.Listing ≡ m
same_listing ListingLine.Listing k = refl
same_listing m k = absurd k

-- each of the lines that may come here has its own text
pub one_line : (p : ReaderState) (l m : ListingLine)
    → MayCome p l → MayCome p m → IsGood p → line_text l ≡ line_text m → l ≡ m
one_line begun ListingLine.Listing m h k g e = same_listing m k
one_line (between es) (ListingLine.Tune tune bars) m h k g e = same_tune es tune bars m h k e
one_line (between es) ListingLine.End m h k g e = same_end es m k e
one_line (choosing es x) (ListingLine.OneSpan s) m h k g e = same_span es x s m g.1.few h k e
one_line (choosing es x) (ListingLine.Choose bar) m h k g e = same_choice es x bar m g h k e
one_line (choosing es x) (ListingLine.Total total) m h k g e = same_total es x total m h k e
one_line (proving es x) (ListingLine.Potential bar least) m h k g e = same_potential es x bar least m h k
one_line p l m h k g e = absurd h

abbrev entries_in : List Entry → ReaderState → List Entry
entries_in es (ended fs) = fs
entries_in es p = es

after_end : (es : List Entry) (l : ListingLine) → MayCome (ended es) l → ⊥
after_end es l may = absurd may

pub unambiguous : IsUnambiguous listings
unambiguous = record {
  unbroken = λ p l reached may. may_lack p l may (leads_good begun reached.0 p reached.1 tt);
  one_state =
      λ p l m reached may other e.
      ap (state_after p) (sym (one_line p l m may other (leads_good begun reached.0 p reached.1 tt) e));
  last = after_end;
  one_whole = λ es fs e. ap (entries_in es) (sym e);
}

-- the lines that lead to the end are those of the listed entries
pub reported_by_lines : (text : List ℕ) (ls : List ListingLine) (es : List Entry)
    → text ≡ lines_then ls [] → Leads listings begun ls (ended es) → IsListing text es
reported_by_lines text ls es e h = record {
  entries = leads_good begun ls (ended es) h tt;
  lines = e ∙ ap (λ ls. lines_then ls []) (sym (leads_lines begun ls (ended es) h tt));
}

pub good_by_lines : GoodByLines
good_by_lines text es = (
  (λ h. (listing_lines es, h.lines, listing_leads es h.entries)),
  (λ h. reported_by_lines text h.0 es h.1 h.2),
)

pub tells_one : TellsOne
tells_one text es fs h k =
    one_whole listings unambiguous text fs es ((good_by_lines text fs).0 k) ((good_by_lines text es).0 h)

pub faults_tell_none : FaultsTellNone
faults_tell_none text number es fault h = fault.unfinished es ((good_by_lines text es).0 h)

pub no_prefix : NoPrefix
no_prefix text more es fs h k =
    ways.no_prefix listings unambiguous text more es fs ((good_by_lines text es).0 h)
    ((good_by_lines (text ++ more) fs).0 k)

-- the cause of an error
pub cause_of : (text : List ℕ) (error : LineError)
    → lines.IsCause listings text error → IsCause text (cert_error error)
cause_of text (LineError.Bad line) fault = (fault, λ es h. faults_tell_none text line es fault h)
cause_of text LineError.Memory h = h

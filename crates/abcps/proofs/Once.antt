-- A command calls for one answer to an input, however many jobs set its book, and for none to an input that it
-- refuses.
use Rattle.std.proofs.Common.{◌≡◌, ◌∙◌, refl, sym, ap, subst, ℕ, List, [], ◌∷◌, Bool, arith}
use Rattle.abc_lines.specs.Books.{book_of}
use Rattle.abc_fields.specs.declared.paper.Paper.{Paper}
use Rattle.gen_book.specs.Book.{book}
use Rattle.lay_breaks.specs.Breaking.{sum_from}
use Rattle.lay_breaks.specs.Spans.{listed}
use Rattle.lay_breaks.proofs.Unique.{one_is_chosen}
use Rattle.lay_cert.specs.Answers.{IsJudged}
use Rattle.lay_cert.specs.Listing.{Entry, none_forced}
use Rattle.lay_cert.specs.Verdicts.{IsVerdict, AreVerdicts}
use Rattle.lay_cert.specs.declared.check.Judged.{Judged}
use Rattle.lay_cert.specs.declared.check.Verdict.{Verdict}
use Rattle.lay_cert.specs.declared.check.Verdict.TheVariants.{Least, NotLeast}
use Rattle.lay_cert.proofs.Alone.{tells_one}
use Rattle.ps_reports.specs.PaintText.{paint_text}
use Rattle.ps_reports.specs.SheetText.{sheet_report}
use Rattle.ps_machine.specs.OneAnswer.{HasOneAnswer}
use Rattle.ps_heard.specs.HeardText.{heard_text}
use Rattle.ps_text.specs.Document.{document}
use Rattle.ps_text.specs.declared.sheet.Sheet.{Sheet}
use Rattle.set_book.specs.declared.outcome.Outcome.{Outcome}
use Rattle.law_one_outcome.specs.Outcomes.{EveryTuneHasOneOutcome}
use Rattle.set_pages.specs.declared.plan.PagePlan.{PagePlan}
use Rattle.set_pages.specs.Sheet.{IsPagePlan, sheet_of}
use Rattle.set_pages.proofs.Whole.{one_plan}
use Rattle.set_lists.specs.Reports.{reports}
use Rattle.set_lists.specs.Trials.{trial_text}
use Rattle.abcps_words.specs.declared.command.Command.{Command}
use Rattle.abcps.specs.Books.{AreSet, terms_in, CallsPages, CallsSystems, Tries, paper_in, status_of, systems_by}
use Rattle.abcps.specs.Books.{trial_of}
use Rattle.abcps.specs.Calls.{Calls, CallsOne, IsPainted, Judges, NeverBoth, Shows, budget_of, by_one_job, status_by}
use Rattle.abcps.specs.Calls.{verdicts_text}
use Rattle.abcps.specs.declared.status.Status.{Status}
use Rattle.abcps.specs.declared.refusing.Refusal.{Refusal}
use Rattle.abcps.specs.Called.{Called, IsQuietly}
use Rattle.set_tune.specs.Terms.{Manner, manner_by, unmoved}

abbrev called_of : List ℕ → List ℕ → Status → Called
called_of page reported status = record { page = page; reported = reported; status = status }

-- what is called for, in parts
same_called : (c d : Called) → c.page ≡ d.page → c.reported ≡ d.reported → c.status ≡ d.status → c ≡ d
same_called c d page reported status =
    let made : called_of c.page c.reported c.status ≡ called_of d.page d.reported d.status = cc in made

quiet_called : (c d : Called) → c.page ≡ d.page → IsQuietly c → IsQuietly d → c ≡ d
quiet_called c d page a b = same_called c d page (a.reported ∙ sym b.reported) (a.status ∙ sym b.status)

-- ---- the commands that set a book
one_set : EveryTuneHasOneOutcome
    → (manner : Manner) (text : List ℕ) (os ps : List Outcome) → AreSet manner text os → AreSet manner text ps → os ≡ ps
one_set one manner text os ps a b = one.only (terms_in manner text) (book_of text).tunes os ps a.each b.each

-- one outcome and one plan determine one answer
by_plan : {A : Type 0} (make : PagePlan → List Outcome → A) (even : Bool) (paper : Paper) (os ps : List Outcome)
    (plan other : PagePlan)
    → os ≡ ps → IsPagePlan even paper os plan → IsPagePlan even paper ps other → make plan os ≡ make other ps
by_plan make even paper os ps plan other same is also =
    ap (λ l. make plan l) same
    ∙ ap (λ p. make p ps) (one_plan even paper ps other plan also (subst (λ l. IsPagePlan even paper l plan) same is))

pages_once : EveryTuneHasOneOutcome
    → (manner : Manner) (even : Bool) (text : List ℕ) (c d : Called)
    → CallsPages manner even text c → CallsPages manner even text d
    → c ≡ d
pages_once one manner even text c d a b =
    let same = one_set one manner text a.outcomes b.outcomes a.set b.set in
    same_called c d
    (sym a.read.spells.spelled
    ∙ ap document a.whole
    ∙ by_plan (λ p os. document (sheet_of p (paper_in text) os)) even (paper_in text) a.outcomes b.outcomes a.plan
    b.plan same a.divided b.divided
    ∙ ap document (sym b.whole) ∙ b.read.spells.spelled)
    (a.reported ∙ ap reports same ∙ sym b.reported)
    (a.status ∙ ap status_of same ∙ sym b.status)

systems_once : EveryTuneHasOneOutcome
    → (manner : Manner) (table : Bool) (text : List ℕ) (c d : Called)
    → CallsSystems manner table text c → CallsSystems manner table text d
    → c ≡ d
systems_once one manner table text c d a b =
    let same = one_set one manner text a.outcomes b.outcomes a.set b.set in
    same_called c d
    (a.page ∙ ap (systems_by table) same ∙ sym b.page)
    (a.reported ∙ ap reports same ∙ sym b.reported)
    (a.status ∙ ap status_of same ∙ sym b.status)

trial_once : EveryTuneHasOneOutcome
    → (tunes : ℕ) (manner : Manner) (even : Bool) (c d : Called) → Tries tunes manner even c → Tries tunes manner even d
    → c ≡ d
trial_once one tunes manner even c d a b =
    let same = one_set one manner (book tunes) a.outcomes b.outcomes a.set b.set in let paper = paper_in (book tunes) in
    quiet_called c d
    (a.page
    ∙ by_plan (λ p os. trial_text (trial_of tunes os (sheet_of p paper os))) even paper a.outcomes b.outcomes a.plan
    b.plan same a.divided b.divided
    ∙ sym b.page)
    a.quietly b.quietly

-- ---- the others
sheet_once : (report : Sheet → List ℕ) (text : List ℕ) (c d : Called)
    → Shows report text c → Shows report text d → c ≡ d
sheet_once report text c d a b =
    quiet_called c d (a.page ∙ ap report (b.read.only a.sheet a.read.spells) ∙ sym b.page) a.quietly b.quietly

least_or_not : (e : Entry) (total other better : ℕ) (breaks : List ℕ)
    → IsVerdict e (Least total) → IsVerdict e (NotLeast other better breaks) → ⊥
least_or_not e total other better breaks a b =
    let least = a.1 breaks b.3.legal in
    let own = a.0 in
    let its = b.0 in
    let less = b.1 in
    let sum = b.2 in
    omega (arith, least, own, its, less, sum)

one_verdict : (e : Entry) (v w : Verdict) → IsVerdict e v → IsVerdict e w → v ≡ w
one_verdict e (Least total) (Least other) a b = ap Least (a.0 ∙ sym b.0)
one_verdict e (Least total) (NotLeast other better breaks) a b = absurd (least_or_not e total other better breaks a b)
one_verdict e (NotLeast total better breaks) (Least other) a b = absurd (least_or_not e other total better breaks b a)
one_verdict e (NotLeast total better breaks) (NotLeast other dear places) a b =
    let same : breaks ≡ places = one_is_chosen (listed e.spans) none_forced e.bars breaks places a.3 b.3 in
    let totals : total ≡ other = a.0 ∙ sym b.0 in
    let sums : better ≡ dear = a.2 ∙ ap (sum_from (listed e.spans) 0) same ∙ sym b.2 in cc

abbrev judged_of : ℕ → Verdict → Judged
judged_of tune verdict = record { tune = tune; verdict = verdict }

one_judged : (e : Entry) (j k : Judged)
    → j.tune ≡ e.tune → k.tune ≡ e.tune → IsVerdict e j.verdict → IsVerdict e k.verdict → j ≡ k
one_judged e j k a b v w =
    let tune : j.tune ≡ k.tune = a ∙ sym b in
    let verdict : j.verdict ≡ k.verdict = one_verdict e j.verdict k.verdict v w in
    let made : judged_of j.tune j.verdict ≡ judged_of k.tune k.verdict = cc in made

one_verdicts : (es : List Entry) (js ks : List Judged) → AreVerdicts es js → AreVerdicts es ks → js ≡ ks
one_verdicts [] [] [] a b = refl
one_verdicts [] [] (k ∷ ks) a b = absurd b
one_verdicts (e ∷ es) (j ∷ js) [] a b = absurd b
one_verdicts (e ∷ es) (j ∷ js) (k ∷ ks) a b =
    let first = one_judged e j k a.0 b.0 a.1 b.1 in let others = one_verdicts es js ks a.2 b.2 in cc
one_verdicts es js ks a b = absurd a

judged_once : (text : List ℕ) (js ks : List Judged) → IsJudged text js → IsJudged text ks → js ≡ ks
judged_once text js ks a b =
    one_verdicts a.0 js ks a.2 (subst (λ es. AreVerdicts es ks) (tells_one text b.0 a.0 b.1 a.1) b.2)

verdicts_once : (text : List ℕ) (c d : Called) → Judges text c → Judges text d → c ≡ d
verdicts_once text c d a b =
    let same = judged_once text a.judged b.judged a.verdicts b.verdicts in
    same_called c d (a.page ∙ ap verdicts_text same ∙ sym b.page) (a.reported ∙ sym b.reported)
    (a.status ∙ ap status_by same ∙ sym b.status)

painted_once : HasOneAnswer → (text : List ℕ) (c d : Called) → IsPainted text c → IsPainted text d → c ≡ d
painted_once alone text c d a b =
    quiet_called c d
    (a.page ∙ ap paint_text (alone.painted text (budget_of text) a.pages b.pages a.paints b.paints) ∙ sym b.page)
    a.quietly b.quietly

-- a command calls for one answer
called_once : EveryTuneHasOneOutcome
    → HasOneAnswer → (c : Command) (text : List ℕ) (called other : Called) → Calls c text called → Calls c text other
    → called ≡ other
called_once one alone (Command.Set flow jobs by even) text called other a b =
    pages_once one (manner_by flow by) even text called other a b
called_once one alone (Command.Systems flow table by) text called other a b =
    systems_once one (manner_by flow by) table text called other a b
called_once one alone Command.Inspect text called other a b = sheet_once sheet_report text called other a b
called_once one alone Command.Check text called other a b = verdicts_once text called other a b
called_once one alone (Command.Make tunes) text called other a b =
    quiet_called called other (a.page ∙ sym b.page) a.quietly b.quietly
called_once one alone (Command.Trial tunes flow jobs even) text called other a b =
    trial_once one tunes (unmoved flow) even called other a b
called_once one alone Command.Paint text called other a b = painted_once alone text called other a b
called_once one alone (Command.Hear spread) text called other a b = sheet_once (heard_text spread) text called other a b

-- what is called for does not depend on jobs
by_one : (c : Command) (text : List ℕ) (called : Called) → Calls c text called → Calls (by_one_job c) text called
by_one (Command.Set flow jobs by even) text called a = a
by_one c text called a = a

-- commands that differ only in their jobs call for one answer
pub calls_one : EveryTuneHasOneOutcome → HasOneAnswer → CallsOne
calls_one one alone c d text called other same a b =
    called_once one alone (by_one_job c) text other called
    (subst (λ x. Calls x text other) same (by_one d text other b)) (by_one c text called a)

-- a refused input calls for nothing
pub never_both : HasOneAnswer → NeverBoth
never_both alone Command.Inspect text called (Refusal.NotPages line) calls refuses =
    refuses.unspelled calls.sheet calls.read.spells
never_both alone (Command.Hear spread) text called (Refusal.NotPages line) calls refuses =
    refuses.unspelled calls.sheet calls.read.spells
never_both alone Command.Check text called (Refusal.NotPages line) calls refuses =
    refuses.unspelled calls.verdicts.0 calls.verdicts.1
never_both alone Command.Paint text called (Refusal.Halted token cause) calls refuses =
    alone.either text (budget_of text) calls.pages token cause calls.paints refuses
never_both alone c text called refusal calls refuses = absurd refuses

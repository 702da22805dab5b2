-- The document of outcomes that is written at once, and how long it is.
use Rattle.std.proofs.Common.{◌≡◌, ◌∙◌, ap, sym, subst, arith, ℕ, ◌<◌, ◌^◌, Bool, List, [], ◌++◌, length, Option}
use Rattle.std.proofs.lemmas.List.{append-nil, append_assoc}
use Rattle.std.specs.Prelude.{All}
use Rattle.eng_io.specs.Streams.{WroteWhole}
use Rattle.abc_fields.specs.declared.paper.Paper.{Paper}
use Rattle.abc_fields.specs.Papers.{IsGoodPaper}
use Rattle.ps_text.specs.Document.{document}
use Rattle.ps_text.specs.Prolog.{prolog}
use Rattle.set_book.specs.declared.outcome.Outcome.{Outcome}
use Rattle.set_pages.specs.Builder.{AddsOutcomes, begun_text}
use Rattle.set_pages.specs.Drawings.{all_blocks}
use Rattle.set_pages.specs.Sheet.{IsPagePlan, IsSetUnder, paper_frame, sheet_of}
use Rattle.set_pages.specs.declared.builder.PageBuilder.{PageBuilder}
use Rattle.set_pages.specs.declared.plan.PagePlan.{PagePlan}
use Rattle.set_pages.proofs.Whole.{plan_rises, room_by, sheet_pressed}
use Rattle.abcps.specs.Progress.{CanAdd, IsBegun, IsSameProgress, rest_text, text_so_far}
use Rattle.abcps.specs.declared.building.BookProgress.{BookProgress}
use Rattle.abcps.proofs.Batches.{no_text}
use Rattle.abcps.proofs.Sent.{document_parts, stream, took_after}

-- all outcomes of a plan can be added at once
pub can_add_all : (even : Bool) (plan : PagePlan) (paper : Paper) (outcomes : List Outcome) (r : BookProgress)
    → IsGoodPaper paper → All (IsSetUnder paper) outcomes → length (all_blocks outcomes) < 2 ^ 32
    → IsPagePlan even paper outcomes plan → IsBegun r → CanAdd plan paper outcomes r
can_add_all even plan paper outcomes r good set few planned begun =
    let running = begun plan paper (plan_rises even paper outcomes plan planned) in
    record {
      good = good;
      set = set;
      few = omega (arith, few, running.pressed.put);
      room =
          room_by even paper [] outcomes [] plan r.press running.pressed.put
          (subst (λ all. IsPagePlan even paper all plan) (sym (append-nil outcomes)) planned);
      before = [];
      running = running;
    }

-- and then the document has the text of their pages, and the end
module _ (plan : PagePlan) (paper : Paper) (outcomes : List Outcome) (r : BookProgress) (text : List ℕ)
    (good : IsGoodPaper paper) (adds : AddsOutcomes plan paper [] outcomes text r.press) where
  all_text : text_so_far plan paper outcomes ≡ prolog (paper_frame paper) ++ text
  all_text =
      ap (λ t. prolog (paper_frame paper) ++ t) adds.adds
      ∙ sym (append_assoc (prolog (paper_frame paper)) (begun_text plan paper []) text)
      ∙ ap (λ t. t ++ text) (no_text plan paper)

  module _ (next : BookProgress) (same : IsSameProgress r next) where
    pub pages_counted : next.press.begun ≡ length (sheet_of plan paper outcomes).pages
    pages_counted =
        ap (λ (p : PageBuilder). p.begun) same.press
        ∙ sym (sheet_pressed plan paper outcomes r.press good adds.pressed).has.count

    pub document_written : (start some more all : Option (List ℕ)) (n k j l : ℕ)
        → WroteWhole (stream start some n k) (prolog (paper_frame paper))
        → WroteWhole (stream some more k j) text → WroteWhole (stream more all j l) (rest_text next.press.begun)
        → WroteWhole (stream start all n l) (document (sheet_of plan paper outcomes))
    document_written start some more all n k j l first texts rest =
        let two = took_after start some more n k j (prolog (paper_frame paper)) first.0 first.1 text texts in
        let end = subst (λ (p : PageBuilder). WroteWhole (stream more all j l) (rest_text p.begun)) same.press rest in
        let three =
        took_after start more all n j l (prolog (paper_frame paper) ++ text) two.0 two.1 (rest_text r.press.begun)
        end in
        subst (λ t. WroteWhole (stream start all n l) t)
        (ap (λ t. t ++ rest_text r.press.begun) (sym all_text)
        ∙ sym (document_parts plan paper outcomes r.press.begun
        (sheet_pressed plan paper outcomes r.press good adds.pressed).has))
        three

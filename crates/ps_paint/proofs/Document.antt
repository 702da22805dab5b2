-- A document paints its sheet.
use Rattle.std.proofs.Common.{◌≡◌, ℕ, List, [], ◌∷◌, ◌++◌, length, append_assoc, append-nil, map, refl, ap, arith}
use Rattle.std.proofs.Common.{decimal, codes}
use Rattle.ps_text.specs.Document.{document, trailer, count_line}
use Rattle.ps_text.specs.declared.sheet.Sheet.{Sheet}
use Rattle.ps_text.specs.Range.{IsSheet}
use Rattle.ps_steps.specs.State.{State, first_state}
use Rattle.ps_steps.specs.Steps.{state_before, TakesSteps}
use Rattle.ps_paint.specs.Laws.{PaintsSheets}
use Rattle.ps_paint.specs.PaintOf.{page_paint, paint_of}
use Rattle.ps_paint.proofs.Takes.{Takes, both_taken}
use Rattle.ps_paint.proofs.Comments.{takes_comment, number_in_line}
use Rattle.ps_paint.proofs.Made.{all_names, all_made}
use Rattle.ps_paint.proofs.Starts.{between}
use Rattle.ps_paint.proofs.Lines.{Leads, both_lead, stays}
use Rattle.ps_paint.proofs.{Pages.pages_drawn, PrologLines.prolog_taken}

trailer_taken : (n : ℕ) (m : State) → Takes 0 (trailer n) m m
unfolding trailer count_line
trailer_taken n m =
    let a = takes_comment (codes "%Trailer") m refl in
    let b = takes_comment (codes "%Pages: " ++ decimal n) m (number_in_line n) in
    let c = takes_comment (codes "%EOF") m refl in
    rw (parts (codes "%%Trailer\n") (codes "%%Pages: " ++ decimal n) (codes "%%EOF\n")) at
    (both_taken (both_taken a b) c)
  where
    parts : (x y z : List ℕ) → (x ++ (y ++ 10 ∷ [])) ++ z ≡ (x ++ y) ++ 10 ∷ z
    parts x y z = simp append_assoc

document_led : (s : Sheet) → IsSheet s → Leads (document s) first_state (between (all_names s.frame) (paint_of s))
unfolding document paint_of
document_led s h =
    let ds = all_names s.frame in let pages = pages_drawn (all_made s.frame h.frame) 1 s.pages [] h.pages in
    let end : Leads (trailer (length s.pages)) (between ds (map (page_paint s.frame) s.pages))
    (between ds (map (page_paint s.frame) s.pages)) =
    stays (trailer_taken (length s.pages) (between ds (map (page_paint s.frame) s.pages))) in both_lead
    (both_lead (prolog_taken s.frame h.frame) pages) end

pub paints_sheets : PaintsSheets
paints_sheets s text budget spells enough =
    let l = document_led s spells.good in let k = between (all_names s.frame) (paint_of s) in
    let run : TakesSteps l.count (state_before first_state (document s)) (state_before k []) =
    rw (append-nil (document s)) at (l.takes.take []) in
    let few = l.few in
    let same = ap (λ t. length t) spells.spelled in
    record {
      count = l.count;
      last = state_before k [];
      within = omega (arith, few, same, enough);
      run = rw spells.spelled at run;
      ended = record { calls = refl; text = refl };
      painted = refl;
    }

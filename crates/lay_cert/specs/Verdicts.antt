-- What a verdict says about a tune's entry. Least: no breaking of its listed spans has a smaller total than its
-- choice. NotLeast: the breaking chosen over those spans, and that its total is smaller.
use Rattle.std.specs.Prelude.{◌≡◌, ℕ, ◌<◌, ◌≤◌, List, [], ◌∷◌}
use Rattle.lay_breaks.specs.{Breaking.IsLegal, Breaking.IsChosen, Breaking.sum_from, Spans.listed}
use Rattle.lay_cert.specs.Listing.{Entry, none_forced}
use Rattle.lay_cert.specs.declared.check.Verdict.{Verdict}
use Rattle.lay_cert.specs.declared.check.Judged.{Judged}
use Rattle.lay_cert.specs.declared.check.Verdict.TheVariants.{Least, NotLeast}

abbrev pub IsVerdict : Entry → Verdict → Type 0
IsVerdict e (Least total) =
    (total ≡ e.total)
    × ((other : List ℕ) → IsLegal (listed e.spans) none_forced other e.bars → total ≤ sum_from (listed e.spans) 0 other)
IsVerdict e (NotLeast total better breaks) =
    (total ≡ e.total)
    × (better < total)
    × (better ≡ sum_from (listed e.spans) 0 breaks)
    × IsChosen (listed e.spans) none_forced e.bars breaks

-- one verdict for each entry, in order
abbrev pub AreVerdicts : List Entry → List Judged → Type 0
AreVerdicts [] [] = Unit {0}
AreVerdicts (e ∷ es) (j ∷ js) = (j.tune ≡ e.tune) × IsVerdict e j.verdict × AreVerdicts es js
AreVerdicts es js = ⊥

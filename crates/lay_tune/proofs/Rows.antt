-- Lists that grow at their end, and staves that may be stacked.
use Rattle.std.proofs.Common.{◌≡◌, refl, ℕ, suc, ◌+◌, List, [], ◌∷◌, ◌++◌, length, drop, sym, ap, subst}
use Rattle.std.proofs.lemmas.List.{append_assoc}
use Rattle.std.proofs.lemmas.List.Elements.{All-head, All-tail}
use Rattle.std.specs.List.{All}
use Rattle.mus_laid.specs.declared.laid.StaffMarks.{StaffMarks}
use Rattle.mus_marks.specs.Staff.{CoversLines}
use Rattle.lay_pages.specs.Stacking.{AreGoodStaves}
use Rattle.lay_tune.specs.Systems.{EachSpan}

-- one more span's things, whatever comes after them
pub span_more : {X Y : Type 0} (P : ℕ → ℕ → X → Y → Type 0) (breaks : List ℕ) (xs : List X) (ys : List Y) (x : X)
    (y : Y) (a b i : ℕ)
    → drop i breaks ≡ b ∷ drop (i + 1) breaks
    → ((more : List X) (rest : List Y)
    → EachSpan P a (drop i breaks) more rest → EachSpan P 0 breaks (xs ++ more) (ys ++ rest))
    → P a b x y
    → (more : List X) (rest : List Y) → EachSpan P b (drop (i + 1) breaks) more rest
    → EachSpan P 0 breaks ((xs ++ x ∷ []) ++ more) ((ys ++ y ∷ []) ++ rest)
span_more P breaks xs ys x y a b i e before p more rest h =
    subst (λ rows. EachSpan P 0 breaks rows ((ys ++ y ∷ []) ++ rest)) (sym (append_assoc xs (x ∷ []) more))
    (subst (λ rows. EachSpan P 0 breaks (xs ++ x ∷ more) rows) (sym (append_assoc ys (y ∷ []) rest))
    (before (x ∷ more) (y ∷ rest) (subst (λ bs. EachSpan P a bs (x ∷ more) (y ∷ rest)) (sym e) (p, h))))

-- as many as the spans
pub span_count : {X Y : Type 0} (P : ℕ → ℕ → X → Y → Type 0) (a : ℕ) (breaks : List ℕ) (xs : List X) (ys : List Y)
    → EachSpan P a breaks xs ys → (length xs ≡ length breaks) × (length ys ≡ length breaks)
span_count P a [] [] [] h = (refl, refl)
span_count P a (b ∷ bs) (x ∷ xs) (y ∷ ys) h = let more = span_count P b bs xs ys h.1 in (ap suc more.0, ap suc more.1)
span_count P a _ _ _ h = absurd h

pub good_staves : (staves : List StaffMarks) → All CoversLines staves → AreGoodStaves staves
good_staves [] h = tt
good_staves (x ∷ xs) h = (All-head CoversLines x xs h, good_staves xs (All-tail CoversLines x xs h))

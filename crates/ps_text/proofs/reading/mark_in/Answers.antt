use Rattle.std.proofs.Common.{◌≡◌, ◌∙◌, to_z, of_z, w64, ap, arith, ◌∷◌}
use Rattle.std.proofs.lemmas.List.{nil_from_length}
use Rattle.std.proofs.lemmas.Int.{ints}
use Rattle.ps_text.specs.Reading.{mark_from}
use Rattle.ps_text.proofs.FoundMarks.{found_words, found_wordless, line_some, if_ok}
use Rattle.ps_text.proofs.reading.mark_in.Goals as goal

pub returns-in_default : goal.returns-in_default
returns-in_default c =
    λ m h e. absurd (line_some c.args.y m (e ∙ nil_from_length c.args.line.now c.in_default.ensures.cases))

pub returns-then-first-eq40 : goal.returns-then-first-eq40
returns-then-first-eq40 c =
    let line : c.args.line.now ≡ 40 ∷ c.in-Some.words.now =
    c.in-Some.ensures.cases.0 ∙ ap (λ b. b ∷ c.in-Some.words.now) c.if-first-eq40.true in
    if_ok c.mark_of_words.result _ _ (λ o reads. found_words c.args.y c.args.line.now c.in-Some.words.now o line reads)
    c.mark_of_words.ensures

pub returns : goal.returns
returns c =
    let y : to_z w64 (of_z w64 c.args.y) ≡ c.args.y = omega (arith, ints) in
    if_ok c.mark_without_words.result _ _
    (λ o reads.
    found_wordless c.args.y c.args.line.now c.in-Some.words.now c.in-Some.first.now o c.in-Some.ensures.cases.0
    (λ e. c.if-first-eq40.false e)
    (λ zs name good field line. reads zs name good field line ∙ ap (λ t. mark_from t zs name) y))
    c.mark_without_words.ensures

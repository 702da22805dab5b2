use Rattle.std.proofs.Common.{◌≡◌, ◌∙◌, sym, subst, rules}
use Rattle.{mus_laid.specs.Ranked.{inked}, mus_ink.proofs.Counting.{no_signs}}
use Rattle.mus_ink.proofs.notes.put_signs_if.Goals as goal

pub returns-then-have_no_sign : goal.returns-then-have_no_sign
returns-then-have_no_sign c =
    subst (λ ms. c.args.pen.now ≡ inked c.args.pen.now ms)
    (sym (no_signs c.args.clef c.args.heads.now c.args.places.now
    (sym c.have_no_sign.ensures ∙ c.if-have_no_sign.true)))
    (search rules)

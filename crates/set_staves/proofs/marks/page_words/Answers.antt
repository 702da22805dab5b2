use Rattle.std.proofs.{Common.◌≡◌, Common.subst, Common.sym, lemmas.Result.IfOk-weaker}
use Rattle.{ps_text.specs.Range.{IsWords}, set_staves.proofs.OnPage.{words_shown}}
use Rattle.set_staves.proofs.marks.page_words.Goals as goal

pub returns-clause-good : goal.returns-clause-good
returns-clause-good c =
    IfOk-weaker c.from_slice.result (λ words. words ≡ c.args.text.now) IsWords
    (λ words same. subst IsWords (sym same) (words_shown c.args.text.now (λ k. (c.type_inv.text k).fits) c.requires))
    c.from_slice.ensures

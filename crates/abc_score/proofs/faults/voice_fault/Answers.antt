use Rattle.std.proofs.Common.{◌∙◌, ◌++◌, [], subst, sym}
use Rattle.abc_faults.specs.Faults.{faults_in}
use Rattle.abc_words.specs.Verses.{verse_faults}
use Rattle.abc_score.{specs.{Faults.voice_weights, Judged.AreJudged}, proofs.{Enough.judged_with, Verses.verse_first}}
use Rattle.abc_score.proofs.faults.voice_fault.Goals as goal

pub returns-clause-judged : goal.returns-clause-judged
returns-clause-judged c =
    let v = c.args.v.now in
    let own = faults_in v.first [] v.steps in let verses = verse_faults v.verses in
    let found = c.in_ok-verses.ensures ∙ verse_first v.verses c.requires.rise in
    subst (λ z. AreJudged (own ++ verses) (voice_weights v) z c.args.weights.now c.judge_voice.new.weights)
    (sym c.earlier.ensures.value)
    (judged_with verses c.in_ok-own.ensures.judged found)

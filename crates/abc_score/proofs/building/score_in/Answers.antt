use Rattle.std.proofs.Common.{◌≡◌, ◌∙◌, List, Option, [], ap, subst, sym}
use Rattle.std.specs.Prelude.{None}
use Rattle.abc_lines.specs.declared.fault.Fault.{Fault}
use Rattle.abc_faults.specs.First.{IsFirstInOrder}
use Rattle.mus_score.specs.GoodScore.{IsGoodScore}
use Rattle.abc_words.specs.Verses.{verse_fault}
use Rattle.abc_score.proofs.Clear.{clear_verses, few_measures, voices_clear}
use Rattle.abc_score.proofs.Taken.{all_of}
use Rattle.abc_score.proofs.Wholes.{good_score}
use Rattle.abc_score.specs.Score.{score_with}
use Rattle.abc_score.specs.declared.keeping.JudgedVoice.{JudgedVoice}
use Rattle.abc_score.specs.declared.voices.ReadVoice.{ReadVoice}
use Rattle.abc_score.specs.Faults.{faults_of_voices}
use Rattle.abc_score.specs.Voices.{IsGoodRead}
use Rattle.abc_score.proofs.building.score_in.Goals as goal

-- no fault is found among those of all voices
none_found : (voices : List ReadVoice) (fault : Option Fault)
    → fault ≡ None → IsFirstInOrder (faults_of_voices voices) fault → faults_of_voices voices ≡ []
none_found voices fault none first = subst (IsFirstInOrder (faults_of_voices voices)) none first

pub score_with-requires-clause-good : goal.score_with-requires-clause-good
score_with-requires-clause-good c =
    all_of (λ (j : JudgedVoice). j.read) IsGoodRead c.in_ok-judged.judged.voices
    (rw c.in_ok-judged.ensures.reads c.in_ok-voices.ensures.good)

pub score_with-requires-clause-clear : goal.score_with-requires-clause-clear
score_with-requires-clause-clear c =
    let voices = c.in_ok-voices.voices in
    let none = none_found voices _ c.in-None.is c.in_ok-judged.ensures.fault in
    let P : ReadVoice → Type 0 = λ v. verse_fault v.verses ≡ None in
    all_of (λ (j : JudgedVoice). j.read) P c.in_ok-judged.judged.voices
    (rw c.in_ok-judged.ensures.reads (clear_verses voices (voices_clear voices none)))

pub score_with-requires-clause-few : goal.score_with-requires-clause-few
score_with-requires-clause-few c =
    let voices = c.in_ok-voices.voices in
    let none = none_found voices _ c.in-None.is c.in_ok-judged.ensures.fault in
    rw c.in_ok-judged.ensures.reads (few_measures voices (voices_clear voices none))

pub returns-in_ok-score_with-in-None-clause-good : goal.returns-in_ok-score_with-in-None-clause-good
returns-in_ok-score_with-in-None-clause-good c =
    let header = c.args.header.now in let items = c.args.items in let read = c.in_ok-voices.ensures.value in
    let none = none_found c.in_ok-voices.voices _ c.in-None.is c.in_ok-judged.ensures.fault in
    let clear = ap faults_of_voices (sym read) ∙ none in
    let made = c.in_ok-score_with-in-None.ensures
    ∙ ap (score_with header c.args.flow) (c.in_ok-judged.ensures.reads ∙ read) in
    subst IsGoodScore (sym made)
    (good_score header items c.args.flow c.requires.header c.requires.items c.requires.few clear)

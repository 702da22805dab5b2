use Rattle.std.proofs.Common.{◌≡◌, ap}
use Rattle.std.specs.Prelude.{None}
use Rattle.std.specs.Vec.Iter.{into_iter_items}
use Rattle.{abc_words.specs.Verses.verse_fault, abc_events.proofs.Taken.{all_left, count_left}}
use Rattle.abc_score.proofs.Taken.{mapped_taken}
use Rattle.abc_score.specs.declared.keeping.JudgedVoice.{JudgedVoice}
use Rattle.abc_score.specs.Judged.{HasKept, reads_of}
use Rattle.abc_score.specs.Voices.{IsGoodRead}
use Rattle.abc_score.specs.Score.{voice_by_header}
use Rattle.abc_score.proofs.scores.voices_with.Goals as goal

pub loop-judged-preserved : goal.loop-judged-preserved
loop-judged-preserved c =
    let old = into_iter_items c.loop-judged.judged-iterator in
    let new = into_iter_items c.next.new.self in
    let cut = c.in-Some.ensures.steps.0 in
    let IsClear : JudgedVoice → Type 0 = λ j. verse_fault j.read.verses ≡ None in
    record {
      list =
          mapped_taken (voice_by_header c.args.header.now c.args.n) c.loop-judged.out
          c.in_ok-push.ensures.ok c.in_ok-voice_by_header.ensures
          (ap reads_of cut) c.loop-judged.invariant.list;
      good = all_left (λ (j : JudgedVoice). IsGoodRead j.read) old new _ cut c.loop-judged.invariant.good;
      kept = all_left HasKept old new _ cut c.loop-judged.invariant.kept;
      clear = all_left IsClear old new _ cut c.loop-judged.invariant.clear;
      count = count_left old new _ _ _ cut c.in-Some.ensures.steps.1 c.loop-judged.invariant.count;
    }

use Rattle.std.proofs.Common.{◌≡◌, ◌∙◌, List, Option, ◌∷◌, ◌++◌, [], ap, arith, rules, sym}
use Rattle.std.specs.Prelude.{flat_map}
use Rattle.std.specs.Vec.Iter.{into_iter_items}
use Rattle.std.proofs.lemmas.{List.{Elements.{All-nil, All-push}, map-append, flat_map_more}, Grind.common_steps}
use Rattle.abc_lines.specs.declared.fault.Fault.{Fault}
use Rattle.abc_faults.specs.declared.weights.Weight.{Weight}
use Rattle.abc_faults.proofs.Walks.{part_more}
use Rattle.abc_events.proofs.Taken.{all_left, count_left}
use Rattle.abc_score.{proofs.Enough.{judged_both, none_judged}, specs.Voices.IsGoodRead}
use Rattle.abc_score.specs.Judged.{AreJudged, HasKept, reads_of}
use Rattle.abc_score.specs.Faults.{voice_faults, voice_weights}
use Rattle.abc_score.specs.declared.keeping.JudgedVoice.{JudgedVoice}
use Rattle.abc_score.proofs.faults.judge_voices.Goals as goal

-- from equal faults, weights and a found fault
judged_of : {faults more : List Fault} {all ws : List Weight} {found next : Option Fault} {old new : List Weight}
    → more ≡ faults → ws ≡ all
    → next ≡ found → AreJudged faults all found old new → AreJudged more ws next old new
judged_of a b c judged = rw (a, b, c) judged

pub loop-read-init : goal.loop-read-init
loop-read-init c = rw c.new-judged.ensures (search (rules, none_judged, All-nil))

pub loop-read-preserved : goal.loop-read-preserved
loop-read-preserved c =
    let v = c.in-Some.read in
    let cut = c.in-Some.ensures.steps.0 in
    let old = into_iter_items c.loop-read.read-iterator in let new = into_iter_items c.next.new.self in
    let judged : JudgedVoice = record { read = v; kept = c.in_ok-own.kept } in let done = reads_of c.loop-read.judged in
    let more : reads_of c.push.new.self ≡ done ++ v ∷ [] =
    ap reads_of c.in_ok-push.ensures.ok ∙ map-append (λ (j : JudgedVoice). j.read) c.loop-read.judged (judged ∷ []) in
    record {
      judged = judged_of (ap (flat_map voice_faults) more ∙ sym (flat_map_more voice_faults [] done v))
          (ap (flat_map voice_weights) more ∙ sym (flat_map_more voice_weights [] done v)) c.earlier-fault.ensures.value
          (judged_both c.loop-read.invariant.judged c.in_ok-own.ensures.judged);
      reads = part_more (v ∷ []) new old done _ _ cut more c.loop-read.invariant.reads;
      kept =
          rw c.in_ok-push.ensures.ok
          (All-push HasKept c.loop-read.judged judged c.loop-read.invariant.kept c.in_ok-own.ensures.kept);
      good = all_left IsGoodRead old new v cut c.loop-read.invariant.good;
      count = count_left old new v _ _ cut c.in-Some.ensures.steps.1 c.loop-read.invariant.count;
    }

pub returns-clause-judged : goal.returns-clause-judged
returns-clause-judged c =
    let all : reads_of c.loop-read.judged ≡ c.args.voices = grind (arith, common_steps) in
    rw all at c.loop-read.invariant.judged

use Rattle.std.proofs.Common.{◌+◌, drop}
use Rattle.abc_faults.specs.Faults.{grace_faults_of, grace_faults}
use Rattle.abc_faults.proofs.Firsts.{found_more}
use Rattle.abc_faults.proofs.Walks.{grace_parts}
use Rattle.abc_faults.proofs.voice.grace_fault.Goals as goal

pub loop-s-preserved : goal.loop-s-preserved
loop-s-preserved c =
    let clef = c.args.clef in
    let waits = c.args.waits.now in
    let s = c.s-item.result in
    let i = c.loop-s.s-index in
    let own = grace_faults_of clef s s.step in
    let rest = grace_faults clef (drop (i + 1) waits) in
    found_more own rest (grace_faults clef (drop i waits)) c.loop-s.found c.grace_fault_of.result c.earlier-found.result
    _ (grace_parts clef waits i s c.loop-s-test.true c.s-item.is) c.grace_fault_of.ensures c.earlier-found.ensures.value
    c.loop-s.invariant

use Rattle.std.proofs.{Common.◌≡◌, Common.◌∙◌, Common.to_z, Common.of_z, Common.w32, Common.arith, lemmas.Int.ints}
use Rattle.mus_stems.{specs.Ledgers.line_above, proofs.Counting.lines_step, proofs.Counting.pushed}
use Rattle.mus_stems.proofs.ledgers.put_above.Goals as goal

pub loop-k-preserved : goal.loop-k-preserved
loop-k-preserved c =
    let s = lines_step line_above c.loop-k.k c.count_above-k-end.result c.loop-k-test.true in
    let same : to_z w32 (of_z w32 c.ledger_above.result) ≡ c.ledger_above.result = omega (arith, ints) in
    pushed c.loop-k.out c.push.new.self _ _ _ _ _ c.in_ok-push.ensures.ok (same ∙ c.ledger_above.ensures) s
    c.loop-k.invariant

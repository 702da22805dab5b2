use Rattle.std.proofs.{lemmas.Int.ints, lemmas.Int.to_z-of_z, Common.arith}
use mir.Syntax.{w64}
use Rattle.ps_text.proofs.Taken.{numbers_step, numbers_end}
use Rattle.ps_text.proofs.scanning.take_numbers.Goals as goal

pub loop-z-preserved : goal.loop-z-preserved
loop-z-preserved c zs name h n e =
    rw (c.in_ok-push.ensures.ok, to_z-of_z w64 c.in-Some.z (search (arith, ints)))
    (numbers_step c.loop-z.zs c.loop-z.rest.now zs name c.in-Some.z c.in-Some.after.now
    (c.loop-z.invariant zs name h n e) c.in-Some.ensures.reads
    (λ k. let f = c.in-Some.ensures.last (rw k n) in let x : ⊥ = cc in x))

pub returns : goal.returns
returns c zs name h n e =
    numbers_end c.loop-z.zs c.loop-z.rest.now zs name (c.loop-z.invariant zs name h n e)
    (λ x r k. c.in_default.ensures.reads x r k)

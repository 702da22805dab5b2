use Rattle.ps_text.proofs.Taken.{words_step, words_end}
use Rattle.ps_text.proofs.words.take_words.Goals as goal

pub loop-b-preserved : goal.loop-b-preserved
loop-b-preserved c words tail h e =
    rw c.in_ok-push.ensures.ok
    (words_step c.loop-b.text c.loop-b.rest.now words tail c.in-Some.b c.in-Some.after.now
    (c.loop-b.invariant words tail h e) c.in-Some.ensures.reads
    (λ r k. let f = c.in-Some.ensures.ends r k in let x : ⊥ = cc f in x))

pub returns : goal.returns
returns c words tail h e =
    words_end c.loop-b.text c.loop-b.rest.now words tail (c.loop-b.invariant words tail h e)
    (λ x r s k. c.in_default.ensures.reads x r s k)

use Rattle.std.proofs.Common.{arith, sym, ◌∙◌, ap, length}
use Rattle.ps_text.proofs.{Numbers.tail_of, Shown.slashed, Shown.bare, Shown.shows_of, Shown.first_of}
use Rattle.ps_text.proofs.words.take_shown.Goals as goal

pub returns-in-empty-clause-reads : goal.returns-in-empty-clause-reads
returns-in-empty-clause-reads c b rest h e =
    let l = c.in-empty.len_below in
    elim (shows_of b c.args.bytes.now rest h e) [
      | slashed more k ↦ omega (arith, ap length k)
      | bare n k ↦ omega (arith, ap length k)
    ]

pub returns-in-41-clause-reads : goal.returns-in-41-clause-reads
returns-in-41-clause-reads c b rest h e = let i = c.in-41.is in elim (shows_of b c.args.bytes.now rest h e) [
  | slashed more k ↦ (let f = first_of c.args.bytes.now more 92 k in omega (arith, f, i))
  | bare n k ↦ n (sym (first_of c.args.bytes.now rest b k) ∙ i)
]

pub returns-in_default-clause-reads : goal.returns-in_default-clause-reads
returns-in_default-clause-reads c b rest h e = elim (shows_of b c.args.bytes.now rest h e) [
  | slashed more k ↦ (let f = first_of c.args.bytes.now more 92 k in let x : ⊥ = omega (arith, f) in absurd x)
  | bare n k ↦ (first_of c.args.bytes.now rest b k, tail_of c.args.bytes.now rest b k)
]

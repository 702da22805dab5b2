use Rattle.std.proofs.Common.{◌==◌, ◌∷◌, length, ap, sym, ◌∙◌, subst, arith, length-append, true≢false}
use Rattle.eng_reader.specs.Answers.{IsStep}
use Rattle.eng_reader.proofs.Ways.{first_fault, stuck_at_line, stuck_at_end, reading_more}
use Rattle.eng_reader.proofs.reading.read_lines.Goals as goal

pub returns-in_default-2-clause-cause : goal.returns-in_default-2-clause-cause
returns-in_default-2-clause-cause g c =
    let r = g.R.LineReader in let l = c.loop-raw in let i = l.invariant in
    let cut = c.in-Some.ensures in
    first_fault r.grammar c.requires.unambiguous c.args.text.now i.state l.rest.now l.line i.reading
    (stuck_at_line r.grammar c.requires.unambiguous c.args.text.now i.state l.rest.now c.in-Some.raw.now
    c.in-Some.following.now l.line i.reading cut.0 cut.1
    (subst (IsStep r.grammar r.is_at i.state c.in-Some.raw.now) c.in_default-2.is (c.in_ok-next.ensures i.state i.at)))

pub loop-raw-preserved : goal.loop-raw-preserved
loop-raw-preserved g c =
    let r = g.R.LineReader in let l = c.loop-raw in let i = l.invariant in let cut = c.in-Some.ensures in
    let next = subst (IsStep r.grammar r.is_at i.state c.in-Some.raw.now) c.in-Some-2.is
    (c.in_ok-next.ensures i.state i.at) in
    let n = ap length cut.0 in
    let k = length-append c.in-Some.raw.now (10 ∷ c.in-Some.following.now) in
    let room = i.room in
    record {
      state = r.grammar.state_after i.state next.line;
      at = next.next;
      reading =
          reading_more r.grammar c.args.text.now i.state l.rest.now c.in-Some.raw.now c.in-Some.following.now l.line
          (r.is_at c.in-Some-2.next) i.reading cut.0 next;
      room = omega (arith, n, k, room);
    }

pub returns-then-not-is_empty-clause-cause : goal.returns-then-not-is_empty-clause-cause
returns-then-not-is_empty-clause-cause g c =
    let r = g.R.LineReader in let l = c.loop-raw in let i = l.invariant in
    first_fault r.grammar c.requires.unambiguous c.args.text.now i.state l.rest.now l.line i.reading
    (stuck_at_end r.grammar i.state l.rest.now c.in_default.ensures
    (λ whole e is. true≢false (sym (c.is_empty.ensures ∙ ap (λ xs. length xs == 0) e) ∙ c.if-not-is_empty.true)))

pub returns-in-None-clause-cause : goal.returns-in-None-clause-cause
returns-in-None-clause-cause g c =
    let r = g.R.LineReader in let l = c.loop-raw in let i = l.invariant in
    first_fault r.grammar c.requires.unambiguous c.args.text.now i.state l.rest.now l.line i.reading
    (stuck_at_end r.grammar i.state l.rest.now c.in_default.ensures
    (λ whole e is. c.in-None.ensures i.state i.at whole is))

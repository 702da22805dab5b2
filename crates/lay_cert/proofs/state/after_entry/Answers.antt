use Rattle.std.proofs.Common.{◌<◌, ◌≤◌, [], subst, inl, inr}
use Rattle.lay_cert.specs.declared.lines.ListingLine.{ListingLine}
use Rattle.lay_cert.proofs.Judging.{none_refused, entry_same}
use Rattle.lay_cert.proofs.state.after_entry.Goals as goal

pub returns-then-branch : goal.returns-then-branch
returns-then-branch c es js e v =
    record { line = ListingLine.End; spelled = c.in_ok-is_line.ensures.0 c.if-branch.true; may = tt; next = v }

pub returns-then-tune-last : goal.returns-then-tune-last
returns-then-tune-last c es js e v =
    let r = c.in-Some.ensures in
    none_refused es c.args.raw.now c.in-Some.tune c.in-Some.bars r.0 r.1 r.2
    (elim c.then-tune-last.either [ inl h ↦ inl (subst (λ k. c.in-Some.tune ≤ k) e h) | inr h ↦ inr h.1 ])

pub returns : goal.returns
returns c es js e v =
    let r = c.in-Some.ensures in
    let m = c.in_ok-open_entry.ensures.empty in
    record {
      line = ListingLine.Tune c.in-Some.tune c.in-Some.bars;
      spelled = r.0;
      may = (subst (λ k. k < c.in-Some.tune) e c.if-tune-last.false, r.1, c.if-bars-gt4000.false);
      next = (
        v,
        c.in_ok-open_entry.ensures.sound,
        entry_same c.in_ok-open_entry.field-0 c.in-Some.tune c.in-Some.bars [] [] m.0 m.1 m.2 m.3,
      );
    }

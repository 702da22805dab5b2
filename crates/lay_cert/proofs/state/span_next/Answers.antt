use Rattle.std.proofs.Common.{◌≡◌, ◌==◌, [], ◌∷◌, ◌++◌, length, ap, sym, ◌∙◌, refl, subst}
use Rattle.std.proofs.lemmas.Bool.{true≢false}
use Rattle.lay_breaks.specs.Spans.{MayFollow}
use Rattle.lay_cert.specs.declared.lines.ListingLine.{ListingLine}
use Rattle.lay_cert.proofs.Judging.{none_span, entry_same, no_length}
use Rattle.lay_cert.proofs.state.span_next.Goals.{then-not-is_empty-via-then-not-is_empty}
use Rattle.lay_cert.proofs.state.span_next.Goals.{then-not-is_empty-via-else-not-is_empty+then-not-may_follow}
use Rattle.lay_cert.proofs.state.span_next.Goals as goal

pub returns-then-not-is_empty : goal.returns-then-not-is_empty
returns-then-not-is_empty c es js v =
    none_span es c.args.choosing c.args.span c.requires.sound c.requires.small.0 c.requires.small.1 c.requires.small.2
    (λ none follows.
    elim c.then-not-is_empty.branch [
      | then-not-is_empty-via-then-not-is_empty w ↦
          true≢false
          (sym (c.is_empty.ensures ∙ ap (λ xs. length xs == 0) (c.as_slice.ensures ∙ none)) ∙ w.if-not-is_empty.true)
      | then-not-is_empty-via-else-not-is_empty+then-not-may_follow w ↦
          w.may_follow.ensures.no w.if-not-may_follow.true follows
    ])

pub returns : goal.returns
returns c es js v =
    let k = c.args.choosing in let m = c.in_ok-add_span.ensures.more in
    let none : k.breaks ≡ [] =
    sym c.as_slice.ensures ∙ no_length c.as_slice.result.now (sym c.is_empty.ensures ∙ c.if-not-is_empty.false) in
    record {
      line = ListingLine.OneSpan c.args.span;
      spelled = refl;
      may = (
        none,
        subst (λ o. MayFollow k.bars o c.args.span) c.requires.sound.last
            (c.may_follow.ensures.yes c.if-not-may_follow.false),
      );
      next = (
        v,
        c.in_ok-add_span.ensures.sound,
        entry_same c.in_ok-add_span.field-0 k.tune k.bars (k.spans ++ c.args.span ∷ []) k.breaks m.0 m.1 m.2 m.3,
      );
    }

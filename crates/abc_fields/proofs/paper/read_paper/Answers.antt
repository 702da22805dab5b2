use Rattle.std.proofs.Common.{subst, sym, ◌∙◌}
use Rattle.abc_fields.{specs.FileHeader.IsPaperBy, proofs.FileHeaderLaws.paper-is, proofs.FileHeaderLaws.paper-one}
use Rattle.abc_fields.proofs.paper.read_paper.Goals as goal

pub returns-clause-states : goal.returns-clause-states
returns-clause-states c =
    subst (λ p. IsPaperBy c.args.book.now.header p) (sym c.paper_of.ensures.value) (paper-is c.args.book.now.header)

pub returns-clause-only : goal.returns-clause-only
returns-clause-only c = λ paper is. paper-one c.args.book.now.header paper is ∙ sym c.paper_of.ensures.value

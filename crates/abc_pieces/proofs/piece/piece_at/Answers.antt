use Rattle.std.proofs.Common.{◌≡◌, ◌∷◌, sym, ap, ◌∙◌, rules}
use Rattle.abc_pieces.proofs.PieceText.{first_dot, first_bracket}
use Rattle.abc_pieces.proofs.piece.piece_at.Goals as goal

pub dot-requires : goal.dot-requires
dot-requires c =
    let e : c.args.bytes.now ≡ c.in_ok-first.first.now ∷ c.in_ok-first.rest.now = search rules in
    e ∙ ap (λ b. b ∷ c.in_ok-first.rest.now) (first_dot c.in_ok-first.first.now (sym c.class_of.ensures ∙ c.in-Dot.is))

pub bracket-requires-clause-cut : goal.bracket-requires-clause-cut
bracket-requires-clause-cut c =
    let e : c.args.bytes.now ≡ c.in_ok-first.first.now ∷ c.in_ok-first.rest.now = search rules in
    e
    ∙ ap (λ b. b ∷ c.in_ok-first.rest.now)
    (first_bracket c.in_ok-first.first.now (sym c.class_of.ensures ∙ c.in-Bracket.is))

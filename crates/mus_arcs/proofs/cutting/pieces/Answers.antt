use Rattle.{std.proofs.Common.{refl}, mus_arcs.proofs.PieceLaws.{piece_iff}}
use Rattle.mus_arcs.proofs.cutting.pieces.Goals as goal

pub returns-then-a-arc-clause-touches : goal.returns-then-a-arc-clause-touches
returns-then-a-arc-clause-touches c = λ forwards some. (
  λ e. (piece_iff c.args.arc.now c.args.a c.args.b forwards some).0 (c.if-arc-b.true, c.if-a-arc.true),
  λ t. refl,
)

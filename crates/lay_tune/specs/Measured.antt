-- The input from which the systems of a score are set: everything that is measured before its breaking is chosen.
use Rattle.std.specs.Prelude.{◌≡◌, ◌<◌, ◌≤◌, ◌^◌, length}
use Rattle.lay_tune.specs.{declared.systems.Measured.Measured, Spans.{AreColumnsOf, score_gaps}}

pub record IsMeasured (m : Measured) : Type 0 where
  pub heard : 0 < m.drawn.score.now.measures → 1 ≤ length m.drawn.score.now.voices
  pub count : length m.measures.now.starts.now ≡ m.drawn.score.now.measures
  pub columns : AreColumnsOf m.drawn.score.now m.measures.now.starts.now m.measures.now.others.now
  pub gaps : m.measures.now.gaps.list.now ≡ score_gaps m.drawn.score.now
  pub wide : m.width < 2 ^ 32

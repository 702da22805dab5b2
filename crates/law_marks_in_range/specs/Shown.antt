-- A system whose marks can be shown.
use Rattle.std.specs.Prelude.{◌<◌, ◌≤◌, length, All}
use Rattle.mus_laid.specs.declared.laid.SystemMarks.{SystemMarks}
use Rattle.law_marks_in_range.specs.Ranks.{AreAnchored, AreMarksRanked, staves_ranks}
use Rattle.law_marks_in_range.specs.Texts.{HavePrinted}

-- it has a measure and a staff; its marks are at its columns, each of which holds one; and its texts can be printed
pub record IsShown (m : SystemMarks) : Type 0 where
  pub rises : m.a < m.b
  pub staves : 1 ≤ length m.staves
  pub ranked : All (λ s. AreMarksRanked (length m.keys) s.marks) m.staves
  pub anchored : AreAnchored (length m.keys) (staves_ranks m.staves)
  pub texts : All (λ s. HavePrinted s.marks) m.staves

-- What a tune is set by: the defaults of its file, its paper, and the manner of setting. The number of jobs isn't
-- part of it, so what contracts say about a tune that is set holds for any number of jobs.
use Rattle.std.specs.Prelude.{ℤ, pos, Bool}
use Rattle.abc_fields.specs.declared.defaults.Defaults.{Defaults}
use Rattle.abc_fields.specs.declared.paper.Paper.{Paper}
use Rattle.set_tune.specs.declared.how.How.{How}

-- with `flow` no bar is forced; the score is moved by this many semitones
pub record Manner : Type 0 where
  pub flow : Bool
  pub by : ℤ

pub record Terms : Type 0 where
  pub defaults : Defaults
  pub paper : Paper
  pub manner : Manner

abbrev pub manner_by : Bool → ℤ → Manner
manner_by flow by = record { flow = flow; by = by }

abbrev pub terms_by : Defaults → Paper → Manner → Terms
terms_by defaults paper manner = record { defaults = defaults; paper = paper; manner = manner }

abbrev pub manner_of : How → Manner
manner_of how = manner_by how.flow how.by

abbrev pub terms_of : Defaults → Paper → How → Terms
terms_of defaults paper how = terms_by defaults paper (manner_of how)

-- the tune as it is written
abbrev pub unmoved : Bool → Manner
unmoved flow = manner_by flow (pos 0)

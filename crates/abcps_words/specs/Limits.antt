-- The limits of a command's numbers.
use Rattle.std.specs.Prelude.{ℕ}

-- the most jobs of a run
abbrev pub job_limit : ℕ
job_limit = 64

-- the most tunes of a generated book
abbrev pub tune_limit : ℕ
tune_limit = 500

-- The command that words ask for.
use Rattle.abcps_words.specs.Limits.{job_limit, tune_limit}
use Rattle.std.specs.Prelude.{◌≡◌, ⊤, ℕ, List, ◌++◌}
use Rattle.abcps_words.specs.declared.options.Flag.{Flag}
use Rattle.abcps_words.specs.declared.command.Command.{Command}
use Rattle.abcps_words.specs.Words.{IsUpTo, IsMove, prefix_of, HasTunes, IsSpelled, said, SaysCommand}

-- The words ask for this command: they are its leading words and options that it takes, in any order, each at most
-- once.
pub record Asks (words : List (List ℕ)) (c : Command) : Type 0 where
  pub options : List Flag
  pub following : List (List ℕ)
  pub whole : words ≡ prefix_of c ++ following
  pub tunes : HasTunes c
  pub spelled : IsSpelled options following
  pub says : SaysCommand (said options) c

-- the words ask for a command
abbrev pub IsListed : List (List ℕ) → Type 0
IsListed words = (c : Command) × Asks words c

-- its jobs are 1 to 64, its tunes 1 to 500, and its half steps -12 to 12
abbrev pub IsGoodCommand : Command → Type 0
IsGoodCommand (Command.Set flow jobs by even) = IsUpTo job_limit jobs × IsMove by
IsGoodCommand (Command.Systems flow table by) = IsMove by
IsGoodCommand Command.Inspect = ⊤
IsGoodCommand Command.Check = ⊤
IsGoodCommand (Command.Make tunes) = IsUpTo tune_limit tunes
IsGoodCommand (Command.Trial tunes flow jobs even) = IsUpTo tune_limit tunes × IsUpTo job_limit jobs
IsGoodCommand Command.Paint = ⊤
IsGoodCommand (Command.Hear spread) = ⊤

-- the most bytes that a command may read: 8 MiB of a book; 256 MiB of pages, a listing or the input of `paint`; or
-- none
abbrev pub limit_of : Command → ℕ
limit_of (Command.Set flow jobs by even) = 8388608
limit_of (Command.Systems flow table by) = 8388608
limit_of Command.Inspect = 268435456
limit_of Command.Check = 268435456
limit_of (Command.Make tunes) = 0
limit_of (Command.Trial tunes flow jobs even) = 0
limit_of Command.Paint = 268435456
limit_of (Command.Hear spread) = 268435456

-- words ask for at most one command
abbrev pub AsksOne : Type 0
AsksOne = (words : List (List ℕ)) (c d : Command) → Asks words c → Asks words d → c ≡ d

-- a command that words ask for has its numbers in range
abbrev pub AskedIsGood : Type 0
AskedIsGood = (words : List (List ℕ)) (c : Command) → Asks words c → IsGoodCommand c

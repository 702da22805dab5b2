-- The words of a command: its name, the number of tunes or the spread if it takes one, and its options in any order,
-- each at most once.
use Rattle.abcps_words.specs.Limits.{job_limit, tune_limit}
use Rattle.std.specs.Prelude.{◌≡◌, ◌≤◌, ◌≤ℤ◌, ⊤, ℕ, ℤ, pos, negsuc, Bool, true, false, List, [], ◌∷◌, All, Option, Some}
use Rattle.std.specs.Prelude.{None, unwrap_or, codes, decimal, flat_map, count_by}
use Rattle.std.specs.Fmt.{signed_decimal}
use Rattle.std.specs.List.{list_any}
use Rattle.std.specs.Option.{option_or}
use Rattle.mus_units.specs.declared.key.Spread.{Spread}
use Rattle.abcps_words.specs.declared.options.Flag.{Flag}
use Rattle.abcps_words.specs.declared.options.Options.{Options}
use Rattle.abcps_words.specs.declared.command.Name.{Name}
use Rattle.abcps_words.specs.declared.command.Command.{Command}

-- a number from 1 to the most
pub record IsUpTo (most n : ℕ) : Type 0 where
  pub low : 1 ≤ n
  pub high : n ≤ most

-- a number of half steps, at most an octave up or down
pub record IsMove (z : ℤ) : Type 0 where
  pub low : negsuc 11 ≤ℤ z
  pub high : z ≤ℤ pos 12

-- a name as it is written
abbrev pub name_bytes : Name → List ℕ
name_bytes Name.Set = codes "set"
name_bytes Name.Systems = codes "systems"
name_bytes Name.Inspect = codes "inspect"
name_bytes Name.Check = codes "check"
name_bytes Name.Make = codes "make"
name_bytes Name.Trial = codes "trial"
name_bytes Name.Paint = codes "paint"
name_bytes Name.Hear = codes "hear"

-- a spread as it is written
abbrev pub spread_word : Spread → List ℕ
spread_word Spread.Not = codes "not"
spread_word Spread.Octave = codes "octave"
spread_word Spread.Pitch = codes "pitch"

-- the words before the options: the name, directly followed by the number of tunes or the spread
abbrev pub prefix_of : Command → List (List ℕ)
prefix_of (Command.Set flow jobs by even) = name_bytes Name.Set ∷ []
prefix_of (Command.Systems flow table by) = name_bytes Name.Systems ∷ []
prefix_of Command.Inspect = name_bytes Name.Inspect ∷ []
prefix_of Command.Check = name_bytes Name.Check ∷ []
prefix_of (Command.Make tunes) = name_bytes Name.Make ∷ decimal tunes ∷ []
prefix_of (Command.Trial tunes flow jobs even) = name_bytes Name.Trial ∷ decimal tunes ∷ []
prefix_of Command.Paint = name_bytes Name.Paint ∷ []
prefix_of (Command.Hear spread) = name_bytes Name.Hear ∷ spread_word spread ∷ []

-- a number of tunes is 1 to 500
abbrev pub HasTunes : Command → Type 0
HasTunes (Command.Make tunes) = IsUpTo tune_limit tunes
HasTunes (Command.Trial tunes flow jobs even) = IsUpTo tune_limit tunes
HasTunes (Command.Set flow jobs by even) = ⊤
HasTunes (Command.Systems flow table by) = ⊤
HasTunes Command.Inspect = ⊤
HasTunes Command.Check = ⊤
HasTunes Command.Paint = ⊤
HasTunes (Command.Hear spread) = ⊤

-- the words of an option
abbrev pub flag_words : Flag → List (List ℕ)
flag_words Flag.Flow = codes "--flow" ∷ []
flag_words Flag.Table = codes "--table" ∷ []
flag_words Flag.Even = codes "--even" ∷ []
flag_words (Flag.Jobs jobs) = codes "--jobs" ∷ decimal jobs ∷ []
flag_words (Flag.Transpose by) = codes "--transpose" ∷ signed_decimal by ∷ []

-- a number of jobs is 1 to 64, and a number of half steps is -12 to 12
abbrev pub IsFlag : Flag → Type 0
IsFlag Flag.Flow = ⊤
IsFlag Flag.Table = ⊤
IsFlag Flag.Even = ⊤
IsFlag (Flag.Jobs jobs) = IsUpTo job_limit jobs
IsFlag (Flag.Transpose by) = IsMove by

-- two options are of one kind, whatever their numbers
abbrev pub same_kind : Flag → Flag → Bool
same_kind Flag.Flow Flag.Flow = true
same_kind Flag.Table Flag.Table = true
same_kind Flag.Even Flag.Even = true
same_kind (Flag.Jobs n) (Flag.Jobs m) = true
same_kind (Flag.Transpose y) (Flag.Transpose z) = true
same_kind _ _ = false

-- no two of the options are of one kind
abbrev pub IsOnce : List Flag → Type 0
IsOnce flags = (f : Flag) → count_by (same_kind f) flags ≤ 1

-- the words are those of the options, each of which is there at most once
pub record IsSpelled (flags : List Flag) (words : List (List ℕ)) : Type 0 where
  pub spelled : words ≡ flat_map flag_words flags
  pub in_range : All IsFlag flags
  pub once : IsOnce flags

-- the number of jobs and the number of half steps that an option says
abbrev pub jobs_of : Flag → Option ℕ
jobs_of (Flag.Jobs jobs) = Some jobs
jobs_of _ = None

abbrev pub half_steps_of : Flag → Option ℤ
half_steps_of (Flag.Transpose by) = Some by
half_steps_of _ = None

-- the first number of a kind that options say
abbrev pub first_said : {A : Type 0} → (Flag → Option A) → List Flag → Option A
first_said p [] = None
first_said p (f ∷ flags) = option_or (p f) (first_said p flags)

-- what options say together
abbrev pub said : List Flag → Options
said flags = record {
  flow = list_any (same_kind Flag.Flow) flags;
  table = list_any (same_kind Flag.Table) flags;
  even = list_any (same_kind Flag.Even) flags;
  jobs = first_said jobs_of flags;
  by = first_said half_steps_of flags;
}

-- no option is given
pub record IsBare (o : Options) : Type 0 where
  pub flow : o.flow ≡ false
  pub table : o.table ≡ false
  pub even : o.even ≡ false
  pub jobs : o.jobs ≡ None
  pub by : o.by ≡ None

-- A command says what its options say, and takes no others: 1 job if no option gives the jobs, and no half step if
-- none gives the half steps.
abbrev pub SaysCommand : Options → Command → Type 0
SaysCommand o (Command.Set flow jobs by even) =
    (flow ≡ o.flow) × (jobs ≡ unwrap_or o.jobs 1) × (by ≡ unwrap_or o.by (pos 0)) × (even ≡ o.even) × (o.table ≡ false)
SaysCommand o (Command.Systems flow table by) =
    (flow ≡ o.flow) × (table ≡ o.table) × (by ≡ unwrap_or o.by (pos 0)) × (o.jobs ≡ None) × (o.even ≡ false)
SaysCommand o Command.Inspect = IsBare o
SaysCommand o Command.Check = IsBare o
SaysCommand o (Command.Make tunes) = IsBare o
SaysCommand o (Command.Trial tunes flow jobs even) =
    (flow ≡ o.flow) × (jobs ≡ unwrap_or o.jobs 1) × (even ≡ o.even) × (o.table ≡ false) × (o.by ≡ None)
SaysCommand o Command.Paint = IsBare o
SaysCommand o (Command.Hear spread) = IsBare o

-- The promises of a run, one fact per name.
use Rattle.std.specs.Prelude.{◌≡◌, ◌≢◌, ◌⊎◌, ◌≤◌, ◌↔◌, List, ℕ, length, Some}
use Rattle.eng_io.specs.Causes.{Rose}
use Rattle.eng_io.specs.Streams.{IsQuiet, ReadTooMuch, Stream, TookAtMost, WroteWhole}
use Rattle.abcps_words.specs.Command.{Asks, IsListed, limit_of}
use Rattle.abcps_words.specs.declared.command.Command.{Command}
use Rattle.abcps_words.specs.Usage.{usage_line}
use Rattle.abcps.specs.Outcome.{FailedToWrite, HoldsPart, IsInputRead, ReadsInput}
use Rattle.abcps.specs.Outcome.{ReportsLine}
use Rattle.abcps.specs.Called.{Called}
use Rattle.abcps.specs.Calls.{Calls, Refuses, by_one_job}
use Rattle.abcps.specs.Refusals.{IsRefusalStatus, refusal_line, refusal_status}
use Rattle.abcps.specs.declared.refusing.Refusal.{Refusal}
use Rattle.abcps.specs.declared.status.Status.{Status}

-- No stream counted a fault; a count at its end counts as risen. Of the input of a command that reads nothing, nothing
-- is asked.
pub record NoFault (c : Command) (i o e : Stream) : Type 0 where
  pub input : ReadsInput c → Rose i.count_before i.count_after → ⊥
  pub output : Rose o.count_before o.count_after → ⊥
  pub errors : Rose e.count_before e.count_after → ⊥

-- the input has these bytes, which are within the limit; for a command that reads nothing there is no condition
abbrev pub IsReportedOn : Command → Stream → List ℕ → Type 0
IsReportedOn (Command.Make tunes) i text = Unit {0}
IsReportedOn (Command.Trial tunes flow jobs even) i text = Unit {0}
IsReportedOn c i text = (i.before ≡ Some text) × (length text ≤ limit_of c)

-- the words ask for this command, no fault was counted, and the input is this text
pub record IsRunOn (c : Command) (words : List (List ℕ)) (i o e : Stream) (text : List ℕ) : Type 0 where
  pub asked : Asks words c
  pub good : NoFault c i o e
  pub reported : IsReportedOn c i text

-- the words ask for a command, which read this whole text, or reads none
pub record AsksWholeText (c : Command) (words : List (List ℕ)) (i : Stream) (text : List ℕ) : Type 0 where
  pub asked : Asks words c
  pub read : IsInputRead c i text

-- What was called for is on both sinks, and it is the only thing that this input calls for, with any number of jobs:
-- so the bytes and the status are the same for every number of jobs. The input is not refused.
pub record IsDone (c : Command) (s : Status) (text : List ℕ) (o e : Stream) : Type 0 where
  pub called : Called
  pub calls : Calls c text called
  pub only : (d : Command) (other : Called) → by_one_job d ≡ by_one_job c → Calls d text other → other ≡ called
  pub unrefused : (refusal : Refusal) → Refuses c text refusal → ⊥
  pub ends : s ≡ called.status
  pub page : WroteWhole o called.page
  pub reported : WroteWhole e called.reported

-- The input is refused: nothing is called for, the status is the refusal's, output has nothing, and the refusal's
-- line was reported on errors.
pub record IsRefused (c : Command) (s : Status) (text : List ℕ) (o e : Stream) : Type 0 where
  pub refusal : Refusal
  pub refuses : Refuses c text refusal
  pub uncalled : (called : Called) → Calls c text called → ⊥
  pub ends : s ≡ refusal_status refusal
  pub quiet : IsQuiet o
  pub reported : ReportsLine e (refusal_line refusal)

pub record Promises (s : Status) (words : List (List ℕ)) (i o e : Stream) : Type 0 where
  -- the status is usage exactly when the words say so, whatever the streams do
  pub usage : (s ≡ Status.Usage) ↔ (IsListed words → ⊥)
  -- then nothing was read or written except the usage line, or a prefix of it if the errors sink failed
  pub usage_line : s ≡ Status.Usage → IsQuiet i × IsQuiet o × ReportsLine e usage_line
  -- the status is a fault of the input only if a command reads and the input's count rose; at most the command's limit
  -- was taken, and nothing is written
  pub read_fault : s ≡ Status.ReadFault
      → ((c : Command) × Asks words c × ReadsInput c × TookAtMost (limit_of c) i)
      × Rose i.count_before i.count_after
      × IsQuiet o
      × IsQuiet e
  -- an input is too long if one byte past the command's limit was read, and nothing is written
  pub too_long : s ≡ Status.TooLong
      → ((c : Command) × Asks words c × ReadsInput c × ((text : List ℕ) × ReadTooMuch (limit_of c) i text))
      × IsQuiet o
      × IsQuiet e
  -- an input that is not a document, or not a listing, is reported with the line of its first fault; one that can't
  -- be painted is reported with the token at which its run halts and the cause; nothing is written to output
  pub refused : IsRefusalStatus s
      → (c : Command) × (text : List ℕ) × AsksWholeText c words i text × IsRefused c s text o e
  -- the status is a fault of a sink only if its count rose: output has a prefix of its text and errors nothing, or
  -- output has all of it and errors a prefix of its own; if `set` had tunes left, output has a prefix of the document
  -- of its whole book, and this is no document
  pub write_fault : s ≡ Status.WriteFault
      → (c : Command) × (text : List ℕ) × AsksWholeText c words i text × FailedToWrite c text o e
  -- if memory ran out, errors has nothing, and output has nothing or a prefix of its text; or, if `set` had tunes
  -- left, a prefix of the document of its whole book, which is no document
  pub memory : s ≡ Status.Memory
      → IsQuiet e × (IsQuiet o ⊎ ((c : Command) × (text : List ℕ) × AsksWholeText c words i text × HoldsPart c text o))
  -- every other status is the one that is called for, and both sinks have their whole texts
  pub done : s ≢ Status.Usage
      → s ≢ Status.ReadFault → s ≢ Status.TooLong → (IsRefusalStatus s → ⊥) → s ≢ Status.WriteFault → s ≢ Status.Memory
      → (c : Command) × (text : List ℕ) × AsksWholeText c words i text × IsDone c s text o e
  -- If the words ask for a command, no fault is counted and the input is known to be within the limit, then unless
  -- memory runs out, everything that the command calls for is done, or its input is refused.
  pub answered : (c : Command) (text : List ℕ)
      → IsRunOn c words i o e text → s ≢ Status.Memory → IsDone c s text o e ⊎ IsRefused c s text o e

-- The answer of a run and what it leaves on each stream, by cases on the status.
use Rattle.std.specs.Prelude.{◌≡◌, ◌⊎◌, ◌<◌, ◌≤◌, ℕ, ◌+◌, List, [], Bool, length, take, Option}
use Rattle.std.specs.Io.KnownBytes.{Keeps, Appends, Consumes, IsAtEnd}
use Rattle.eng_io.specs.Causes.{Rose}
use Rattle.eng_io.specs.Streams.{FailedAfterPrefix, HoldsPrefix, IsQuiet, ReadAll, ReadTooMuch, Stream, TookAtMost}
use Rattle.eng_io.specs.Streams.{TookPrefix, WroteWhole}
use Rattle.abc_lines.specs.Books.{book_of}
use Rattle.ps_text.specs.Document.{SpellsSheet, document}
use Rattle.ps_text.specs.Range.{IsSheet}
use Rattle.ps_text.specs.declared.sheet.Sheet.{Sheet}
use Rattle.set_book.specs.declared.outcome.Outcome.{Outcome}
use Rattle.set_pages.specs.Sheet.{IsPagePlan, sheet_of}
use Rattle.set_pages.specs.declared.plan.PagePlan.{PagePlan}
use Rattle.abcps_words.specs.Command.{Asks, IsListed, limit_of}
use Rattle.abcps_words.specs.declared.command.Command.{Command}
use Rattle.abcps_words.specs.Usage.{usage_line}
use Rattle.abcps.specs.Books.{AreSet, CallsPages, paper_in}
use Rattle.abcps.specs.Called.{Called}
use Rattle.abcps.specs.Calls.{Calls, Refuses}
use Rattle.abcps.specs.Refusals.{refusal_line, refusal_status}
use Rattle.abcps.specs.declared.refusing.Refusal.{Refusal}
use Rattle.abcps.specs.declared.status.Status.{Status}
use Rattle.set_tune.specs.Terms.{Manner, manner_by}

-- a line was written to a sink, which took all of it, or counted a fault and took a prefix
abbrev pub ReportsLine : Stream → List ℕ → Type 0
ReportsLine s line = WroteWhole s line ⊎ FailedAfterPrefix s line

-- Output failed, and errors has nothing; or output has the whole text, and errors failed.
abbrev pub WriteFailed : Called → Stream → Stream → Type 0
WriteFailed called o e =
    (FailedAfterPrefix o called.page × IsQuiet e) ⊎ (WroteWhole o called.page × FailedAfterPrefix e called.reported)

-- A sink took a proper prefix of the document of a sheet that can be written. So what it took is no document, of
-- whatever sheet.
pub record HoldsNoDocument (s : Stream) (sheet : Sheet) : Type 0 where
  pub good : IsSheet sheet
  pub bytes : ℕ
  pub proper : bytes < length (document sheet)
  pub took : Appends s.before s.after (take bytes (document sheet))
  pub none : (other : Sheet) → SpellsSheet other (take bytes (document sheet)) → ⊥

-- `set` ended while some tunes of its book were left. Each tune has an outcome all the same. What output took is a
-- prefix of the document of all of them, and a proper one of the document of the first of them, fewer than all, by the
-- same plan; so it is a prefix of whatever is called for of the book, and no document itself.
pub record SetStoppedEarly (manner : Manner) (even : Bool) (text : List ℕ) (o : Stream) : Type 0 where
  pub count : ℕ
  pub left : count < length (book_of text).tunes
  pub outcomes : List Outcome
  pub set : AreSet manner text outcomes
  pub plan : PagePlan
  pub divided : IsPagePlan even (paper_in text) outcomes plan
  pub whole : HoldsPrefix o (document (sheet_of plan (paper_in text) outcomes))
  pub first : HoldsNoDocument o (sheet_of plan (paper_in text) (take count outcomes))
  pub all : (called : Called) → CallsPages manner even text called → HoldsPrefix o called.page

abbrev pub StoppedEarly : Command → List ℕ → Stream → Type 0
StoppedEarly (Command.Set flow jobs by even) text o = SetStoppedEarly (manner_by flow by) even text o
StoppedEarly _ text o = ⊥

-- A sink failed while writing what is called for, or output failed before `set` had set all tunes.
abbrev pub FailedToWrite : Command → List ℕ → Stream → Stream → Type 0
FailedToWrite c text o e =
    ((called : Called) × Calls c text called × WriteFailed called o e)
    ⊎ (StoppedEarly c text o × Rose o.count_before o.count_after × IsQuiet e)

-- Output has a prefix of what is called for, or of what `set` writes before it has set all tunes; and no fault was
-- counted.
abbrev pub HoldsPart : Command → List ℕ → Stream → Type 0
HoldsPart c text o =
    ((called : Called) × Calls c text called × TookPrefix o called.page)
    ⊎ (StoppedEarly c text o × (o.count_after ≡ o.count_before))

-- What a command read: the whole input; commands that generate a book read nothing.
abbrev pub IsInputRead : Command → Stream → List ℕ → Type 0
IsInputRead (Command.Make tunes) i text = IsQuiet i × (text ≡ [])
IsInputRead (Command.Trial tunes flow jobs even) i text = IsQuiet i × (text ≡ [])
IsInputRead c i text = ReadAll (limit_of c) i text

-- a command that reads its input
abbrev pub ReadsInput : Command → Type 0
ReadsInput (Command.Make tunes) = ⊥
ReadsInput (Command.Trial tunes flow jobs even) = ⊥
ReadsInput c = Unit {0}

-- a status with which everything was written
abbrev pub IsCompleteStatus : Status → Type 0
IsCompleteStatus Status.Done = Unit {0}
IsCompleteStatus Status.SomeRefused = Unit {0}
IsCompleteStatus Status.NotLeast = Unit {0}
IsCompleteStatus _ = ⊥

-- both texts were written, and the status is the one that goes with them
abbrev pub WroteBoth : (Called → Type 0) → Status → Stream → Stream → Type 0
WroteBoth C s o e =
    (called : Called) × C called × (s ≡ called.status) × WroteWhole o called.page × WroteWhole e called.reported

-- the answer when something is called for
abbrev pub IsAnswered : (Called → Type 0) → Status → Stream → Stream → Type 0
IsAnswered C Status.Done o e = WroteBoth C Status.Done o e
IsAnswered C Status.SomeRefused o e = WroteBoth C Status.SomeRefused o e
IsAnswered C Status.NotLeast o e = WroteBoth C Status.NotLeast o e
IsAnswered C Status.WriteFault o e = (called : Called) × C called × WriteFailed called o e
IsAnswered C Status.Memory o e = IsQuiet e × (IsQuiet o ⊎ ((called : Called) × C called × TookPrefix o called.page))
IsAnswered C _ o e = ⊥

-- the input was refused: output has nothing, and the reason was reported on errors
abbrev pub RefusedInput : Command → Status → List ℕ → Stream → Stream → Type 0
RefusedInput c s text o e =
    (refusal : Refusal)
    × Refuses c text refusal
    × (s ≡ refusal_status refusal)
    × IsQuiet o
    × ReportsLine e (refusal_line refusal)

-- the answer once the input was read
abbrev pub IsAnswer : Command → Status → List ℕ → Stream → Stream → Type 0
IsAnswer c Status.NotPages text o e = RefusedInput c Status.NotPages text o e
IsAnswer c Status.Halted text o e = RefusedInput c Status.Halted text o e
IsAnswer c Status.WriteFault text o e = FailedToWrite c text o e
IsAnswer c Status.Memory text o e = IsQuiet e × (IsQuiet o ⊎ HoldsPart c text o)
IsAnswer c s text o e = IsAnswered (Calls c text) s o e

-- the answer of a command
abbrev pub IsCommandAnswer : Command → Status → Stream → Stream → Stream → Type 0
IsCommandAnswer c Status.ReadFault i o e =
    ReadsInput c × TookAtMost (limit_of c) i × Rose i.count_before i.count_after × IsQuiet o × IsQuiet e
IsCommandAnswer c Status.TooLong i o e =
    ReadsInput c × ((text : List ℕ) × ReadTooMuch (limit_of c) i text) × IsQuiet o × IsQuiet e
IsCommandAnswer c Status.Memory i o e =
    IsQuiet e × (IsQuiet o ⊎ ((text : List ℕ) × IsInputRead c i text × HoldsPart c text o))
IsCommandAnswer c s i o e = (text : List ℕ) × IsInputRead c i text × IsAnswer c s text o e

-- the answer of a run
abbrev pub IsRunAnswer : Status → List (List ℕ) → Stream → Stream → Stream → Type 0
IsRunAnswer Status.Usage words i o e = (IsListed words → ⊥) × IsQuiet i × IsQuiet o × ReportsLine e usage_line
IsRunAnswer s words i o e = (c : Command) × Asks words c × IsCommandAnswer c s i o e

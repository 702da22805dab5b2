-- What each command calls for, given an input that it does not refuse.
use Rattle.std.specs.Prelude.{◌≡◌, ℕ, ◌*◌, List, [], Bool, true, false, if◌then◌else◌, length, flat_map}
use Rattle.std.specs.List.{list_any}
use Rattle.gen_book.specs.Book.{book}
use Rattle.ps_text.specs.Document.{SpellsSheet}
use Rattle.ps_text.specs.declared.sheet.Sheet.{Sheet}
use Rattle.eng_reader.specs.Answers.{IsFirstFault}
use Rattle.ps_read.specs.Answers.{IsDocumentRead}
use Rattle.ps_read.specs.ReaderStates.{documents}
use Rattle.ps_heard.specs.HeardText.{heard_text}
use Rattle.ps_steps.specs.declared.paint.PagePaint.{PagePaint}
use Rattle.ps_steps.specs.Steps.{Paints, Halts}
use Rattle.ps_reports.specs.PaintText.{paint_text}
use Rattle.ps_reports.specs.SheetText.{sheet_report}
use Rattle.lay_cert.specs.declared.check.Judged.{Judged}
use Rattle.lay_cert.specs.declared.check.Verdict.{Verdict}
use Rattle.lay_cert.specs.Answers.{IsJudged}
use Rattle.lay_cert.specs.Listing.{Entry, IsListing}
use Rattle.lay_cert.specs.Reports.{verdict_text}
use Rattle.lay_cert.specs.ReaderStates.{listings}
use Rattle.{abcps_words.specs.declared.command.Command.{Command}, set_tune.specs.Terms.{manner_by, unmoved}}
use Rattle.abcps.specs.Called.{Called, IsQuietly}
use Rattle.abcps.specs.Books.{CallsPages, CallsSystems, Tries}
use Rattle.abcps.specs.declared.refusing.Refusal.{Refusal}
use Rattle.abcps.specs.declared.status.Status.{Status}

-- For `inspect` and `hear`: a report on the one sheet that spells the input: everything that it shows, or what its
-- tunes sound.
pub record Shows (report : Sheet → List ℕ) (text : List ℕ) (c : Called) : Type 0 where
  pub sheet : Sheet
  pub read : IsDocumentRead text sheet
  pub page : c.page ≡ report sheet
  pub quietly : IsQuietly c

-- For `check`: the verdict on each tune of the listing, and whether each choice is least.
abbrev pub is_dearer : Verdict → Bool
is_dearer (Verdict.Least total) = false
is_dearer (Verdict.NotLeast total better breaks) = true

abbrev pub is_dearer_choice : Judged → Bool
is_dearer_choice j = is_dearer j.verdict

abbrev pub verdicts_text : List Judged → List ℕ
verdicts_text judged = flat_map (λ (j : Judged). verdict_text j.tune j.verdict) judged

abbrev pub status_by : List Judged → Status
status_by judged = if list_any is_dearer_choice judged then Status.NotLeast else Status.Done

pub record Judges (text : List ℕ) (c : Called) : Type 0 where
  pub judged : List Judged
  pub verdicts : IsJudged text judged
  pub page : c.page ≡ verdicts_text judged
  pub reported : c.reported ≡ []
  pub status : c.status ≡ status_by judged

-- For `make`: the generated book.
pub record Makes (tunes : ℕ) (c : Called) : Type 0 where
  pub page : c.page ≡ book tunes
  pub quietly : IsQuietly c

-- For `paint`: what the machine paints of the input, with a budget of 100 tokens per byte.
abbrev pub budget_of : List ℕ → ℕ
budget_of text = 100 * length text

pub record IsPainted (text : List ℕ) (c : Called) : Type 0 where
  pub pages : List PagePaint
  pub paints : Paints text (budget_of text) pages
  pub page : c.page ≡ paint_text pages
  pub quietly : IsQuietly c

abbrev pub Calls : Command → List ℕ → Called → Type 0
Calls (Command.Set flow jobs by even) text c = CallsPages (manner_by flow by) even text c
Calls (Command.Systems flow table by) text c = CallsSystems (manner_by flow by) table text c
Calls Command.Inspect text c = Shows sheet_report text c
Calls Command.Check text c = Judges text c
Calls (Command.Make tunes) text c = Makes tunes c
Calls (Command.Trial tunes flow jobs even) text c = Tries tunes (unmoved flow) even c
Calls Command.Paint text c = IsPainted text c
Calls (Command.Hear spread) text c = Shows (heard_text spread) text c

-- the same command with one job, if it takes a number of jobs
abbrev pub by_one_job : Command → Command
by_one_job (Command.Set flow jobs by even) = Command.Set flow 1 by even
by_one_job (Command.Trial tunes flow jobs even) = Command.Trial tunes flow 1 even
by_one_job c = c

-- Commands that differ only in their jobs call for the same answer to an input.
abbrev pub CallsOne : Type 0
CallsOne =
    (c d : Command) (text : List ℕ) (called other : Called)
    → by_one_job d ≡ by_one_job c → Calls c text called → Calls d text other → other ≡ called

-- Which inputs are refused. `inspect` and `hear` refuse what no sheet spells, and `check` what is not a listing, each
-- with the number of the first bad line; `paint` refuses what the machine halts on.
pub record IsNoDocument (text : List ℕ) (number : ℕ) : Type 0 where
  pub first : IsFirstFault documents text number
  pub unspelled : (sheet : Sheet) → SpellsSheet sheet text → ⊥

pub record IsNoListing (text : List ℕ) (number : ℕ) : Type 0 where
  pub first : IsFirstFault listings text number
  pub unspelled : (entries : List Entry) → IsListing text entries → ⊥

abbrev pub Refuses : Command → List ℕ → Refusal → Type 0
Refuses Command.Inspect text (Refusal.NotPages line) = IsNoDocument text line
Refuses (Command.Hear spread) text (Refusal.NotPages line) = IsNoDocument text line
Refuses Command.Check text (Refusal.NotPages line) = IsNoListing text line
Refuses Command.Paint text (Refusal.Halted token cause) = Halts text (budget_of text) token cause
Refuses _ text refusal = ⊥

-- A refused input calls for nothing.
abbrev pub NeverBoth : Type 0
NeverBoth =
    (c : Command) (text : List ℕ) (called : Called) (refusal : Refusal)
    → Calls c text called → Refuses c text refusal → ⊥

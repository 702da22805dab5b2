-- A book as it is set, built and written, one batch of its tunes after another.
use Rattle.std.specs.Prelude.{◌≡◌, ◌⊎◌, ◌<◌, ℕ, ◌+◌, ◌^◌, List, [], ◌++◌, All, Bool, true, false, if◌then◌else◌}
use Rattle.std.specs.Prelude.{flat_map, length, Result, Ok, Err}
use Rattle.std.specs.List.{AllZip}
use Rattle.eng_io.specs.Streams.{FailedAfterPrefix, IsQuiet, Stream, TookPrefix, WroteWhole}
use Rattle.abc_lines.specs.declared.book.TuneText.{TuneText}
use Rattle.abc_fields.specs.declared.paper.Paper.{Paper}
use Rattle.abc_fields.specs.Papers.{IsGoodPaper, body_height, body_width}
use Rattle.eng_io.specs.Causes.{Rose}
use Rattle.ps_text.specs.Document.{trailer}
use Rattle.ps_text.specs.Prolog.{prolog}
use Rattle.set_book.specs.declared.outcome.Outcome.{Outcome}
use Rattle.set_book.specs.Outcomes.{AreOutcomes}
use Rattle.set_lists.specs.Reports.{reports, some_fault}
use Rattle.lay_pages.specs.declared.filling.Block.{Block}
use Rattle.lay_pages.specs.Filling.{AreGoodBlocks}
use Rattle.set_pages.specs.Flow.{ending}
use Rattle.set_pages.specs.Builder.{AddsOutcomes, HasRoom, CanGoOn, IsBuiltFrom, IsTextOfOutcome, RisesBy}
use Rattle.set_pages.specs.Builder.{begun_text}
use Rattle.set_pages.specs.declared.builder.PlacedOutcome.{PlacedOutcome}
use Rattle.set_pages.specs.Sheet.{IsPagePlan, IsSetUnder, paper_frame}
use Rattle.set_pages.specs.declared.builder.PageBuilder.{PageBuilder}
use Rattle.set_pages.specs.declared.plan.PagePlan.{PagePlan}
use Rattle.set_pages.specs.Drawings.{all_blocks}
use Rattle.set_tune.specs.Terms.{Manner, Terms}
use Rattle.abcps.specs.Called.{Called}
use Rattle.abcps.specs.Books.{CallsPages, status_of}
use Rattle.abcps.specs.Outcome.{SetStoppedEarly}
use Rattle.abcps.specs.declared.building.WrittenBook.{WrittenBook}
use Rattle.abcps.specs.declared.building.BookProgress.{BookProgress}
use Rattle.abcps.specs.declared.printing.NextOutcomes.{NextOutcomes}
use Rattle.abcps.specs.declared.status.Status.{Status}

abbrev pub status_if : Bool → Status
status_if refused = if refused then Status.SomeRefused else Status.Done

-- with this status, a sink took a prefix of the text; whether it counted a fault follows from the status
abbrev pub StoppedAfterPrefix : Status → Stream → List ℕ → Type 0
StoppedAfterPrefix Status.WriteFault s text = FailedAfterPrefix s text
StoppedAfterPrefix Status.Memory s text = TookPrefix s text
StoppedAfterPrefix _ s text = ⊥

-- a sink took a whole text, or stopped early
abbrev pub WroteOrStopped : {T : Type 0} → Stream → List ℕ → Result T Status → Type 0
WroteOrStopped s text (Ok x) = WroteWhole s text
WroteOrStopped s text (Err why) = StoppedAfterPrefix why s text

-- these outcomes were taken: where their blocks are is known, and their faults are reported
pub record IsRunning (plan : PagePlan) (paper : Paper) (outcomes : List Outcome) (r : BookProgress) : Type 0 where
  pub pressed : IsBuiltFrom plan paper outcomes r.press
  pub free : CanGoOn r.press
  pub reported : r.reported ≡ reports outcomes
  pub refused : r.refused ≡ some_fault outcomes
  pub uncounted : r.writer.pages ≡ 0

-- no outcomes were taken yet
abbrev pub IsBegun : BookProgress → Type 0
IsBegun r = (plan : PagePlan) (paper : Paper) → RisesBy plan → IsRunning plan paper [] r

-- outcomes can be added after those that were taken: the plan has room for their blocks, which are fewer than 2^32
-- with those before them
pub record CanAdd (plan : PagePlan) (paper : Paper) (outcomes : List Outcome) (r : BookProgress) : Type 0 where
  pub good : IsGoodPaper paper
  pub set : All (IsSetUnder paper) outcomes
  pub few : r.press.put + length (all_blocks outcomes) < 2 ^ 32
  pub room : HasRoom plan (body_height paper) r.press (all_blocks outcomes)
  pub before : List Outcome
  pub running : IsRunning plan paper before r

-- the text of a document up to the last block of these outcomes
abbrev pub text_so_far : PagePlan → Paper → List Outcome → List ℕ
text_so_far plan paper outcomes = prolog (paper_frame paper) ++ begun_text plan paper outcomes

-- outcomes were added after others, and a stream has some of the text that they add
pub record HaveAdded (plan : PagePlan) (paper : Paper) (before outcomes : List Outcome) (press : PageBuilder)
    (Took : List ℕ → Type 0) : Type 0 where
  pub text : List ℕ
  pub pressed : AddsOutcomes plan paper before outcomes text press
  pub took : Took text

-- with the texts of these placed outcomes, they follow those that were taken
abbrev pub WillRun : PagePlan → Paper → List Outcome → List Outcome → List PlacedOutcome → BookProgress → Type 0
WillRun plan paper before outcomes placed r =
    (texts : List (List ℕ)) → AllZip (IsTextOfOutcome (body_width paper)) placed texts
    → AddsOutcomes plan paper before outcomes (flat_map (λ text. text) texts) r.press
    × IsRunning plan paper (before ++ outcomes) r

-- the same except for what the writer has written
pub record IsSameProgress (r next : BookProgress) : Type 0 where
  pub press : next.press ≡ r.press
  pub reported : next.reported ≡ r.reported
  pub refused : next.refused ≡ r.refused
  pub uncounted : next.writer.pages ≡ 0

-- outcomes were added and written after those that were taken, or only in part: memory may have run out before
-- anything was written
abbrev pub IsBuiltOrStopped : PagePlan
    → Paper → List Outcome → List Outcome → Stream → Result BookProgress Status → Type 0
IsBuiltOrStopped plan paper before outcomes o (Ok r) =
    HaveAdded plan paper before outcomes r.press (WroteWhole o) × IsRunning plan paper (before ++ outcomes) r
IsBuiltOrStopped plan paper before outcomes o (Err why) =
    (StoppedAfterPrefix why o [])
    ⊎ ((press : PageBuilder) × HaveAdded plan paper before outcomes press (StoppedAfterPrefix why o))

-- outcomes were written after those that were taken, and the next tunes were set; or the outcomes were written only
-- in part
abbrev pub IsTurn : Terms → PagePlan
    → List Outcome → List Outcome → List TuneText → Stream → Result NextOutcomes Status → Type 0
IsTurn terms plan before outcomes next o (Ok t) =
    IsBuiltOrStopped plan terms.paper before outcomes o (Ok t.run) × AreOutcomes terms next t.outcomes
IsTurn terms plan before outcomes next o (Err why) = IsBuiltOrStopped plan terms.paper before outcomes o (Err why)

-- the blocks of some tunes, once they were set
pub record AreGathered (terms : Terms) (tunes : List TuneText) (blocks : List Block) : Type 0 where
  pub outcomes : List Outcome
  pub set : AreOutcomes terms tunes outcomes
  pub value : blocks ≡ all_blocks outcomes
  pub good : AreGoodBlocks blocks

-- the plan of these tunes: filled, or the even one of their outcomes
abbrev pub IsPlanned : Bool → Terms → List TuneText → PagePlan → Type 0
IsPlanned false terms tunes plan = plan ≡ PagePlan.Filled
IsPlanned true terms tunes plan =
    (all : List Outcome) × AreOutcomes terms tunes all × IsPagePlan true terms.paper all plan

-- everything that is left of the document of these outcomes was written after their pages
abbrev pub rest_text : ℕ → List ℕ
rest_text begun = ending begun ++ trailer begun

abbrev pub IsFinished : List Outcome → ℕ → Stream → Result WrittenBook Status → Type 0
IsFinished outcomes begun o (Ok p) =
    WroteWhole o (rest_text begun)
    × (p.reported ≡ reports outcomes)
    × (p.status ≡ status_of outcomes)
    × (p.pages ≡ begun)
IsFinished outcomes begun o (Err why) = StoppedAfterPrefix why o (rest_text begun)

-- these tunes were set, and the document was written up to their last block
pub record AreRunning (terms : Terms) (plan : PagePlan) (tunes : List TuneText) (o : Stream)
    (r : BookProgress) : Type 0 where
  pub outcomes : List Outcome
  pub set : AreOutcomes terms tunes outcomes
  pub running : IsRunning plan terms.paper outcomes r
  pub wrote : WroteWhole o (text_so_far plan terms.paper outcomes)

-- The first of these tunes were set, and the document was being written up to their last block.
pub record AreCutOff (terms : Terms) (plan : PagePlan) (tunes : List TuneText) (o : Stream)
    (why : Status) : Type 0 where
  pub before : List TuneText
  pub rest : List TuneText
  pub whole : before ++ rest ≡ tunes
  pub outcomes : List Outcome
  pub set : AreOutcomes terms before outcomes
  pub press : PageBuilder
  pub pressed : IsBuiltFrom plan terms.paper outcomes press
  pub wrote : StoppedAfterPrefix why o (text_so_far plan terms.paper outcomes)

abbrev pub AreTunesWritten : Terms → PagePlan → List TuneText → Stream → Result BookProgress Status → Type 0
AreTunesWritten terms plan tunes o (Ok r) = AreRunning terms plan tunes o r
AreTunesWritten terms plan tunes o (Err why) = AreCutOff terms plan tunes o why

-- how a sink counted when this status came before the end of a text
abbrev pub CountsAs : Status → Stream → Type 0
CountsAs Status.WriteFault s = Rose s.count_before s.count_after
CountsAs Status.Memory s = s.count_after ≡ s.count_before
CountsAs _ s = ⊥

-- why the document of a book was not written to its end: memory ran out before it was begun, or it stopped when all
-- tunes were set, or while some were left
pub data IsUnwritten (manner : Manner) (even : Bool) (text : List ℕ) (o : Stream) (why : Status) : Type 0 where
  unbegun : why ≡ Status.Memory → IsQuiet o → IsUnwritten manner even text o why
  all_set : (called : Called)
      → CallsPages manner even text called → StoppedAfterPrefix why o called.page → IsUnwritten manner even text o why
  some_left : SetStoppedEarly manner even text o → CountsAs why o → IsUnwritten manner even text o why

abbrev pub IsBookWritten : Manner → Bool → List ℕ → Stream → Result WrittenBook Status → Type 0
IsBookWritten manner even text o (Ok p) =
    (called : Called)
    × CallsPages manner even text called
    × (p.reported ≡ called.reported)
    × (p.status ≡ called.status)
    × WroteWhole o called.page
IsBookWritten manner even text o (Err why) = IsUnwritten manner even text o why

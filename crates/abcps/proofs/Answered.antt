-- The answer when both texts are written, and when something else is called for.
use Rattle.std.proofs.Common.{◌≡◌, refl, sym, subst, ◌⊎◌, inl, inr, List, [], ℕ, ◌≤◌, length, Option}
use Rattle.std.specs.Io.KnownBytes.{Consumes, IsAtEnd}
use Rattle.eng_io.specs.Streams.{FailedAfterPrefix, IsQuiet, ReadAll, Stream, WroteWhole}
use Rattle.abcps_words.specs.{declared.command.Command.Command, Command.{Asks, limit_of}}
use Rattle.abcps.specs.Outcome.{IsAnswer, IsAnswered, IsCompleteStatus, IsCommandAnswer, IsInputRead}
use Rattle.abcps.specs.Outcome.{ReadsInput, IsRunAnswer, ReportsLine}
use Rattle.abcps.specs.Called.{Called}
use Rattle.abcps.specs.Calls.{Calls, Refuses}
use Rattle.abcps.specs.Refusals.{refusal_line, refusal_status}
use Rattle.abcps.specs.declared.refusing.Refusal.{Refusal}
use Rattle.abcps.specs.declared.status.Status.{Status}

abbrev Is : Called → Called → Type 0
Is called other = other ≡ called

-- both texts were written
answered_whole : (called : Called) (o e : Stream) (s : Status)
    → IsCompleteStatus s → s ≡ called.status → WroteWhole o called.page → WroteWhole e called.reported
    → IsAnswered (Is called) s o e
answered_whole called o e Status.Done end is page reported = (called, refl, is, page, reported)
answered_whole called o e Status.SomeRefused end is page reported = (called, refl, is, page, reported)
answered_whole called o e Status.NotLeast end is page reported = (called, refl, is, page, reported)
answered_whole called o e s end is page reported = absurd end

-- output has its whole text, and then errors got its own
pub answered_end : (called : Called) (o e : Stream) (s : Status)
    → IsCompleteStatus called.status → WroteWhole o called.page
    → ((s ≡ called.status) × WroteWhole e called.reported)
    ⊎ ((s ≡ Status.WriteFault) × FailedAfterPrefix e called.reported)
    → IsAnswered (Is called) s o e
answered_end called o e s end page (inl reported) =
    answered_whole called o e s (subst IsCompleteStatus (sym reported.0) end) reported.0 page reported.1
answered_end called o e s end page (inr cut) =
    subst (λ t. IsAnswered (Is called) t o e) (sym cut.0) (called, refl, inr (page, cut.1))

-- an answer for something is an answer for what a command calls for, if they are equal
pub answer_of : (c : Command) (text : List ℕ) (C : Called → Type 0)
    → ((called : Called) → C called → Calls c text called) → (o e : Stream) (s : Status) → IsAnswered C s o e
    → IsAnswer c s text o e
answer_of c text C give o e Status.Done r = (r.0, give r.0 r.1, r.2, r.3, r.4)
answer_of c text C give o e Status.SomeRefused r = (r.0, give r.0 r.1, r.2, r.3, r.4)
answer_of c text C give o e Status.NotLeast r = (r.0, give r.0 r.1, r.2, r.3, r.4)
answer_of c text C give o e Status.WriteFault r = inl (r.0, give r.0 r.1, r.2)
answer_of c text C give o e Status.Memory (quiet, inl none) = (quiet, inl none)
answer_of c text C give o e Status.Memory (quiet, inr part) = (quiet, inr (inl (part.0, give part.0 part.1, part.2)))
answer_of c text C give o e s r = absurd r

-- the same for one thing that is called for
pub answer_by : (c : Command) (text : List ℕ) (called : Called)
    → Calls c text called → (o e : Stream) (s : Status) → IsAnswered (Is called) s o e → IsAnswer c s text o e
answer_by c text called calls o e s r =
    answer_of c text (Is called) (λ other is. subst (Calls c text) (sym is) calls) o e s r

-- the input was refused, or memory ran out
pub answer_refused : (c : Command) (text : List ℕ) (refusal : Refusal) (o e : Stream) (s : Status)
    → Refuses c text refusal → IsQuiet o
    → ((s ≡ Status.Memory) × IsQuiet e) ⊎ ((s ≡ refusal_status refusal) × ReportsLine e (refusal_line refusal))
    → IsAnswer c s text o e
answer_refused c text refusal o e s refuses quiet (inl none) =
    subst (λ t. IsAnswer c t text o e) (sym none.0) (none.1, inl quiet)
answer_refused c text (Refusal.NotPages line) o e s refuses quiet (inr reported) =
    subst (λ t. IsAnswer c t text o e) (sym reported.0) (Refusal.NotPages line, refuses, refl, quiet, reported.1)
answer_refused c text (Refusal.Halted token cause) o e s refuses quiet (inr reported) =
    subst (λ t. IsAnswer c t text o e) (sym reported.0) (Refusal.Halted token cause, refuses, refl, quiet, reported.1)

-- what was read by a command that reads
pub read_of : (c : Command) (i : Stream) (text : List ℕ)
    → ReadsInput c → ReadAll (limit_of c) i text → IsInputRead c i text
read_of (Command.Make tunes) i text reads read = absurd reads
read_of (Command.Trial tunes flow jobs even) i text reads read = absurd reads
read_of c i text reads read = read

-- a command that was answered was obeyed
pub obeyed_of : (c : Command) (i o e : Stream) (text : List ℕ) (s : Status)
    → IsInputRead c i text → IsAnswer c s text o e → IsCommandAnswer c s i o e
obeyed_of c i o e text Status.Usage read r = absurd r
obeyed_of c i o e text Status.ReadFault read r = absurd r
obeyed_of c i o e text Status.TooLong read r = absurd r
obeyed_of c i o e text Status.Memory read (quiet, inl none) = (quiet, inl none)
obeyed_of c i o e text Status.Memory read (quiet, inr part) = (quiet, inr (text, read, part))
obeyed_of c i o e text s read r = (text, read, r)

-- the answer of a command is the answer of a run that asks for it
pub run_of : (words : List (List ℕ)) (c : Command) (i o e : Stream) (s : Status)
    → Asks words c → IsCommandAnswer c s i o e → IsRunAnswer s words i o e
run_of words c i o e Status.Usage asked r = absurd r.2
run_of words c i o e s asked r = (c, asked, r)

-- an input was read to its end, and the request with it was answered
pub read_obeyed : (c : Command) (limit : ℕ) (text : List ℕ) (i o e : Stream) (s : Status)
    → ReadsInput c → limit ≡ limit_of c → ReadAll limit i text → IsAnswer c s text o e → IsCommandAnswer c s i o e
read_obeyed c limit text i o e s reads is read r =
    obeyed_of c i o e text s (read_of c i text reads (subst (λ n. ReadAll n i text) is read)) r

-- a stream that is as it was
abbrev pub untouched : Option (List ℕ) → ℕ → Stream
untouched left count = record { before = left; after = left; count_before = count; count_after = count }

-- a request without an input was answered
pub unread_obeyed : (c d : Command) (left : Option (List ℕ)) (count : ℕ) (o e : Stream) (s : Status)
    → c ≡ d → IsInputRead d (untouched left count) [] → IsAnswer d s [] o e
    → IsCommandAnswer c s (untouched left count) o e
unread_obeyed c d left count o e s is read r =
    subst (λ x. IsCommandAnswer x s (untouched left count) o e) (sym is)
    (obeyed_of d (untouched left count) o e [] s read r)

-- What a step of a writer, or a whole document, writes to a sink.
use Rattle.std.specs.Prelude.{◌≡◌, ℕ, ◌+◌, ◌^◌, ◌<◌, ◌≤◌, length, take, List, Result, Ok, Err, ⊤}
use Rattle.std.specs.Io.KnownBytes.{Appends}
use Rattle.eng_io.specs.Streams.{FailedAfter, Stream, WroteWhole}
use Rattle.ps_write.specs.declared.steps.DocError.{DocError}
use Rattle.ps_write.specs.declared.steps.DocWriter.{DocWriter}

-- memory ran out after exactly the first n bytes of a text, and no fault was counted
abbrev pub RanOutAfter : ℕ → Stream → List ℕ → Type 0
RanOutAfter n s text =
    Appends s.before s.after (take n text) × (n ≤ length text) × (s.count_after ≡ s.count_before)

-- exactly the first bytes that the error counts were written, or, if memory ran out, a prefix of the text
abbrev pub WrotePrefix : Stream → List ℕ → DocError → Type 0
WrotePrefix s text (DocError.Write e) = FailedAfter e.written s text
WrotePrefix s text DocError.Memory = (n : ℕ) × RanOutAfter n s text

-- The whole text was written, or a prefix of it. A write fails only if the sink's fault count rose, and any other
-- result leaves the count unchanged.
abbrev pub Wrote : {T : Type 0} → Stream → List ℕ → Result T DocError → Type 0
Wrote s text (Ok _) = WroteWhole s text
Wrote s text (Err e) = WrotePrefix s text e

-- the bytes written before an error, added to those before, are fewer than 2^64
abbrev pub FitsError : ℕ → DocError → Type 0
FitsError before (DocError.Write e) = before + e.written < 2 ^ 64
FitsError before DocError.Memory = ⊤

abbrev pub FitsAfter : {T : Type 0} → ℕ → Result T DocError → Type 0
FitsAfter before (Ok _) = ⊤
FitsAfter before (Err e) = FitsError before e

-- a writer with this many pages, and a text after this many bytes
pub record IsWriterAt (pages before : ℕ) (text : List ℕ) (w : DocWriter) : Type 0 where
  pub pages_now : w.pages ≡ pages
  pub written_now : w.written ≡ before + length text

-- an error of a step that began after some bytes, counted for the whole
abbrev pub counted_from : ℕ → DocError → DocError
counted_from before (DocError.Write e) = DocError.Write (record { written = before + e.written })
counted_from before DocError.Memory = DocError.Memory

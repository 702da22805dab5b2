-- A stream before and after a call: what was read from a source or written to a sink, and how its count of faults
-- stood.
use Rattle.std.specs.Prelude.{◌≡◌, ◌⊎◌, ℕ, ◌+◌, ◌≤◌, length, take, List, Option, Result, Ok, Err}
use Rattle.std.specs.Io.KnownBytes.{Appends, Consumes, IsAtEnd, Keeps}
use Rattle.eng_io.specs.Causes.{Rose}
use Rattle.eng_io.specs.declared.reading.ReadError.{ReadError}
use Rattle.eng_io.specs.declared.writing.WriteError.{WriteError}

-- its bytes, where known, and its count of faults
pub record Stream : Type 0 where
  pub before : Option (List ℕ)
  pub after : Option (List ℕ)
  pub count_before : ℕ
  pub count_after : ℕ

-- what is observed of a source or a sink with these bytes and faults
abbrev pub observed : {A : Type 0} → (A → Option (List ℕ)) → (A → ℕ) → A → A → Stream
observed bytes faults old new =
    record { before = bytes old; after = bytes new; count_before = faults old; count_after = faults new }

-- nothing was read or written, and no fault was counted
abbrev pub IsQuiet : Stream → Type 0
IsQuiet s = Keeps s.before s.after × (s.count_after ≡ s.count_before)

-- the text is all that a source had left and is within the limit, and no fault was counted
pub record ReadAll (most : ℕ) (s : Stream) (text : List ℕ) : Type 0 where
  pub taken : Consumes s.before s.after text
  pub whole : IsAtEnd s.after
  pub within : length text ≤ most
  pub count : s.count_after ≡ s.count_before

-- at most this number of bytes was taken
abbrev pub TookAtMost : ℕ → Stream → Type 0
TookAtMost most s = (text : List ℕ) × Consumes s.before s.after text × (length text ≤ most)

-- one byte past the limit was read
pub record ReadTooMuch (most : ℕ) (s : Stream) (text : List ℕ) : Type 0 where
  pub taken : Consumes s.before s.after text
  pub past : length text ≡ most + 1
  pub count : s.count_after ≡ s.count_before

-- A source was read to its end, within the limit; or it failed or had too much, or memory ran out. A fault is returned
-- only if the count rose; any other result leaves the count unchanged.
abbrev pub ReadOrStopped : ℕ → Stream → Result (List ℕ) ReadError → Type 0
ReadOrStopped most s (Ok text) = ReadAll most s text
ReadOrStopped most s (Err ReadError.TooLong) = (text : List ℕ) × ReadTooMuch most s text
ReadOrStopped most s (Err ReadError.Fault) = TookAtMost most s × Rose s.count_before s.count_after
ReadOrStopped most s (Err ReadError.Memory) = TookAtMost (most + 1) s × (s.count_after ≡ s.count_before)

-- a sink took a whole text
abbrev pub WroteWhole : Stream → List ℕ → Type 0
WroteWhole s text = Appends s.before s.after text × (s.count_after ≡ s.count_before)

-- a sink failed after a prefix of a text
abbrev pub FailedAfterPrefix : Stream → List ℕ → Type 0
FailedAfterPrefix s text = (n : ℕ) × Appends s.before s.after (take n text) × Rose s.count_before s.count_after

-- a sink took a prefix of a text, and counted no fault
abbrev pub TookPrefix : Stream → List ℕ → Type 0
TookPrefix s text = (n : ℕ) × Appends s.before s.after (take n text) × (s.count_after ≡ s.count_before)

-- a sink took a prefix of a text, whatever it counted
abbrev pub HoldsPrefix : Stream → List ℕ → Type 0
HoldsPrefix s text = (n : ℕ) × Appends s.before s.after (take n text)

-- a sink failed after exactly the first n bytes of a text
abbrev pub FailedAfter : ℕ → Stream → List ℕ → Type 0
FailedAfter n s text =
    Appends s.before s.after (take n text) × (n ≤ length text) × Rose s.count_before s.count_after

-- a sink took a whole text, or failed after as many of its bytes as the error counts
abbrev pub WroteOrFailed : {T : Type 0} → Stream → List ℕ → Result T WriteError → Type 0
WroteOrFailed s text (Ok _) = WroteWhole s text
WroteOrFailed s text (Err e) = FailedAfter e.written s text

-- The status when the words of a run couldn't be obtained. A word that is not UTF-8 fits no listed form, so the usage
-- line is reported; if memory ran out, nothing is written.
use Rattle.std.specs.{Prelude.◌≡◌, declared.io.ErrorKind.ErrorKind}
use Rattle.eng_io.specs.Streams.{IsQuiet, Stream}
use Rattle.abcps_words.specs.Usage.{usage_line}
use Rattle.abcps.specs.Outcome.{ReportsLine}
use Rattle.abcps.specs.declared.status.Status.{Status}
use Rattle.abcps.specs.declared.wordless.WordsError.{WordsError}

-- the cause that an error of the system reports
abbrev pub cause_of : ErrorKind → WordsError
cause_of ErrorKind.OutOfMemory = WordsError.Memory
cause_of _ = WordsError.NotText

abbrev pub IsWordless : WordsError → Status → Stream → Type 0
IsWordless WordsError.NotText s e = (s ≡ Status.Usage) × ReportsLine e usage_line
IsWordless WordsError.Memory s e = (s ≡ Status.Memory) × IsQuiet e

-- What the results of the checker say.
use Rattle.std.specs.Prelude.{ℕ, List}
use Rattle.eng_reader.specs.Answers.{IsFirstFault}
use Rattle.eng_reader.specs.declared.reading.LineError.{LineError}
use Rattle.lay_cert.specs.Listing.{Entry, IsListing}
use Rattle.lay_cert.specs.ReaderStates.{listings}
use Rattle.lay_cert.specs.Verdicts.{AreVerdicts}
use Rattle.lay_cert.specs.declared.check.Judged.{Judged}
use Rattle.lay_cert.specs.declared.check.CertError.{CertError}
use Rattle.lay_cert.specs.declared.check.CertError.TheVariants.{NotListing, Memory}

-- the text is a listing, and these are the verdicts on its entries
abbrev pub IsJudged : List ℕ → List Judged → Type 0
IsJudged text judged = (es : List Entry) × IsListing text es × AreVerdicts es judged

-- NotListing says that this line is the first that isn't good, and so that the text lists nothing; Memory says
-- nothing
abbrev pub IsCause : List ℕ → CertError → Type 0
IsCause text (NotListing number) = IsFirstFault listings text number × ((es : List Entry) → IsListing text es → ⊥)
IsCause text Memory = Unit {0}

-- the error where this was the error of the lines
abbrev pub cert_error : LineError → CertError
cert_error (LineError.Bad line) = NotListing line
cert_error LineError.Memory = Memory

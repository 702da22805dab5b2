-- The laws of listings.
use Rattle.std.specs.Prelude.{◌≡◌, ℕ, ◌<◌, Bool, true, false, Option, None, List, [], ◌∷◌, ◌++◌, ◌↔◌}
use Rattle.eng_reader.specs.Answers.{IsFirstFault, IsGoodThroughout}
use Rattle.lay_breaks.specs.Breaking.{IsLegal}
use Rattle.lay_cert.specs.Lines.{lines_then}
use Rattle.lay_cert.specs.Listing.{Entry, IsListing, listing_lines, entries_text, none_forced}
use Rattle.lay_cert.specs.ReaderStates.{listings}
use Rattle.lay_cert.specs.declared.lines.ListingLine.{ListingLine}

-- a text is a listing exactly when each of its lines is good and the last is `end`
abbrev pub GoodByLines : Type 0
GoodByLines = (text : List ℕ) (es : List Entry) → IsListing text es ↔ IsGoodThroughout listings text es

-- a text has at most one list of entries
abbrev pub TellsOne : Type 0
TellsOne = (text : List ℕ) (es fs : List Entry) → IsListing text es → IsListing text fs → es ≡ fs

-- a text with a first fault is no listing
abbrev pub FaultsTellNone : Type 0
FaultsTellNone =
    (text : List ℕ) (number : ℕ) (es : List Entry) → IsFirstFault listings text number → IsListing text es → ⊥

-- no proper continuation of a listing is a listing
abbrev pub NoPrefix : Type 0
NoPrefix = (text more : List ℕ) (es fs : List Entry) → IsListing text es → IsListing (text ++ more) fs → more ≡ []

-- a listing is its first line, the lines of each entry, and its last line
abbrev pub InParts : Type 0
InParts =
    (es : List Entry)
    → lines_then (listing_lines es) []
    ≡ lines_then (ListingLine.Listing ∷ []) [] ++ entries_text es ++ lines_then (ListingLine.End ∷ []) []

-- if no span passes a forced bar, the legal breakings are those of the same spans with no bar forced
abbrev pub ForcedBySpans : Type 0
ForcedBySpans =
    (cost : ℕ → ℕ → Option ℕ) (forced : ℕ → Bool)
    → forced 0 ≡ false → ((a f b : ℕ) → a < f → f < b → forced f ≡ true → cost a b ≡ None)
    → (breaks : List ℕ) (i : ℕ) → IsLegal cost forced breaks i ↔ IsLegal cost none_forced breaks i

-- Text that is read part by part, each part as long as it can be: the list of parts that make up a text, and the
-- first place where it has none. `Stands part text rest` says that the part is at the start of the text and that the
-- rest follows it.
use Prim.Native.Char.{code}
use Rattle.std.specs.Prelude.{◌≡◌, ◌≤◌, ℕ, zero, suc, List, [], ◌∷◌, length, Bool, true, false, ◌||◌, ◌==◌, Option}
use Rattle.std.specs.Prelude.{Some, None, MatchBool}
use Rattle.abc_lines.specs.declared.fault.FaultKind.TheVariants.{BadLength}
use Rattle.abc_notes.specs.declared.part.Flaw.{Flaw}
use Rattle.mus_units.specs.Bytes.{is_digit}

-- the part is at the start, and no longer one is
pub record IsLongest (I : Type 0) (Stands : I → List ℕ → List ℕ → Type 0) (text : List ℕ) (part : I)
    (rest : List ℕ) : Type 0 where
  pub stands : Stands part text rest
  pub longest : (other : I) (following : List ℕ) → Stands other text following → length rest ≤ length following

abbrev pub HasNone : (I : Type 0) → (I → List ℕ → List ℕ → Type 0) → List ℕ → Type 0
HasNone I Stands text = (part : I) (rest : List ℕ) → Stands part text rest → ⊥

-- the parts of a text
pub data Parts (I : Type 0) (Stands : I → List ℕ → List ℕ → Type 0) : List ℕ → List I → Type 0 where
  no_part : Parts I Stands [] []
  then_part : (text : List ℕ) (part : I) (rest : List ℕ) (more : List I)
      → IsLongest I Stands text part rest → Parts I Stands rest more → Parts I Stands text (part ∷ more)

-- a text begins with these parts, each as long as it can be, and the rest follows
pub data LeadsByParts (I : Type 0) (Stands : I → List ℕ → List ℕ → Type 0) : List ℕ → List I → List ℕ → Type 0 where
  leads_here : (text : List ℕ) → LeadsByParts I Stands text [] text
  leads_on : (text : List ℕ) (part : I) (following : List ℕ) (more : List I) (rest : List ℕ)
      → IsLongest I Stands text part following → LeadsByParts I Stands following more rest
      → LeadsByParts I Stands text (part ∷ more) rest

-- a digit or a slash continues a length
abbrev pub goes_on_length : ℕ → Bool
goes_on_length byte = is_digit byte || byte == code "/"

-- where there is no part: a length that goes on is a fault of the part that has it, `at` bytes from the end; any
-- other fault is the text's own
abbrev pub IsFlaw : (List ℕ → Flaw → Type 0) → Option ℕ → ℕ → List ℕ → Flaw → Type 0
IsFlaw Own None byte rest flaw = Own (byte ∷ rest) flaw
IsFlaw Own (Some at) byte rest flaw =
    MatchBool (goes_on_length byte) (flaw ≡ record { kind = BadLength; left = at }) (Own (byte ∷ rest) flaw)

abbrev pub length_at_place : Bool → ℕ → Option ℕ
length_at_place true left = Some left
length_at_place false left = None

-- the first fault of a text; `before` is the place of the part before it, if that part has a length
pub data Flawed (I : Type 0) (Stands : I → List ℕ → List ℕ → Type 0) (is_lengthy : I → Bool)
    (Own : List ℕ → Flaw → Type 0) : Option ℕ → List ℕ → Flaw → Type 0 where
  stuck_here : (before : Option ℕ) (byte : ℕ) (rest : List ℕ) (flaw : Flaw)
      → HasNone I Stands (byte ∷ rest) → IsFlaw Own before byte rest flaw
      → Flawed I Stands is_lengthy Own before (byte ∷ rest) flaw
  stuck_later : (before : Option ℕ) (text : List ℕ) (part : I) (rest : List ℕ) (flaw : Flaw)
      → IsLongest I Stands text part rest
      → Flawed I Stands is_lengthy Own (length_at_place (is_lengthy part) (length text)) rest flaw
      → Flawed I Stands is_lengthy Own before text flaw

-- ---- reading: a link between these and the code
abbrev pub walk_on : {I : Type 0} → (List ℕ → List I × List ℕ) → List ℕ → Option (I × List ℕ) → List I × List ℕ
walk_on next text None = ([], text)
walk_on next text (Some z) = (z.0 ∷ (next z.1).0, (next z.1).1)

-- parts are read from a text, at most n of them
abbrev pub walk_from : {I : Type 0} → (List ℕ → Option (I × List ℕ)) → ℕ → List ℕ → List I × List ℕ
walk_from at zero text = ([], text)
walk_from at (suc n) text = walk_on (walk_from at n) text (at text)

-- the parts that a reader reads from a text, and what is left
unfoldable pub walk : {I : Type 0} → (List ℕ → Option (I × List ℕ)) → List ℕ → List I × List ℕ
walk at text = walk_from at (length text) text

abbrev pub is_done : {I : Type 0} → List I × List ℕ → Bool
is_done w = length w.1 == 0

-- the bytes of parts, and the rest after them
abbrev pub spelled_then : {I : Type 0} → (I → List ℕ → List ℕ) → List I → List ℕ → List ℕ
spelled_then one [] rest = rest
spelled_then one (part ∷ more) rest = one part (spelled_then one more rest)

abbrev pub later_or : Option (List ℕ) → Option (List ℕ) → Option (List ℕ)
later_or (Some later) earlier = Some later
later_or None earlier = earlier

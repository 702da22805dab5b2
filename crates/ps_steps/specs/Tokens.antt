-- Tokens: how the bytes of a text are split, and what the text begins with. Spaces, tabs, CR and LF separate tokens,
-- where that is needed; a % outside a string begins a comment, which ends before the next LF. A word is a maximal run
-- of bytes other than these, `(`, `)`, `{`, `}` and `/`. It is a whole number: an optional minus and digits; or a
-- number with a point: such a number followed by a point and two digits; or a name: a letter followed by letters and
-- digits. A slash and a name are a label. A string is spelled in parentheses, as a page spells words. The line that
-- makes the font is one token. A procedure from its `{` to its `}` is one token, and contains no other procedure.
use Prim.Native.Char.{code}
use Rattle.std.specs.Prelude.{◌≡◌, ℕ, ℤ, pos, neg_ℤ, ◌-◌, ◌≤◌, Bool, true, false, ◌&&◌, ◌||◌, not, ◌==◌, IsTrue}
use Rattle.std.specs.Prelude.{if◌then◌else◌, List, [], ◌∷◌, ◌++◌, length, take, drop, codes, Option, Some, None}
use Rattle.std.specs.List.{list_all, flat_map}
use Rattle.std.specs.Str.Parse.{digits_value}
use Rattle.mus_units.specs.Bytes.{is_digit, is_letter}
use Rattle.ps_text.specs.Fields.{shown}
use Rattle.ps_text.specs.Range.{is_shown}
use Rattle.ps_steps.specs.Near.{is_near, is_near_hundredths}
use Rattle.ps_steps.specs.declared.halt.Cause.{Cause}
pub use Rattle.ps_steps.specs.{declared.token.SimpleToken.SimpleToken, declared.token.MachineToken.MachineToken}
pub use Rattle.ps_steps.specs.declared.token.SimpleToken.TheVariants.{Whole as whole_token, Pointed as pointed_token}
pub use Rattle.ps_steps.specs.declared.token.SimpleToken.TheVariants.{Far as far_token, Words as words_token}
pub use Rattle.ps_steps.specs.declared.token.SimpleToken.TheVariants.{Label as label_token, Name as name_token}
pub use Rattle.ps_steps.specs.declared.token.SimpleToken.TheVariants.{Font as font_token}
pub use Rattle.ps_steps.specs.declared.token.MachineToken.TheVariants.{Simple as simple_token}
pub use Rattle.ps_steps.specs.declared.token.MachineToken.TheVariants.{Procedure as procedure_token}

-- space, tab, CR and LF
abbrev pub is_white_space : ℕ → Bool
is_white_space b = (b == code " ") || (b == code "\t") || (b == code "\r") || (b == code "\n")

-- ( ) { } / and %
abbrev pub is_delimiter : ℕ → Bool
is_delimiter b =
    (b == code "(") || (b == code ")") || (b == code "{") || (b == code "}") || (b == code "/") || (b == code "%")

-- a byte of a word
abbrev pub is_regular : ℕ → Bool
is_regular b = not (is_white_space b || is_delimiter b)

-- blanks are skipped, and a % begins a comment
abbrev pub is_skipped : ℕ → Bool
is_skipped b = is_white_space b || (b == code "%")

-- a text without its leading blanks and comments; the flag says that it begins within a comment, which ends before
-- the next LF
abbrev pub passed : Bool → List ℕ → List ℕ
passed inside [] = []
passed true (b ∷ s) = elim (b == code "\n") [ true ↦ passed false s | false ↦ passed true s ]
passed false (b ∷ s) = elim (is_white_space b) [
  | true ↦ passed false s
  | false ↦ elim (b == code "%") [ true ↦ passed true s | false ↦ b ∷ s ]
]

-- the line that makes the font, one token
abbrev pub font_line : List ℕ
font_line =
    codes "/Courier findfont dup length dict begin {1 index /FID ne {def} {pop pop} ifelse} forall /Encoding "
    ++ codes "ISOLatin1Encoding def currentdict end /EngFont exch definefont pop"

abbrev pub some_digits : List ℕ → Bool
some_digits [] = false
some_digits (b ∷ w) = list_all is_digit (b ∷ w)

-- a word without a leading minus
abbrev pub unsigned : List ℕ → List ℕ
unsigned [] = []
unsigned (b ∷ w) = if b == code "-" then w else b ∷ w

abbrev pub is_whole : List ℕ → Bool
is_whole w = some_digits (unsigned w)

-- digits, a point and two digits: the part before the last three bytes, and those three
abbrev pub is_fraction : List ℕ → Bool
is_fraction (p ∷ a ∷ b ∷ []) = (p == code ".") && is_digit a && is_digit b
is_fraction _ = false

abbrev pub is_pointed : List ℕ → Bool
is_pointed w =
    some_digits (take (length (unsigned w) - 3) (unsigned w))
    && is_fraction (drop (length (unsigned w) - 3) (unsigned w))

abbrev pub is_name : List ℕ → Bool
is_name [] = false
is_name (b ∷ w) = is_letter b && list_all (λ c. is_letter c || is_digit c) w

-- digits without their point
abbrev pub without_point : List ℕ → List ℕ
without_point w = take (length w - 3) w ++ drop (length w - 2) w

-- a number that exceeds 2^60 in size is far, whatever its value
abbrev pub whole_number : ℤ → SimpleToken
whole_number z = if is_near z then whole_token z else far_token

abbrev pub pointed_number : ℤ → SimpleToken
pointed_number z = if is_near_hundredths z then pointed_token z else far_token

abbrev pub has_minus : List ℕ → Bool
has_minus [] = false
has_minus (b ∷ w) = b == code "-"

-- the number that an optional minus and digits spell
abbrev pub number_written : List ℕ → ℤ
number_written w =
    if has_minus w then neg_ℤ (pos (digits_value 10 (unsigned w))) else pos (digits_value 10 (unsigned w))

-- in hundredths, if it has a point
abbrev pub hundredths_written : List ℕ → ℤ
hundredths_written w =
    if has_minus w then neg_ℤ (pos (digits_value 10 (without_point (unsigned w))))
    else pos (digits_value 10 (without_point (unsigned w)))

-- the token that a word is
abbrev pub word_token : List ℕ → Option SimpleToken
word_token w =
    if is_whole w then Some (whole_number (number_written w))
    else if is_pointed w then Some (pointed_number (hundredths_written w))
    else if is_name w then Some (name_token w)
    else None

abbrev pub begins : (ℕ → Bool) → List ℕ → Bool
begins p [] = false
begins p (b ∷ s) = p b

-- the text begins with this word, a maximal run of regular bytes
pub record IsWord (s w rest : List ℕ) : Type 0 where
  pub some : 1 ≤ length w
  pub regular : list_all is_regular w ≡ true
  pub cut : s ≡ w ++ rest
  pub maximal : begins is_regular rest ≡ false

-- after a `(`: words as spelled in a line of a page, and a `)`
pub record IsString (s words rest : List ℕ) : Type 0 where
  pub good : IsTrue (list_all is_shown words)
  pub spelled : s ≡ flat_map shown words ++ code ")" ∷ rest

-- all bytes to the end are the beginning of some string
pub record IsOpenString (s : List ℕ) : Type 0 where
  pub words : List ℕ
  pub first : ℕ
  pub more : List ℕ
  pub good : IsTrue (list_all is_shown words)
  pub spelled : s ++ first ∷ more ≡ flat_map shown words ++ code ")" ∷ []

-- what a text begins with
pub data Read : Type 0 where
  found : (t : SimpleToken) (rest : List ℕ) → Read
  opening : (rest : List ℕ) → Read
  closing : (rest : List ℕ) → Read
  unread : (cause : Cause) → Read

abbrev pub IsFont : List ℕ → List ℕ → Type 0
IsFont s rest = s ≡ font_line ++ rest

-- what a text begins with that doesn't begin with a blank or a comment
pub data Front (s : List ℕ) : Read → Type 0 where
  font_front : (rest : List ℕ) → IsFont s rest → Front s (found font_token rest)
  label_front : (t w rest : List ℕ)
      → s ≡ code "/" ∷ t → ((r : List ℕ) → IsFont s r → ⊥) → IsWord t w rest → is_name w ≡ true
      → Front s (found (label_token w) rest)
  no_label : (t : List ℕ) → s ≡ code "/" ∷ t → ((r : List ℕ) → IsFont s r → ⊥)
      → ((w rest : List ℕ) → IsWord t w rest → is_name w ≡ true → ⊥)
      → Front s (unread Cause.BadToken)
  string_front : (t words rest : List ℕ)
      → s ≡ code "(" ∷ t → IsString t words rest → Front s (found (words_token words) rest)
  open_string : (t : List ℕ) → s ≡ code "(" ∷ t → IsOpenString t → Front s (unread Cause.Unclosed)
  no_string : (t : List ℕ) → s ≡ code "(" ∷ t → ((words rest : List ℕ) → IsString t words rest → ⊥)
      → (IsOpenString t → ⊥)
      → Front s (unread Cause.BadToken)
  opening_front : (rest : List ℕ) → s ≡ code "{" ∷ rest → Front s (opening rest)
  closing_front : (rest : List ℕ) → s ≡ code "}" ∷ rest → Front s (closing rest)
  stray : (rest : List ℕ) → s ≡ code ")" ∷ rest → Front s (unread Cause.BadToken)
  word_front : (w rest : List ℕ) (t : SimpleToken) → IsWord s w rest → word_token w ≡ Some t → Front s (found t rest)
  no_word : (w rest : List ℕ) → IsWord s w rest → word_token w ≡ None → Front s (unread Cause.BadToken)

-- the tokens of a procedure, from after its `{`, and the rest after its `}`
pub data Body : List ℕ → List SimpleToken → List ℕ → Type 0 where
  closes : (s rest : List ℕ) → Front (passed false s) (closing rest) → Body s [] rest
  goes_on : (s r rest : List ℕ) (t : SimpleToken) (ts : List SimpleToken)
      → Front (passed false s) (found t r) → Body r ts rest → Body s (t ∷ ts) rest

-- why there is no procedure
pub data NoBody : List ℕ → Cause → Type 0 where
  unclosed : (s : List ℕ) → passed false s ≡ [] → NoBody s Cause.Unclosed
  nested : (s rest : List ℕ) → Front (passed false s) (opening rest) → NoBody s Cause.BadToken
  unread_within : (s : List ℕ) (cause : Cause) → Front (passed false s) (unread cause) → NoBody s cause
  later : (s r : List ℕ) (t : SimpleToken) (cause : Cause)
      → Front (passed false s) (found t r) → NoBody r cause → NoBody s cause

-- the text begins with a token, followed by rest
pub data TokenAt (s : List ℕ) : MachineToken → List ℕ → Type 0 where
  simple_at : (t : SimpleToken) (rest : List ℕ) → Front s (found t rest) → TokenAt s (simple_token t) rest
  procedure_at : (r rest : List ℕ) (ts : List SimpleToken)
      → Front s (opening r) → Body r ts rest → TokenAt s (procedure_token ts) rest

-- the text begins with no token
pub data NoToken (s : List ℕ) : Cause → Type 0 where
  unread_at : (cause : Cause) → Front s (unread cause) → NoToken s cause
  closing_at : (r : List ℕ) → Front s (closing r) → NoToken s Cause.Unclosed
  no_body : (r : List ℕ) (cause : Cause) → Front s (opening r) → NoBody r cause → NoToken s cause

-- How a `%%score` line is written, as signs: voice ids, parentheses and brackets. Between signs there may be blanks,
-- `|`, `*`, `+` and `~`, which are skipped; no further byte of an id follows an id.
use Prim.Native.Char.{code}
use Rattle.std.specs.Prelude.{◌≡◌, ◌≤◌, ◌<◌, ⊤, ℕ, List, [], ◌∷◌, ◌++◌, Bool, true, false, ◌==◌, ◌&&◌, ◌||◌, not}
use Rattle.std.specs.Prelude.{if◌then◌else◌, length, codes, get_or, Option, Some, None}
use Rattle.std.specs.List.{list_all}
use Rattle.std.specs.Option.{is_none}
use Rattle.{mus_units.specs.Bytes.{is_blank}, lay_shared.specs.declared.signs.{Bracket.Bracket, PlanSign.PlanSign}}

abbrev pub is_passed_in_plan : ℕ → Bool
is_passed_in_plan b = is_blank b || b == code "|" || b == code "*" || b == code "+" || b == code "~"

-- the sign that a byte writes
abbrev pub plan_sign_at : ℕ → Option PlanSign
plan_sign_at b =
    if b == code "(" then Some PlanSign.StaffOpens
    else if b == code ")" then Some PlanSign.StaffEnds
    else if b == code "[" then Some (PlanSign.Opens Bracket.Square)
    else if b == code "]" then Some (PlanSign.Ends Bracket.Square)
    else if b == code "{" then Some (PlanSign.Opens Bracket.Curly)
    else if b == code "}" then Some (PlanSign.Ends Bracket.Curly)
    else None

-- ids contain no blank and no sign
abbrev pub is_id : ℕ → Bool
is_id b = not (is_passed_in_plan b) && is_none (plan_sign_at b)

abbrev pub id_at : List (List ℕ) → ℕ → List ℕ
id_at ids v = get_or ids v []

abbrev pub opening_bracket : Bracket → List ℕ
opening_bracket Bracket.Square = codes "["
opening_bracket Bracket.Curly = codes "{"

abbrev pub closing_bracket : Bracket → List ℕ
closing_bracket Bracket.Square = codes "]"
closing_bracket Bracket.Curly = codes "}"

-- the spelling of each sign
abbrev pub spelled_sign : List (List ℕ) → PlanSign → List ℕ
spelled_sign ids (PlanSign.Voice v) = id_at ids v
spelled_sign ids PlanSign.UnknownVoice = []
spelled_sign ids PlanSign.StaffOpens = codes "("
spelled_sign ids PlanSign.StaffEnds = codes ")"
spelled_sign ids (PlanSign.Opens b) = opening_bracket b
spelled_sign ids (PlanSign.Ends b) = closing_bracket b

-- does not begin with a byte of an id
abbrev pub BeginsNoId : List ℕ → Type 0
BeginsNoId [] = ⊤
BeginsNoId (b ∷ s) = is_id b ≡ false

-- a voice is written there by its whole id
pub record IsVoice (ids : List (List ℕ)) (v : ℕ) (following : List ℕ) : Type 0 where
  pub known : v < length ids
  pub some : 1 ≤ length (id_at ids v)
  pub whole : list_all is_id (id_at ids v) ≡ true
  pub parted : BeginsNoId following

abbrev pub SpellsSign : List (List ℕ) → PlanSign → List ℕ → Type 0
SpellsSign ids (PlanSign.Voice v) following = IsVoice ids v following
SpellsSign ids PlanSign.UnknownVoice following = ⊥
SpellsSign ids _ following = ⊤

-- the sign is the first of the text, followed by the rest
pub record IsFirstSign (ids : List (List ℕ)) (sign : PlanSign) (text following : List ℕ) : Type 0 where
  pub passed : List ℕ
  pub over : list_all is_passed_in_plan passed ≡ true
  pub cut : text ≡ passed ++ (spelled_sign ids sign ++ following)
  pub stands : SpellsSign ids sign following

-- these are the signs of the text
abbrev pub Writes : List (List ℕ) → List PlanSign → List ℕ → Type 0
Writes ids [] text = list_all is_passed_in_plan text ≡ true
Writes ids (sign ∷ more) text = (following : List ℕ) × IsFirstSign ids sign text following × Writes ids more following

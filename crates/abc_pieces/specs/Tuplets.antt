-- A tuplet: its p, then q and r after colons, each of which may be left empty.
use Prim.Native.Char.{code}
use Rattle.std.specs.Prelude.{◌≡◌, ◌-◌, ℕ, List, [], ◌∷◌, ◌++◌, Bool, true, if◌then◌else◌, Option, Some, None, codes}
use Rattle.std.specs.Str.Parse.{digits_value}
use Rattle.{mus_units.specs.Bytes.{is_within}, abc_notes.specs.{Runs.skip, Lengths.IsCount, Lengths.number_at}}

pub data TupletForm : Type 0 where
  bare : (p : ℕ) → TupletForm
  with_q : (p : ℕ) (q : List ℕ) → TupletForm
  with_r : (p : ℕ) (q r : List ℕ) → TupletForm

-- 2 to 9
abbrev pub is_tuplet_digit : ℕ → Bool
is_tuplet_digit byte = is_within (codes "29") byte

-- what follows the parenthesis, and the rest
abbrev pub tuplet_then : TupletForm → List ℕ → List ℕ
tuplet_then (bare p) rest = p ∷ rest
tuplet_then (with_q p q) rest = p ∷ code ":" ∷ (q ++ rest)
tuplet_then (with_r p q r) rest = p ∷ code ":" ∷ (q ++ (code ":" ∷ (r ++ rest)))

-- q is 1 to 9 and r 1 to 99
abbrev pub IsTuplet : TupletForm → Type 0
IsTuplet (bare p) = is_tuplet_digit p ≡ true
IsTuplet (with_q p q) = (is_tuplet_digit p ≡ true) × IsCount 1 q
IsTuplet (with_r p q r) = (is_tuplet_digit p ≡ true) × IsCount 1 q × IsCount 2 r

abbrev pub value_or_zero : List ℕ → ℕ
value_or_zero [] = 0
value_or_zero (digit ∷ more) = digits_value 10 (digit ∷ more)

abbrev pub p_of : TupletForm → ℕ
p_of (bare p) = p - code "0"
p_of (with_q p q) = p - code "0"
p_of (with_r p q r) = p - code "0"

abbrev pub q_of : TupletForm → ℕ
q_of (bare p) = 0
q_of (with_q p q) = value_or_zero q
q_of (with_r p q r) = value_or_zero q

abbrev pub r_of : TupletForm → ℕ
r_of (bare p) = 0
r_of (with_q p q) = 0
r_of (with_r p q r) = value_or_zero r

-- ---- reading: a link between these and the code
abbrev pub after_q : ℕ → List ℕ × List ℕ → TupletForm × List ℕ
after_q p q =
    let colon = skip (code ":") q.1 in
    let r = number_at 2 colon.1 in
    if colon.0 then (with_r p q.0 r.0, r.1) else (with_q p q.0, q.1)

abbrev pub after_p : ℕ → List ℕ → TupletForm × List ℕ
after_p p rest =
    let colon = skip (code ":") rest in if colon.0 then after_q p (number_at 1 colon.1) else (bare p, rest)

unfoldable pub tuplet_at : List ℕ → Option (TupletForm × List ℕ)
tuplet_at [] = None
tuplet_at (p ∷ rest) = if is_tuplet_digit p then Some (after_p p rest) else None

abbrev pub tuplet_shown : ℕ → ℕ → ℕ → List ℕ → ℕ × ℕ × ℕ × List ℕ
tuplet_shown p q r rest = (p, q, r, rest)

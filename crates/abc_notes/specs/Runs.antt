-- The start of a list of bytes: a byte or none, runs of one byte, and bytes that pass a test; and the bytes of a note
-- that are a class by themselves.
use Rattle.std.specs.Prelude.{ℕ, zero, suc, List, [], ◌∷◌, Bool, true, false, ◌==◌, ◌||◌, if◌then◌else◌, take, drop}
use Rattle.std.specs.Prelude.{codes}
use Rattle.std.specs.List.{prefix_len}
use Rattle.mus_units.specs.Bytes.{is_within, is_either}

-- the byte n times, then the rest
abbrev pub copies : ℕ → ℕ → List ℕ → List ℕ
copies zero byte rest = rest
copies (suc n) byte rest = byte ∷ copies n byte rest

-- the byte or nothing, then the rest
abbrev pub maybe : Bool → ℕ → List ℕ → List ℕ
maybe true byte rest = byte ∷ rest
maybe false byte rest = rest

-- how often the byte is repeated at the start, and the rest
unfoldable pub run_off : ℕ → List ℕ → ℕ × List ℕ
run_off byte s = (prefix_len (λ x. x == byte) s, drop (prefix_len (λ x. x == byte) s) s)

-- whether the byte comes first, and the rest
unfoldable pub skip : ℕ → List ℕ → Bool × List ℕ
skip byte [] = (false, [])
skip byte (x ∷ s) = if x == byte then (true, s) else (false, x ∷ s)

-- the bytes at the start that pass, at most limit of them, and the rest
unfoldable pub span : (ℕ → Bool) → ℕ → List ℕ → List ℕ × List ℕ
span p limit s = (take (prefix_len p (take limit s)) s, drop (prefix_len p (take limit s)) s)

-- all the bytes at the start that pass, and the rest
unfoldable pub span_all : (ℕ → Bool) → List ℕ → List ℕ × List ℕ
span_all p s = (take (prefix_len p s) s, drop (prefix_len p s) s)

-- the byte is one of these
abbrev pub one_of : List ℕ → ℕ → Bool
one_of [] byte = false
one_of (x ∷ xs) byte = byte == x || one_of xs byte

-- the first byte passes
abbrev pub begins : (ℕ → Bool) → List ℕ → Bool
begins p [] = false
begins p (x ∷ s) = p x

-- a prime or a comma
abbrev pub is_mark : ℕ → Bool
is_mark byte = is_either (codes "',") byte

-- A to G, a to g
abbrev pub is_note_letter : ℕ → Bool
is_note_letter byte = is_within (codes "AG") byte || is_within (codes "ag") byte

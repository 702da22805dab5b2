-- The one plain spelling of each token. A length is its two numbers with a slash between. An octave is written with
-- commas only or primes only. A space is one space, and a line break is a dollar sign. An ending is an opening
-- bracket and its text. A decoration is its plain name between exclamation marks. A tuplet leaves a missing number
-- empty. A bar has as few colons and bar signs as its features allow. Each spelling is written before what follows
-- it.
use Prim.Native.Char.{code}
use Rattle.std.specs.Prelude.{◌≡◌, ℕ, ℤ, pos, negsuc, ◌+◌, ◌-◌, List, [], ◌∷◌, ◌++◌, Bool, false, not, ◌==◌, ◌&&◌}
use Rattle.std.specs.Prelude.{nat_le, if◌then◌else◌, replicate}
use Rattle.std.specs.Fmt.{decimal}
use Rattle.mus_units.specs.declared.note.Bar.{Bar}
use Rattle.mus_units.specs.declared.note.Deco.{Deco}
use Rattle.mus_units.specs.declared.note.Head.{Head}
use Rattle.abc_notes.specs.declared.part.GraceChord.{GraceChord}
use Rattle.abc_notes.specs.declared.part.Len.{Len}
use Rattle.abc_notes.specs.Decorations.{deco_name}
use Rattle.abc_notes.specs.Runs.{copies, maybe}
use Rattle.abc_notes.specs.Notes.{sign_then, letter_byte}
use Rattle.abc_pieces.specs.{declared.token.Token.Token, Forms.arrow, Forms.rest_byte, Forms.measures_byte}

-- one after the other, and what follows them
abbrev pub all_then : {A : Type 0} → (A → List ℕ → List ℕ) → List A → List ℕ → List ℕ
all_then one_then [] x = x
all_then one_then (a ∷ more) x = one_then a (all_then one_then more x)

abbrev pub len_then : Len → List ℕ → List ℕ
len_then len x = decimal len.num ++ (code "/" ∷ (decimal len.den ++ x))

-- from octave 5 on a small letter and primes, otherwise a capital and commas
abbrev pub is_small_letter : ℤ → Bool
is_small_letter (pos n) = nat_le 5 n
is_small_letter (negsuc n) = false

abbrev pub marks_of : ℤ → List ℕ
marks_of (pos n) = if nat_le 5 n then replicate (n - 5) (code "'") else replicate (4 - n) (code ",")
marks_of (negsuc n) = replicate (n + 5) (code ",")

abbrev pub pitch_then : Head → List ℕ → List ℕ
pitch_then head x =
    letter_byte (is_small_letter head.pitch.octave) head.pitch.letter ∷ (marks_of head.pitch.octave ++ x)

abbrev pub head_then : Head → List ℕ → List ℕ
head_then head x = sign_then head.sign (pitch_then head x)

-- a head of a chord, with a hyphen if it is tied
abbrev pub chord_head_then : Head × Len → List ℕ → List ℕ
chord_head_then h x = head_then h.0 (len_then h.1 (maybe h.0.tied (code "-") x))

-- a decoration is its plain name between exclamation marks; a text has its own name
abbrev pub deco_then : Deco → List ℕ → List ℕ
deco_then deco x = code "!" ∷ (deco_name deco ++ (code "!" ∷ x))

-- several heads of a grace group are put in brackets
abbrev pub heads_then : List Head → List ℕ → List ℕ
heads_then [] x = code "[" ∷ code "]" ∷ x
heads_then (head ∷ []) x = head_then head x
heads_then (head ∷ second ∷ more) x = code "[" ∷ all_then head_then (head ∷ second ∷ more) (code "]" ∷ x)

abbrev pub grace_chord_then : GraceChord → List ℕ → List ℕ
grace_chord_then chord x = heads_then chord.heads x

-- a missing number is left empty
abbrev pub number_or_empty : ℕ → List ℕ
number_or_empty n = if n == 0 then [] else decimal n

abbrev pub colon_then : ℕ → List ℕ → List ℕ
colon_then n x = code ":" ∷ (number_or_empty n ++ x)

abbrev pub plain_tuplet_then : ℕ → ℕ → ℕ → List ℕ → List ℕ
plain_tuplet_then p q r x = decimal p ++ colon_then q (colon_then r x)

-- repeat dots on both sides and no other feature
abbrev pub is_colons : Bar → Bool
is_colons b = b.end && b.start && not b.last && not b.initial && not b.double && not b.dotted

abbrev pub signs_then : Bar → List ℕ → List ℕ
signs_then b x =
    maybe b.dotted (code ".")
    (maybe b.end (code ":")
    (maybe b.initial (code "[")
    (code "|" ∷ maybe b.double (code "|") (maybe b.last (code "]") (maybe b.start (code ":") x)))))

abbrev pub bar_then : Bar → List ℕ → List ℕ
bar_then b x =
    if b.unseen then code "[" ∷ code "|" ∷ code "]" ∷ x
    else (if is_colons b then code ":" ∷ code ":" ∷ x else signs_then b x)

-- the plain spelling of a token, and what follows it
abbrev pub token_then : Token → List ℕ → List ℕ
token_then (Token.Note head len) x = head_then head (len_then len x)
token_then (Token.Rest seen len) x = rest_byte seen ∷ len_then len x
token_then (Token.Measures seen count) x = measures_byte seen ∷ (decimal count ++ x)
token_then (Token.Chord chord) x =
    code "[" ∷ all_then deco_then chord.decos (all_then chord_head_then chord.heads (code "]" ∷ len_then chord.len x))
token_then (Token.Grace slash body) x =
    code "{" ∷ maybe slash (code "/") (all_then grace_chord_then body (code "}" ∷ x))
token_then (Token.Tuplet p q r) x = code "(" ∷ plain_tuplet_then p q r x
token_then Token.SlurOn x = code "(" ∷ x
token_then Token.SlurOff x = code ")" ∷ x
token_then Token.Tie x = code "-" ∷ x
token_then (Token.Broken right dots) x = copies dots (arrow right) x
token_then (Token.Bar b) x = bar_then b x
token_then (Token.Ending text) x = code "[" ∷ (text ++ x)
token_then (Token.Deco deco) x = deco_then deco x
token_then (Token.Says text) x = code "\"" ∷ (text ++ (code "\"" ∷ x))
token_then (Token.Inline letter text) x = code "[" ∷ letter ∷ code ":" ∷ (text ++ (code "]" ∷ x))
token_then Token.Cut x = code "$" ∷ x
token_then Token.Space x = code " " ∷ x

-- a backquote and then a token
abbrev pub next_then : Token → List ℕ → List ℕ
next_then t x = code "`" ∷ token_then t x

-- the plain spelling of tokens, with a backquote between two
abbrev pub plain_text : List Token → List ℕ
plain_text [] = []
plain_text (t ∷ more) = token_then t (all_then next_then more [])

-- the bytes were added at the end, whatever follows
abbrev pub PutsBytes : List ℕ → List ℕ → (List ℕ → List ℕ) → Type 0
PutsBytes old new put_then = (x : List ℕ) → new ++ x ≡ old ++ put_then x

-- What a key's text says: which accidentals, and which clef.
use Prim.Native.Char.{code}
use Rattle.std.specs.Prelude.{ℕ, ℤ, pos, List, [], ◌∷◌, Bool, true, false, ◌==◌, ◌||◌, ⊤, nat_eq, if◌then◌else◌, length}
use Rattle.std.specs.Prelude.{take, codes, Option, Some, None, ◌-◌}
use Rattle.std.specs.List.{list_any, filter_map, ends_with, after_last}
use Rattle.std.specs.Option.{option_map, option_and_then, option_or}
use Rattle.std.specs.Str.{bytes_eq}
use Rattle.std.specs.Char.{to_ascii_lowercase}
use Rattle.mus_units.specs.declared.pitch.Letter.{Letter}
use Rattle.mus_units.specs.declared.pitch.Alter.{Alter}
use Rattle.mus_units.specs.declared.pitch.Clef.{Clef}
use Rattle.mus_units.specs.declared.key.Sign.{Sign}
use Rattle.mus_units.specs.{Good.IsGoodKey, Pitch.clef_named}
use Rattle.mus_units.specs.declared.key.Key.{Key}
use Rattle.mus_pitch.specs.{declared.circle.Mode.Mode, Circle.signature_of, Circle.signs_of, Signs.laid}
use Rattle.abc_field.specs.declared.key.Tonic.{Tonic}
use Rattle.abc_field.specs.Last.{last_of}
use Rattle.abc_field.specs.declared.key.KeyText.{KeyText}
use Rattle.abc_field.specs.declared.key.KeyWord.{KeyWord}
use Rattle.abc_field.specs.declared.key.KeyStart.{KeyStart}
use Rattle.abc_field.specs.Words.{words_of, after_prefix}

abbrev pub natural_letter : ℕ → Option Letter
natural_letter b =
    if b == code "C" then Some Letter.C
    else (if b == code "D" then Some Letter.D
    else (if b == code "E" then Some Letter.E
    else (if b == code "F" then Some Letter.F
    else (if b == code "G" then Some Letter.G
    else (if b == code "A" then Some Letter.A else (if b == code "B" then Some Letter.B else None))))))

-- a letter of either case; a small letter is 32 further
abbrev pub letter_of : ℕ → Option Letter
letter_of b = option_or (natural_letter b) (natural_letter (b - 32))

-- the text is one letter
abbrev pub letter_alone : List ℕ → Option Letter
letter_alone [] = None
letter_alone (b ∷ []) = letter_of b
letter_alone (b ∷ c ∷ s) = None

abbrev pub signed_letter : Alter → Option (List ℕ) → Option Sign
signed_letter alter None = None
signed_letter alter (Some s) = option_map (λ l. record { letter = l; alter = alter }) (letter_alone s)

-- an accidental and a letter: the accidental is the first of these prefixes that the word has
unfoldable pub sign_of : List ℕ → Option Sign
sign_of w =
    option_or (signed_letter Alter.Sharp2 (after_prefix (codes "^^") w))
    (option_or (signed_letter Alter.Sharp (after_prefix (codes "^") w))
    (option_or (signed_letter Alter.Flat2 (after_prefix (codes "__") w))
    (option_or (signed_letter Alter.Flat (after_prefix (codes "_") w))
    (signed_letter Alter.Natural (after_prefix (codes "=") w)))))

-- an octave above or below after a clef's name is ignored
abbrev pub has_octave : List ℕ → Bool
has_octave w = ends_with nat_eq w (codes "+8") || ends_with nat_eq w (codes "-8")

abbrev pub without_octave : List ℕ → List ℕ
without_octave w = if has_octave w then take (length w - 2) w else w

unfoldable pub clef_of : List ℕ → Option Clef
clef_of w = clef_named (without_octave w)

-- Words after the tonic. `exp` empties what was listed so far, an accidental word adds an accidental, a clef is named
-- with or without `clef=`, and other words with an equals sign are ignored.
abbrev pub by_name : List ℕ → Option Clef → Option KeyWord
by_name w (Some clef) = Some (KeyWord.Names clef)
by_name w None = if list_any (λ b. b == code "=") w then Some KeyWord.Passed else None

abbrev pub by_clef : List ℕ → Option (List ℕ) → Option KeyWord
by_clef w (Some name) = option_map (λ c. KeyWord.Names c) (clef_of name)
by_clef w None = by_name w (clef_of w)

abbrev pub by_sign : List ℕ → Option Sign → Option KeyWord
by_sign w (Some sign) = Some (KeyWord.Adds sign)
by_sign w None = by_clef w (after_prefix (codes "clef=") w)

unfoldable pub key_word : List ℕ → Option KeyWord
key_word w = if bytes_eq w (codes "exp") then Some KeyWord.Empties else by_sign w (sign_of w)

-- all words, or None if one is of no such kind
abbrev pub key_words : List (List ℕ) → Option (List KeyWord)
key_words [] = Some []
key_words (w ∷ ws) = option_and_then (λ k. option_map (λ ks. k ∷ ks) (key_words ws)) (key_word w)

-- a mode is read by its first three letters in any case
abbrev pub major_like : List ℕ → Option Mode
major_like w =
    if bytes_eq w (codes "maj") then Some Mode.Maj
    else (if bytes_eq w (codes "ion") then Some Mode.Maj
    else (if bytes_eq w (codes "mix") then Some Mode.Mix
    else (if bytes_eq w (codes "lyd") then Some Mode.Lyd else None)))

abbrev pub minor_like : List ℕ → Option Mode
minor_like w =
    if bytes_eq w (codes "min") then Some Mode.Min
    else (if bytes_eq w (codes "aeo") then Some Mode.Min
    else (if bytes_eq w (codes "dor") then Some Mode.Dor
    else (if bytes_eq w (codes "phr") then Some Mode.Phr
    else (if bytes_eq w (codes "loc") then Some Mode.Loc else None))))

abbrev pub mode_named : List ℕ → Option Mode
mode_named w = option_or (major_like w) (minor_like w)

abbrev pub mode_by_three : List ℕ → Option Mode
mode_by_three (a ∷ b ∷ c ∷ s) = mode_named (to_ascii_lowercase a ∷ to_ascii_lowercase b ∷ to_ascii_lowercase c ∷ [])
mode_by_three _ = None

-- `m` alone is minor
unfoldable pub mode_of : List ℕ → Option Mode
mode_of w = if bytes_eq w (codes "m") then Some Mode.Min else mode_by_three w

-- what a tonic and its mode begin with: a number of sharps, or more than a signature has
abbrev pub started_by : Option ℤ → KeyStart
started_by None = KeyStart.Beyond
started_by (Some n) = KeyStart.Sharps n

abbrev pub key_start : Letter → Alter → Mode → KeyStart
key_start letter alter mode = started_by (signature_of letter alter mode)

-- the mode that the next word names goes with the tonic
abbrev pub with_next_mode : Letter → Alter → List ℕ → List (List ℕ) → Option Mode → KeyStart × List (List ℕ)
with_next_mode letter alter w ws None = (key_start letter alter Mode.Maj, w ∷ ws)
with_next_mode letter alter w ws (Some mode) = (key_start letter alter mode, ws)

abbrev pub without_mode : Letter → Alter → List (List ℕ) → KeyStart × List (List ℕ)
without_mode letter alter [] = (key_start letter alter Mode.Maj, [])
without_mode letter alter (w ∷ ws) = with_next_mode letter alter w ws (mode_of w)

abbrev pub by_mode : Letter → Alter → Option Mode → List (List ℕ) → KeyStart × List (List ℕ)
by_mode letter alter None ws = without_mode letter alter ws
by_mode letter alter (Some mode) ws = (key_start letter alter mode, ws)

-- a tonic's letter, its sharp or flat, and the mode that is written directly after them
abbrev pub mode_on : Letter → Alter → List ℕ → Option Tonic
mode_on letter alter [] = Some (record { letter = letter; alter = alter; mode = None })
mode_on letter alter (b ∷ s) =
    option_map (λ mode. record { letter = letter; alter = alter; mode = Some mode }) (mode_of (b ∷ s))

abbrev pub altered : Letter → List ℕ → Option Tonic
altered letter [] = mode_on letter Alter.Natural []
altered letter (b ∷ s) =
    if b == code "#" then mode_on letter Alter.Sharp s
    else (if b == code "b" then mode_on letter Alter.Flat s else mode_on letter Alter.Natural (b ∷ s))

unfoldable pub tonic_of : List ℕ → Option Tonic
tonic_of [] = None
tonic_of (b ∷ s) = option_and_then (λ letter. altered letter s) (natural_letter b)

abbrev pub by_tonic : Option Tonic → List ℕ → List (List ℕ) → KeyStart × List (List ℕ)
by_tonic None w ws = (KeyStart.Kept, w ∷ ws)
by_tonic (Some tonic) w ws = by_mode tonic.letter tonic.alter tonic.mode ws

abbrev pub fixed_start : List ℕ → Option KeyStart
fixed_start w =
    if bytes_eq w (codes "none") then Some (KeyStart.Sharps (pos 0))
    else (if bytes_eq w (codes "HP") then Some (KeyStart.Sharps (pos 0))
    else (if bytes_eq w (codes "Hp") then Some KeyStart.Pipes else None))

abbrev pub by_fixed : Option KeyStart → List ℕ → List (List ℕ) → KeyStart × List (List ℕ)
by_fixed (Some start) w ws = (start, ws)
by_fixed None w ws = by_tonic (tonic_of w) w ws

-- the first word: `none` and `HP` have no accidental, `Hp` has those of the pipes, a tonic has those of its key; any
-- other word is no start
unfoldable pub first_words : List (List ℕ) → KeyStart × List (List ℕ)
first_words [] = (KeyStart.Sharps (pos 0), [])
first_words (w ∷ ws) = by_fixed (fixed_start w) w ws

-- What the words mean.
abbrev pub is_exp : KeyWord → Bool
is_exp KeyWord.Empties = true
is_exp _ = false

abbrev pub sign_in : KeyWord → Option Sign
sign_in (KeyWord.Adds sign) = Some sign
sign_in _ = None

abbrev pub clef_in : KeyWord → Option Clef
clef_in (KeyWord.Names clef) = Some clef
clef_in _ = None

-- the accidentals listed after the last `exp`
unfoldable pub listed_signs : List KeyWord → List Sign
listed_signs ks = filter_map sign_in (after_last is_exp ks)

-- with an `exp` the signature begins empty
abbrev pub start_with : KeyStart → List KeyWord → KeyStart
start_with start ks = if list_any is_exp ks then KeyStart.Sharps (pos 0) else start

abbrev pub pipe_signs : List Sign
pipe_signs =
    record { letter = Letter.F; alter = Alter.Sharp } ∷ record { letter = Letter.C; alter = Alter.Sharp }
    ∷ record { letter = Letter.G; alter = Alter.Natural } ∷ []

-- a whole key: the listed accidentals added to what it begins with
abbrev pub whole_key : List Sign → List KeyWord → Option KeyText
whole_key base ks =
    Some (record { key = Some (record { signs = laid base (listed_signs ks) }); adds = []; clef = last_of clef_in ks })

abbrev pub key_by : KeyStart → List KeyWord → Option KeyText
key_by KeyStart.Kept ks = Some (record { key = None; adds = listed_signs ks; clef = last_of clef_in ks })
key_by KeyStart.Beyond ks = None
key_by (KeyStart.Sharps n) ks = whole_key (signs_of n) ks
key_by KeyStart.Pipes ks = whole_key pipe_signs ks

abbrev pub key_from : KeyStart → Option (List KeyWord) → Option KeyText
key_from start None = None
key_from start (Some ks) = key_by (start_with start ks) ks

unfoldable pub key_of : List ℕ → Option KeyText
key_of text = let split = first_words (words_of text) in key_from split.0 (key_words split.1)

abbrev pub over_by : List Sign → List Sign → Option Key → List Sign
over_by signs adds None = laid signs adds
over_by signs adds (Some key) = key.signs

-- the key that a text makes of the key in force
abbrev pub key_over : List Sign → KeyText → List Sign
key_over signs text = over_by signs text.adds text.key

abbrev pub GoodKeyIn : Option Key → Type 0
GoodKeyIn None = ⊤
GoodKeyIn (Some key) = IsGoodKey key

-- a good key text: its key is good
abbrev pub IsGoodKeyText : KeyText → Type 0
IsGoodKeyText text = GoodKeyIn text.key

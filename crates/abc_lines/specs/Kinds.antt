-- The kind of a line of a tune or of the file header, determined by its first bytes: a directive, a field or music;
-- and the text of a field or a directive.
pub use Prim.Native.Char.{code}
use Rattle.std.specs.Prelude.{ℕ, List, [], ◌∷◌, drop, Bool, false, ◌==◌, ◌&&◌, ◌||◌, not, nat_le, if◌then◌else◌}
pub use Rattle.mus_units.specs.Bytes.{is_blank, is_letter, after_blanks}
use Rattle.abc_lines.specs.declared.kind.LineKind.{LineKind}
use Rattle.abc_lines.specs.declared.kind.LineKind.TheVariants.{Field, Directive, Music}

-- a letter that may be a note, a rest or a spacer of music: A to G, a to g, x, y, z
abbrev pub is_music_letter : ℕ → Bool
is_music_letter byte =
    (nat_le (code "A") byte && nat_le byte (code "G"))
    || (nat_le (code "a") byte && nat_le byte (code "g"))
    || (nat_le (code "x") byte && nat_le byte (code "z"))

-- a bar sign or a colon comes first
abbrev pub begins_bar : List ℕ → Bool
begins_bar [] = false
begins_bar (byte ∷ rest) = byte == code "|" || byte == code ":"

-- a letter and a colon come first; but a letter of music before a bar is music, as in `A:|` and `z::`
abbrev pub is_field : List ℕ → Bool
is_field [] = false
is_field (letter ∷ []) = false
is_field (letter ∷ colon ∷ rest) =
    is_letter letter && colon == code ":" && not (is_music_letter letter && begins_bar rest)

-- two percent signs come first
abbrev pub is_percent_line : List ℕ → Bool
is_percent_line [] = false
is_percent_line (first ∷ []) = false
is_percent_line (first ∷ second ∷ rest) = first == code "%" && second == code "%"

-- the field `I:` means what `%%` means
abbrev pub field_kind : ℕ → LineKind
field_kind letter = if letter == code "I" then Directive else Field letter

abbrev pub first_byte : List ℕ → ℕ
first_byte [] = 0
first_byte (byte ∷ rest) = byte

abbrev pub kind_of : List ℕ → LineKind
kind_of text =
    if is_percent_line text then Directive else (if is_field text then field_kind (first_byte text) else Music)

-- the text of a field or a directive: the rest after its first two bytes and the blanks there
abbrev pub field_text : List ℕ → List ℕ
field_text text = after_blanks (drop 2 text)

-- Decorations: the letters and names of each, and what they mean. Dynamic marks go below the staff and fingerings above
-- it; an unknown name draws nothing.
use Prim.Native.Char.{code}
use Rattle.std.specs.Prelude.{ℕ, List, [], ◌∷◌, Bool, false, ◌==◌, ◌||◌, not, if◌then◌else◌, nat_eq, codes, find}
use Rattle.std.specs.Prelude.{Option, Some, None, unwrap_or}
use lib.Pointwise.{pointwise}
use Rattle.mus_units.specs.declared.note.Deco.{Deco}
use Rattle.mus_units.specs.declared.note.Deco.TheVariants.{Ks, Kr, Kf, Ka, Km, Kc, Kp, Kg, Kt, Ku, Kd, Kn, Below, Above}
use Rattle.mus_units.specs.declared.note.Deco.TheVariants.{Quiet}
use Rattle.abc_notes.specs.Runs.{one_of}

-- what names a decoration: a letter or none; its plain name, which is the one that is written; and its other names
pub record DecoRow : Type 0 where
  pub letter : Option ℕ
  pub name : List ℕ
  pub others : List (List ℕ)

abbrev pub row : Option ℕ → List ℕ → List (List ℕ) → DecoRow
row letter name others = record { letter = letter; name = name; others = others }

abbrev pub deco_row : Deco → DecoRow
deco_row Ks = row (Some (code ".")) (codes "staccato") []
deco_row Kr = row (Some (code "~")) (codes "roll") []
deco_row Kf = row (Some (code "H")) (codes "fermata") []
deco_row Ka = row (Some (code "L")) (codes "accent") (codes "emphasis" ∷ codes ">" ∷ [])
deco_row Km = row (Some (code "M")) (codes "lowermordent") (codes "mordent" ∷ [])
deco_row Kc = row (Some (code "O")) (codes "coda") []
deco_row Kp = row (Some (code "P")) (codes "uppermordent") (codes "pralltriller" ∷ [])
deco_row Kg = row (Some (code "S")) (codes "segno") []
deco_row Kt = row (Some (code "T")) (codes "trill") []
deco_row Ku = row (Some (code "u")) (codes "upbow") []
deco_row Kd = row (Some (code "v")) (codes "downbow") []
deco_row Kn = row None (codes "tenuto") []
deco_row (Below text) = row None text []
deco_row (Above text) = row None text []
deco_row (Quiet text) = row None text []

-- the decorations that have a glyph
unfoldable pub drawn_decos : List Deco
drawn_decos = Ks ∷ Kr ∷ Kf ∷ Ka ∷ Km ∷ Kc ∷ Kp ∷ Kg ∷ Kt ∷ Ku ∷ Kd ∷ Kn ∷ []

abbrev pub deco_name : Deco → List ℕ
deco_name deco = (deco_row deco).name

-- ~ H L M O P S T u v; the dot is one too
abbrev pub is_deco_letter : ℕ → Bool
is_deco_letter byte = one_of (codes "~HLMOPSTuv") byte

abbrev pub is_letter : ℕ → Option ℕ → Bool
is_letter byte None = false
is_letter byte (Some letter) = byte == letter

abbrev pub has_letter : ℕ → Deco → Bool
has_letter byte deco = is_letter byte (deco_row deco).letter

-- a byte that is no letter of the table has the first decoration; none such is looked up
unfoldable pub deco_of_letter : ℕ → Deco
deco_of_letter byte = unwrap_or (find (has_letter byte) drawn_decos) Ks

-- a name contains no blank, no bar sign and no exclamation mark
abbrev pub is_name_byte : ℕ → Bool
is_name_byte byte = not (one_of (codes "! \t|") byte)

abbrev pub is_named : List ℕ → List ℕ → Bool
is_named name word = pointwise nat_eq name word

abbrev pub is_one_of : List (List ℕ) → List ℕ → Bool
is_one_of [] name = false
is_one_of (word ∷ words) name = is_named name word || is_one_of words name

unfoldable pub is_dynamic : List ℕ → Bool
is_dynamic name =
    is_one_of
    (codes "ppp" ∷ codes "pp" ∷ codes "p" ∷ codes "mp" ∷ codes "mf" ∷ codes "f" ∷ codes "ff" ∷ codes "fff" ∷ codes "sfz"
    ∷ [])
    name

unfoldable pub is_finger : List ℕ → Bool
is_finger name = is_one_of (codes "1" ∷ codes "2" ∷ codes "3" ∷ codes "4" ∷ codes "5" ∷ []) name

unfoldable pub deco_of_text : List ℕ → Deco
deco_of_text name = if is_dynamic name then Below name else (if is_finger name then Above name else Quiet name)

abbrev pub has_name : List ℕ → Deco → Bool
has_name name deco = is_named name (deco_row deco).name || is_one_of (deco_row deco).others name

unfoldable pub deco_of_name : List ℕ → Deco
deco_of_name name = unwrap_or (find (has_name name) drawn_decos) (deco_of_text name)

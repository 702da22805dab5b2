-- How keys are written: words, each a form with its spelling, when it is good, and what it means.
use Prim.Native.Char.{code}
use Rattle.std.specs.Prelude.{◌≡◌, ℕ, ◌+◌, pos, List, [], ◌∷◌, ◌++◌, Bool, true, false, IsTrue, ⊤, ◌==◌, map, codes}
use Rattle.std.specs.Prelude.{Some}
use Rattle.std.specs.Char.{to_ascii_lowercase}
use Rattle.std.specs.List.{list_any}
use Rattle.mus_units.specs.declared.pitch.Alter.{Alter}
use Rattle.mus_units.specs.declared.pitch.Letter.{Letter}
use Rattle.mus_pitch.specs.declared.circle.Mode.{Mode}
use Rattle.abc_field.specs.declared.key.KeyText.{KeyText}
use Rattle.abc_field.specs.declared.key.KeyWord.{KeyWord}
use Rattle.abc_field.specs.declared.key.KeyStart.{KeyStart}
use Rattle.abc_field.specs.Keys.{key_start, start_with, key_by}
use Rattle.abc_field.specs.VoiceSpelling.{ClefForm, clef_spelled, clef_meant}
use Rattle.abc_field.specs.WordSpelling.{HasWords}

-- A to G; a small letter is 32 further
abbrev pub tonic_byte : Letter → ℕ
tonic_byte Letter.C = code "C"
tonic_byte Letter.D = code "D"
tonic_byte Letter.E = code "E"
tonic_byte Letter.F = code "F"
tonic_byte Letter.G = code "G"
tonic_byte Letter.A = code "A"
tonic_byte Letter.B = code "B"

abbrev pub letter_spelled : Letter → Bool → ℕ
letter_spelled letter false = tonic_byte letter
letter_spelled letter true = tonic_byte letter + 32

abbrev pub alter_spelled : Alter → List ℕ
alter_spelled Alter.Sharp2 = codes "^^"
alter_spelled Alter.Sharp = codes "^"
alter_spelled Alter.Flat2 = codes "__"
alter_spelled Alter.Flat = codes "_"
alter_spelled Alter.Natural = codes "="

-- A word after the beginning: `exp`; an accidental and a letter of either case; a clef after `clef=` or by its name
-- alone; or another word with an equals sign in it, which is ignored.
pub data KeyWordForm : Type 0 where
  exp_word : KeyWordForm
  sign_word : (alter : Alter) (letter : Letter) (lower : Bool) → KeyWordForm
  clef_word : (clef : ClefForm) → KeyWordForm
  name_word : (clef : ClefForm) → KeyWordForm
  passed_word : (word : List ℕ) → KeyWordForm

abbrev pub word_spelled : KeyWordForm → List ℕ
word_spelled exp_word = codes "exp"
word_spelled (sign_word alter letter lower) = alter_spelled alter ++ letter_spelled letter lower ∷ []
word_spelled (clef_word clef) = codes "clef=" ++ clef_spelled clef
word_spelled (name_word clef) = clef_spelled clef
word_spelled (passed_word word) = word

-- An ignored word has an equals sign, is not an accidental and a letter, and does not begin with `clef=`.
pub record IsPassed (word : List ℕ) : Type 0 where
  pub equals : IsTrue (list_any (λ b. b == code "=") word)
  pub no_sign : (alter : Alter) (letter : Letter) (lower : Bool)
      → word ≡ alter_spelled alter ++ letter_spelled letter lower ∷ [] → ⊥
  pub no_clef : (name : List ℕ) → word ≡ codes "clef=" ++ name → ⊥

abbrev pub IsGoodWord : KeyWordForm → Type 0
IsGoodWord (passed_word word) = IsPassed word
IsGoodWord _ = ⊤

abbrev pub AreGoodWords : List KeyWordForm → Type 0
AreGoodWords [] = ⊤
AreGoodWords (form ∷ forms) = IsGoodWord form × AreGoodWords forms

abbrev pub word_meant : KeyWordForm → KeyWord
word_meant exp_word = KeyWord.Empties
word_meant (sign_word alter letter lower) = KeyWord.Adds (record { letter = letter; alter = alter })
word_meant (clef_word clef) = KeyWord.Names (clef_meant clef)
word_meant (name_word clef) = KeyWord.Names (clef_meant clef)
word_meant (passed_word word) = KeyWord.Passed

-- A mode is `m`, or a word whose first three letters are a mode's in any case.
pub data ModeName : Type 0 where
  maj_name : ModeName
  ion_name : ModeName
  mix_name : ModeName
  lyd_name : ModeName
  min_name : ModeName
  aeo_name : ModeName
  dor_name : ModeName
  phr_name : ModeName
  loc_name : ModeName

abbrev pub three_letters : ModeName → List ℕ
three_letters maj_name = codes "maj"
three_letters ion_name = codes "ion"
three_letters mix_name = codes "mix"
three_letters lyd_name = codes "lyd"
three_letters min_name = codes "min"
three_letters aeo_name = codes "aeo"
three_letters dor_name = codes "dor"
three_letters phr_name = codes "phr"
three_letters loc_name = codes "loc"

abbrev pub mode_of_name : ModeName → Mode
mode_of_name maj_name = Mode.Maj
mode_of_name ion_name = Mode.Maj
mode_of_name mix_name = Mode.Mix
mode_of_name lyd_name = Mode.Lyd
mode_of_name min_name = Mode.Min
mode_of_name aeo_name = Mode.Min
mode_of_name dor_name = Mode.Dor
mode_of_name phr_name = Mode.Phr
mode_of_name loc_name = Mode.Loc

pub data ModeForm : Type 0 where
  minor_form : ModeForm
  named_form : (name : ModeName) (a b c : ℕ) (more : List ℕ) → ModeForm

abbrev pub mode_spelled : ModeForm → List ℕ
mode_spelled minor_form = codes "m"
mode_spelled (named_form name a b c more) = a ∷ b ∷ c ∷ more

abbrev pub IsGoodMode : ModeForm → Type 0
IsGoodMode minor_form = ⊤
IsGoodMode (named_form name a b c more) =
    to_ascii_lowercase a ∷ to_ascii_lowercase b ∷ to_ascii_lowercase c ∷ [] ≡ three_letters name

abbrev pub mode_meant : ModeForm → Mode
mode_meant minor_form = Mode.Min
mode_meant (named_form name a b c more) = mode_of_name name

-- A tonic is a letter, and a sharp, a flat or neither.
pub data Accident : Type 0 where
  plain_tonic : Accident
  sharp_tonic : Accident
  flat_tonic : Accident

abbrev pub accident_spelled : Accident → List ℕ → List ℕ
accident_spelled plain_tonic more = more
accident_spelled sharp_tonic more = code "#" ∷ more
accident_spelled flat_tonic more = code "b" ∷ more

abbrev pub accident_meant : Accident → Alter
accident_meant plain_tonic = Alter.Natural
accident_meant sharp_tonic = Alter.Sharp
accident_meant flat_tonic = Alter.Flat

-- a tonic, and what is written directly after it
abbrev pub tonic_spelled : Letter → Accident → List ℕ → List ℕ
tonic_spelled letter accident more = tonic_byte letter ∷ accident_spelled accident more

-- How a key begins: with nothing at all; with `none`, `HP` or `Hp`; with a tonic that has no mode, a mode written
-- directly after it, or a mode as the next word; or with another word, which keeps the key in force.
pub data KeyHead : Type 0 where
  empty_head : KeyHead
  none_head : KeyHead
  bagpipe_head : KeyHead
  signed_bagpipe_head : KeyHead
  tonic_head : (letter : Letter) (accident : Accident) → KeyHead
  written_head : (letter : Letter) (accident : Accident) (mode : ModeForm) → KeyHead
  parted_head : (letter : Letter) (accident : Accident) (mode : ModeForm) → KeyHead
  kept_head : KeyHead

-- the words of the beginning, and the words after them
abbrev pub head_spelled : KeyHead → List (List ℕ) → List (List ℕ)
head_spelled empty_head more = more
head_spelled none_head more = codes "none" ∷ more
head_spelled bagpipe_head more = codes "HP" ∷ more
head_spelled signed_bagpipe_head more = codes "Hp" ∷ more
head_spelled (tonic_head letter accident) more = tonic_spelled letter accident [] ∷ more
head_spelled (written_head letter accident mode) more = tonic_spelled letter accident (mode_spelled mode) ∷ more
head_spelled (parted_head letter accident mode) more = tonic_spelled letter accident [] ∷ mode_spelled mode ∷ more
head_spelled kept_head more = more

-- the first of these words, if there is one, names no mode
abbrev pub NoMode : List (List ℕ) → Type 0
NoMode [] = ⊤
NoMode (word ∷ more) = (mode : ModeForm) → IsGoodMode mode → word ≡ mode_spelled mode → ⊥

-- a word that begins no key of its own
pub record BeginsNoKey (word : List ℕ) : Type 0 where
  pub no_none : word ≡ codes "none" → ⊥
  pub no_bagpipe : word ≡ codes "HP" → ⊥
  pub no_signed_bagpipe : word ≡ codes "Hp" → ⊥
  pub no_tonic : (letter : Letter) (accident : Accident) → word ≡ tonic_spelled letter accident [] → ⊥
  pub no_written : (letter : Letter) (accident : Accident) (mode : ModeForm)
      → IsGoodMode mode → word ≡ tonic_spelled letter accident (mode_spelled mode) → ⊥

abbrev pub BeginOther : List (List ℕ) → Type 0
BeginOther [] = ⊥
BeginOther (word ∷ more) = BeginsNoKey word

-- when a beginning is good before such words
abbrev pub IsGoodHead : KeyHead → List (List ℕ) → Type 0
IsGoodHead empty_head more = more ≡ []
IsGoodHead none_head more = ⊤
IsGoodHead bagpipe_head more = ⊤
IsGoodHead signed_bagpipe_head more = ⊤
IsGoodHead (tonic_head letter accident) more = NoMode more
IsGoodHead (written_head letter accident mode) more = IsGoodMode mode
IsGoodHead (parted_head letter accident mode) more = IsGoodMode mode
IsGoodHead kept_head more = BeginOther more

-- what the key begins with, before its other words count
abbrev pub head_meant : KeyHead → KeyStart
head_meant empty_head = KeyStart.Sharps (pos 0)
head_meant none_head = KeyStart.Sharps (pos 0)
head_meant bagpipe_head = KeyStart.Sharps (pos 0)
head_meant signed_bagpipe_head = KeyStart.Pipes
head_meant (tonic_head letter accident) = key_start letter (accident_meant accident) Mode.Maj
head_meant (written_head letter accident mode) = key_start letter (accident_meant accident) (mode_meant mode)
head_meant (parted_head letter accident mode) = key_start letter (accident_meant accident) (mode_meant mode)
head_meant kept_head = KeyStart.Kept

-- The words of the text are a good beginning and good other words, and the key is what the other words make of that
-- beginning. There is none if the signature has more than seven accidentals and no `exp` empties it.
pub record SaysKey (text : List ℕ) (key : KeyText) : Type 0 where
  pub head : KeyHead
  pub forms : List KeyWordForm
  pub good_head : IsGoodHead head (map word_spelled forms)
  pub good : AreGoodWords forms
  pub spelled : HasWords text (head_spelled head (map word_spelled forms))
  pub meant : key_by (start_with (head_meant head) (map word_meant forms)) (map word_meant forms) ≡ Some key

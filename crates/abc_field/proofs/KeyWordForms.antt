-- A word of a key reads as an accidental, a clef or another word exactly when a good form of it spells the word.
use Rattle.std.proofs.Common.{◌≡◌, refl, ap, ◌∙◌, ℕ, ◌-◌, ◌≤◌, List, [], ◌∷◌, ◌++◌, Bool, true, false, map, arith, ◌==◌}
use Rattle.std.proofs.Common.{Option, Some, IfSome, codes}
use Rattle.std.proofs.lemmas.Bool.{cond_both, false_from_ne_true}
use Rattle.std.proofs.lemmas.Option.{IfSome_then}
use Rattle.std.proofs.lemmas.Slice.Eq.{bytes_eq-Decides}
use Rattle.std.specs.List.{list_any}
use Rattle.std.specs.{Option.option_map, Str.bytes_eq}
use Rattle.mus_units.specs.declared.pitch.{Alter.Alter, Clef.Clef, Letter.Letter}
use Rattle.abc_field.specs.KeySpelling.{tonic_byte, letter_spelled, alter_spelled, KeyWordForm, exp_word, sign_word}
use Rattle.abc_field.specs.KeySpelling.{clef_word, name_word}
use Rattle.abc_field.specs.KeySpelling.{passed_word, word_spelled, IsPassed, IsGoodWord, AreGoodWords, word_meant}
use Rattle.abc_field.specs.declared.key.KeyWord.{KeyWord}
use Rattle.abc_field.specs.Keys.{natural_letter, letter_of, letter_alone, signed_letter, sign_of, clef_of, by_name}
use Rattle.abc_field.specs.Keys.{by_clef, by_sign, key_word, key_words}
use Rattle.abc_field.specs.VoiceSpelling.{ClefForm, plain_clef, above_clef, below_clef, clef_spelled}
use Rattle.abc_field.specs.Words.{after_prefix}
use Rattle.abc_field.proofs.MeterForms.{following-takes, following-leading}
use Rattle.abc_field.proofs.VoiceForms.{clef-read, clef-takes, no_clef_read, no_prefix, clef_after}
use Rattle.abc_field.proofs.ReadLaws.{Where, where_read, where_then, where_or, where_map, option_case, byte_case}
use Rattle.abc_field.proofs.ReadLaws.{word_case, HasForm, formed, unread}
use Rattle.abc_field.proofs.ReadLaws.{none_read, HaveForms, more_forms}

-- Letters.
abbrev pub Spells : ℕ → Option Letter → Type 0
Spells b o = IfSome o (λ letter. b ≡ tonic_byte letter)

pub natural-takes : (b : ℕ) → Spells b (natural_letter b)
natural-takes b =
    byte_case (Spells b) b 67 _ _ (λ is. is)
    (λ _. byte_case (Spells b) b 68 _ _ (λ is. is)
    (λ _. byte_case (Spells b) b 69 _ _ (λ is. is)
    (λ _. byte_case (Spells b) b 70 _ _ (λ is. is)
    (λ _. byte_case (Spells b) b 71 _ _ (λ is. is)
    (λ _. byte_case (Spells b) b 65 _ _ (λ is. is)
    (λ _. byte_case (Spells b) b 66 _ _ (λ is. is) (λ _. tt)))))))

byte-past : (letter : Letter) → 65 ≤ tonic_byte letter
byte-past Letter.C = omega arith
byte-past _ = omega arith

record IsLetter (b : ℕ) : Type 0 where
  letter : Letter
  lower : Bool
  is : b ≡ letter_spelled letter lower

letter-takes : (b : ℕ) → Where (IsLetter b) (letter_of b)
letter-takes b =
    where_or (IsLetter b) (natural_letter b) (natural_letter (b - 32))
    (IfSome_then (natural_letter b) (natural-takes b) (λ letter is. record { letter = letter; lower = false; is = is }))
    (IfSome_then (natural_letter (b - 32)) (natural-takes (b - 32))
    (λ letter is. record { letter = letter; lower = true; is = omega (arith, is, byte-past letter) }))

-- Accidentals.
record IsSign (w : List ℕ) : Type 0 where
  alter : Alter
  letter : Letter
  lower : Bool
  spelled : w ≡ alter_spelled alter ++ letter_spelled letter lower ∷ []

signed-takes : (w : List ℕ) (alter : Alter)
    → Where (IsSign w) (signed_letter alter (after_prefix (alter_spelled alter) w))
signed-takes w alter =
    option_case (λ o. Where (IsSign w) (signed_letter alter o)) (after_prefix (alter_spelled alter) w)
    (λ s e. where_map _ (letter_alone s) (alone s (following-takes (alter_spelled alter) w s e)) (λ sign. sign))
    (λ none. tt)
  where
    alone : (s : List ℕ) → w ≡ alter_spelled alter ++ s → Where (IsSign w) (letter_alone s)
    alone (b ∷ []) is =
        where_then (letter_of b) (letter-takes b)
        (λ l. record {
          alter = alter;
          letter = l.letter;
          lower = l.lower;
          spelled = is ∙ ap (λ c. alter_spelled alter ++ c ∷ []) l.is;
        })
    alone _ is = tt

sign-takes : (w : List ℕ) → Where (IsSign w) (sign_of w)
unfolding sign_of
sign-takes w =
    where_or (IsSign w) _ _ (signed-takes w Alter.Sharp2)
    (where_or (IsSign w) _ _ (signed-takes w Alter.Sharp)
    (where_or (IsSign w) _ _ (signed-takes w Alter.Flat2)
    (where_or (IsSign w) _ _ (signed-takes w Alter.Flat) (signed-takes w Alter.Natural))))

sign-read : (alter : Alter) (letter : Letter) (lower : Bool)
    → sign_of (alter_spelled alter ++ letter_spelled letter lower ∷ [])
    ≡ Some (record { letter = letter; alter = alter })
unfolding sign_of after_prefix
sign-read Alter.Sharp2 Letter.C true = refl
sign-read _ Letter.C true = refl
sign-read _ _ true = refl
sign-read _ _ _ = refl

-- Words after the beginning.
sign-no-exp : (alter : Alter) (s : List ℕ) → bytes_eq (alter_spelled alter ++ s) (codes "exp") ≡ false
sign-no-exp Alter.Sharp2 s = refl
sign-no-exp _ s = refl

abbrev has_equals : List ℕ → Bool
has_equals w = list_any (λ b. b == 61) w

clef-no-equals : (form : ClefForm) → has_equals (clef_spelled form) ≡ false
clef-no-equals (plain_clef Clef.Treble) = refl
clef-no-equals (above_clef Clef.Treble) = refl
clef-no-equals (below_clef Clef.Treble) = refl
clef-no-equals _ = refl

no_equals : (w v : List ℕ) → has_equals w ≡ true → has_equals v ≡ false → w ≡ v → ⊥
no_equals w v has none is = let same : has_equals w ≡ has_equals v = ap has_equals is in cc

word-passed : (w : List ℕ) → IsPassed w → key_word w ≡ Some KeyWord.Passed
unfolding key_word
word-passed w good =
    let equals : has_equals w ≡ true = good.equals in
    let no_exp =
    false_from_ne_true _ (λ e. no_equals w (codes "exp") equals refl ((bytes_eq-Decides w (codes "exp")).0 e)) in
    let no_sign =
    none_read (sign_of w) (sign-takes w) (λ sign. good.no_sign sign.alter sign.letter sign.lower sign.spelled) in
    let no_name = no_clef_read w (λ form. no_equals w (clef_spelled form) equals (clef-no-equals form)) in
    rw (no_exp, no_sign, no_prefix (codes "clef=") w good.no_clef, no_name, equals) refl

word-read : (form : KeyWordForm) → IsGoodWord form → key_word (word_spelled form) ≡ Some (word_meant form)
unfolding key_word sign_of after_prefix clef_of
word-read (sign_word alter letter lower) good =
    rw (sign-no-exp alter (letter_spelled letter lower ∷ []), sign-read alter letter lower) refl
word-read (clef_word clef) good = ap (λ o. option_map (λ c. KeyWord.Names c) o) (clef-read clef)
word-read (passed_word word) good = word-passed word good
word-read (name_word (plain_clef Clef.Treble)) good = refl
word-read (name_word (above_clef Clef.Treble)) good = refl
word-read (name_word (below_clef Clef.Treble)) good = refl
word-read _ good = refl

abbrev IsWord : List ℕ → Type 0
IsWord w = HasForm word_spelled IsGoodWord w

word-takes : (w : List ℕ) → Where (IsWord w) (key_word w)
unfolding key_word
word-takes w =
    word_case (Where (IsWord w)) w (codes "exp") _ _ (formed exp_word tt)
    (λ _. option_case (λ o. Where (IsWord w) (by_sign w o)) (sign_of w)
    (λ sign e.
    let found = where_read e (sign-takes w) in formed (sign_word found.alter found.letter found.lower) tt found.spelled)
    (λ no_sign. option_case (λ o. Where (IsWord w) (by_clef w o)) (after_prefix (codes "clef=") w)
    (λ name e. where_map _ (clef_of name) (clef_after w name e) (λ clef. formed (clef_word clef.form) tt clef.spelled))
    (λ no_clef. option_case (λ o. Where (IsWord w) (by_name w o)) (clef_of w)
    (λ clef e. let found = where_read e (clef-takes w) in formed (name_word found.form) tt found.spelled)
    (λ no_name. cond_both (has_equals w) _ _ (Where (IsWord w))
    (λ equals. formed (passed_word w) (record {
      equals = equals;
      no_sign = λ alter letter lower. unread sign_of no_sign (sign-read alter letter lower);
      no_clef = λ name. unread (after_prefix (codes "clef=")) no_clef (following-leading (codes "clef=") name);
    }) refl)
    (λ other. tt)))))

pub words-take : (ws : List (List ℕ)) → Where (HaveForms word_spelled AreGoodWords ws) (key_words ws)
words-take [] = record { forms = []; good = tt; spelled = refl }
words-take (w ∷ ws) =
    more_forms word_spelled IsGoodWord AreGoodWords w ws (key_word w) (key_words ws) (λ _ _ one more. (one, more))
    (word-takes w) (words-take ws)

pub words-read : (forms : List KeyWordForm)
    → AreGoodWords forms → key_words (map word_spelled forms) ≡ Some (map word_meant forms)
words-read [] good = refl
words-read (form ∷ forms) good = rw (word-read form good.0, words-read forms good.1) refl

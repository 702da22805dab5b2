-- One walk over the syllables and texts of an event: what holds of the printed form of a syllable of each verse, of a
-- text above and of one below, holds of all of them. What prints nothing is not drawn.
use Rattle.std.proofs.Common.{◌≡◌, ℕ, suc, ℤ, ◌+◌, ◌≤◌, ◌<◌, Bool, true, false, ◌==◌, if◌then◌else◌, List, [], ◌∷◌}
use Rattle.std.proofs.Common.{◌++◌, length, Option, Some, None, refl, subst, arith}
use Rattle.std.proofs.lemmas.Bool.Decides.{nat_tests}
use Rattle.std.proofs.Math.Bool.{beq}
use Rattle.std.specs.List.{AllByRecursion, flat_map}
use Rattle.std.specs.Prelude.{decimal}
use Rattle.mus_units.specs.declared.note.Deco.{Deco}
use Rattle.mus_score.specs.declared.score.Flat.{Flat}
use Rattle.mus_score.specs.declared.score.Mention.{Mention}
use Rattle.mus_stems.proofs.RunLaws.{all_append}
use Rattle.mus_laid.specs.declared.drawn.LaneInk.{LaneInk}
use Rattle.mus_laid.specs.Printed.{printed}
use Rattle.mus_laid.specs.declared.laid.Lane.{Lane}
use Rattle.mus_ink.specs.Distances.{half_character}
use Rattle.mus_ink.specs.Drawing.{back}
use Rattle.mus_words.specs.declared.texts.TextPlace.{TextPlace}
use Rattle.mus_words.specs.Syllables.{syllable_dx, syllable_if, syllables_from, verse_dy}
use Rattle.mus_words.specs.Texts.{above_from, below_from, shown_deco, shown_ending, shown_mention, shown_number}
use Rattle.mus_words.specs.Texts.{text_marks, texts_above, texts_below}
use Rattle.mus_words.specs.Words.{shown_text, words}
use Rattle.mus_laid.specs.declared.laid.Lane.TheVariants as lanes

-- the printed form of a text, unless it is empty
pub record IsShown (t : List ℕ) : Type 0 where
  pub text : List ℕ
  pub is : t ≡ printed text
  pub some : 1 ≤ length t

-- what each kind of text needs
pub record OfWords (IsVerse : ℕ → Type 0) (P : LaneInk → Type 0) : Type 0 where
  pub of_syllable : (low : ℤ) (n : ℕ) (t : List ℕ)
      → IsVerse n → IsShown t → P (words (Lane.Verse n) (syllable_dx (length t)) (verse_dy low n) t)
  pub of_above : (dy : ℤ) (t : List ℕ) → IsShown t → P (words Lane.Above (back half_character) dy t)
  pub of_below : (dy : ℤ) (t : List ℕ) → IsShown t → P (words lanes.Below (back half_character) dy t)

is_shown : (t : List ℕ) → (length (printed t) == 0) ≡ false → IsShown (printed t)
is_shown t e = record { text = t; is = refl; some = grind (arith, nat_tests, e) }

-- texts that are shown
any_shown : (b : Bool) (t : List ℕ)
    → (length (printed t) == 0) ≡ b → AllByRecursion IsShown (if b then [] else printed t ∷ [])
any_shown true t e = tt
any_shown false t e = (is_shown t e, tt)

text_shown : (t : List ℕ) → AllByRecursion IsShown (shown_text t)
text_shown t = any_shown (length (printed t) == 0) t refl

ending_shown : (t : Option (List ℕ)) → AllByRecursion IsShown (shown_ending t)
ending_shown None = tt
ending_shown (Some t) = text_shown t

deco_shown : (below : Bool) (d : Deco) → AllByRecursion IsShown (shown_deco below d)
deco_shown false (Deco.Above t) = text_shown t
deco_shown true (Deco.Below t) = text_shown t
deco_shown _ _ = tt

if_shown : (b : Bool) (t : List ℕ) → AllByRecursion IsShown (if b then shown_text t else [])
if_shown true t = text_shown t
if_shown false t = tt

mention_shown : (below : Bool) (m : Mention) → AllByRecursion IsShown (shown_mention below m)
mention_shown below m = if_shown (beq m.below below) m.text

each_shown : {A : Type 0} (f : A → List (List ℕ))
    → ((x : A) → AllByRecursion IsShown (f x)) → (xs : List A) → AllByRecursion IsShown (flat_map f xs)
each_shown f p [] = tt
each_shown f p (x ∷ xs) = all_append IsShown (f x) (flat_map f xs) (p x) (each_shown f p xs)

above_shown : (f : Flat) → AllByRecursion IsShown (texts_above f)
unfolding texts_above
above_shown f =
    let e = f.event in
    all_append IsShown (shown_ending e.ending ++ flat_map shown_number f.tuplets ++ flat_map (shown_deco false) e.decos)
    _
    (all_append IsShown (shown_ending e.ending ++ flat_map shown_number f.tuplets) _
    (all_append IsShown (shown_ending e.ending) _ (ending_shown e.ending)
    (each_shown shown_number (λ n. text_shown (decimal n)) f.tuplets))
    (each_shown (shown_deco false) (deco_shown false) e.decos))
    (each_shown (shown_mention false) (mention_shown false) e.mentions)

below_shown : (f : Flat) → AllByRecursion IsShown (texts_below f)
unfolding texts_below
below_shown f =
    let e = f.event in
    all_append IsShown (flat_map (shown_deco true) e.decos) _ (each_shown (shown_deco true) (deco_shown true) e.decos)
    (each_shown (shown_mention true) (mention_shown true) e.mentions)

module _ (IsVerse : ℕ → Type 0) (P : LaneInk → Type 0) (w : OfWords IsVerse P) where
  syllable_any : (low : ℤ) (n : ℕ) (b : Bool) (t : List ℕ) → (length (printed t) == 0) ≡ b → IsVerse n
      → AllByRecursion P
      (if b then [] else words (Lane.Verse n) (syllable_dx (length (printed t))) (verse_dy low n) (printed t) ∷ [])
  syllable_any low n true t e verse = tt
  syllable_any low n false t e verse = (w.of_syllable low n (printed t) verse (is_shown t e), tt)

  syllable_all : (low : ℤ) (n : ℕ) (t : Option (List ℕ)) → IsVerse n → AllByRecursion P (syllable_if low n t)
  syllable_all low n None verse = tt
  syllable_all low n (Some t) verse = syllable_any low n (length (printed t) == 0) t refl verse

  pub syllables_all : (low : ℤ) (n : ℕ) (ts : List (Option (List ℕ)))
      → ((i : ℕ) → i < length ts → IsVerse (n + i)) → AllByRecursion P (syllables_from low n ts)
  syllables_all low n [] verses = tt
  syllables_all low n (t ∷ ts) verses =
      all_append P (syllable_if low n t) (syllables_from low (n + 1) ts)
      (syllable_all low n t (subst IsVerse (omega arith) (verses 0 (omega arith))))
      (syllables_all low (n + 1) ts (λ i inside. subst IsVerse (omega arith) (verses (suc i) (omega (arith, inside)))))

  above_all : (high : ℤ) (k : ℕ) (ts : List (List ℕ))
      → AllByRecursion IsShown ts → AllByRecursion P (above_from high k ts)
  above_all high k [] shown_text = tt
  above_all high k (t ∷ ts) shown_text = (w.of_above _ t shown_text.0, above_all high (k + 1) ts shown_text.1)

  below_all : (low : ℤ) (verses k : ℕ) (ts : List (List ℕ))
      → AllByRecursion IsShown ts → AllByRecursion P (below_from low verses k ts)
  below_all low verses k [] shown_text = tt
  below_all low verses k (t ∷ ts) shown_text =
      (w.of_below _ t shown_text.0, below_all low verses (k + 1) ts shown_text.1)

  pub texts_all : (place : TextPlace) (f : Flat) → AllByRecursion P (text_marks place f)
  unfolding text_marks
  texts_all place f =
      all_append P (above_from place.high place.above (texts_above f)) _
      (above_all place.high place.above (texts_above f) (above_shown f))
      (below_all place.low place.verses place.below (texts_below f) (below_shown f))

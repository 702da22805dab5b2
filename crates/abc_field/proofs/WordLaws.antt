-- The words of a text are its first word and the words of the rest.
use Rattle.std.proofs.Common.{◌≡◌, refl, ap, sym, ◌∙◌, ℕ, List, [], ◌∷◌, Bool, true, false, not, take, drop}
use Rattle.std.{proofs.lemmas.Bool.and_parts, specs.{Prelude.{⊤, Option, filter}}}
use Rattle.abc_lines.specs.Kinds.{is_blank, after_blanks}
use Rattle.abc_field.specs.Words.{is_empty, quoted_after, parts_words, pieces, words_in, word_len, word_and_rest}
use Rattle.abc_field.specs.Words.{next_word, words_after}
use Rattle.abc_field.specs.WordSpelling.{EndsWord}
use Rattle.abc_field.proofs.{BlankLaws.{following-cons, leading-stops}, ReadLaws.by_test}

blank_passed : (quotes : Bool) (b : ℕ) (s : List ℕ) → is_blank b ≡ true → words_in quotes (b ∷ s) ≡ words_in quotes s
unfolding words_in
blank_passed quotes b s e = rw e refl

words-following : (quotes : Bool) (s : List ℕ) → words_in quotes s ≡ words_in quotes (after_blanks s)
words-following quotes [] = refl
words-following quotes (b ∷ s) =
    by_test (is_blank b)
    (λ e. blank_passed quotes b s e ∙ words-following quotes s ∙ ap (words_in quotes) (sym (following-cons b s e)))
    (λ e. rw e refl)

abbrev pub BeginsWord : List ℕ → Type 0
BeginsWord [] = ⊤
BeginsWord (b ∷ s) = is_blank b ≡ false

pub following-begins : (s : List ℕ) → BeginsWord (after_blanks s)
following-begins s = leading-stops is_blank s

abbrev pieces_after : Bool → List ℕ → List (List ℕ)
pieces_after quotes [] = []
pieces_after quotes (b ∷ s) = pieces quotes false s

-- the first piece ends where a blank separates it from the next
pieces-cut : (quotes quoted : Bool) (s : List ℕ)
    → pieces quotes quoted s
    ≡ take (word_len quotes quoted s) s ∷ pieces_after quotes (drop (word_len quotes quoted s) s)
pieces-cut quotes quoted [] = refl
pieces-cut quotes quoted (b ∷ s) =
    by_test (parts_words quoted b) (λ e. rw e refl)
    (λ e. let same = pieces-cut quotes (quoted_after quotes quoted b) s in rw (e, same) refl)

pub word-stops : (quotes quoted : Bool) (s : List ℕ) → EndsWord (drop (word_len quotes quoted s) s)
word-stops quotes quoted [] = tt
word-stops quotes quoted (b ∷ s) =
    by_test (parts_words quoted b) (λ e. rw e (and_parts (is_blank b) (not quoted) e).0)
    (λ e. let stops = word-stops quotes (quoted_after quotes quoted b) s in rw e stops)

abbrev some : List ℕ → Bool
some w = not (is_empty w)

pub word-some : (quotes : Bool) (b : ℕ) (s : List ℕ)
    → is_blank b ≡ false → not (is_empty (take (word_len quotes false (b ∷ s)) (b ∷ s))) ≡ true
word-some quotes b s e = rw e refl

words-parted : (quotes : Bool) (s : List ℕ) → EndsWord s → filter some (pieces_after quotes s) ≡ words_in quotes s
unfolding words_in
words-parted quotes [] parts = refl
words-parted quotes (b ∷ s) parts = rw parts refl

words-at : (quotes : Bool) (s : List ℕ) → BeginsWord s → words_in quotes s ≡ words_after quotes (word_and_rest quotes s)
unfolding words_in
words-at quotes [] begins = refl
words-at quotes (b ∷ s) begins =
    let first = word-some quotes b s begins in
    let others = words-parted quotes (drop (word_len quotes false (b ∷ s)) (b ∷ s)) (word-stops quotes false (b ∷ s)) in
    ap (filter some) (pieces-cut quotes false (b ∷ s)) ∙ rw (first, others) refl

-- the words of a text are its first word and the words of the rest
pub words-next : (quotes : Bool) (s : List ℕ) → words_in quotes s ≡ words_after quotes (next_word quotes s)
unfolding next_word
words-next quotes s = words-following quotes s ∙ words-at quotes (after_blanks s) (following-begins s)

pub words_next_is : (quotes : Bool) (s : List ℕ) (next : Option (List ℕ × List ℕ)) → next ≡ next_word quotes s
    → words_in quotes s ≡ words_after quotes next
words_next_is quotes s next e = words-next quotes s ∙ ap (words_after quotes) (sym e)

-- The words read one after another are those of the text, with blanks between them.
use Rattle.std.proofs.Common.{◌≡◌, refl, sym, ap, ◌∙◌, subst, ℕ, List, [], ◌∷◌, ◌++◌, true, false, length, take, not}
use Rattle.std.proofs.Common.{Option, Some, None, IfSome}
use Rattle.std.proofs.{Common.{take-append-drop, append-nil}, lemmas.{Bool.{and_parts, not-true}, Option.none-some}}
use Rattle.std.{proofs.Math.Seq.{take-append_seam, drop-append_seam}, specs.List.{list_all, prefix_len}}
use Rattle.abc_lines.specs.Kinds.{is_blank, after_blanks}
use Rattle.abc_field.specs.Words.{is_empty, word_len, word_and_rest, next_word, words_of, words_after}
use Rattle.abc_field.specs.WordSpelling.{EndsWord, IsFirstWord, HasWords}
use Rattle.abc_field.proofs.BlankLaws.{leading-passes, blanks-passed, blanks-gone, stays}
use Rattle.abc_field.proofs.ReadLaws.{by_test, option_case, some_holds}
use Rattle.abc_field.proofs.WordLaws.{BeginsWord, following-begins, word-some, word-stops, words-next}

-- The first word.
word-whole : (s : List ℕ) → list_all (λ c. not (is_blank c)) (take (word_len false false s) s) ≡ true
word-whole [] = refl
word-whole (b ∷ s) = by_test (is_blank b) (λ e. rw e refl) (λ e. let more = word-whole s in rw (e, e, more) refl)

first-of : (text t : List ℕ)
    → after_blanks text ≡ t → BeginsWord t → IfSome (word_and_rest false t) (λ next. IsFirstWord text next.0 next.1)
first-of text [] is begins = tt
first-of text (b ∷ s) is begins =
    record {
      blanks = take (prefix_len is_blank text) text;
      blank = leading-passes is_blank text;
      some = word-some false b s begins;
      whole = word-whole (b ∷ s);
      parted = word-stops false false (b ∷ s);
      cut =
          sym (take-append-drop (prefix_len is_blank text) text)
          ∙ ap (λ t. take (prefix_len is_blank text) text ++ t)
          (is ∙ sym (take-append-drop (word_len false false (b ∷ s)) (b ∷ s)));
    }

pub first-takes : (text : List ℕ) (next : List ℕ × List ℕ)
    → next_word false text ≡ Some next → IsFirstWord text next.0 next.1
unfolding next_word
first-takes text next h =
    some_holds (λ next. IsFirstWord text next.0 next.1) h
    (first-of text (after_blanks text) refl (following-begins text))

word-length : (word rest : List ℕ)
    → list_all (λ b. not (is_blank b)) word ≡ true → EndsWord rest → word_len false false (word ++ rest) ≡ length word
word-length [] [] whole parts = refl
word-length [] (b ∷ s) whole parts = let blank : is_blank b ≡ true = parts in rw blank refl
word-length (b ∷ word) rest whole parts =
    let tests = and_parts _ _ whole in
    let here : is_blank b ≡ false = not-true (is_blank b) tests.0 in
    let more = word-length word rest tests.1 parts in rw (here, more) refl

abbrev pub both : List ℕ → List ℕ → Option (List ℕ × List ℕ)
both a b = Some (a, b)

word-first : (word rest : List ℕ)
    → not (is_empty word) ≡ true → list_all (λ b. not (is_blank b)) word ≡ true → EndsWord rest
    → word_and_rest false (after_blanks (word ++ rest)) ≡ both word rest
word-first [] rest some whole parts = cc
word-first (b ∷ word) rest some whole parts =
    let here : is_blank b ≡ false = not-true (is_blank b) (and_parts _ _ whole).0 in
    ap (word_and_rest false) (stays b (word ++ rest) here)
    ∙ rw (word-length (b ∷ word) rest whole parts, take-append_seam (b ∷ word) rest, drop-append_seam (b ∷ word) rest)
    refl

pub first-read : (text word rest : List ℕ) → IsFirstWord text word rest → next_word false text ≡ both word rest
unfolding next_word
first-read text word rest first =
    rw (first.cut, blanks-passed first.blanks (word ++ rest) first.blank)
    (word-first word rest first.some first.whole first.parted)

-- All words.
words-more : (text : List ℕ) (next : List ℕ × List ℕ)
    → next_word false text ≡ Some next → words_of text ≡ next.0 ∷ words_of next.1
words-more text next e = words-next false text ∙ ap (words_after false) e

words-none : (text : List ℕ) → next_word false text ≡ None → words_of text ≡ []
words-none text e = words-next false text ∙ ap (words_after false) e

blank-none : (text : List ℕ) → list_all is_blank text ≡ true → next_word false text ≡ None
unfolding next_word
blank-none text all = rw (blanks-gone text all) refl

-- a text spelled with these words has these words
pub words-of-spelled : (words : List (List ℕ)) (text : List ℕ) → HasWords text words → words_of text ≡ words
words-of-spelled [] text has = words-none text (blank-none text has)
words-of-spelled (word ∷ words) text has =
    words-more text (word, has.0) (first-read text word has.0 has.1)
    ∙ ap (λ ws. word ∷ ws) (words-of-spelled words has.0 has.2)

nothing-left : (t : List ℕ) → word_and_rest false t ≡ None → t ≡ []
nothing-left [] e = refl
nothing-left (b ∷ s) e = absurd (none-some _ (sym e))

none-blank : (text : List ℕ) → next_word false text ≡ None → list_all is_blank text ≡ true
unfolding next_word
none-blank text e =
    let nothing = nothing-left (after_blanks text) e in
    let whole : take (prefix_len is_blank text) text ≡ text =
    rw (nothing, append-nil) at (take-append-drop (prefix_len is_blank text) text) in
    subst (λ t. list_all is_blank t ≡ true) whole (leading-passes is_blank text)

-- and it is spelled with the words that it has
pub words-spelled : (words : List (List ℕ)) (text : List ℕ) → words_of text ≡ words → HasWords text words
words-spelled [] text is =
    option_case (λ _. HasWords text []) (next_word false text) (λ next e. let more = words-more text next e in cc)
    (none-blank text)
words-spelled (word ∷ words) text is =
    option_case (λ _. HasWords text (word ∷ words)) (next_word false text)
    (λ next e.
    let more = words-more text next e in
    let first : next.0 ≡ word = cc in
    let others : words_of next.1 ≡ words = cc in
    (next.1, subst (λ w. IsFirstWord text w next.1) first (first-takes text next e), words-spelled words next.1 others))
    (λ none. let nothing = words-none text none in absurd (cc))

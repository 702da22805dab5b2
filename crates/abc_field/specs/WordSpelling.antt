-- Blanks around a text and between words. A blank is a space or a tab.
use Rattle.std.specs.{Prelude.{◌≡◌, ℕ, List, [], ◌∷◌, ◌++◌, IsTrue, ⊤, not}, List.list_all}
use Rattle.{abc_lines.specs.Kinds.{is_blank}, abc_field.specs.Words.{is_empty}}

-- the text is `core`, with or without blanks around it
pub record IsBetweenBlanks (text core : List ℕ) : Type 0 where
  pub leading : List ℕ
  pub back : List ℕ
  pub prefix_blank : IsTrue (list_all is_blank leading)
  pub back_blank : IsTrue (list_all is_blank back)
  pub cut : text ≡ leading ++ (core ++ back)

-- nothing follows, or a blank does
abbrev pub EndsWord : List ℕ → Type 0
EndsWord [] = ⊤
EndsWord (b ∷ s) = IsTrue (is_blank b)

-- the text is this word, with or without blanks before it, and then this rest
pub record IsFirstWord (text word rest : List ℕ) : Type 0 where
  pub blanks : List ℕ
  pub blank : IsTrue (list_all is_blank blanks)
  pub some : IsTrue (not (is_empty word))
  pub whole : IsTrue (list_all (λ b. not (is_blank b)) word)
  pub parted : EndsWord rest
  pub cut : text ≡ blanks ++ (word ++ rest)

-- the text is these words, with blanks between each two, and with or without blanks at both ends
abbrev pub HasWords : List ℕ → List (List ℕ) → Type 0
HasWords text [] = IsTrue (list_all is_blank text)
HasWords text (word ∷ words) = (rest : List ℕ) × IsFirstWord text word rest × HasWords rest words

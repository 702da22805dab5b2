-- How the reading of a string goes on, and how it ends.
use Rattle.std.proofs.Common.{◌≡◌, ℕ, List, [], ◌∷◌, ◌++◌, append_assoc, append-nil, true, refl, sym, ◌∙◌, ap, IsTrue}
use Rattle.std.proofs.lemmas.List.{flat_map_more}
use Rattle.std.proofs.lemmas.List.Folds.{list_all-append}
use Rattle.std.proofs.lemmas.Bool.{and_parts}
use Rattle.std.specs.List.{flat_map, list_all}
use Rattle.ps_text.specs.Fields.{shown}
use Rattle.ps_text.specs.Range.{is_shown}
use Rattle.ps_steps.specs.Tokens.{IsString, IsOpenString}
use Rattle.ps_tokens.specs.Spelling.{IsCut, IsBroken}
use Rattle.ps_tokens.proofs.Strings.{one_byte, not_close}

-- words were read, and the rest is left
pub record WordsStage (bytes words rest : List ℕ) : Type 0 where
  pub good : IsTrue (list_all is_shown words)
  pub spelled : bytes ≡ flat_map shown words ++ rest

all_more : (words : List ℕ) (b : ℕ)
    → IsTrue (list_all is_shown words) → IsTrue (is_shown b) → IsTrue (list_all is_shown (words ++ b ∷ []))
all_more words b h k = list_all-append is_shown words (b ∷ []) ∙ rw (h, k) refl

pub words_string : (bytes words rest after : List ℕ)
    → WordsStage bytes words rest → rest ≡ 41 ∷ after → IsString bytes words after
words_string bytes words rest after s e =
    record { good = s.good; spelled = s.spelled ∙ ap (λ x. flat_map shown words ++ x) e }

pub words_open : (bytes words rest : List ℕ) → WordsStage bytes words rest → IsCut rest → IsOpenString bytes
words_open bytes words rest s c = record {
  words = words ++ c.byte ∷ [];
  first = c.first;
  more = c.more ++ 41 ∷ [];
  good = all_more words c.byte s.good c.good;
  spelled =
      ap (λ x. x ++ c.first ∷ (c.more ++ 41 ∷ [])) s.spelled
      ∙ (append_assoc (flat_map shown words) rest (c.first ∷ (c.more ++ 41 ∷ []))
      ∙ (ap (λ x. flat_map shown words ++ x)
      (sym (append_assoc rest (c.first ∷ c.more) (41 ∷ [])) ∙ ap (λ x. x ++ 41 ∷ []) c.spelled)
      ∙ (sym (append_assoc (flat_map shown words) (shown c.byte) (41 ∷ []))
      ∙ ap (λ x. x ++ 41 ∷ []) (flat_map_more shown [] words c.byte))));
}

-- if reading breaks off, the text begins with no words, whatever follows
no_words : (w v rest t q : List ℕ)
    → list_all is_shown w ≡ true → list_all is_shown v ≡ true → IsBroken rest
    → flat_map shown w ++ (rest ++ t) ≡ flat_map shown v ++ 41 ∷ q
    → ⊥
no_words [] [] rest t q a b i e = i.no_close t q e
no_words [] (c ∷ v) rest t q a b i e =
    i.no_byte c t (flat_map shown v ++ 41 ∷ q) (and_parts (is_shown c) (list_all is_shown v) b).0
    (e ∙ append_assoc (shown c) (flat_map shown v) (41 ∷ q))
no_words (x ∷ w) [] rest t q a b i e =
    not_close x (flat_map shown w ++ (rest ++ t)) q (and_parts (is_shown x) (list_all is_shown w) a).0
    (sym (append_assoc (shown x) (flat_map shown w) (rest ++ t)) ∙ e)
no_words (x ∷ w) (c ∷ v) rest t q a b i e =
    let p = one_byte x c (flat_map shown w ++ (rest ++ t)) (flat_map shown v ++ 41 ∷ q)
    (and_parts (is_shown x) (list_all is_shown w) a).0 (and_parts (is_shown c) (list_all is_shown v) b).0
    (sym (append_assoc (shown x) (flat_map shown w) (rest ++ t))
    ∙ (e ∙ append_assoc (shown c) (flat_map shown v) (41 ∷ q))) in
    no_words w v rest t q (and_parts (is_shown x) (list_all is_shown w) a).1
    (and_parts (is_shown c) (list_all is_shown v) b).1 i p.1

pub words_no_string : (bytes words rest : List ℕ)
    → WordsStage bytes words rest → IsBroken rest → (v q : List ℕ) → IsString bytes v q → ⊥
words_no_string bytes words rest s i v q j =
    no_words words v rest [] q s.good j.good i
    (ap (λ x. flat_map shown words ++ x) (append-nil rest) ∙ (sym s.spelled ∙ j.spelled))

pub words_no_open : (bytes words rest : List ℕ) → WordsStage bytes words rest → IsBroken rest → IsOpenString bytes → ⊥
words_no_open bytes words rest s i o =
    no_words words o.words rest (o.first ∷ o.more) [] s.good o.good i
    (sym (append_assoc (flat_map shown words) rest (o.first ∷ o.more))
    ∙ (ap (λ x. x ++ o.first ∷ o.more) (sym s.spelled) ∙ o.spelled))

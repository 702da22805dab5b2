-- The tokens in the text of a procedure.
use Rattle.std.proofs.Common.{◌≡◌, ℕ, ℤ, true, false, Bool, ◌&&◌, List, [], ◌∷◌, ◌++◌, drop, append_assoc, map, Option}
use Rattle.std.proofs.Common.{Some, None, refl, sym, subst, ◌∙◌, ap, arith, ◌==◌, not}
use Rattle.std.proofs.lemmas.Bool.{true≢false, and_parts}
use Rattle.std.{proofs.lemmas.Bool.Decides.nat_tests, specs.{List.{flat_map, list_all}, Fmt.signed_decimal}}
use Rattle.glyph_paths.specs.Procedure.{numbers}
use Rattle.ps_steps.specs.declared.token.SimpleToken.{SimpleToken}
use Rattle.ps_steps.specs.declared.token.SimpleToken.TheVariants.{Whole as whole_token, Label as label_token}
use Rattle.ps_steps.specs.Near.{is_near}
use Rattle.ps_steps.specs.Tokens.{passed, IsFont, label_front}
use Rattle.ps_steps.specs.Tokens.{closing_front, Body, closes, goes_on, is_regular, is_name, begins, word_token}
use Rattle.ps_steps.specs.Operators.{all_near}
use Rattle.ps_paint.proofs.Runs.{wholes}
use Rattle.ps_paint.proofs.Takes.{IsPassed, space_passed, Stands, word_stands}
use Rattle.ps_paint.proofs.Takes.{word_at, number_word, name_some}

body_passed : (s u : List ℕ) (ts : List SimpleToken) (r : List ℕ)
    → passed false u ≡ passed false s → Body s ts r → Body u ts r
body_passed _ u _ r e (closes s _ f) = closes u r (rw e f)
body_passed _ u _ r e (goes_on s q _ t ts f b) = goes_on u q r t ts (rw e f) b

-- before the rest of a procedure, the text is these tokens of it
pub record Lexes (text : List ℕ) (ts : List SimpleToken) : Type 0 where
  pub lex : (rest after : List ℕ) (us : List SimpleToken) → Body rest us after → Body (text ++ rest) (ts ++ us) after

pub nothing_lexed : Lexes [] []
nothing_lexed = record { lex = λ rest after us b. b }

pub both_lexed : {s t : List ℕ} {ts us : List SimpleToken} → Lexes s ts → Lexes t us → Lexes (s ++ t) (ts ++ us)
both_lexed {s} {t} {ts} {us} x y = record {
  lex = λ rest after vs b.
      rw (append_assoc s t rest, append_assoc ts us vs) (x.lex (t ++ rest) after (us ++ vs) (y.lex rest after vs b));
}

-- a name that may be defined: it doesn't begin like the font's line
pub record IsNewName (name : List ℕ) : Type 0 where
  pub regular : list_all is_regular name ≡ true
  pub good : is_name name ≡ true
  pub other : begins (λ b. b == 67) name ≡ false

no_font : (name s : List ℕ) → IsNewName name → (r : List ℕ) → IsFont (47 ∷ name ++ s) r → ⊥
no_font [] s n r e = true≢false (sym n.good)
no_font (b ∷ w) s n r e = true≢false (sym (ap (λ u. begins (λ c. c == 67) (drop 1 u)) e) ∙ n.other)

pub label_stands : {name : List ℕ} → IsNewName name → Stands (label_token name) (47 ∷ name)
label_stands {name} n = record {
  front = λ b rest stop.
      label_front (name ++ b ∷ rest) name (b ∷ rest) refl (no_font name (b ∷ rest) n)
      (word_at name rest b (name_some name n.good) n.regular stop) n.good;
}

pub lex_one : {t : SimpleToken} {w : List ℕ} {b : ℕ} → Stands t w → IsPassed b → Lexes (w ++ b ∷ []) (t ∷ [])
lex_one {t} {w} {b} i p = record {
  lex = λ rest after us x.
      rw (append_assoc w (b ∷ []) rest)
      (goes_on (w ++ b ∷ rest) (b ∷ rest) after t us (i.front b rest p.stop)
      (body_passed rest (b ∷ rest) us after (p.passes rest) x));
}

-- the procedure ends with its last token
pub ends : {text last : List ℕ} {ts : List SimpleToken} {t : SimpleToken}
    → Lexes text ts → Stands t last → (rest : List ℕ) → Body ((text ++ last) ++ 125 ∷ rest) (ts ++ t ∷ []) rest
ends {text} {last} {ts} {t} x i rest =
    let end : Body (last ++ 125 ∷ rest) (t ∷ []) rest = goes_on (last ++ 125 ∷ rest) (125 ∷ rest) rest t []
    (i.front 125 rest refl) (closes (125 ∷ rest) rest (closing_front rest refl)) in
    rw (append_assoc text last (125 ∷ rest)) (x.lex (last ++ 125 ∷ rest) rest (t ∷ []) end)

pub lex_numbers : (zs : List ℤ) → all_near zs ≡ true → Lexes (numbers zs) (wholes zs)
unfolding numbers
lex_numbers [] e = nothing_lexed
lex_numbers (z ∷ zs) e =
    let one : Lexes (signed_decimal z ++ 32 ∷ []) (whole_token z ∷ []) =
    lex_one (word_stands (number_word z ((and_parts (is_near z) (all_near zs) e).0))) space_passed in
    both_lexed one (lex_numbers zs ((and_parts (is_near z) (all_near zs) e).1))

-- the token that a piece between two spaces is, if it may be one
abbrev label_piece : List ℕ → Option SimpleToken
label_piece w = elim (list_all is_regular w && (is_name w && not (begins (λ b. b == 67) w))) [
  | true ↦ Some (label_token w)
  | false ↦ None
]

abbrev word_piece : List ℕ → Option SimpleToken
word_piece w = elim (list_all is_regular w) [ true ↦ word_token w | false ↦ None ]

abbrev pub piece_token : List ℕ → Option SimpleToken
piece_token [] = None
piece_token (b ∷ w) = elim (b == 47) [ true ↦ label_piece w | false ↦ word_piece (b ∷ w) ]

none_some : (t : SimpleToken) → None ≡ Some t → ⊥
none_some t e = cc

label_is : (w : List ℕ) (t : SimpleToken) → label_piece w ≡ Some t → Stands t (47 ∷ w)
label_is w t e =
    let new : IsNewName w = record { regular = grind arith; good = grind arith; other = grind arith } in
    let same : label_token w ≡ t = grind arith in rw same at (label_stands new)

word_is : (b : ℕ) (w : List ℕ) (t : SimpleToken) → word_piece (b ∷ w) ≡ Some t → Stands t (b ∷ w)
word_is b w t e = word_stands (record { some = omega arith; regular = grind arith; token = grind arith })

pub piece_stands : (w : List ℕ) (t : SimpleToken) → piece_token w ≡ Some t → Stands t w
piece_stands [] t e = absurd (none_some t e)
piece_stands (b ∷ w) t e = by_test (b == 47) refl e
  where
    by_test : (x : Bool) → (b == 47) ≡ x
        → elim x as (λ _. Option SimpleToken) [ true ↦ label_piece w | false ↦ word_piece (b ∷ w) ] ≡ Some t
        → Stands t (b ∷ w)
    by_test true h k = let same : b ≡ 47 = grind (arith, nat_tests) in rw same (label_is w t k)
    by_test false h k = word_is b w t k

-- the pieces of a text in which a space follows each piece
abbrev cut : List ℕ → List ℕ → List (List ℕ)
cut w [] = []
cut w (b ∷ s) = elim (b == 32) [ true ↦ w ∷ cut [] s | false ↦ cut (w ++ b ∷ []) s ]

abbrev pub pieces_of : List ℕ → List (List ℕ)
pieces_of s = cut [] s

abbrev pub spaced : List (List ℕ) → List ℕ
spaced ws = flat_map (λ w. w ++ 32 ∷ []) ws

pieces_lexed : (ws : List (List ℕ)) (ts : List SimpleToken)
    → map piece_token ws ≡ map (λ t. Some t) ts → Lexes (spaced ws) ts
pieces_lexed [] [] e = nothing_lexed
pieces_lexed [] (t ∷ ts) e = absurd cc
pieces_lexed (w ∷ ws) [] e = absurd cc
pieces_lexed (w ∷ ws) (t ∷ ts) e =
    let one : piece_token w ≡ Some t = cc in
    let more : map piece_token ws ≡ map (λ t. Some t) ts = cc in
    both_lexed (lex_one (piece_stands w t one) space_passed) (pieces_lexed ws ts more)

-- a fixed text
pub lexed : (text : List ℕ) (ts : List SimpleToken)
    → spaced (pieces_of text) ≡ text → map piece_token (pieces_of text) ≡ map (λ t. Some t) ts → Lexes text ts
lexed text ts e f = subst (λ s. Lexes s ts) e (pieces_lexed (pieces_of text) ts f)

-- a fixed text up to its last token, and that token
pieces_end : (ws : List (List ℕ)) (w : List ℕ) (ts : List SimpleToken)
    → map piece_token (ws ++ w ∷ []) ≡ map (λ t. Some t) ts → (rest : List ℕ)
    → Body ((spaced ws ++ w) ++ 125 ∷ rest) ts rest
pieces_end [] w [] e rest = absurd cc
pieces_end [] w (t ∷ []) e rest =
    let one : piece_token w ≡ Some t = cc in ends nothing_lexed (piece_stands w t one) rest
pieces_end [] w (t ∷ u ∷ ts) e rest = absurd cc
pieces_end (v ∷ ws) w [] e rest = absurd cc
pieces_end (v ∷ ws) w (t ∷ ts) e rest =
    let one : piece_token v ≡ Some t = cc in let more : map piece_token (ws ++ w ∷ []) ≡ map (λ u. Some u) ts = cc in
    let b = (lex_one (piece_stands v t one) space_passed).lex ((spaced ws ++ w) ++ 125 ∷ rest) rest ts
    (pieces_end ws w ts more rest) in
    rw (append_assoc (v ++ 32 ∷ []) (spaced ws) w, append_assoc (v ++ 32 ∷ []) (spaced ws ++ w) (125 ∷ rest)) b

pub lexed_to : (text last : List ℕ) (ts : List SimpleToken)
    → spaced (pieces_of text) ≡ text
    → map piece_token (pieces_of text ++ last ∷ []) ≡ map (λ t. Some t) ts
    → (rest : List ℕ)
    → Body ((text ++ last) ++ 125 ∷ rest) ts rest
lexed_to text last ts e f rest =
    subst (λ s. Body ((s ++ last) ++ 125 ∷ rest) ts rest) e (pieces_end (pieces_of text) last ts f rest)

-- What is left after blanks and comments is no longer, and what is left after a token is shorter.
use Rattle.std.proofs.Common.{◌≡◌, ℕ, suc, ◌<◌, ◌≤◌, Bool, true, false, List, [], ◌∷◌, length, length-append, arith}
use Rattle.std.proofs.Common.{◌==◌}
use Rattle.std.specs.List.{flat_map}
use Rattle.ps_text.specs.Fields.{shown}
use Rattle.ps_steps.specs.Tokens.{passed, is_white_space, found, opening, closing, Front, font_front, label_front}
use Rattle.ps_steps.specs.Tokens.{string_front, word_front, opening_front, closing_front, Body, closes, goes_on}
use Rattle.ps_steps.specs.Tokens.{TokenAt, simple_at, procedure_at, font_line}
use Rattle.ps_steps.specs.declared.token.SimpleToken.{SimpleToken}
use Rattle.ps_steps.specs.declared.token.MachineToken.{MachineToken}

passed_within : (inside : Bool) (s : List ℕ) → length (passed inside s) ≤ length s
passed_within true [] = omega arith
passed_within false [] = omega arith
passed_within true (b ∷ s) = one (b == 10) (passed_within true s) (passed_within false s)
  where
    one : (t : Bool) → length (passed true s) ≤ length s → length (passed false s) ≤ length s
        → length (elim t as (λ _. List ℕ) [ true ↦ passed false s | false ↦ passed true s ]) ≤ suc (length s)
    one true h k = omega arith
    one false h k = omega arith
passed_within false (b ∷ s) = two (is_white_space b) (b == 37) (passed_within true s) (passed_within false s)
  where
    two : (t u : Bool) → length (passed true s) ≤ length s → length (passed false s) ≤ length s
        → length
        (elim t as (λ _. List ℕ) [
          | true ↦ passed false s
          | false ↦ elim u as (λ _. List ℕ) [ true ↦ passed true s | false ↦ b ∷ s ]
        ]) ≤ suc (length s)
    two true u h k = omega arith
    two false true h k = omega arith
    two false false h k = omega arith

pub passed_length : (s t : List ℕ) → t ≡ passed false s → length t ≤ length s
passed_length s t e = rw e (passed_within false s)

pub found_shorter : (s rest : List ℕ) (t : SimpleToken) → Front s (found t rest) → length rest < length s
found_shorter s rest _ (font_front _ e) = rw e (omega (arith, length-append font_line rest))
found_shorter s rest _ (label_front t w _ e other i n) =
    let x = i.some in rw (e, i.cut) (omega (arith, length-append w rest))
found_shorter s rest _ (string_front t words _ e i) =
    rw (e, i.spelled) (omega (arith, length-append (flat_map shown words) (41 ∷ rest)))
found_shorter s rest _ (word_front w _ t i e) = let x = i.some in rw i.cut (omega (arith, length-append w rest))

closing_shorter : (s rest : List ℕ) → Front s (closing rest) → length rest < length s
closing_shorter s rest (closing_front _ e) = rw e (omega arith)

opening_shorter : (s rest : List ℕ) → Front s (opening rest) → length rest < length s
opening_shorter s rest (opening_front _ e) = rw e (omega arith)

body_shorter : (s rest : List ℕ) (ts : List SimpleToken) → Body s ts rest → length rest < length s
body_shorter _ _ _ (closes s r f) = omega (arith, closing_shorter (passed false s) r f, passed_within false s)
body_shorter _ _ _ (goes_on s q r t ts f b) =
    omega (arith, found_shorter (passed false s) q t f, passed_within false s, body_shorter q r ts b)

pub token_shorter : (s rest : List ℕ) (t : MachineToken) → TokenAt s t rest → length rest < length s
token_shorter s _ _ (simple_at t r f) = found_shorter s r t f
token_shorter s _ _ (procedure_at q r ts f b) = omega (arith, opening_shorter s q f, body_shorter q r ts b)

-- The tokens of texts that are written: a text that is tokens, each followed by a blank.
use Rattle.std.proofs.Common.{◌≡◌, ℕ, zero, suc, ◌+◌, ◌/◌, ◌%◌, ◌<◌, ◌≤◌, ◌^◌, ℤ, pos, negsuc, true, false, Bool, List}
use Rattle.std.proofs.Common.{[], ◌∷◌, ◌++◌, length, append_assoc, Some, None, refl, sym, arith, decimal, ◌==◌}
use Rattle.std.proofs.Math.IntN.{neg_ℤ}
use Rattle.std.proofs.Math.Numerals.{one-add}
use Rattle.std.proofs.lemmas.Int.{ints}
use Rattle.std.proofs.lemmas.Bool.{true≢false, and_parts}
use Rattle.std.proofs.lemmas.Bool.Decides.{nat_tests}
use Rattle.std.proofs.lemmas.Fmt.{decimal_nonempty, decimal_is_IsNumeral}
use Rattle.std.specs.Str.Parse.{digits_value}
use Rattle.std.specs.List.{list_all}
use Rattle.std.specs.Fmt.{digit_glyph, digits, digits_onto, signed_decimal}
use Rattle.mus_units.specs.Bytes.{is_digit}
use Rattle.glyph_paths.specs.Procedure.{numbers}
use Rattle.ps_steps.specs.Near.{is_near}
use Rattle.ps_steps.specs.declared.token.SimpleToken.{SimpleToken}
use Rattle.ps_steps.specs.declared.token.SimpleToken.TheVariants.{Name as name_token, Whole as whole_token}
use Rattle.ps_steps.specs.declared.token.MachineToken.TheVariants.{Simple as simple_token}
use Rattle.ps_steps.specs.declared.value.Operand.TheVariants.{Whole as whole_value}
use Rattle.ps_steps.specs.Tokens.{passed, IsWord, word_front, simple_at, Front, found}
use Rattle.ps_steps.specs.Tokens.{is_regular, whole_number, word_token, is_name}
use Rattle.ps_steps.specs.State.{State}
use Rattle.ps_steps.specs.Operators.{Operator, def_op, operator_name, operated, went, executed, all_near}
use Rattle.ps_steps.specs.Steps.{state_before, NextToken, from_text, state_after}
use Rattle.ps_steps.specs.Steps.{Step, TakesSteps, here, step}
use Rattle.ps_steps.proofs.Joined.{joined}
use Rattle.ps_paint.proofs.Runs.{Runs, no_more, op, does, pushed}

-- whatever follows, the text leads from one state to another in n steps
pub record Takes (n : ℕ) (text : List ℕ) (m k : State) : Type 0 where
  pub take : (rest : List ℕ) → TakesSteps n (state_before m (text ++ rest)) (state_before k rest)

pub nothing_taken : {m : State} → Takes 0 [] m m
nothing_taken {m} = record { take = λ rest. here (state_before m rest) }

pub both_taken : {a b : ℕ} {s t : List ℕ} {m k l : State} → Takes a s m k → Takes b t k l → Takes (a + b) (s ++ t) m l
both_taken {a} {b} {s} {t} {m} {k} {l} u v = record {
  take = λ rest.
      rw (append_assoc s t rest) (joined a b _ (state_before k (t ++ rest)) _ (u.take (t ++ rest)) (v.take rest));
}

-- the text begins with the word, whatever follows the byte after it
pub word_at : (w rest : List ℕ) (b : ℕ)
    → 1 ≤ length w → list_all is_regular w ≡ true → is_regular b ≡ false → IsWord (w ++ b ∷ rest) w (b ∷ rest)
word_at w rest b some regular stop = record { some = some; regular = regular; cut = refl; maximal = stop }

pub name_some : (name : List ℕ) → is_name name ≡ true → 1 ≤ length name
name_some [] e = absurd (true≢false (sym e))
name_some (b ∷ w) e = omega arith

skip_regular : (b : ℕ) (s : List ℕ) → is_regular b ≡ true → passed false (b ∷ s) ≡ b ∷ s
skip_regular b s e = grind (arith, nat_tests)

-- a word is neither a blank nor a comment
word_stays : (w rest : List ℕ) → 1 ≤ length w → list_all is_regular w ≡ true → passed false (w ++ rest) ≡ w ++ rest
word_stays [] rest l e = absurd (omega arith)
word_stays (b ∷ w) rest l e = skip_regular b (w ++ rest) ((and_parts (is_regular b) (list_all is_regular w) e).0)

-- digits
glyph_digit : (d : ℕ) → d < 10 → is_digit (digit_glyph false d) ≡ true
glyph_digit d l = grind (arith, nat_tests)

digits_before : (k n : ℕ) (acc : List ℕ)
    → list_all is_digit acc ≡ true → list_all is_digit (digits_onto k 10 false n acc) ≡ true
digits_before zero n acc h = h
digits_before (suc k) n acc h =
    let one : list_all is_digit (digit_glyph false (n % 10) ∷ acc) ≡ true =
    rw (glyph_digit (n % 10) (omega arith), h) refl in
    grind (arith, one, digits_before k (n / 10) (digit_glyph false (n % 10) ∷ acc) one)

pub decimal_digits : (n : ℕ) → list_all is_digit (decimal n) ≡ true
unfolding digits
decimal_digits n = digits_before 64 n [] refl

pub digit_regular : (b : ℕ) → is_digit b ≡ true → is_regular b ≡ true
digit_regular b e = grind (arith, nat_tests)

pub digit_no_minus : (b : ℕ) → is_digit b ≡ true → (b == 45) ≡ false
digit_no_minus b e = grind (arith, nat_tests)

pub digits_pass : (p : ℕ → Bool)
    → ((b : ℕ) → is_digit b ≡ true → p b ≡ true) → (ds : List ℕ) → list_all is_digit ds ≡ true → list_all p ds ≡ true
digits_pass p one [] e = refl
digits_pass p one (b ∷ ds) e =
    let t = and_parts (is_digit b) (list_all is_digit ds) e in rw (one b t.0, digits_pass p one ds t.1) refl

digits_word : (ds : List ℕ)
    → 0 < length ds → list_all is_digit ds ≡ true → word_token ds ≡ Some (whole_number (pos (digits_value 10 ds)))
digits_word [] l e = absurd (omega arith)
digits_word (b ∷ ds) l e = rw (digit_no_minus b ((and_parts (is_digit b) (list_all is_digit ds) e).0), e) refl

minus_word : (ds : List ℕ)
    → 0 < length ds → list_all is_digit ds ≡ true
    → word_token (45 ∷ ds) ≡ Some (whole_number (neg_ℤ (pos (digits_value 10 ds))))
minus_word [] l e = absurd (omega arith)
minus_word (b ∷ ds) l e = rw e refl

-- a word, and the token that it is
pub record IsTokenWord (t : SimpleToken) (w : List ℕ) : Type 0 where
  pub some : 1 ≤ length w
  pub regular : list_all is_regular w ≡ true
  pub token : word_token w ≡ Some t

-- a number within 2^60 of 0 is read as it is written
pub number_word : (z : ℤ) → is_near z ≡ true → IsTokenWord (whole_token z) (signed_decimal z)
number_word (pos n) near =
    let small : n < 2 ^ 64 = grind (arith, ints) in
    let digits = decimal_digits n in
    let value = (decimal_is_IsNumeral n small).1 in
    record {
      some = omega (arith, decimal_nonempty n small);
      regular = digits_pass is_regular digit_regular (decimal n) digits;
      token = rw (digits_word (decimal n) (decimal_nonempty n small) digits, value, near) refl;
    }
number_word (negsuc n) near =
    let small : suc n < 2 ^ 64 = grind (arith, ints) in
    let digits = decimal_digits (suc n) in
    let value = (decimal_is_IsNumeral (suc n) small).1 in
    record {
      some = omega arith;
      regular = digits_pass is_regular digit_regular (decimal (suc n)) digits;
      token = rw (minus_word (decimal (suc n)) (decimal_nonempty (suc n) small) digits, value, near) refl;
    }

-- a byte that is skipped
pub record IsPassed (b : ℕ) : Type 0 where
  pub stop : is_regular b ≡ false
  pub passes : (s : List ℕ) → passed false (b ∷ s) ≡ passed false s

pub space_passed : IsPassed 32
space_passed = record { stop = refl; passes = λ s. refl }

pub line_end_passed : IsPassed 10
line_end_passed = record { stop = refl; passes = λ s. refl }

-- these bytes are the token, whatever follows the byte after them
pub record Stands (t : SimpleToken) (w : List ℕ) : Type 0 where
  pub front : (b : ℕ) (rest : List ℕ) → is_regular b ≡ false → Front (passed false (w ++ b ∷ rest)) (found t (b ∷ rest))

pub word_stands : {t : SimpleToken} {w : List ℕ} → IsTokenWord t w → Stands t w
word_stands {t} {w} i = record {
  front = λ b rest stop.
      rw (word_stays w (b ∷ rest) i.some i.regular)
      (word_front w (b ∷ rest) t (word_at w rest b i.some i.regular stop) i.token);
}

-- a token and a blank are executed
pub takes_token : {n : ℕ} {t : SimpleToken} {w : List ℕ} {body : List SimpleToken} {b : ℕ} {m k l : State}
    → Stands t w → IsPassed b → executed (simple_token t) m ≡ went body k → Runs n body k l
    → Takes (suc n) (w ++ b ∷ []) m l
takes_token {n} {t} {w} {body} {b} {m} {k} {l} i p e r = record {
  take = λ rest.
      let next : NextToken (state_before m (w ++ b ∷ rest)) (simple_token t) (state_before m (b ∷ rest)) = from_text m
      (passed false (w ++ b ∷ rest)) (b ∷ rest) (simple_token t) (simple_at t (b ∷ rest) (i.front b rest p.stop)) in
      let one : Step (state_before m (w ++ b ∷ rest)) (state_after body k (state_before m rest)) = record {
        token = simple_token t;
        rest = state_before m rest;
        body = body;
        state = k;
        next = rw (p.passes rest) at next;
        went = e;
        is = refl;
      } in
      rw (append_assoc w (b ∷ []) rest) (step n _ _ (state_before l rest) one (r.run [] (passed false rest)));
}

-- a word that calls nothing
takes_word : {t : SimpleToken} {w : List ℕ} {b : ℕ} {m k : State}
    → IsTokenWord t w → IsPassed b → executed (simple_token t) m ≡ went [] k → Takes 1 (w ++ b ∷ []) m k
takes_word i p e = takes_token (word_stands i) p e no_more

-- an operator, and the end of its line
operator_word : (o : Operator) → IsTokenWord (op o) (operator_name o)
operator_word def_op = record { some = omega arith; regular = refl; token = refl }
operator_word _ = record { some = omega arith; regular = refl; token = refl }

pub takes_operator : {m k : State} (o : Operator)
    → m.names (operator_name o) ≡ None → operated o m ≡ went [] k → Takes 1 (operator_name o ++ 10 ∷ []) m k
takes_operator {m} o free e = takes_word (operator_word o) line_end_passed (does m o free e)

-- a name that runs a procedure
pub takes_call : {n : ℕ} {name : List ℕ} {body : List SimpleToken} {b : ℕ} {m k : State}
    → IsTokenWord (name_token name) name → IsPassed b → m.names name ≡ Some body → Runs n body m k
    → Takes (suc n) (name ++ b ∷ []) m k
takes_call {m = m} i p h r = takes_token {k = m} (word_stands i) p (rw h refl) r

takes_numbers : (zs : List ℤ) (m : State)
    → all_near zs ≡ true → Takes (length zs) (numbers zs) m (record m { stack = pushed zs m.stack })
unfolding numbers
takes_numbers [] m e = nothing_taken
takes_numbers (z ∷ zs) m e =
    let k : State = record m { stack = whole_value z ∷ m.stack } in
    let one : Takes 1 (signed_decimal z ++ 32 ∷ []) m k =
    takes_word (number_word z ((and_parts (is_near z) (all_near zs) e).0)) space_passed refl in
    rw (one-add (length zs)) at
    (both_taken one (takes_numbers zs k ((and_parts (is_near z) (all_near zs) e).1)))

-- a line of numbers and of a name that runs a procedure
pub takes_line : {n : ℕ} {body : List SimpleToken} {m k : State} (zs : List ℤ) (name : List ℕ)
    → all_near zs ≡ true → IsTokenWord (name_token name) name → m.names name ≡ Some body
    → Runs n body (record m { stack = pushed zs m.stack }) k
    → Takes (length zs + suc n) ((numbers zs ++ name) ++ 10 ∷ []) m k
takes_line {n} {body} {m} {k} zs name near word made run =
    rw (append_assoc (numbers zs) name (10 ∷ []))
    (both_taken (takes_numbers zs m near) (takes_call word line_end_passed made run))

-- What the first words can't be, and where the leading words of a command end.
use Rattle.abcps_words.specs.Limits.{job_limit, tune_limit}
use Rattle.std.proofs.Common.{◌≡◌, ℕ, ℤ, ◌+◌, true, false, ◌||◌, ◌==◌, if◌then◌else◌, List, [], ◌∷◌, ◌++◌, take, drop}
use Rattle.std.proofs.Common.{codes, refl, sym, ◌∙◌, ap, arith, decimal}
use Rattle.std.proofs.lemmas.Bool.{true≢false}
use Rattle.std.proofs.lemmas.Bool.Decides.{nat_tests}
use Rattle.std.specs.Fmt.{signed_decimal}
use Rattle.mus_units.specs.declared.key.Spread.{Spread}
use Rattle.abcps_words.specs.declared.options.Flag.{Flag}
use Rattle.abcps_words.specs.declared.command.Name.{Name}
use Rattle.abcps_words.specs.declared.command.Command.{Command}
use Rattle.abcps_words.specs.Words.{IsUpTo, IsMove, name_bytes, spread_word, prefix_of, HasTunes, flag_words, IsFlag}

-- the words begin with no number from 1 to the most
abbrev pub LacksNumber : ℕ → List (List ℕ) → Type 0
LacksNumber most words = (n : ℕ) (rest : List (List ℕ)) → IsUpTo most n → words ≡ decimal n ∷ rest → ⊥

-- the words begin with no number of half steps
abbrev pub LacksHalfSteps : List (List ℕ) → Type 0
LacksHalfSteps words = (z : ℤ) (rest : List (List ℕ)) → IsMove z → words ≡ signed_decimal z ∷ rest → ⊥

-- the words begin with no spread
abbrev pub LacksSpread : List (List ℕ) → Type 0
LacksSpread words = (spread : Spread) (rest : List (List ℕ)) → words ≡ spread_word spread ∷ rest → ⊥

abbrev pub tail_of : List (List ℕ) → List (List ℕ)
tail_of [] = []
tail_of (x ∷ xs) = xs

abbrev pub head_of : List (List ℕ) → List ℕ
head_of [] = []
head_of (x ∷ xs) = x

-- the sum of the first four letters, in which any two names of commands, any two of options, and any two spreads differ
abbrev pub key_of : List ℕ → ℕ
key_of (x ∷ y ∷ z ∷ w ∷ rest) = x + (y + (z + w))
key_of (x ∷ y ∷ z ∷ []) = x + (y + z)
key_of _ = 0

key_eq : (m n : ℕ) → m ≡ n → (m == n) ≡ true
key_eq m n e = grind (arith, nat_tests)

pub clash : (name : List ℕ) (words other : List (List ℕ))
    → words ≡ other → head_of words ≡ name → (key_of name == key_of (head_of other)) ≡ false → ⊥
clash name words other e is apart =
    let same : key_of name ≡ key_of (head_of other) = sym (ap key_of is) ∙ ap (λ ws. key_of (head_of ws)) e in
    true≢false (sym (key_eq (key_of name) (key_of (head_of other)) same) ∙ apart)

pub no_jobs : (word : List ℕ) (words : List (List ℕ))
    → word ≡ codes "--jobs" → LacksNumber job_limit words → (f : Flag) (rest : List (List ℕ)) → IsFlag f
    → word ∷ words ≡ flag_words f ++ rest
    → ⊥
no_jobs word words is none (Flag.Jobs n) rest good e = none n rest good (ap tail_of e)
no_jobs word words is none f rest good e = clash (codes "--jobs") (word ∷ words) (flag_words f ++ rest) e is refl

pub no_half_steps : (word : List ℕ) (words : List (List ℕ))
    → word ≡ codes "--transpose" → LacksHalfSteps words → (f : Flag) (rest : List (List ℕ)) → IsFlag f
    → word ∷ words ≡ flag_words f ++ rest
    → ⊥
no_half_steps word words is none (Flag.Transpose z) rest good e = none z rest good (ap tail_of e)
no_half_steps word words is none f rest good e =
    clash (codes "--transpose") (word ∷ words) (flag_words f ++ rest) e is refl

pub unnamed : (word : List ℕ) (words : List (List ℕ))
    → ((n : Name) → word ≡ name_bytes n → ⊥) → (c : Command) (rest : List (List ℕ)) → word ∷ words ≡ prefix_of c ++ rest
    → ⊥
unnamed word words none (Command.Set flow jobs by even) rest e = none Name.Set (ap head_of e)
unnamed word words none (Command.Systems flow table by) rest e = none Name.Systems (ap head_of e)
unnamed word words none Command.Inspect rest e = none Name.Inspect (ap head_of e)
unnamed word words none Command.Check rest e = none Name.Check (ap head_of e)
unnamed word words none Command.Paint rest e = none Name.Paint (ap head_of e)
unnamed word words none (Command.Hear spread) rest e = none Name.Hear (ap head_of e)
unnamed word words none (Command.Make tunes) rest e = none Name.Make (ap head_of e)
unnamed word words none (Command.Trial tunes flow jobs even) rest e = none Name.Trial (ap head_of e)

pub no_make : (word : List ℕ) (words : List (List ℕ))
    → word ≡ name_bytes Name.Make → LacksNumber tune_limit words → (c : Command) (rest : List (List ℕ)) → HasTunes c
    → word ∷ words ≡ prefix_of c ++ rest
    → ⊥
no_make word words is none (Command.Make tunes) rest good e = none tunes rest good (ap tail_of e)
no_make word words is none c rest good e = clash (codes "make") (word ∷ words) (prefix_of c ++ rest) e is refl

pub no_trial : (word : List ℕ) (words : List (List ℕ))
    → word ≡ name_bytes Name.Trial → LacksNumber tune_limit words → (c : Command) (rest : List (List ℕ)) → HasTunes c
    → word ∷ words ≡ prefix_of c ++ rest
    → ⊥
no_trial word words is none (Command.Trial tunes flow jobs even) rest good e = none tunes rest good (ap tail_of e)
no_trial word words is none c rest good e = clash (codes "trial") (word ∷ words) (prefix_of c ++ rest) e is refl

pub no_hear : (word : List ℕ) (words : List (List ℕ))
    → word ≡ name_bytes Name.Hear → LacksSpread words → (c : Command) (rest : List (List ℕ))
    → word ∷ words ≡ prefix_of c ++ rest
    → ⊥
no_hear word words is none (Command.Hear spread) rest e = none spread rest (ap tail_of e)
no_hear word words is none c rest e = clash (codes "hear") (word ∷ words) (prefix_of c ++ rest) e is refl

-- the leading words of a command are two if the name is make, trial or hear, and otherwise one
abbrev prefix_length : List (List ℕ) → ℕ
prefix_length words =
    if (key_of (head_of words) == 414) || (key_of (head_of words) == 432) || (key_of (head_of words) == 416) then 2
    else 1

prefix_is : (c : Command) (rest : List (List ℕ))
    → take (prefix_length (prefix_of c ++ rest)) (prefix_of c ++ rest) ≡ prefix_of c
prefix_is (Command.Set flow jobs by even) rest = refl
prefix_is c rest = refl

rest_is : (c : Command) (rest : List (List ℕ)) → drop (prefix_length (prefix_of c ++ rest)) (prefix_of c ++ rest) ≡ rest
rest_is (Command.Set flow jobs by even) rest = refl
rest_is c rest = refl

pub same_prefix : (c d : Command) (xs ys : List (List ℕ))
    → prefix_of c ++ xs ≡ prefix_of d ++ ys → (prefix_of c ≡ prefix_of d) × (xs ≡ ys)
same_prefix c d xs ys e = (
  sym (prefix_is c xs) ∙ ap (λ ws. take (prefix_length ws) ws) e ∙ prefix_is d ys,
  sym (rest_is c xs) ∙ ap (λ ws. drop (prefix_length ws) ws) e ∙ rest_is d ys,
)

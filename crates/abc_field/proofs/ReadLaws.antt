-- Something is read from a text only if a form spells the text: proved by cases of what is read, for one word and for
-- all words of a list.
use Rattle.std.proofs.Common.{◌≡◌, refl, sym, ap, ◌∙◌, subst, ℕ, List, ◌∷◌, Bool, true, false, map, cond, ◌==◌, Option}
use Rattle.std.proofs.Common.{Some, None, IfSome}
use Rattle.std.proofs.lemmas.{Bool.{cond_both, eqb-true}, Option.{none-some, same_Some}, Slice.Eq.bytes_eq-Decides}
use Rattle.std.specs.{Option.{option_map, option_and_then, option_or}, Str.bytes_eq}

-- T holds whenever something is read
abbrev pub Where : {X : Type 0} → Type 0 → Option X → Type 0
Where T o = IfSome o (λ _. T)

pub some_holds : {X : Type 0} (P : X → Type 0) {o : Option X} {x : X} → o ≡ Some x → IfSome o P → P x
some_holds P e has = subst (λ o. IfSome o P) e has

pub some_from : {X : Type 0} {P : X → Type 0} (o : Option X) → ((x : X) → o ≡ Some x → P x) → IfSome o P
some_from None all = tt
some_from (Some x) all = all x refl

pub some_then : {X Y : Type 0} {P : X → Type 0} (Q : Y → Type 0) (f : X → Option Y) (o : Option X)
    → IfSome o P → ((x : X) → P x → IfSome (f x) Q) → IfSome (option_and_then f o) Q
some_then Q f None has next = tt
some_then Q f (Some x) has next = next x has

pub where_read : {X T : Type 0} {o : Option X} {x : X} → o ≡ Some x → Where T o → T
where_read {T = T} e has = some_holds (λ _. T) e has

pub where_then : {X S T : Type 0} (o : Option X) → Where S o → (S → T) → Where T o
where_then None has next = tt
where_then (Some x) has next = next has

pub where_or : {X : Type 0} (T : Type 0) (a b : Option X) → Where T a → Where T b → Where T (option_or a b)
where_or T None b first second = second
where_or T (Some x) b first second = first

pub where_map : {X Y S T : Type 0} (f : X → Y) (o : Option X) → Where S o → (S → T) → Where T (option_map f o)
where_map f None has next = tt
where_map f (Some x) has next = next has

-- cases: by a test, by whether something is read, by whether a byte is this one, and by whether a word is
pub by_test : {T : Type 0} (test : Bool) → (test ≡ true → T) → (test ≡ false → T) → T
by_test true hit miss = hit refl
by_test false hit miss = miss refl

pub option_case : {X : Type 0} (Q : Option X → Type 0) (o : Option X)
    → ((x : X) → o ≡ Some x → Q (Some x)) → (o ≡ None → Q None) → Q o
option_case Q None some none = none refl
option_case Q (Some x) some none = some x refl

pub byte_case : {X : Type 0} (Q : X → Type 0) (b k : ℕ) (x y : X)
    → (b ≡ k → Q x) → ((b == k) ≡ false → Q y) → Q (cond (b == k) x y)
byte_case Q b k x y same other = cond_both (b == k) x y Q (λ e. same (eqb-true b k e)) other

pub word_case : {X : Type 0} (Q : X → Type 0) (w word : List ℕ) (x y : X)
    → (w ≡ word → Q x) → (bytes_eq w word ≡ false → Q y) → Q (cond (bytes_eq w word) x y)
word_case Q w word x y same other = cond_both (bytes_eq w word) x y Q (λ e. same ((bytes_eq-Decides w word).0 e)) other

pub not_word : {w word : List ℕ} → bytes_eq w word ≡ false → w ≡ word → ⊥
not_word {w = w} {word = word} e is = let same : bytes_eq w word ≡ true = (bytes_eq-Decides w word).1 is in cc

-- a good form that spells the word
pub record HasForm {Form : Type 0} (spelling : Form → List ℕ) (Good : Form → Type 0) (w : List ℕ) : Type 0 where
  pub form : Form
  pub good : Good form
  pub spelled : w ≡ spelling form

pub formed : {Form : Type 0} {spelling : Form → List ℕ} {Good : Form → Type 0} {w : List ℕ}
    → (form : Form) → Good form → w ≡ spelling form → HasForm spelling Good w
formed form good is = record { form = form; good = good; spelled = is }

-- if good forms are read as what they mean, what is read is what its form means
pub form_meant : {Form X : Type 0} {spelling : Form → List ℕ} {Good : Form → Type 0} {meaning : Form → X} {w : List ℕ}
    {x : X}
    → (read : List ℕ → Option X) → ((form : Form) → Good form → read (spelling form) ≡ Some (meaning form))
    → (found : HasForm spelling Good w) → read w ≡ Some x → meaning found.form ≡ x
form_meant {x = x} read back found e =
    same_Some _ x (sym (back found.form found.good) ∙ sym (ap read found.spelled) ∙ e)

-- if nothing is read from a text, it is no text from which something is read
pub unread : {X : Type 0} {w v : List ℕ} {x : X} (read : List ℕ → Option X)
    → read w ≡ None → read v ≡ Some x → w ≡ v → ⊥
unread {x = x} read none some is = none-some x (sym none ∙ ap read is ∙ some)

-- and if there is no form, nothing is read
pub none_read : {X T : Type 0} (o : Option X) → Where T o → (T → ⊥) → o ≡ None
none_read None has none = refl
none_read (Some x) has none = absurd (none has)

pub nothing : {X : Type 0} {Says : X → Type 0} (o : Option X)
    → ((x : X) → o ≡ Some x → Says x) → ((x : X) → Says x → ⊥) → o ≡ None
nothing o says bad = option_case (λ o. o ≡ None) o (λ x e. absurd (bad x (says x e))) (λ e. refl)

-- good forms that spell the words
pub record HaveForms {Form : Type 0} (spelling : Form → List ℕ) (AreGood : List Form → Type 0)
    (ws : List (List ℕ)) : Type 0 where
  pub forms : List Form
  pub good : AreGood forms
  pub spelled : ws ≡ map spelling forms

-- a word with a form, before words that have forms
module _ {Form X : Type 0} (spelling : Form → List ℕ) (Good : Form → Type 0) (AreGood : List Form → Type 0) where
  pub more_forms : (w : List ℕ) (ws : List (List ℕ)) (one : Option X) (more : Option (List X))
      → ((form : Form) (forms : List Form) → Good form → AreGood forms → AreGood (form ∷ forms))
      → Where (HasForm spelling Good w) one → Where (HaveForms spelling AreGood ws) more
      → Where (HaveForms spelling AreGood (w ∷ ws)) (option_and_then (λ x. option_map (λ xs. x ∷ xs) more) one)
  more_forms w ws None more both first others = tt
  more_forms w ws (Some x) None both first others = tt
  more_forms w ws (Some x) (Some xs) both first others =
      record {
        forms = first.form ∷ others.forms;
        good = both first.form others.forms first.good others.good;
        spelled = ap (λ t. t ∷ ws) first.spelled ∙ ap (λ ts. spelling first.form ∷ ts) others.spelled;
      }

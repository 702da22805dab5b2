-- A text begins with at most one token, and if it begins with none, there is one cause.
use Rattle.std.proofs.Common.{◌≡◌, ℕ, true, false, cond, ◌==◌, append_assoc, List, [], ◌∷◌, ◌++◌, drop, Option, Some}
use Rattle.std.proofs.Common.{None, refl, sym, subst, ◌∙◌, ap, arith}
use Rattle.std.proofs.lemmas.Bool.Decides.{nat_tests}
use Rattle.std.proofs.lemmas.Bool.{and_parts}
use Rattle.std.proofs.lemmas.List.{append_cancel_left}
use Rattle.std.specs.List.{list_all, flat_map}
use Rattle.ps_steps.specs.declared.halt.Cause.{Cause}
use Rattle.ps_steps.specs.declared.token.SimpleToken.{SimpleToken}
use Rattle.ps_steps.specs.declared.token.SimpleToken.TheVariants.{Words as words_token, Label as label_token}
use Rattle.ps_steps.specs.declared.token.SimpleToken.TheVariants.{Font as font_token}
use Rattle.ps_steps.specs.declared.token.MachineToken.{MachineToken}
use Rattle.ps_steps.specs.declared.token.MachineToken.TheVariants.{Simple as simple_token, Procedure as procedure_token}
use Rattle.ps_steps.specs.Tokens.{Read, found, opening, closing, unread, Front, font_front, label_front, no_label}
use Rattle.ps_steps.specs.Tokens.{string_front, open_string, no_string, opening_front, closing_front, stray, word_front}
use Rattle.ps_steps.specs.Tokens.{no_word, IsWord, IsString, IsOpenString, IsFont, font_line, Body, closes, goes_on}
use Rattle.ps_steps.specs.Tokens.{NoBody, unclosed, nested, unread_within, later, TokenAt, simple_at, procedure_at}
use Rattle.ps_steps.specs.Tokens.{NoToken, unread_at, closing_at, no_body, is_regular, is_name, word_token, passed}
use Rattle.ps_text.specs.Fields.{shown}
use Rattle.ps_tokens.specs.OneToken.{BeginsInOneWay}
use Rattle.ps_tokens.proofs.Fronts.{one_run}
use Rattle.ps_tokens.proofs.Strings.{one_string, one_words}

-- what follows a slash or a parenthesis, and what begins with a byte of a word
data Slashed (s t : List ℕ) : Read → Type 0 where
  as_font : (rest : List ℕ) → IsFont s rest → Slashed s t (found font_token rest)
  as_label : (w rest : List ℕ)
      → ((r : List ℕ) → IsFont s r → ⊥) → IsWord t w rest → is_name w ≡ true → Slashed s t (found (label_token w) rest)
  as_none : ((r : List ℕ) → IsFont s r → ⊥)
      → ((w rest : List ℕ) → IsWord t w rest → is_name w ≡ true → ⊥) → Slashed s t (unread Cause.BadToken)

data Parted (t : List ℕ) : Read → Type 0 where
  as_string : (words rest : List ℕ) → IsString t words rest → Parted t (found (words_token words) rest)
  as_open : IsOpenString t → Parted t (unread Cause.Unclosed)
  as_broken : ((words rest : List ℕ) → IsString t words rest → ⊥)
      → (IsOpenString t → ⊥) → Parted t (unread Cause.BadToken)

data Worded (s : List ℕ) : Read → Type 0 where
  as_word : (w rest : List ℕ) (t : SimpleToken) → IsWord s w rest → word_token w ≡ Some t → Worded s (found t rest)
  as_no_word : (w rest : List ℕ) → IsWord s w rest → word_token w ≡ None → Worded s (unread Cause.BadToken)

nil_cons : {A : Type 0} (xs : List A) (x : A) (ys : List A) → xs ++ x ∷ ys ≡ [] → ⊥
nil_cons [] x ys e = cc
nil_cons (z ∷ xs) x ys e = cc

-- if a text begins with a string, it isn't the beginning of one that doesn't end
closed : (t words rest : List ℕ) → IsString t words rest → IsOpenString t → ⊥
closed t words rest a o =
    let e : flat_map shown words ++ 41 ∷ (rest ++ o.first ∷ o.more) ≡ flat_map shown o.words ++ 41 ∷ [] =
    sym (append_assoc (flat_map shown words) (41 ∷ rest) (o.first ∷ o.more))
    ∙ (ap (λ x. x ++ o.first ∷ o.more) (sym a.spelled) ∙ o.spelled) in
    nil_cons rest o.first o.more (one_words words o.words (rest ++ o.first ∷ o.more) [] a.good o.good e).1

one_word : (s w r v q : List ℕ) → IsWord s w r → IsWord s v q → (w ≡ v) × (r ≡ q)
one_word s w r v q a b = one_run is_regular w v r q a.regular b.regular a.maximal b.maximal (sym a.cut ∙ b.cut)

one_slashed : (s t : List ℕ) (x y : Read) → Slashed s t x → Slashed s t y → x ≡ y
one_slashed s t _ _ (as_font r e) (as_font q f) = ap (found font_token) (append_cancel_left font_line r q (sym e ∙ f))
one_slashed s t _ _ (as_font r e) (as_label w q n i g) = absurd (n r e)
one_slashed s t _ _ (as_font r e) (as_none n g) = absurd (n r e)
one_slashed s t _ _ (as_label w q n i g) (as_font r e) = absurd (n r e)
one_slashed s t _ _ (as_label w r n i g) (as_label v q m j h) =
    let z = one_word t w r v q i j in ap (λ x. found (label_token x) r) z.0 ∙ ap (found (label_token v)) z.1
one_slashed s t _ _ (as_label w r n i g) (as_none m h) = absurd (h w r i g)
one_slashed s t _ _ (as_none n g) (as_font r e) = absurd (n r e)
one_slashed s t _ _ (as_none n g) (as_label w r m i h) = absurd (g w r i h)
one_slashed s t _ _ (as_none n g) (as_none m h) = refl

one_parted : (t : List ℕ) (x y : Read) → Parted t x → Parted t y → x ≡ y
one_parted t _ _ (as_string w r i) (as_string v q j) =
    let z = one_string t w r v q i j in ap (λ x. found (words_token x) r) z.0 ∙ ap (found (words_token v)) z.1
one_parted t _ _ (as_string w r i) (as_open o) = absurd (closed t w r i o)
one_parted t _ _ (as_string w r i) (as_broken n m) = absurd (n w r i)
one_parted t _ _ (as_open o) (as_string w r i) = absurd (closed t w r i o)
one_parted t _ _ (as_open o) (as_open p) = refl
one_parted t _ _ (as_open o) (as_broken n m) = absurd (m o)
one_parted t _ _ (as_broken n m) (as_string w r i) = absurd (n w r i)
one_parted t _ _ (as_broken n m) (as_open o) = absurd (m o)
one_parted t _ _ (as_broken n m) (as_broken p q) = refl

some_none : (o : Option SimpleToken) (t : SimpleToken) → o ≡ Some t → o ≡ None → ⊥
some_none o t e f = cc

one_worded : (s : List ℕ) (x y : Read) → Worded s x → Worded s y → x ≡ y
one_worded s _ _ (as_word w r t i e) (as_word v q u j f) =
    let z = one_word s w r v q i j in
    let same : t ≡ u = some_same t u (sym e ∙ (ap word_token z.0 ∙ f)) in
    ap (λ x. found x r) same ∙ ap (found u) z.1
  where
    some_same : (t u : SimpleToken) → Some t ≡ Some u → t ≡ u
    some_same t u e = cc
one_worded s _ _ (as_word w r t i e) (as_no_word v q j f) =
    absurd (some_none (word_token w) t e (ap word_token (one_word s w r v q i j).0 ∙ f))
one_worded s _ _ (as_no_word w r i e) (as_word v q u j f) =
    absurd (some_none (word_token v) u f (sym (ap word_token (one_word s w r v q i j).0) ∙ e))
one_worded s _ _ (as_no_word w r i e) (as_no_word v q j f) = refl

-- by the first byte
data Kind (s : List ℕ) (x : Read) : Type 0 where
  k_part : (t : List ℕ) → s ≡ 40 ∷ t → Parted t x → Kind s x
  k_slash : (t : List ℕ) → s ≡ 47 ∷ t → Slashed s t x → Kind s x
  k_open : (t : List ℕ) → s ≡ 123 ∷ t → x ≡ opening t → Kind s x
  k_close : (t : List ℕ) → s ≡ 125 ∷ t → x ≡ closing t → Kind s x
  k_stray : (t : List ℕ) → s ≡ 41 ∷ t → x ≡ unread Cause.BadToken → Kind s x
  k_word : Worded s x → Kind s x

kind_of : (s : List ℕ) (x : Read) → Front s x → Kind s x
kind_of s _ (font_front r e) = k_slash (drop 1 font_line ++ r) e (as_font r e)
kind_of s _ (label_front t w r e n i g) = k_slash t e (as_label w r n i g)
kind_of s _ (no_label t e n g) = k_slash t e (as_none n g)
kind_of s _ (string_front t w r e i) = k_part t e (as_string w r i)
kind_of s _ (open_string t e o) = k_part t e (as_open o)
kind_of s _ (no_string t e n m) = k_part t e (as_broken n m)
kind_of s _ (opening_front r e) = k_open r e refl
kind_of s _ (closing_front r e) = k_close r e refl
kind_of s _ (stray r e) = k_stray r e refl
kind_of s _ (word_front w r t i e) = k_word (as_word w r t i e)
kind_of s _ (no_word w r i e) = k_word (as_no_word w r i e)

-- 0 for a byte of a word
class : List ℕ → ℕ
class [] = 1
class (b ∷ t) = cond (is_regular b) 0 b

class_nil : class [] ≡ 1
unfolding class
class_nil = refl

lead : (s t : List ℕ) (b : ℕ) → is_regular b ≡ false → s ≡ b ∷ t → class s ≡ b
unfolding class
lead s t b n e = ap class e ∙ ap (λ x. cond x 0 b) n

word_class : (s w r : List ℕ) → IsWord s w r → class s ≡ 0
unfolding class
word_class s [] r i = let l = i.some in absurd (omega arith)
word_class s (b ∷ w) r i =
    ap class i.cut ∙ ap (λ x. cond x 0 b) (and_parts (is_regular b) (list_all is_regular w) i.regular).0

worded_class : (s : List ℕ) (x : Read) → Worded s x → class s ≡ 0
worded_class s _ (as_word w r t i e) = word_class s w r i
worded_class s _ (as_no_word w r i e) = word_class s w r i

apart : (n a b : ℕ) → n ≡ a → n ≡ b → (a == b) ≡ false → ⊥
apart n a b e f d = grind (arith, nat_tests)

same_rest : (s t u : List ℕ) (b : ℕ) → s ≡ b ∷ t → s ≡ b ∷ u → t ≡ u
same_rest s t u b e f = cc

-- the byte that it begins with, and 0 for a word
abbrev number : (s : List ℕ) (x : Read) → Kind s x → ℕ
number s x (k_part t e p) = 40
number s x (k_slash t e p) = 47
number s x (k_open t e p) = 123
number s x (k_close t e p) = 125
number s x (k_stray t e p) = 41
number s x (k_word p) = 0

number_is : (s : List ℕ) (x : Read) (k : Kind s x) → class s ≡ number s x k
number_is s x (k_part t e p) = lead s t 40 refl e
number_is s x (k_slash t e p) = lead s t 47 refl e
number_is s x (k_open t e p) = lead s t 123 refl e
number_is s x (k_close t e p) = lead s t 125 refl e
number_is s x (k_stray t e p) = lead s t 41 refl e
number_is s x (k_word p) = worded_class s x p

one_kind : (s : List ℕ) (x y : Read) → Kind s x → Kind s y → x ≡ y
one_kind s x y (k_part t e p) (k_part u f q) = one_parted u x y (subst (λ z. Parted z x) (same_rest s t u 40 e f) p) q
one_kind s x y (k_slash t e p) (k_slash u f q) =
    one_slashed s u x y (subst (λ z. Slashed s z x) (same_rest s t u 47 e f) p) q
one_kind s x y (k_open t e p) (k_open u f q) = p ∙ (ap opening (same_rest s t u 123 e f) ∙ sym q)
one_kind s x y (k_close t e p) (k_close u f q) = p ∙ (ap closing (same_rest s t u 125 e f) ∙ sym q)
one_kind s x y (k_stray t e p) (k_stray u f q) = p ∙ sym q
one_kind s x y (k_word p) (k_word q) = one_worded s x y p q
one_kind s x y k l = absurd (apart (class s) (number s x k) (number s y l) (number_is s x k) (number_is s y l) refl)

one_front : (s : List ℕ) (x y : Read) → Front s x → Front s y → x ≡ y
one_front s x y a b = one_kind s x y (kind_of s x a) (kind_of s y b)

no_cons : (s t : List ℕ) (b : ℕ) → s ≡ b ∷ t → s ≡ [] → ⊥
no_cons s t b e f = cc

-- the empty text begins with nothing
front_some : (s : List ℕ) (x : Read) → Front s x → s ≡ [] → ⊥
front_some s x f e = elim (kind_of s x f) [
  | k_part t h p ↦ no_cons s t 40 h e
  | k_slash t h p ↦ no_cons s t 47 h e
  | k_open t h p ↦ no_cons s t 123 h e
  | k_close t h p ↦ no_cons s t 125 h e
  | k_stray t h p ↦ no_cons s t 41 h e
  | k_word p ↦ apart (class s) 0 1 (worded_class s x p) (ap class e ∙ class_nil) refl
]

found_same : (t u : SimpleToken) (r q : List ℕ) → found t r ≡ found u q → (t ≡ u) × (r ≡ q)
found_same t u r q e = (cc, cc)

opening_same : (r q : List ℕ) → opening r ≡ opening q → r ≡ q
opening_same r q e = cc

closing_same : (r q : List ℕ) → closing r ≡ closing q → r ≡ q
closing_same r q e = cc

one_body : (s : List ℕ) (ts us : List SimpleToken) (r q : List ℕ) → Body s ts r → Body s us q → (ts ≡ us) × (r ≡ q)
one_body _ _ _ _ _ (closes s r f) (closes _ q g) = (refl, closing_same r q (one_front (passed false s) _ _ f g))
one_body _ _ _ _ _ (closes s r f) (goes_on _ q _ u us g b) =
    let e : closing r ≡ found u q = one_front (passed false s) _ _ f g in cc
one_body _ _ _ _ _ (goes_on s r _ t ts f a) (closes _ q g) =
    let e : found t r ≡ closing q = one_front (passed false s) _ _ f g in cc
one_body _ _ _ _ _ (goes_on s r l t ts f a) (goes_on _ q m u us g b) =
    let z = found_same t u r q (one_front (passed false s) _ _ f g) in
    let y = one_body q ts us l m (subst (λ w. Body w ts l) z.1 a) b in
    (ap (λ w. w ∷ ts) z.0 ∙ ap (λ w. u ∷ w) y.0, y.1)

one_token : (s r q : List ℕ) (t u : MachineToken) → TokenAt s t r → TokenAt s u q → (t ≡ u) × (r ≡ q)
one_token s _ _ _ _ (simple_at t r f) (simple_at u q g) =
    let z = found_same t u r q (one_front s _ _ f g) in (ap simple_token z.0, z.1)
one_token s _ _ _ _ (simple_at t r f) (procedure_at o q us g b) =
    let e : found t r ≡ opening o = one_front s _ _ f g in cc
one_token s _ _ _ _ (procedure_at o r ts f a) (simple_at u q g) =
    let e : opening o ≡ found u q = one_front s _ _ f g in cc
one_token s _ _ _ _ (procedure_at o r ts f a) (procedure_at p q us g b) =
    let y = one_body p ts us r q (subst (λ w. Body w ts r) (opening_same o p (one_front s _ _ f g)) a) b in
    (ap procedure_token y.0, y.1)

body_or_none : (s : List ℕ) (ts : List SimpleToken) (r : List ℕ) (cause : Cause) → Body s ts r → NoBody s cause → ⊥
body_or_none _ _ _ _ (closes s r f) (unclosed _ e) = front_some (passed false s) (closing r) f e
body_or_none _ _ _ _ (closes s r f) (nested _ q g) =
    let e : closing r ≡ opening q = one_front (passed false s) _ _ f g in cc
body_or_none _ _ _ _ (closes s r f) (unread_within _ cause g) =
    let e : closing r ≡ unread cause = one_front (passed false s) _ _ f g in cc
body_or_none _ _ _ _ (closes s r f) (later _ q t cause g n) =
    let e : closing r ≡ found t q = one_front (passed false s) _ _ f g in cc
body_or_none _ _ _ _ (goes_on s r l t ts f a) (unclosed _ e) = front_some (passed false s) (found t r) f e
body_or_none _ _ _ _ (goes_on s r l t ts f a) (nested _ q g) =
    let e : found t r ≡ opening q = one_front (passed false s) _ _ f g in cc
body_or_none _ _ _ _ (goes_on s r l t ts f a) (unread_within _ cause g) =
    let e : found t r ≡ unread cause = one_front (passed false s) _ _ f g in cc
body_or_none _ _ _ _ (goes_on s r l t ts f a) (later _ q u cause g n) =
    let z = found_same t u r q (one_front (passed false s) _ _ f g) in
    body_or_none q ts l cause (subst (λ w. Body w ts l) z.1 a) n

not_both : (s r : List ℕ) (t : MachineToken) (cause : Cause) → TokenAt s t r → NoToken s cause → ⊥
not_both s _ _ _ (simple_at t r f) (unread_at cause g) = let e : found t r ≡ unread cause = one_front s _ _ f g in cc
not_both s _ _ _ (simple_at t r f) (closing_at q g) = let e : found t r ≡ closing q = one_front s _ _ f g in cc
not_both s _ _ _ (simple_at t r f) (no_body q cause g n) = let e : found t r ≡ opening q = one_front s _ _ f g in cc
not_both s _ _ _ (procedure_at o r ts f a) (unread_at cause g) =
    let e : opening o ≡ unread cause = one_front s _ _ f g in cc
not_both s _ _ _ (procedure_at o r ts f a) (closing_at q g) = let e : opening o ≡ closing q = one_front s _ _ f g in cc
not_both s _ _ _ (procedure_at o r ts f a) (no_body q cause g n) =
    body_or_none q ts r cause (subst (λ w. Body w ts r) (opening_same o q (one_front s _ _ f g)) a) n

some_text : (s r : List ℕ) (t : MachineToken) → TokenAt s t r → s ≡ [] → ⊥
some_text s _ _ (simple_at t r f) e = front_some s _ f e
some_text s _ _ (procedure_at o r ts f a) e = front_some s _ f e

unread_same : (c d : Cause) → unread c ≡ unread d → c ≡ d
unread_same c d e = cc

one_fault_within : (s : List ℕ) (c d : Cause) → NoBody s c → NoBody s d → c ≡ d
one_fault_within _ _ _ (unclosed s e) (unclosed _ f) = refl
one_fault_within _ _ _ (unclosed s e) (nested _ q g) = absurd (front_some (passed false s) (opening q) g e)
one_fault_within _ _ _ (unclosed s e) (unread_within _ d g) = absurd (front_some (passed false s) (unread d) g e)
one_fault_within _ _ _ (unclosed s e) (later _ q t d g n) = absurd (front_some (passed false s) (found t q) g e)
one_fault_within _ _ _ (nested s r f) (unclosed _ e) = absurd (front_some (passed false s) (opening r) f e)
one_fault_within _ _ _ (nested s r f) (nested _ q g) = refl
one_fault_within _ _ _ (nested s r f) (unread_within _ d g) =
    let e : opening r ≡ unread d = one_front (passed false s) _ _ f g in cc
one_fault_within _ _ _ (nested s r f) (later _ q t d g n) =
    let e : opening r ≡ found t q = one_front (passed false s) _ _ f g in cc
one_fault_within _ _ _ (unread_within s c f) (unclosed _ e) = absurd (front_some (passed false s) (unread c) f e)
one_fault_within _ _ _ (unread_within s c f) (nested _ q g) =
    let e : unread c ≡ opening q = one_front (passed false s) _ _ f g in cc
one_fault_within _ _ _ (unread_within s c f) (unread_within _ d g) =
    unread_same c d (one_front (passed false s) _ _ f g)
one_fault_within _ _ _ (unread_within s c f) (later _ q t d g n) =
    let e : unread c ≡ found t q = one_front (passed false s) _ _ f g in cc
one_fault_within _ _ _ (later s r t c f m) (unclosed _ e) = absurd (front_some (passed false s) (found t r) f e)
one_fault_within _ _ _ (later s r t c f m) (nested _ q g) =
    let e : found t r ≡ opening q = one_front (passed false s) _ _ f g in cc
one_fault_within _ _ _ (later s r t c f m) (unread_within _ d g) =
    let e : found t r ≡ unread d = one_front (passed false s) _ _ f g in cc
one_fault_within _ _ _ (later s r t c f m) (later _ q u d g n) =
    let z = found_same t u r q (one_front (passed false s) _ _ f g) in
    one_fault_within q c d (subst (λ w. NoBody w c) z.1 m) n

one_fault : (s : List ℕ) (c d : Cause) → NoToken s c → NoToken s d → c ≡ d
one_fault s _ _ (unread_at c f) (unread_at d g) = unread_same c d (one_front s _ _ f g)
one_fault s _ _ (unread_at c f) (closing_at q g) = let e : unread c ≡ closing q = one_front s _ _ f g in cc
one_fault s _ _ (unread_at c f) (no_body q d g n) = let e : unread c ≡ opening q = one_front s _ _ f g in cc
one_fault s _ _ (closing_at r f) (unread_at d g) = let e : closing r ≡ unread d = one_front s _ _ f g in cc
one_fault s _ _ (closing_at r f) (closing_at q g) = refl
one_fault s _ _ (closing_at r f) (no_body q d g n) = let e : closing r ≡ opening q = one_front s _ _ f g in cc
one_fault s _ _ (no_body r c f m) (unread_at d g) = let e : opening r ≡ unread d = one_front s _ _ f g in cc
one_fault s _ _ (no_body r c f m) (closing_at q g) = let e : opening r ≡ closing q = one_front s _ _ f g in cc
one_fault s _ _ (no_body r c f m) (no_body q d g n) =
    one_fault_within q c d (subst (λ w. NoBody w c) (opening_same r q (one_front s _ _ f g)) m) n

pub begins_in_one_way : BeginsInOneWay
begins_in_one_way = record { token = one_token; cause = one_fault; either = not_both; some = some_text }

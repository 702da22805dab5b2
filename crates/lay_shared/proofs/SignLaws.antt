-- The signs read from a text are those that it writes.
use Rattle.std.proofs.Common.{◌≡◌, ◌≢◌, refl, sym, ap, ◌∙◌, subst, ℕ, ◌<◌, ◌≤◌, List, [], ◌∷◌, ◌++◌, Bool, true, false}
use Rattle.std.proofs.Common.{length, arith, eqb-true, lt-ltb, append-nil, append_assoc}
use Rattle.std.proofs.lemmas.Bool.{and_parts}
use Rattle.std.proofs.lemmas.List.Quantifiers.{position-Some}
use Rattle.std.proofs.lemmas.List.Sums.{position_or_len_is}
use Rattle.std.proofs.lemmas.Slice.Eq.{bytes_eq-Decides}
use Rattle.std.specs.Prelude.{◌==◌, AllPairs, Option, Some, None, IfSome}
use Rattle.std.specs.List.{list_all, position_or_len}
use Rattle.std.specs.Option.{option_to_list}
use Rattle.std.specs.Str.{bytes_eq}
use Rattle.lay_shared.specs.declared.signs.PlanSign.{PlanSign}
use Rattle.lay_shared.specs.declared.signs.Bracket.{Bracket}
use Rattle.lay_shared.specs.Signs.{is_passed_in_plan, plan_sign_at, is_id, id_at, spelled_sign, BeginsNoId, SpellsSign}
use Rattle.lay_shared.specs.Signs.{Writes}
use Rattle.lay_shared.specs.Reading.{place_of, voice_sign, word_signs, plan_signs_from}

-- ---- bytes
abbrev IsSignOf : ℕ → Option PlanSign → Type 0
IsSignOf b o =
    IfSome o
    (λ sign.
    (ids : List (List ℕ)) (following : List ℕ) → (spelled_sign ids sign ≡ b ∷ []) × SpellsSign ids sign following)

sign_if : (b : ℕ) (o p q r s t : Bool)
    → (b == 40) ≡ o → (b == 41) ≡ p → (b == 91) ≡ q → (b == 93) ≡ r → (b == 123) ≡ s → (b == 125) ≡ t
    → IsSignOf b (plan_sign_at b)
sign_if b true p q r s t e f g h i j = rw e (λ ids following. (ap (λ x. x ∷ []) (sym (eqb-true b 40 e)), tt))
sign_if b false true q r s t e f g h i j = rw (e, f) (λ ids following. (ap (λ x. x ∷ []) (sym (eqb-true b 41 f)), tt))
sign_if b false false true r s t e f g h i j =
    rw (e, f, g) (λ ids following. (ap (λ x. x ∷ []) (sym (eqb-true b 91 g)), tt))
sign_if b false false false true s t e f g h i j =
    rw (e, f, g, h) (λ ids following. (ap (λ x. x ∷ []) (sym (eqb-true b 93 h)), tt))
sign_if b false false false false true t e f g h i j =
    rw (e, f, g, h, i) (λ ids following. (ap (λ x. x ∷ []) (sym (eqb-true b 123 i)), tt))
sign_if b false false false false false true e f g h i j =
    rw (e, f, g, h, i, j) (λ ids following. (ap (λ x. x ∷ []) (sym (eqb-true b 125 j)), tt))
sign_if b false false false false false false e f g h i j = rw (e, f, g, h, i, j) tt

sign-is : (b : ℕ) → IsSignOf b (plan_sign_at b)
sign-is b = sign_if b (b == 40) (b == 41) (b == 91) (b == 93) (b == 123) (b == 125) refl refl refl refl refl refl

passed_if : (b : ℕ) (o p q r s t : Bool)
    → (b == 32) ≡ o → (b == 9) ≡ p → (b == 124) ≡ q → (b == 42) ≡ r → (b == 43) ≡ s → (b == 126) ≡ t
    → is_passed_in_plan b ≡ true
    → plan_sign_at b ≡ None
passed_if b true p q r s t e f g h i j k = subst (λ x. plan_sign_at x ≡ None) (sym (eqb-true b 32 e)) refl
passed_if b false true q r s t e f g h i j k = subst (λ x. plan_sign_at x ≡ None) (sym (eqb-true b 9 f)) refl
passed_if b false false true r s t e f g h i j k = subst (λ x. plan_sign_at x ≡ None) (sym (eqb-true b 124 g)) refl
passed_if b false false false true s t e f g h i j k = subst (λ x. plan_sign_at x ≡ None) (sym (eqb-true b 42 h)) refl
passed_if b false false false false true t e f g h i j k =
    subst (λ x. plan_sign_at x ≡ None) (sym (eqb-true b 43 i)) refl
passed_if b false false false false false true e f g h i j k =
    subst (λ x. plan_sign_at x ≡ None) (sym (eqb-true b 126 j)) refl
passed_if b false false false false false false e f g h i j k =
    let wrong : false ≡ true = rw (e, f, g, h, i, j) at k in cc

passed-plain : (b : ℕ) → is_passed_in_plan b ≡ true → plan_sign_at b ≡ None
passed-plain b k =
    passed_if b (b == 32) (b == 9) (b == 124) (b == 42) (b == 43) (b == 126) refl refl refl refl refl refl k

either_passed : (b : ℕ) (passed : Bool)
    → is_passed_in_plan b ≡ passed → is_id b ≡ false → plan_sign_at b ≡ None → is_passed_in_plan b ≡ true
either_passed b true e h k = e
either_passed b false e h k = let wrong : true ≡ false = rw (e, k) at h in cc

-- ---- what is read is written
abbrev pub is_known : PlanSign → Bool
is_known PlanSign.UnknownVoice = false
is_known _ = true

passed-first : (ids : List (List ℕ)) (ss : List PlanSign) (b : ℕ) (text : List ℕ)
    → is_passed_in_plan b ≡ true → Writes ids ss text → Writes ids ss (b ∷ text)
passed-first ids [] b text e h = rw (e, h) refl
passed-first ids (sign ∷ ss) b text e (following, first, more) = (
  following,
  record {
    passed = b ∷ first.passed;
    over = rw (e, first.over) refl;
    cut = ap (λ t. b ∷ t) first.cut;
    stands = first.stands;
  },
  more,
)

byte_by : (ids : List (List ℕ)) (ss : List PlanSign) (b : ℕ) (text : List ℕ) (o : Option PlanSign)
    → plan_sign_at b ≡ o → IsSignOf b o → is_id b ≡ false → Writes ids ss text
    → Writes ids (option_to_list o ++ ss) (b ∷ text)
byte_by ids ss b text None e is h more =
    passed-first ids ss b text (either_passed b (is_passed_in_plan b) refl h e) more
byte_by ids ss b text (Some sign) e is h more =
    let parts = is ids text in
    (text, record { passed = []; over = refl; cut = ap (λ s. s ++ text) (sym parts.0); stands = parts.1 }, more)

word_by : (ids : List (List ℕ)) (ss : List PlanSign) (b : ℕ) (word following : List ℕ) (o : Option ℕ)
    → place_of (b ∷ word) ids ≡ o → list_all is_id (b ∷ word) ≡ true → BeginsNoId following
    → list_all is_known (voice_sign o ∷ ss) ≡ true → Writes ids ss following
    → Writes ids (voice_sign o ∷ ss) ((b ∷ word) ++ following)
word_by ids ss b word following None e all parted known more = let wrong : false ≡ true = known in cc
word_by ids ss b word following (Some v) e all parted known more =
    let at = position-Some (λ id. bytes_eq id (b ∷ word)) ids v [] e in
    let same : id_at ids v ≡ b ∷ word = (bytes_eq-Decides (id_at ids v) (b ∷ word)).0 at.1 in (
      following,
      record {
        passed = [];
        over = refl;
        cut = ap (λ s. s ++ following) (sym same);
        stands = record { known = at.0; some = rw same (omega arith); whole = rw same all; parted = parted };
      },
      more,
    )

word-written : (ids : List (List ℕ)) (ss : List PlanSign) (word following : List ℕ)
    → list_all is_id word ≡ true → BeginsNoId following
    → list_all is_known (word_signs ids word ++ ss) ≡ true → Writes ids ss following
    → Writes ids (word_signs ids word ++ ss) (word ++ following)
word-written ids ss [] following all parted known more = more
word-written ids ss (b ∷ word) following all parted known more =
    word_by ids ss b word following (place_of (b ∷ word) ids) refl all parted known more

known_after : (rs ss : List PlanSign) → list_all is_known (rs ++ ss) ≡ true → list_all is_known ss ≡ true
known_after [] ss h = h
known_after (r ∷ rs) ss h = known_after rs ss (and_parts _ _ h).1

id_more : (word : List ℕ) (b : ℕ) → list_all is_id word ≡ true → is_id b ≡ true → list_all is_id (word ++ b ∷ []) ≡ true
id_more [] b all e = rw e refl
id_more (c ∷ word) b all e =
    let parts = and_parts (is_id c) (list_all is_id word) all in
    let more = id_more word b parts.1 e in
    rw (parts.0, more) refl

written_if : (ids : List (List ℕ)) (word : List ℕ) (b : ℕ) (text : List ℕ) (is : Bool)
    → is_id b ≡ is → list_all is_id word ≡ true → list_all is_known (plan_signs_from ids word (b ∷ text)) ≡ true
    → ((w : List ℕ) → list_all is_id w ≡ true → list_all is_known (plan_signs_from ids w text) ≡ true
    → Writes ids (plan_signs_from ids w text) (w ++ text))
    → Writes ids (plan_signs_from ids word (b ∷ text)) (word ++ b ∷ text)
written_if ids word b text true e all known more =
    let inside : list_all is_known (plan_signs_from ids (word ++ b ∷ []) text) ≡ true = rw e at known in
    let there = more (word ++ b ∷ []) (id_more word b all e) inside in
    rw e (subst (Writes ids (plan_signs_from ids (word ++ b ∷ []) text)) (append_assoc word (b ∷ []) text) there)
written_if ids word b text false e all known more =
    let split : list_all is_known
    (word_signs ids word ++ (option_to_list (plan_sign_at b) ++ plan_signs_from ids [] text)) ≡ true = rw e at known in
    let following =
    known_after (word_signs ids word) (option_to_list (plan_sign_at b) ++ plan_signs_from ids [] text) split in
    let there = more [] refl (known_after (option_to_list (plan_sign_at b)) (plan_signs_from ids [] text) following) in
    let byte = byte_by ids (plan_signs_from ids [] text) b text (plan_sign_at b) refl (sign-is b) e there in
    rw e (word-written ids (option_to_list (plan_sign_at b) ++ plan_signs_from ids [] text) word (b ∷ text) all e split
    byte)

signs-written : (ids : List (List ℕ)) (text word : List ℕ)
    → list_all is_id word ≡ true → list_all is_known (plan_signs_from ids word text) ≡ true
    → Writes ids (plan_signs_from ids word text) (word ++ text)
signs-written ids [] word all known =
    let whole = append-nil (word_signs ids word) in
    let same : list_all is_known (word_signs ids word ++ []) ≡ true = rw whole known in
    subst (λ ss. Writes ids ss (word ++ [])) whole (word-written ids [] word [] all tt same refl)
signs-written ids (b ∷ text) word all known =
    written_if ids word b text (is_id b) refl all known (signs-written ids text)

pub text-written : (ids : List (List ℕ)) (text : List ℕ)
    → list_all is_known (plan_signs_from ids [] text) ≡ true → Writes ids (plan_signs_from ids [] text) text
text-written ids text known = signs-written ids text [] refl known

-- ---- what is written is read
over-passed : (ids : List (List ℕ)) (passed text : List ℕ)
    → list_all is_passed_in_plan passed ≡ true → plan_signs_from ids [] (passed ++ text) ≡ plan_signs_from ids [] text
over-passed ids [] text h = refl
over-passed ids (b ∷ passed) text h =
    let parts = and_parts _ _ h in
    let here : is_passed_in_plan b ≡ true = parts.0 in
    let plain = passed-plain b here in
    rw (here, plain) (over-passed ids passed text parts.1)

over-word : (ids : List (List ℕ)) (more word text : List ℕ)
    → list_all is_id more ≡ true → plan_signs_from ids word (more ++ text) ≡ plan_signs_from ids (word ++ more) text
over-word ids [] word text h = ap (λ w. plan_signs_from ids w text) (sym (append-nil word))
over-word ids (b ∷ more) word text h =
    let parts = and_parts _ _ h in
    let here : is_id b ≡ true = parts.0 in
    rw here (over-word ids more (word ++ b ∷ []) text parts.1
    ∙ ap (λ w. plan_signs_from ids w text) (append_assoc word (b ∷ []) more))

word-ends : (ids : List (List ℕ)) (word text : List ℕ)
    → BeginsNoId text → plan_signs_from ids word text ≡ word_signs ids word ++ plan_signs_from ids [] text
word-ends ids word [] h = sym (append-nil (word_signs ids word))
word-ends ids word (b ∷ text) h = let none : is_id b ≡ false = h in rw none refl

abbrev pub AreApart : List (List ℕ) → Type 0
AreApart ids = AllPairs (λ i j. i ≢ j) ids

unlike : (ids : List (List ℕ)) (k v : ℕ)
    → AreApart ids → k < v → v < length ids → (same : Bool) → bytes_eq (id_at ids k) (id_at ids v) ≡ same
    → bytes_eq (id_at ids k) (id_at ids v) ≡ false
unlike ids k v apart below inside true e =
    absurd (apart k v [] below inside ((bytes_eq-Decides (id_at ids k) (id_at ids v)).0 e))
unlike ids k v apart below inside false e = e

place-found : (ids : List (List ℕ)) (v : ℕ) → AreApart ids → v < length ids → place_of (id_at ids v) ids ≡ Some v
place-found ids v apart inside =
    let itself : bytes_eq (id_at ids v) (id_at ids v) ≡ true = (bytes_eq-Decides (id_at ids v) (id_at ids v)).1 refl in
    let first : position_or_len (λ id. bytes_eq id (id_at ids v)) ids ≡ v =
    position_or_len_is (λ id. bytes_eq id (id_at ids v)) ids v [] (omega (arith, inside))
    (λ k below. unlike ids k v apart below inside (bytes_eq (id_at ids k) (id_at ids v)) refl) (λ below. itself) in
    let within = lt-ltb v (length ids) inside in rw (first, within) refl

voice_read : (ids : List (List ℕ)) (v : ℕ) (word : List ℕ)
    → place_of word ids ≡ Some v → 1 ≤ length word → word_signs ids word ≡ PlanSign.Voice v ∷ []
voice_read ids v [] e some = absurd (omega (arith, some))
voice_read ids v (b ∷ word) e some = ap (λ o. voice_sign o ∷ []) e

sign-read : (ids : List (List ℕ)) (sign : PlanSign) (following : List ℕ)
    → AreApart ids → SpellsSign ids sign following
    → plan_signs_from ids [] (spelled_sign ids sign ++ following) ≡ sign ∷ plan_signs_from ids [] following
sign-read ids (PlanSign.Voice v) following apart stands =
    over-word ids (id_at ids v) [] following stands.whole ∙ word-ends ids (id_at ids v) following stands.parted
    ∙ ap (λ ss. ss ++ plan_signs_from ids [] following)
    (voice_read ids v (id_at ids v) (place-found ids v apart stands.known) stands.some)
sign-read ids PlanSign.UnknownVoice following apart stands = absurd stands
sign-read ids (PlanSign.Opens Bracket.Square) following apart stands = refl
sign-read ids (PlanSign.Ends Bracket.Square) following apart stands = refl
sign-read ids sign following apart stands = refl

pub text-read : (ids : List (List ℕ)) (ss : List PlanSign) (text : List ℕ)
    → AreApart ids → Writes ids ss text → plan_signs_from ids [] text ≡ ss
text-read ids [] text apart h = ap (plan_signs_from ids []) (sym (append-nil text)) ∙ over-passed ids text [] h
text-read ids (sign ∷ ss) text apart (following, first, more) =
    ap (plan_signs_from ids []) first.cut
    ∙ over-passed ids first.passed (spelled_sign ids sign ++ following) first.over
    ∙ sign-read ids sign following apart first.stands
    ∙ ap (λ rest. sign ∷ rest) (text-read ids ss following apart more)

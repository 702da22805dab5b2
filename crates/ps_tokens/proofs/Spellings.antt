-- What spells a byte, what begins to spell one, and what does neither.
use Rattle.std.proofs.Common.{◌≡◌, ℕ, ◌+◌, ◌-◌, ◌*◌, ◌/◌, ◌%◌, ◌<◌, ◌≤◌, Bool, true, false, List, [], ◌∷◌, ◌++◌}
use Rattle.std.proofs.Common.{append-nil, length, length-append, refl, sym, ◌∙◌, ap, arith, IsTrue, true≢false}
use Rattle.std.proofs.lemmas.Bool.Decides.{nat_tests}
use Rattle.ps_text.specs.Fields.{is_special, shown}
use Rattle.ps_text.specs.Range.{is_shown}
use Rattle.ps_text.proofs.Shown.{is_open, is_close, is_slash, is_plain, is_high, sort_of, shown_open, shown_close}
use Rattle.ps_text.proofs.Shown.{shown_slash, shown_plain, shown_octal, shown_range, head_equal, as_it_is, as_digits}
use Rattle.ps_text.proofs.Shown.{escaped_of}
use Rattle.ps_tokens.specs.Spelling.{is_bare, is_lead, is_octal, IsByte, IsCut, IsBroken}

bare_good : (b : ℕ) → is_bare b ≡ true → IsTrue (is_shown b)
unfolding is_shown
bare_good b e = grind (arith, nat_tests)

special_good : (b : ℕ) → is_special b ≡ true → IsTrue (is_shown b)
unfolding is_shown
special_good b e = grind (arith, nat_tests)

high_good : (b : ℕ) → 160 ≤ b → b < 256 → IsTrue (is_shown b)
unfolding is_shown
high_good b l m = grind (arith, nat_tests)

bare_shown : (b : ℕ) → is_bare b ≡ true → shown b ≡ b ∷ []
bare_shown b e =
    shown_plain b (grind (arith, nat_tests)) (λ k. grind (arith, nat_tests)) (λ k. grind (arith, nat_tests))
    (λ k. grind (arith, nat_tests))

special_shown : (b : ℕ) → is_special b ≡ true → shown b ≡ 92 ∷ b ∷ []
unfolding shown
special_shown b e = rw e refl

-- a byte as itself, after a backslash, and as three octal digits
pub bare_byte : (b : ℕ) (s : List ℕ) → is_bare b ≡ true → IsByte (b ∷ s) b s
bare_byte b s e = record { good = bare_good b e; spelled = ap (λ x. x ++ s) (sym (bare_shown b e)) }

pub special_byte : (b : ℕ) (s : List ℕ) → is_special b ≡ true → IsByte (92 ∷ b ∷ s) b s
special_byte b s e = record { good = special_good b e; spelled = ap (λ x. x ++ s) (sym (special_shown b e)) }

three : (a b c x y z : ℕ) (s : List ℕ) → a ≡ x → b ≡ y → c ≡ z → 92 ∷ a ∷ b ∷ c ∷ s ≡ 92 ∷ x ∷ y ∷ z ∷ s
three a b c x y z s e f g = cc

octal_at : (a b c z : ℕ) (s : List ℕ)
    → 160 ≤ z → z < 256 → a ≡ 48 + z / 64 → b ≡ 48 + z / 8 % 8 → c ≡ 48 + z % 8 → IsByte (92 ∷ a ∷ b ∷ c ∷ s) z s
octal_at a b c z s l m e f g =
    record { good = high_good z l m; spelled = three a b c _ _ _ s e f g ∙ ap (λ x. x ++ s) (sym (shown_octal z l)) }

lead_range : (a : ℕ) → is_lead a ≡ true → (50 ≤ a) × (a ≤ 51)
lead_range a e = grind (arith, nat_tests)

octal_range : (b : ℕ) → is_octal b ≡ true → (48 ≤ b) × (b ≤ 55)
octal_range b e = grind (arith, nat_tests)

octal_numbers : (x y z : ℕ) (s : List ℕ)
    → x ≤ 3 → y ≤ 7 → z ≤ 7 → 160 ≤ x * 64 + y * 8
    → IsByte (92 ∷ (48 + x) ∷ (48 + y) ∷ (48 + z) ∷ s) (x * 64 + y * 8 + z) s
octal_numbers x y z s h k l m =
    octal_at (48 + x) (48 + y) (48 + z) (x * 64 + y * 8 + z) s (omega arith) (omega arith) (omega arith) (omega arith)
    (omega arith)

pub octal_byte : (a b c : ℕ) (s : List ℕ)
    → is_lead a ≡ true → is_octal b ≡ true → is_octal c ≡ true → 160 ≤ (a - 48) * 64 + (b - 48) * 8
    → IsByte (92 ∷ a ∷ b ∷ c ∷ s) ((a - 48) * 64 + (b - 48) * 8 + (c - 48)) s
octal_byte a b c s e f g l =
    let x = lead_range a e in
    let y = octal_range b f in
    let z = octal_range c g in
    let i : a ≡ 48 + (a - 48) = omega (arith, x.0) in
    let j : b ≡ 48 + (b - 48) = omega (arith, y.0) in
    let k : c ≡ 48 + (c - 48) = omega (arith, z.0) in
    let o =
    octal_numbers (a - 48) (b - 48) (c - 48) s (omega (arith, x.1)) (omega (arith, y.1)) (omega (arith, z.1)) l in
    record { good = o.good; spelled = three a b c _ _ _ s i j k ∙ o.spelled }

-- the beginnings of a spelled byte
cut_of : (s : List ℕ) (first : ℕ) (more : List ℕ) (b : ℕ) → IsByte (s ++ first ∷ more) b [] → IsCut s
cut_of s first more b i =
    record { byte = b; first = first; more = more; good = i.good; spelled = i.spelled ∙ append-nil (shown b) }

pub cut_nil : IsCut []
cut_nil = cut_of [] 92 (92 ∷ []) 92 (special_byte 92 [] refl)

pub cut_slash : IsCut (92 ∷ [])
cut_slash = cut_of (92 ∷ []) 92 [] 92 (special_byte 92 [] refl)

pub cut_first : (a : ℕ) → is_lead a ≡ true → IsCut (92 ∷ a ∷ [])
cut_first a e =
    let x = lead_range a e in
    cut_of (92 ∷ a ∷ []) 52 (48 ∷ []) _ (octal_byte a 52 48 [] e refl refl (omega (arith, x.0)))

pub cut_second : (a b : ℕ)
    → is_lead a ≡ true → is_octal b ≡ true → 160 ≤ (a - 48) * 64 + (b - 48) * 8 → IsCut (92 ∷ a ∷ b ∷ [])
cut_second a b e f l = cut_of (92 ∷ a ∷ b ∷ []) 48 [] _ (octal_byte a b 48 [] e f refl l)

-- no string continues with these
differ : (a b : ℕ) (p : ℕ → Bool) → a ≡ b → p a ≡ false → p b ≡ true → ⊥
differ a b p e f g = true≢false (sym g ∙ (sym (ap p e) ∙ f))

apart : (x y : ℕ) (s t : List ℕ) → (x ≡ y → ⊥) → x ∷ s ≡ y ∷ t → ⊥
apart x y s t n e = n (head_equal x y s t e)

pub broken_bare : (b : ℕ) (s : List ℕ) → (b ≡ 41 → ⊥) → (b ≡ 92 → ⊥) → is_bare b ≡ false → IsBroken (b ∷ s)
broken_bare b s p q n = record { no_byte = byte; no_close = λ t u e. apart b 41 (s ++ t) u p e }
  where
    plain : (c : ℕ) → IsTrue (is_shown c) → c < 127 → (c ≡ 40 → ⊥) → (c ≡ 41 → ⊥) → (c ≡ 92 → ⊥) → is_bare c ≡ true
    plain c h l f g k = let r = shown_range c h (λ x. omega (arith, x, l)) in let low = r.0 in grind (arith, nat_tests)

    byte : (c : ℕ) (t u : List ℕ) → IsTrue (is_shown c) → b ∷ (s ++ t) ≡ shown c ++ u → ⊥
    byte c t u h e = elim (sort_of c h) [
      | is_open k ↦ apart b 92 (s ++ t) (40 ∷ u) q (rw (k, shown_open) at e)
      | is_close k ↦ apart b 92 (s ++ t) (41 ∷ u) q (rw (k, shown_close) at e)
      | is_slash k ↦ apart b 92 (s ++ t) (92 ∷ u) q (rw (k, shown_slash) at e)
      | is_plain l f g r ↦
          differ b c is_bare (head_equal b c (s ++ t) u (rw (shown_plain c l f g r) at e)) n (plain c h l f g r)
      | is_high l m ↦ apart b 92 (s ++ t) _ q (rw (shown_octal c l) at e)
    ]

record Digits (b : ℕ) (s u : List ℕ) : Type 0 where
  low : 160 ≤ b
  high : b < 256
  is : s ≡ (48 + b / 64) ∷ (48 + b / 8 % 8) ∷ (48 + b % 8) ∷ u

digits_of : (b a : ℕ) (s u : List ℕ)
    → is_special a ≡ false → IsTrue (is_shown b) → 92 ∷ a ∷ s ≡ shown b ++ u → Digits b (a ∷ s) u
digits_of b a s u n h e = elim (escaped_of b (a ∷ s) u h e) [
  | as_it_is f k ↦ absurd (differ a b is_special (head_equal a b s u k) n f)
  | as_digits l m k ↦ record { low = l; high = m; is = k }
]

broken_slash : (a : ℕ) (s : List ℕ)
    → is_special a ≡ false → ((b : ℕ) (t u : List ℕ) → Digits b (a ∷ (s ++ t)) u → ⊥) → IsBroken (92 ∷ a ∷ s)
broken_slash a s n f = record {
  no_byte = λ b t u h e. f b t u (digits_of b a (s ++ t) u n h e);
  no_close = λ t u e. apart 92 41 (a ∷ (s ++ t)) u (λ k. omega (arith, k)) e;
}

second_equal : (a b x y : ℕ) (s t : List ℕ) → a ∷ b ∷ s ≡ x ∷ y ∷ t → b ≡ y
second_equal a b x y s t e = cc

third_equal : (a b c x y z : ℕ) (s t : List ℕ) → a ∷ b ∷ c ∷ s ≡ x ∷ y ∷ z ∷ t → c ≡ z
third_equal a b c x y z s t e = cc

lead_of : (b : ℕ) → 160 ≤ b → b < 256 → is_lead (48 + b / 64) ≡ true
lead_of b l m = grind (arith, nat_tests)

octal_of : (b : ℕ) → is_octal (48 + b % 8) ≡ true
octal_of b = grind (arith, nat_tests)

pub broken_first : (a : ℕ) (s : List ℕ) → is_special a ≡ false → is_lead a ≡ false → IsBroken (92 ∷ a ∷ s)
broken_first a s n f =
    broken_slash a s n
    (λ b t u d. differ a (48 + b / 64) is_lead (head_equal a (48 + b / 64) (s ++ t) _ d.is) f (lead_of b d.low d.high))

special_lead : (a : ℕ) → is_lead a ≡ true → is_special a ≡ false
special_lead a e = grind (arith, nat_tests)

pub broken_second : (a c : ℕ) (s : List ℕ) → is_special a ≡ false → is_octal c ≡ false → IsBroken (92 ∷ a ∷ c ∷ s)
broken_second a c s n f =
    broken_slash a (c ∷ s) n (λ b t u d.
    differ c (48 + b / 8 % 8) is_octal (second_equal a c (48 + b / 64) (48 + b / 8 % 8) (s ++ t) _ d.is) f
    (octal_of (b / 8)))

low_digits : (a c b : ℕ) → a ≡ 48 + b / 64 → c ≡ 48 + b / 8 % 8 → 160 ≤ b → (a - 48) * 64 + (c - 48) * 8 < 160 → ⊥
low_digits a c b e f l m = omega arith

pub broken_low : (a c : ℕ) (s : List ℕ)
    → is_lead a ≡ true → (a - 48) * 64 + (c - 48) * 8 < 160 → IsBroken (92 ∷ a ∷ c ∷ s)
broken_low a c s e m =
    broken_slash a (c ∷ s) (special_lead a e) (λ b t u d.
    low_digits a c b (head_equal a (48 + b / 64) (c ∷ (s ++ t)) _ d.is)
    (second_equal a c (48 + b / 64) (48 + b / 8 % 8) (s ++ t) _ d.is) d.low m)

pub broken_third : (a c x : ℕ) (s : List ℕ) → is_lead a ≡ true → is_octal x ≡ false → IsBroken (92 ∷ a ∷ c ∷ x ∷ s)
broken_third a c x s e f =
    broken_slash a (c ∷ x ∷ s) (special_lead a e) (λ b t u d.
    differ x (48 + b % 8) is_octal (third_equal a c x (48 + b / 64) (48 + b / 8 % 8) (48 + b % 8) (s ++ t) u d.is) f
    (octal_of b))

shown_some : (b : ℕ) → IsTrue (is_shown b) → 1 ≤ length (shown b)
shown_some b h = elim (sort_of b h) [
  | is_open k ↦ rw (k, shown_open) (omega arith)
  | is_close k ↦ rw (k, shown_close) (omega arith)
  | is_slash k ↦ rw (k, shown_slash) (omega arith)
  | is_plain l f g r ↦ rw (shown_plain b l f g r) (omega arith)
  | is_high l m ↦ rw (shown_octal b l) (omega arith)
]

pub byte_shorter : (s : List ℕ) (b : ℕ) (rest : List ℕ) → IsByte s b rest → length rest < length s
byte_shorter s b rest i =
    let x = shown_some b i.good in omega (arith, ap length i.spelled, length-append (shown b) rest)

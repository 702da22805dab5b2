-- Reading a tuplet gives the longest one.
use Rattle.std.proofs.Common.{◌≡◌, ℕ, ◌≤◌, ◌<◌, true, List, [], ◌∷◌, ◌++◌, length, Option, Some, None, refl, ap, ◌∙◌}
use Rattle.std.proofs.Common.{arith, inl, inr, ◌⊎◌, IfSome, length-append}
use Rattle.std.proofs.lemmas.Bool.{cond_both}
use Rattle.abc_notes.specs.Runs.{maybe, skip}
use Rattle.abc_notes.specs.Lengths.{IsCount, number_at}
use Rattle.abc_notes.proofs.RunLaws.{skip-takes, skip-yes, skip-less, length-skip}
use Rattle.abc_notes.proofs.LengthLaws.{number-takes, number-count, length-number, count-reads, count-stops}
use Rattle.abc_pieces.specs.Tuplets.{TupletForm, bare, with_q, with_r, is_tuplet_digit, tuplet_then, IsTuplet, after_q}
use Rattle.abc_pieces.specs.Tuplets.{after_p, tuplet_at}

abbrev tuplet_with : TupletForm → List ℕ → TupletForm × List ℕ
tuplet_with f x = (f, x)

abbrev Good : List ℕ → TupletForm × List ℕ → Type 0
Good s z = IsTuplet z.0 × (s ≡ tuplet_then z.0 z.1)

q-takes : (p : ℕ) (s t : List ℕ) → is_tuplet_digit p ≡ true → s ≡ p ∷ 58 ∷ t → Good s (after_q p (number_at 1 t))
q-takes p s t digit cut =
    let q = number_at 1 t in
    let colon = skip 58 q.1 in
    let r = number_at 2 colon.1 in
    let whole : s ≡ p ∷ 58 ∷ (q.0 ++ q.1) = cut ∙ ap (λ u. p ∷ 58 ∷ u) (number-takes 1 t) in
    cond_both {A = TupletForm × List ℕ} colon.0 (with_r p q.0 r.0, r.1) (with_q p q.0, q.1) (Good s)
    (λ e. (
      (digit, number-count 1 t, number-count 2 colon.1),
      whole
          ∙ ap (λ u. p ∷ 58 ∷ (q.0 ++ u))
          (skip-takes 58 q.1 ∙ ap (λ b. maybe b 58 colon.1) e ∙ ap (λ u. 58 ∷ u) (number-takes 2 colon.1)),
    ))
    (λ e. ((digit, number-count 1 t), whole))

p-takes : (p : ℕ) (t : List ℕ) → is_tuplet_digit p ≡ true → Good (p ∷ t) (after_p p t)
p-takes p t digit =
    let colon = skip 58 t in
    cond_both {A = TupletForm × List ℕ} colon.0 (after_q p (number_at 1 colon.1)) (bare p, t) (Good (p ∷ t))
    (λ e. q-takes p (p ∷ t) colon.1 digit (ap (λ u. p ∷ u) (skip-takes 58 t ∙ ap (λ b. maybe b 58 colon.1) e)))
    (λ e. (digit, refl))

abbrev pub TakesTuplet : List ℕ → Option (TupletForm × List ℕ) → Type 0
TakesTuplet s r = IfSome r (λ z. IsTuplet z.0 × (s ≡ tuplet_then z.0 z.1))

pub tuplet_at-takes : (s : List ℕ) → TakesTuplet s (tuplet_at s)
unfolding tuplet_at
tuplet_at-takes [] = tt
tuplet_at-takes (p ∷ t) =
    cond_both {A = Option (TupletForm × List ℕ)} (is_tuplet_digit p) (Some (after_p p t)) None (TakesTuplet (p ∷ t))
    (λ e. p-takes p t e) (λ e. tt)

-- ---- the longest
abbrev Ends : List ℕ → TupletForm → TupletForm × List ℕ → Type 0
Ends x f z = (length z.1 < length x) ⊎ (z ≡ tuplet_with f x)

length-after_q : (p : ℕ) (q : List ℕ × List ℕ) → length (after_q p q).1 ≤ length q.1
length-after_q p q =
    let colon = skip 58 q.1 in let r = number_at 2 colon.1 in
    cond_both {A = TupletForm × List ℕ} colon.0 (with_r p q.0 r.0, r.1) (with_q p q.0, q.1)
    (λ z. length z.1 ≤ length q.1)
    (λ e. omega (arith, length-skip 58 q.1, length-number 2 colon.1)) (λ e. omega arith)

bare-reaches : (p : ℕ) (x : List ℕ) → Ends x (bare p) (after_p p x)
bare-reaches p x =
    elim (skip-less 58 x) [
      | inl shorter ↦
          let colon = skip 58 x in
          cond_both {A = TupletForm × List ℕ} colon.0 (after_q p (number_at 1 colon.1)) (bare p, x) (Ends x (bare p))
          (λ e. inl (omega (arith, shorter.0, length-number 1 colon.1, length-after_q p (number_at 1 colon.1))))
          (λ e. inr refl)
      | inr same ↦ inr (rw same refl)
    ]

after_colon : (p : ℕ) (t : List ℕ) → after_p p (58 ∷ t) ≡ after_q p (number_at 1 t)
after_colon p t = rw (skip-yes 58 t) refl

q-reaches : (p : ℕ) (q x : List ℕ) → IsCount 1 q → Ends x (with_q p q) (after_q p (number_at 1 (q ++ x)))
q-reaches p q x good =
    elim (count-reads 1 q x good) [
      | inl shorter ↦ inl (omega (arith, shorter.0, length-after_q p (number_at 1 (q ++ x))))
      | inr same ↦ rw same (elim (skip-less 58 x) [
        | inl less ↦
            let colon = skip 58 x in let r = number_at 2 colon.1 in
            cond_both {A = TupletForm × List ℕ} colon.0 (with_r p q r.0, r.1) (with_q p q, x) (Ends x (with_q p q))
            (λ e. inl (omega (arith, less.0, length-number 2 colon.1))) (λ e. inr refl)
        | inr all ↦ inr (rw all refl)
      ])
    ]

r-reads : (p : ℕ) (q r x : List ℕ)
    → IsCount 1 q
    → after_q p (number_at 1 (q ++ (58 ∷ (r ++ x))))
    ≡ tuplet_with (with_r p q (number_at 2 (r ++ x)).0) (number_at 2 (r ++ x)).1
r-reads p q r x good = rw (count-stops 1 q 58 (r ++ x) refl good, skip-yes 58 (r ++ x)) refl

r-reaches : (p : ℕ) (q r x : List ℕ)
    → IsCount 1 q → IsCount 2 r → Ends x (with_r p q r) (after_q p (number_at 1 (q ++ (58 ∷ (r ++ x)))))
r-reaches p q r x good small =
    rw (r-reads p q r x good)
    (elim (count-reads 2 r x small) [ inl shorter ↦ inl shorter.0 | inr same ↦ inr (rw same refl) ])

at_digit : (p : ℕ) (t : List ℕ) → is_tuplet_digit p ≡ true → tuplet_at (p ∷ t) ≡ Some (after_p p t)
unfolding tuplet_at
at_digit p t h = rw h refl

pub tuplet_at-reaches : (f : TupletForm) (x : List ℕ)
    → IsTuplet f
    → (z : TupletForm × List ℕ) × (tuplet_at (tuplet_then f x) ≡ Some z) × ((length z.1 < length x) ⊎ (z ≡ (f, x)))
tuplet_at-reaches (bare p) x good = (after_p p x, at_digit p x good, bare-reaches p x)
tuplet_at-reaches (with_q p q) x good = (
  after_q p (number_at 1 (q ++ x)),
  at_digit p (58 ∷ (q ++ x)) good.0 ∙ ap Some (after_colon p (q ++ x)),
  q-reaches p q x good.1,
)
tuplet_at-reaches (with_r p q r) x good = (
  after_q p (number_at 1 (q ++ (58 ∷ (r ++ x)))),
  at_digit p (58 ∷ (q ++ (58 ∷ (r ++ x)))) good.0 ∙ ap Some (after_colon p (q ++ (58 ∷ (r ++ x)))),
  r-reaches p q r x good.1 good.2,
)

pub tuplet-longer : (f : TupletForm) (x : List ℕ) → length x < length (tuplet_then f x)
tuplet-longer (bare p) x = omega arith
tuplet-longer (with_q p q) x = omega (arith, length-append q x)
tuplet-longer (with_r p q r) x = omega (arith, length-append q (58 ∷ (r ++ x)), length-append r x)

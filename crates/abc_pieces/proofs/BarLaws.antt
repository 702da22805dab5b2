-- Reading a bar gives the longest one.
use Rattle.std.proofs.Common.{◌≡◌, ℕ, zero, suc, ◌+◌, ◌≤◌, ◌<◌, Bool, true, false, cond, eqb, ltb, List, ◌∷◌, length}
use Rattle.std.proofs.Common.{refl, sym, ap, subst, ◌∙◌, arith, Option, Some, None, ◌⊎◌, inl, inr, add-zero, ◌||◌}
use Rattle.std.proofs.lemmas.Bool.{cond_both, eqb-true, ne_eqb, le-ltb, ltb-false, or_parts}
use Rattle.abc_notes.specs.Runs.{copies, maybe, run_off, skip, begins}
use Rattle.abc_notes.proofs.RunLaws.{Lacks, run_off-takes, skip-takes, run_off-copies, run_off-lacks, skip-lacks}
use Rattle.abc_notes.proofs.RunLaws.{skip-maybe, skip-yes, length-run_off, length-skip, run_off-less, skip-less}
use Rattle.abc_notes.proofs.RunLaws.{begins_wider}
use Rattle.abc_pieces.specs.Bars.{BarForm, signs, colons, spelled, IsGoodBar, form_at}

-- what is read is at the start
pub record Takes (s : List ℕ) (x : BarForm × List ℕ) : Type 0 where
  pub good : IsGoodBar x.0
  pub cut : s ≡ spelled x.0 x.1

abbrev pub TakesIf : List ℕ → Option (BarForm × List ℕ) → Type 0
TakesIf s None = Unit {0}
TakesIf s (Some x) = Takes s x

one_up : (n : ℕ) → eqb n 0 ≡ false → 1 ≤ n
one_up zero e = absurd cc
one_up (suc n) e = omega arith

pub form_at-takes : (s : List ℕ) → TakesIf s (form_at s)
unfolding form_at
form_at-takes s =
    let d = skip 46 s in
    let b = run_off 58 d.1 in
    let o = skip 91 b.1 in
    let n = run_off 124 o.1 in
    let c = skip 93 n.1 in
    let a = run_off 58 c.1 in
    cond_both {A = Option (BarForm × List ℕ)} (eqb n.0 0) (cond (d.0 || ltb b.0 2) None (Some (colons b.0, b.1)))
    (Some (signs d.0 b.0 o.0 n.0 c.0 a.0, a.1)) (TakesIf s)
    (λ e.
    cond_both {A = Option (BarForm × List ℕ)} (d.0 || ltb b.0 2) None (Some (colons b.0, b.1)) (TakesIf s) (λ f. tt)
    (λ f. let p = or_parts d.0 (ltb b.0 2) f in
    record { good = ltb-false b.0 2 p.1; cut = skip-takes 46 s ∙ rw p.0 (run_off-takes 58 d.1) }))
    (λ e. record {
      good = one_up n.0 e;
      cut = skip-takes 46 s
          ∙ ap (maybe d.0 46)
          (run_off-takes 58 d.1
          ∙ ap (copies b.0 58)
          (skip-takes 91 b.1
          ∙ ap (maybe o.0 91)
          (run_off-takes 124 o.1
          ∙ ap (copies n.0 124) (skip-takes 93 n.1 ∙ ap (maybe c.0 93) (run_off-takes 58 c.1)))));
    })

-- a reading that leaves less than x, or that leaves exactly x and is then this form
abbrev pub goes_on : ℕ → Bool
goes_on b = eqb b 124 || eqb b 93 || eqb b 58 || eqb b 91

abbrev pub Reaches : BarForm → List ℕ → Option (BarForm × List ℕ) → Type 0
Reaches f x read =
    (z : BarForm × List ℕ) × (read ≡ Some z) × (((length z.1 < length x) × (begins goes_on x ≡ true)) ⊎ (z ≡ (f, x)))

on : (k : ℕ) (x : List ℕ) → goes_on k ≡ true → begins (λ b. eqb b k) x ≡ true → begins goes_on x ≡ true
on k x h e =
    begins_wider (λ b. eqb b k) goes_on x (λ b t. subst (λ (n : ℕ). goes_on n ≡ true) (sym (eqb-true b k t)) h) e

lacks_dot : (b : ℕ) (o : Bool) (s : List ℕ) → Lacks 46 (copies b 58 (maybe o 91 (124 ∷ s)))
lacks_dot zero true s = refl
lacks_dot zero false s = refl
lacks_dot (suc b) o s = refl

lacks_colon : (o : Bool) (s : List ℕ) → Lacks 58 (maybe o 91 (124 ∷ s))
lacks_colon true s = refl
lacks_colon false s = refl

-- what precedes the last bar sign is read as written
signs-read : (d : Bool) (b : ℕ) (o : Bool) (m : ℕ) (s : List ℕ) →
    let n = run_off 124 s in
    let c = skip 93 n.1 in
    let a = run_off 58 c.1 in
    form_at (maybe d 46 (copies b 58 (maybe o 91 (copies (suc m) 124 s))))
    ≡ Some (signs d b o (suc m + n.0) c.0 a.0, a.1)
unfolding form_at
signs-read d b o m s =
    let dot = skip-maybe 46 d _ (lacks_dot b o (copies m 124 s)) in
    let before = run_off-copies 58 b (maybe o 91 (copies (suc m) 124 s)) in
    let stops = run_off-lacks 58 _ (lacks_colon o (copies m 124 s)) in
    let bracket : skip 91 (maybe o 91 (copies (suc m) 124 s)) ≡ (o, copies (suc m) 124 s) =
    skip-maybe 91 o (copies (suc m) 124 s) refl in
    let lines = run_off-copies 124 (suc m) s in
    let some : eqb (suc m + (run_off 124 s).0) 0 ≡ false = ne_eqb _ _ (omega arith) in
    rw (dot, before, stops, add-zero, bracket, lines, some) refl

-- what follows the last bar sign, read from there
abbrev Tail : Bool → ℕ → List ℕ → Type 0
Tail c a x =
    let s = maybe c 93 (copies a 58 x) in
    let n = run_off 124 s in
    let k = skip 93 n.1 in
    let e = run_off 58 k.1 in
    ((length e.1 < length x) × (begins goes_on x ≡ true)) ⊎ ((n.0 ≡ 0) × (k.0 ≡ c) × (e.0 ≡ a) × (e.1 ≡ x))

colons_end : (a : ℕ) (x : List ℕ)
    → let e = run_off 58 (copies a 58 x) in
    ((length e.1 < length x) × (begins goes_on x ≡ true)) ⊎ ((e.0 ≡ a) × (e.1 ≡ x))
colons_end a x = elim (run_off-less 58 x) [
  | inl shorter ↦ inl (rw run_off-copies shorter.0, on 58 x refl shorter.1)
  | inr all ↦ inr (rw (run_off-copies, all) (omega arith, refl))
]

tail : (c : Bool) (a : ℕ) (x : List ℕ) → Tail c a x
tail true a x =
    rw (run_off-lacks 124 (93 ∷ copies a 58 x) refl, skip-yes 93 (copies a 58 x))
    (elim (colons_end a x) [ inl shorter ↦ inl shorter | inr same ↦ inr (refl, refl, same.0, same.1) ])
tail false (suc a) x =
    rw (run_off-lacks 124 (58 ∷ copies a 58 x) refl, skip-lacks 93 (58 ∷ copies a 58 x) refl)
    (elim (colons_end (suc a) x) [ inl shorter ↦ inl shorter | inr same ↦ inr (refl, refl, same.0, same.1) ])
tail false zero x =
    let n = run_off 124 x in let k = skip 93 n.1 in
    let less : (n : List ℕ) → length n < length x → length (run_off 58 (skip 93 n).1).1 < length x =
    λ n h. omega (arith, length-skip 93 n, length-run_off 58 (skip 93 n).1) in
    elim (run_off-less 124 x) [
      | inl shorter ↦ inl (less n.1 shorter.0, on 124 x refl shorter.1)
      | inr all ↦ rw all (elim (skip-less 93 x) [
        | inl shorter ↦ inl (omega (arith, shorter.0, length-run_off 58 (skip 93 x).1), on 93 x refl shorter.1)
        | inr same ↦
            rw same (elim (run_off-less 58 x) [
              | inl shorter ↦ inl (shorter.0, on 58 x refl shorter.1)
              | inr done ↦ inr (rw done (refl, refl, refl, refl))
            ])
      ])
    ]

signs-reaches : (d : Bool) (b : ℕ) (o : Bool) (m : ℕ) (c : Bool) (a : ℕ) (x : List ℕ)
    → Reaches (signs d b o (suc m) c a) x (form_at (spelled (signs d b o (suc m) c a) x))
signs-reaches d b o m c a x =
    let s = maybe c 93 (copies a 58 x) in let n = run_off 124 s in let k = skip 93 n.1 in
    let e = run_off 58 k.1 in (
      (signs d b o (suc m + n.0) k.0 e.0, e.1),
      signs-read d b o m s,
      elim (tail c a x) [
        | inl shorter ↦ inl shorter
        | inr same ↦ inr (rw (same.0, same.1, same.2, same.3, add-zero) refl)
      ],
    )

-- bar signs after colons and a bracket: so x begins with one of the three
after_colons : (x : List ℕ) → begins (λ b. eqb b 124) (skip 91 (run_off 58 x).1).1 ≡ true → begins goes_on x ≡ true
after_colons x h =
    elim (run_off-less 58 x) [
      | inl colon ↦ on 58 x refl colon.1
      | inr none ↦ elim (skip-less 91 x) [
        | inl bracket ↦ on 91 x refl bracket.1
        | inr bare ↦ on 124 x refl (
            let h1 : begins (λ b. eqb b 124) (skip 91 x).1 ≡ true =
            subst (λ (p : ℕ × List ℕ). begins (λ b. eqb b 124) (skip 91 p.1).1 ≡ true) none h in
            subst (λ (p : Bool × List ℕ). begins (λ b. eqb b 124) p.1 ≡ true) bare h1)
      ]
    ]

colons-reaches : (m : ℕ) (x : List ℕ) → Reaches (colons (suc (suc m))) x (form_at (copies (suc (suc m)) 58 x))
unfolding form_at
colons-reaches m x =
    let n : ℕ = suc (suc m) in
    let s = run_off 58 x in
    let o = skip 91 s.1 in
    let l = run_off 124 o.1 in
    let c = skip 93 l.1 in
    let a = run_off 58 c.1 in
    let dot = skip-lacks 46 (copies (suc (suc m)) 58 x) refl in
    let many : ltb (suc (suc m) + s.0) 2 ≡ false = le-ltb _ _ (omega arith) in
    rw (dot, run_off-copies, many) (
    cond_both {A = Option (BarForm × List ℕ)} (eqb l.0 0) (Some (colons (suc (suc m) + s.0), s.1))
    (Some (signs false (suc (suc m) + s.0) o.0 l.0 c.0 a.0, a.1)) (Reaches (colons (suc (suc m))) x)
    (λ e. (
      (colons (suc (suc m) + s.0), s.1),
      refl,
      elim (run_off-less 58 x) [
        | inl shorter ↦ inl (shorter.0, on 58 x refl shorter.1)
        | inr all ↦ inr (rw (all, add-zero) refl)
      ],
    ))
    (λ e. (
      (signs false (suc (suc m) + s.0) o.0 l.0 c.0 a.0, a.1),
      refl,
      inl (
          elim (run_off-less 124 o.1) [
            | inl shorter ↦ (
              omega (
                arith,
                shorter.0,
                length-run_off 58 x,
                length-skip 91 s.1,
                length-skip 93 l.1,
                length-run_off 58 c.1,
              ),
              after_colons x shorter.1,
            )
            | inr none ↦
                absurd (let zero_is : eqb 0 0 ≡ false = subst (λ (p : ℕ × List ℕ). eqb p.0 0 ≡ false) none e in cc)
          ]),
    )))

pub form_at-reaches : (f : BarForm) (x : List ℕ) → IsGoodBar f → Reaches f x (form_at (spelled f x))
form_at-reaches (signs d b o zero c a) x good = absurd (omega (arith, good))
form_at-reaches (signs d b o (suc m) c a) x good = signs-reaches d b o m c a x
form_at-reaches (colons zero) x good = absurd (omega (arith, good))
form_at-reaches (colons (suc zero)) x good = absurd (omega (arith, good))
form_at-reaches (colons (suc (suc m))) x good = colons-reaches m x

-- A bar in its plain spelling is read as itself.
use Rattle.std.proofs.Common.{◌≡◌, ℕ, zero, suc, ◌≤◌, Bool, true, false, eqb, ltb, List, refl, sym, subst, arith, not}
use Rattle.std.proofs.Common.{◌&&◌, if◌then◌else◌, ne_eqb, lt-ltb}
use Rattle.mus_units.specs.declared.note.Bar.{Bar}
use Rattle.abc_pieces.specs.Bars.{BarForm, signs, colons, IsGoodBar, bar_meant, spelled}
use Rattle.abc_tokens.specs.Plain.{is_colons, bar_then}

abbrev pub plain_bar : Bar → BarForm
plain_bar b =
    if b.unseen then signs false 0 true 1 true 0
    else (if is_colons b then colons 2
    else signs b.dotted (if b.end then 1 else 0) b.initial (if b.double then 2 else 1) b.last
    (if b.start then 1 else 0))

-- a bar by its features, as the bytes show them
abbrev flags : Bool → Bool → Bool → Bool → Bool → Bool → Bar
flags d e o w c s =
    let alone = not d && not e && o && not w && c && not s in
    record {
      end = e;
      start = s;
      last = c && not alone;
      initial = o && not alone;
      double = w;
      dotted = d;
      unseen = alone;
    }

abbrev pub SameBar : Bar → Type 0
SameBar b =
    (bar_meant (plain_bar b) ≡ b) × IsGoodBar (plain_bar b) × ((x : List ℕ) → spelled (plain_bar b) x ≡ bar_then b x)

same_flags : (d e o w c s : Bool) → SameBar (flags d e o w c s)
same_flags true true true true true true = (refl, omega arith, λ x. refl)
same_flags _ true true true true true = (refl, omega arith, λ x. refl)
same_flags _ _ true true true true = (refl, omega arith, λ x. refl)
same_flags _ _ _ true true true = (refl, omega arith, λ x. refl)
same_flags _ _ _ _ true true = (refl, omega arith, λ x. refl)
same_flags _ _ _ _ _ true = (refl, omega arith, λ x. refl)
same_flags _ _ _ _ _ _ = (refl, omega arith, λ x. refl)

none_first : (b : ℕ) → eqb b 0 ≡ not (ltb 0 b)
none_first zero = refl
none_first (suc b) =
    let e : ltb 0 (suc b) ≡ true = lt-ltb 0 (suc b) (omega arith) in rw (ne_eqb (suc b) 0 (omega arith), e) refl

one_first : (n : ℕ) → 1 ≤ n → eqb n 1 ≡ not (ltb 1 n)
one_first zero h = absurd (omega arith)
one_first (suc zero) h = refl
one_first (suc (suc n)) h =
    let e : ltb 1 (suc (suc n)) ≡ true = lt-ltb 1 (suc (suc n)) (omega arith) in
    rw (ne_eqb (suc (suc n)) 1 (omega arith), e) refl

pub same_bar : (f : BarForm) → IsGoodBar f → SameBar (bar_meant f)
same_bar (signs d b o n c a) good =
    let is : bar_meant (signs d b o n c a) ≡ flags d (ltb 0 b) o (ltb 1 n) c (ltb 0 a) =
    rw (none_first b, one_first n good, none_first a) refl in
    subst SameBar (sym is) (same_flags d (ltb 0 b) o (ltb 1 n) c (ltb 0 a))
same_bar (colons n) good = (refl, omega arith, λ x. refl)

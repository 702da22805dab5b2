-- The first line is read, then the others.
use Rattle.std.proofs.Common.{◌≡◌, ℕ, zero, suc, ◌+◌, ◌≤◌, ◌<◌, Bool, true, false, List, [], ◌∷◌, length, take, drop}
use Rattle.std.proofs.Common.{refl, sym, ap, ◌∙◌, arith, inl, inr, ◌⊎◌}
use Rattle.std.proofs.lemmas.Bool.{ne_eqb}
use Rattle.std.proofs.lemmas.List.Splits.{slice_split-cons_yes, slice_split-cons_no, length-slice_split}
use Rattle.std.proofs.lemmas.Str.{is_utf8-from_IsUtf8, IsUtf8-from_is_utf8}
use Rattle.std.specs.Prelude.{map}
use Rattle.std.specs.List.{slice_split, onto_first, position_or_len}
use Rattle.std.specs.Str.{is_utf8, chars, IsUtf8}
use Rattle.abc_lines.specs.Lines.{lines_of, without_last_empty, first_line, is_end, tail_of, reading, readings}
use Rattle.abc_lines.specs.Lines.{in_latin, narrow}

abbrev pair : List ℕ → List ℕ → List ℕ × List ℕ
pair x y = (x, y)

first-end : (b : ℕ) (s : List ℕ) → is_end b ≡ true → first_line (b ∷ s) ≡ pair [] s
unfolding first_line
first-end b s h = rw h refl

first-on : (b : ℕ) (s : List ℕ) → is_end b ≡ false → first_line (b ∷ s) ≡ pair (b ∷ (first_line s).0) (first_line s).1
unfolding first_line
first-on b s h =
    let k = position_or_len is_end s in let more : 1 + k ≡ suc k = omega arith in rw (h, more) refl

first-nil : first_line [] ≡ pair [] []
unfolding first_line
first-nil = refl

-- s contains a line end, and splitting continues after it; or s contains none
abbrev Step : List ℕ → Type 0
Step s =
    ((slice_split is_end s ≡ (first_line s).0 ∷ slice_split is_end (first_line s).1)
    × (length (first_line s).1 < length s))
    ⊎ ((slice_split is_end s ≡ s ∷ []) × (first_line s ≡ pair s []))

by_end : (b : ℕ) (s : List ℕ) → Step s → (e : Bool) → is_end b ≡ e → Step (b ∷ s)
by_end b s others true h =
    inl (rw (first-end b s h) (slice_split-cons_yes is_end b s h), rw (first-end b s h) (omega arith))
by_end b s others false h =
    elim others [
      | inl more ↦ inl (
        rw (first-on b s h) (slice_split-cons_no is_end b s h ∙ ap (onto_first b) more.0),
        rw (first-on b s h) (omega (arith, more.1)),
      )
      | inr last ↦ inr (
        slice_split-cons_no is_end b s h ∙ ap (onto_first b) last.0,
        first-on b s h ∙ ap (λ (p : List ℕ × List ℕ). pair (b ∷ p.0) p.1) last.1,
      )
    ]

step : (s : List ℕ) → Step s
step [] = inr (refl, first-nil)
step (b ∷ s) = by_end b s (step s) (is_end b) refl

one_line : (b : ℕ) (s : List ℕ) → without_last_empty ((b ∷ s) ∷ []) ≡ (b ∷ s) ∷ []
one_line b s = rw (ne_eqb (suc (length s)) 0 (omega arith)) refl

more_lines : (x : List ℕ) (ps : List (List ℕ)) → 1 ≤ length ps → without_last_empty (x ∷ ps) ≡ x ∷ without_last_empty ps
more_lines x [] h = absurd (omega arith)
more_lines x (p ∷ ps) h = refl

lines-step : (b : ℕ) (s : List ℕ) → lines_of (b ∷ s) ≡ (first_line (b ∷ s)).0 ∷ lines_of (first_line (b ∷ s)).1
lines-step b s =
    elim (step (b ∷ s)) [
      | inl more ↦
          ap without_last_empty more.0
          ∙ more_lines _ (slice_split is_end (first_line (b ∷ s)).1)
          (omega (arith, length-slice_split is_end (first_line (b ∷ s)).1))
      | inr last ↦
          ap without_last_empty last.0 ∙ one_line b s ∙ ap (λ (p : List ℕ × List ℕ). p.0 ∷ lines_of p.1) (sym last.1)
    ]

shorter : (b : ℕ) (s : List ℕ) → length (first_line (b ∷ s)).1 < length (b ∷ s)
shorter b s = elim (step (b ∷ s)) [ inl more ↦ more.1 | inr last ↦ rw last.1 (omega arith) ]

pub readings-nil : readings [] ≡ []
unfolding readings
readings-nil = refl

pub readings-none : (s : List ℕ) → length s ≡ 0 → readings s ≡ []
readings-none [] none = readings-nil
readings-none (b ∷ s) none = absurd (omega (arith, none))

-- a line is read off
pub record Off (s line rest : List ℕ) : Type 0 where
  pub readings : readings s ≡ reading line ∷ readings rest
  pub shorter : length rest < length s
  pub parts : length line + length rest ≤ length s

parts_le : (k : ℕ) (s : List ℕ) → length (take k s) + length (tail_of (drop k s)) ≤ length s
parts_le zero [] = omega arith
parts_le zero (b ∷ s) = omega arith
parts_le (suc k) [] = omega arith
parts_le (suc k) (b ∷ s) = omega (arith, parts_le k s)

first_line-parts : (s : List ℕ) → length (first_line s).0 + length (first_line s).1 ≤ length s
unfolding first_line
first_line-parts s = parts_le (position_or_len is_end s) s

readings-cons : (b : ℕ) (s : List ℕ)
    → readings (b ∷ s) ≡ reading (first_line (b ∷ s)).0 ∷ readings (first_line (b ∷ s)).1
unfolding readings
readings-cons b s = ap (map reading) (lines-step b s)

pub first_line_off : (b : ℕ) (s : List ℕ) → Off (b ∷ s) (first_line (b ∷ s)).0 (first_line (b ∷ s)).1
first_line_off b s = record { readings = readings-cons b s; shorter = shorter b s; parts = first_line-parts (b ∷ s) }

pub line_off : (s line rest : List ℕ)
    → (length s ≡ 0 → ⊥) → (◌≡◌ {A = List ℕ × List ℕ} (line, rest) (first_line s)) → Off s line rest
line_off [] line rest some is = absurd (some refl)
line_off (b ∷ s) line rest some is =
    let first : line ≡ (first_line (b ∷ s)).0 = ap (λ (p : List ℕ × List ℕ). p.0) is in
    let others : rest ≡ (first_line (b ∷ s)).1 = ap (λ (p : List ℕ × List ℕ). p.1) is in
    record {
      readings = rw (first, others) (readings-cons b s);
      shorter = rw others (shorter b s);
      parts = rw (first, others) (first_line-parts (b ∷ s));
    }

pub latin-text : (line : List ℕ) → IsUtf8 line → in_latin line ≡ map narrow (chars line)
unfolding in_latin
latin-text line is = rw (is_utf8-from_IsUtf8 line is) refl

not_text : (line : List ℕ) (b : Bool) → is_utf8 line ≡ b → ¬ (IsUtf8 line) → b ≡ false
not_text line true e h = absurd (h (IsUtf8-from_is_utf8 line e))
not_text line false e h = refl

pub latin-other : (line : List ℕ) → ¬ (IsUtf8 line) → in_latin line ≡ line
unfolding in_latin
latin-other line h = rw (not_text line (is_utf8 line) refl h) refl

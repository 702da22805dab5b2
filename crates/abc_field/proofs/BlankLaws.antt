-- A text without the blanks at its ends is a part of it between blanks.
use Rattle.std.proofs.Common.{◌≡◌, refl, sym, ap, ◌∙◌, subst, ℕ, suc, ◌+◌, ◌-◌, ◌≤◌, List, [], ◌∷◌, ◌++◌, Bool, true}
use Rattle.std.proofs.Common.{false, length, take, drop}
use Rattle.std.proofs.{Common.{arith, not, reverse}, lemmas.Bool.{and_parts, not-true}}
use Rattle.std.proofs.lemmas.List.{take-append-drop, append-nil, length-append, length-drop, length-reverse}
use Rattle.std.proofs.lemmas.List.{reverse-append, reverse-reverse}
use Rattle.std.proofs.lemmas.List.Folds.{list_all-append}
use Rattle.std.proofs.lemmas.List.Sums.{suffix_len-le-length}
use Rattle.std.proofs.Math.Seq.{take-append_seam, drop-append_seam}
use Rattle.std.specs.{List.{list_all, prefix_len, suffix_len}, Prelude.⊤}
use Rattle.abc_lines.specs.Kinds.{is_blank, after_blanks}
use Rattle.abc_field.specs.{Words.trimmed, WordSpelling.IsBetweenBlanks}
use Rattle.abc_field.proofs.ReadLaws.{by_test}

-- How many bytes at the start pass a test, and that they do.
abbrev pub Stops : (ℕ → Bool) → List ℕ → Type 0
Stops p [] = ⊤
Stops p (b ∷ s) = p b ≡ false

pub prefix-stops : (p : ℕ → Bool) (leading rest : List ℕ)
    → list_all p leading ≡ true → Stops p rest → prefix_len p (leading ++ rest) ≡ length leading
prefix-stops p [] [] all stops = refl
prefix-stops p [] (b ∷ rest) all stops = rw stops refl
prefix-stops p (b ∷ leading) rest all stops =
    let here : p b ≡ true = (and_parts _ _ all).0 in
    let more = prefix-stops p leading rest (and_parts _ _ all).1 stops in
    rw here (omega (arith, more))

pub leading-stops : (p : ℕ → Bool) (s : List ℕ) → Stops p (drop (prefix_len p s) s)
leading-stops p [] = tt
leading-stops p (b ∷ s) =
    by_test (p b)
    (λ e.
    let one : 1 + prefix_len p s ≡ suc (prefix_len p s) = omega arith in
    let more = leading-stops p s in
    rw (e, one) more)
    (λ e. rw e e)

pub leading-passes : (p : ℕ → Bool) (s : List ℕ) → list_all p (take (prefix_len p s) s) ≡ true
leading-passes p [] = refl
leading-passes p (b ∷ s) =
    by_test (p b)
    (λ e.
    let one : 1 + prefix_len p s ≡ suc (prefix_len p s) = omega arith in
    let more = leading-passes p s in
    rw (e, one) (rw (e, more) refl))
    (λ e. rw e refl)

-- The same for the end, which is the start of the reversed text.
pub reversed-passes : (p : ℕ → Bool) (s : List ℕ) → list_all p s ≡ true → list_all p (reverse s) ≡ true
reversed-passes p [] all = refl
reversed-passes p (b ∷ s) all =
    let here : p b ≡ true = (and_parts _ _ all).0 in
    let more = reversed-passes p s (and_parts _ _ all).1 in
    ap (list_all p) (reverse-append (b ∷ []) s) ∙ list_all-append p (reverse s) (b ∷ []) ∙ rw (more, here) refl

none-stops : (p : ℕ → Bool) (s : List ℕ) → list_all (λ b. not (p b)) s ≡ true → Stops p s
none-stops p [] none = tt
none-stops p (b ∷ s) none = not-true (p b) (and_parts _ _ none).0

pub cut-reversed : (n : ℕ) (s : List ℕ) → n ≤ length s
    → (take n (reverse s) ≡ reverse (drop (length s - n) s)) × (drop n (reverse s) ≡ reverse (take (length s - n) s))
cut-reversed n s few =
    let leading : List ℕ = take (length s - n) s in
    let back : List ℕ = drop (length s - n) s in
    let parts : reverse s ≡ reverse back ++ reverse leading =
    ap reverse (sym (take-append-drop (length s - n) s)) ∙ reverse-append leading back in
    let size : n ≡ length (reverse back) = omega (arith, length-reverse back, length-drop (length s - n) s) in (
      ap (take n) parts
          ∙ ap (λ k. take k (reverse back ++ reverse leading)) size
          ∙ take-append_seam (reverse back) (reverse leading),
      ap (drop n) parts
          ∙ ap (λ k. drop k (reverse back ++ reverse leading)) size
          ∙ drop-append_seam (reverse back) (reverse leading),
    )

suffix-passes : (p : ℕ → Bool) (s : List ℕ) → list_all p (drop (length s - suffix_len p s) s) ≡ true
suffix-passes p s =
    let back : List ℕ = drop (length s - suffix_len p s) s in
    let same = (cut-reversed (suffix_len p s) s (suffix_len-le-length p s)).0 in
    let passes = subst (λ t. list_all p t ≡ true) same (leading-passes p (reverse s)) in
    subst (λ t. list_all p t ≡ true) (reverse-reverse back) (reversed-passes p (reverse back) passes)

-- Blanks.
pub following-cons : (b : ℕ) (s : List ℕ) → is_blank b ≡ true → after_blanks (b ∷ s) ≡ after_blanks s
following-cons b s e =
    let more : 1 + prefix_len is_blank s ≡ suc (prefix_len is_blank s) = omega arith in rw (e, more) refl

pub blanks-passed : (blanks s : List ℕ) → list_all is_blank blanks ≡ true → after_blanks (blanks ++ s) ≡ after_blanks s
blanks-passed [] s all = refl
blanks-passed (b ∷ blanks) s all =
    let parts = and_parts _ _ all in following-cons b (blanks ++ s) parts.0 ∙ blanks-passed blanks s parts.1

pub blanks-gone : (s : List ℕ) → list_all is_blank s ≡ true → after_blanks s ≡ []
blanks-gone s all = ap after_blanks (sym (append-nil s)) ∙ blanks-passed s [] all

pub stays : (b : ℕ) (s : List ℕ) → is_blank b ≡ false → after_blanks (b ∷ s) ≡ b ∷ s
stays b s e = rw e refl

-- the text without the blanks at its ends is between blanks
pub trimmed-between : (text : List ℕ) → IsBetweenBlanks text (trimmed text)
unfolding trimmed
trimmed-between text =
    let rest : List ℕ = after_blanks text in
    let size : ℕ = length rest - suffix_len is_blank rest in
    let leading : List ℕ = take (prefix_len is_blank text) text in
    record {
      leading = leading;
      back = drop size rest;
      prefix_blank = leading-passes is_blank text;
      back_blank = suffix-passes is_blank rest;
      cut =
          sym (take-append-drop (prefix_len is_blank text) text)
          ∙ ap (λ t. leading ++ t) (sym (take-append-drop size rest));
    }

abbrev ended : List ℕ → List ℕ
ended t = take (length t - suffix_len is_blank t) t

ended-left : (core back : List ℕ)
    → Stops is_blank (reverse core) → list_all is_blank back ≡ true → ended (core ++ back) ≡ core
ended-left core back stops all =
    let passes = reversed-passes is_blank back all in
    let blanks : suffix_len is_blank (core ++ back) ≡ length back =
    ap (prefix_len is_blank) (reverse-append core back)
    ∙ prefix-stops is_blank (reverse back) (reverse core) passes stops
    ∙ length-reverse back in
    let size : length (core ++ back) - suffix_len is_blank (core ++ back) ≡ length core =
    omega (arith, blanks, length-append core back) in
    rw size (take-append_seam core back)

core-left : (core back : List ℕ) → Stops is_blank core → Stops is_blank (reverse core) → list_all is_blank back ≡ true
    → ended (after_blanks (core ++ back)) ≡ core
core-left [] back begins ends all = ap ended (blanks-gone back all)
core-left (b ∷ core) back begins ends all =
    ap ended (stays b (core ++ back) begins) ∙ ended-left (b ∷ core) back ends all

-- a part between blanks that begins and ends with no blank is what is left
pub bare-trimmed : (text core : List ℕ)
    → Stops is_blank core → Stops is_blank (reverse core) → IsBetweenBlanks text core → trimmed text ≡ core
unfolding trimmed
bare-trimmed text core begins ends between =
    rw (between.cut, blanks-passed between.leading (core ++ between.back) between.prefix_blank)
    (core-left core between.back begins ends between.back_blank)

-- so is a part that has no blank at all
pub between-trimmed : (text core : List ℕ)
    → list_all (λ b. not (is_blank b)) core ≡ true → IsBetweenBlanks text core → trimmed text ≡ core
between-trimmed text core none between =
    let ends = none-stops is_blank (reverse core) (reversed-passes (λ b. not (is_blank b)) core none) in
    bare-trimmed text core (none-stops is_blank core none) ends between

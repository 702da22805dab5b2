-- Going forwards lists the lines that belong when looking backwards.
use Rattle.std.proofs.Common.{◌≡◌, ℕ, suc, ◌≤◌, ◌<◌, Bool, true, false, cond, List, [], ◌∷◌, ◌++◌, length, Some, None}
use Rattle.std.proofs.Common.{refl, sym, ap, ◌∙◌, arith}
use Rattle.std.proofs.lemmas.Bool.{cond_both, eqb-true, eq-eqb, ne_eqb, and_right}
use Rattle.std.proofs.Math.Bool.{and-false, or-true, or-false}
use Rattle.std.specs.Prelude.{◌||◌, not, ◌&&◌}
use Rattle.abc_lines.specs.declared.book.Line.{Line}
use Rattle.abc_lines.specs.declared.book.TuneText.{TuneText}
use Rattle.abc_lines.specs.declared.book.Book.{Book}
use Rattle.abc_lines.specs.declared.reading.LineContent.{LineContent}
use Rattle.abc_lines.specs.Books.{begins_tune, is_empty_line, is_end_of_part, is_in_header, tune_of, is_line_number}
use Rattle.abc_lines.specs.Books.{belongs_to, line_at, listed_lines, tune_at, tunes_after, book_of_lines}
use Rattle.abc_lines.specs.Forward.{part_from, tune_from, tunes_from, book_from}

pub part-nil : (number : ℕ) → part_from number [] ≡ []
unfolding part_from
part-nil number = refl

pub part-cons : (number : ℕ) (line : LineContent) (more : List LineContent)
    → part_from number (line ∷ more)
    ≡ cond (is_end_of_part line) [] (line_at number line more ++ part_from (suc number) more)
unfolding part_from
part-cons number line more = refl

pub tunes-nil : (ordinal number : ℕ) → tunes_from ordinal number [] ≡ []
unfolding tunes_from
tunes-nil ordinal number = refl

pub tunes-cons : (ordinal number : ℕ) (line : LineContent) (more : List LineContent) →
    tunes_from ordinal number (line ∷ more)
    ≡ cond (begins_tune line) (tune_from ordinal number line more ∷ tunes_from (suc ordinal) (suc number) more)
    (tunes_from ordinal (suc number) more)
unfolding tunes_from
tunes-cons ordinal number line more = refl

abbrev tune_of_lines : ℕ → List Line → TuneText
tune_of_lines ordinal lines = record { ordinal = ordinal; lines = lines }

book_parts : (h g : List Line) (t u : List TuneText)
    → h ≡ g → t ≡ u → ◌≡◌ {A = Book} (record { header = h; tunes = t }) (record { header = g; tunes = u })
book_parts h g t u e f = rw (e, f) refl

-- a position is in the header or after it
header-done : (before more : List LineContent)
    → is_in_header before ≡ false → listed_lines is_in_header before more ≡ []
header-done before [] h = refl
header-done before (line ∷ more) h =
    let here : is_in_header (line ∷ before) ≡ false = and_right (not (is_end_of_part line)) (is_in_header before) h in
    rw here (header-done (line ∷ before) more here)

header-step : (before more : List LineContent) (line : LineContent) (e : Bool)
    → is_end_of_part line ≡ e → is_in_header before ≡ true
    → (is_in_header (line ∷ before) ≡ true
    → listed_lines is_in_header (line ∷ before) more ≡ part_from (suc (suc (length before))) more)
    → listed_lines is_in_header before (line ∷ more) ≡ part_from (suc (length before)) (line ∷ more)
header-step before more line true is h next =
    let here : is_in_header (line ∷ before) ≡ false = rw is refl in
    rw (here, part-cons, is) (header-done (line ∷ before) more here)
header-step before more line false is h next =
    let here : is_in_header (line ∷ before) ≡ true = rw is h in
    rw (here, part-cons, is) (ap (λ ls. line_at (suc (length before)) line more ++ ls) (next here))

pub header-listed : (before more : List LineContent)
    → is_in_header before ≡ true → listed_lines is_in_header before more ≡ part_from (suc (length before)) more
header-listed before [] h = sym (part-nil _)
header-listed before (line ∷ more) h =
    header-step before more line (is_end_of_part line) refl h (header-listed (line ∷ before) more)

-- a tune begins at or before the line
tune_within : (lines : List LineContent) (number : ℕ) → belongs_to number lines ≡ true → number ≤ length lines
tune_within [] number h = absurd cc
tune_within (line ∷ before) number h =
    cond_both (begins_tune line) (Some (suc (length before))) (cond (is_empty_line line) None (tune_of before))
    (λ t. is_line_number number t ≡ true → number ≤ suc (length before))
    (λ e is. omega (arith, eqb-true _ _ is))
    (λ e.
    cond_both (is_empty_line line) None (tune_of before)
    (λ t. is_line_number number t ≡ true → number ≤ suc (length before))
    (λ f is. absurd cc)
    (λ f is. omega (arith, tune_within before number is)))
    h

not_yet : (lines : List LineContent) (number : ℕ) → length lines < number → belongs_to number lines ≡ false
not_yet lines number later = by_cases (belongs_to number lines) refl
  where
    by_cases : (b : Bool) → belongs_to number lines ≡ b → b ≡ false
    by_cases true e = absurd (omega (arith, later, tune_within lines number e))
    by_cases false e = refl

-- a line after the beginning of a tune begins another tune, ends this one or stays in it
later_line : (before : List LineContent) (line : LineContent) (number : ℕ)
    → number ≤ length before → (b : Bool) → belongs_to number before ≡ b
    → belongs_to number (line ∷ before) ≡ (not (is_end_of_part line) && b)
later_line before line number within b is =
    cond_both (begins_tune line) (Some (suc (length before))) (cond (is_empty_line line) None (tune_of before))
    (λ t. is_line_number number t ≡ (not (is_empty_line line || begins_tune line) && b))
    (λ e. rw (e, or-true (is_empty_line line), ne_eqb (suc (length before)) number (omega (arith, within))) refl)
    (λ e. rw (e, or-false (is_empty_line line)) (
    cond_both (is_empty_line line) None (tune_of before)
    (λ t. is_line_number number t ≡ (not (is_empty_line line) && b))
    (λ f. rw f refl) (λ f. rw f is)))

tune-done : (before more : List LineContent) (number : ℕ)
    → number ≤ length before → belongs_to number before ≡ false → listed_lines (belongs_to number) before more ≡ []
tune-done before [] number within h = refl
tune-done before (line ∷ more) number within h =
    let here : belongs_to number (line ∷ before) ≡ false =
    later_line before line number within false h ∙ and-false (not (is_end_of_part line)) in
    rw here (tune-done (line ∷ before) more number (omega (arith, within)) here)

tune-step : (before more : List LineContent) (line : LineContent) (number : ℕ) (e : Bool)
    → is_end_of_part line ≡ e → number ≤ length before → belongs_to number before ≡ true
    → (belongs_to number (line ∷ before) ≡ true
    → listed_lines (belongs_to number) (line ∷ before) more ≡ part_from (suc (suc (length before))) more)
    → listed_lines (belongs_to number) before (line ∷ more) ≡ part_from (suc (length before)) (line ∷ more)
tune-step before more line number true is within h next =
    let here : belongs_to number (line ∷ before) ≡ false = later_line before line number within true h ∙ rw is refl in
    rw (here, part-cons, is) (tune-done (line ∷ before) more number (omega (arith, within)) here)
tune-step before more line number false is within h next =
    let here : belongs_to number (line ∷ before) ≡ true = later_line before line number within true h ∙ rw is refl in
    rw (here, part-cons, is) (ap (λ ls. line_at (suc (length before)) line more ++ ls) (next here))

tune-listed : (before more : List LineContent) (number : ℕ)
    → number ≤ length before → belongs_to number before ≡ true
    → listed_lines (belongs_to number) before more ≡ part_from (suc (length before)) more
tune-listed before [] number within h = sym (part-nil _)
tune-listed before (line ∷ more) number within h =
    tune-step before more line number (is_end_of_part line) refl within h
    (tune-listed (line ∷ before) more number (omega (arith, within)))

-- once the lines `before` are read and `more` is left: no later tune has a line among `before`
abbrev Comes : (all before more : List LineContent) → Type 0
Comes all before more =
    (number : ℕ)
    → length before < number → listed_lines (belongs_to number) [] all ≡ listed_lines (belongs_to number) before more

comes-on : (all before more : List LineContent) (line : LineContent)
    → Comes all before (line ∷ more) → Comes all (line ∷ before) more
comes-on all before more line comes =
    λ number later. comes number (omega (arith, later)) ∙ rw (not_yet (line ∷ before) number later) refl

begins : (all before more : List LineContent) (line : LineContent) (ordinal : ℕ)
    → begins_tune line ≡ true → Comes all before (line ∷ more)
    → tune_at all ordinal (suc (length before)) ≡ tune_from ordinal (suc (length before)) line more
begins all before more line ordinal is comes =
    let number : ℕ = suc (length before) in
    let here : belongs_to (suc (length before)) (line ∷ before) ≡ true = rw is (eq-eqb _ _ refl) in
    ap (tune_of_lines ordinal)
    (comes (suc (length before)) (omega arith)
    ∙ rw here
    (ap (λ ls. line_at (suc (length before)) line more ++ ls)
    (tune-listed (line ∷ before) more (suc (length before)) (omega arith) here)))

tunes-listed : (all before more : List LineContent) (ordinal : ℕ)
    → Comes all before more → tunes_after all ordinal before more ≡ tunes_from ordinal (suc (length before)) more
tunes-listed all before [] ordinal comes = sym (tunes-nil _ _)
tunes-listed all before (line ∷ more) ordinal comes =
    rw tunes-cons
    (cond_both (begins_tune line)
    (tune_at all ordinal (suc (length before)) ∷ tunes_after all (suc ordinal) (line ∷ before) more)
    (tunes_after all ordinal (line ∷ before) more)
    (λ tunes.
    tunes
    ≡ cond (begins_tune line)
    (tune_from ordinal (suc (length before)) line more ∷ tunes_from (suc ordinal) (suc (suc (length before))) more)
    (tunes_from ordinal (suc (suc (length before))) more))
    (λ e.
    rw (
      e,
      begins all before more line ordinal e comes,
      tunes-listed all (line ∷ before) more (suc ordinal) (comes-on all before more line comes),
    ) refl)
    (λ e. rw (e, tunes-listed all (line ∷ before) more ordinal (comes-on all before more line comes)) refl))

-- the book, found by going forwards
pub forwards : (all : List LineContent) → book_of_lines all ≡ book_from all
forwards all = book_parts _ _ _ _ (header-listed [] all refl) (tunes-listed all [] all 1 (λ number later. refl))

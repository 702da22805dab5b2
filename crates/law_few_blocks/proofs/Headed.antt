-- A tune without a fault in its header has two lines, and a line takes two bytes with its line end.
use Rattle.std.proofs.Common.{◌≡◌, ℕ, zero, suc, ◌+◌, ◌*◌, ◌≤◌, true, false, cond, List, [], ◌∷◌, ◌++◌}
use Rattle.std.proofs.Common.{length, take, drop, refl, sym, subst, arith, inl, inr, ◌⊎◌, get_or, Some, None}
use Rattle.std.proofs.lemmas.Bool.{cond_both, eqb-true, and_parts, and_right}
use Rattle.std.proofs.Math.Bool.{or-true}
use Rattle.std.proofs.lemmas.List.{length-append, length-drop}
use Rattle.std.proofs.lemmas.List.Quantifiers.{position-Some}
use Rattle.std.proofs.lemmas.List.Sums.{sum_by-cons}
use Rattle.std.specs.List.{starts_with, position_or_len}
use Rattle.std.proofs.lemmas.Str.{chars-nil}
use Rattle.std.specs.Prelude.{nat_eq, is_some, not, ◌&&◌, Option, map}
use Rattle.std.specs.Str.{is_utf8, chars}
use Rattle.abc_lines.specs.declared.book.Line.{Line}
use Rattle.abc_lines.specs.declared.book.TuneText.{TuneText}
use Rattle.abc_lines.specs.declared.reading.LineContent.{LineContent}
use Rattle.abc_lines.specs.declared.reading.LineContent.TheVariants.{Empty, Comment, Written}
use Rattle.abc_lines.specs.Books.{begins_tune, book_of, is_empty_line, is_end_of_part, is_joining, line_at, whole_text}
use Rattle.abc_lines.specs.Forward.{part_from, tune_from, tunes_from}
use Rattle.abc_lines.specs.Lines.{byte_order_mark, first_line, in_latin, is_end, narrow, reading, readings, tail_of}
use Rattle.abc_lines.specs.Lines.{without_mark}
use Rattle.abc_lines.proofs.Backwards.{part-nil, part-cons, tunes-nil, tunes-cons}
use Rattle.abc_lines.proofs.GoodLaws.{book-is}
use Rattle.abc_lines.proofs.LineLaws.{first_line_off, readings-nil, readings-none}
use Rattle.abc_fields.specs.Defaults.{text_of}
use Rattle.abc_fields.specs.Headers.{fault_by, header_fault, is_key_line, key_place}
use Rattle.law_few_blocks.specs.Few.{headed_count, is_headed}

-- ---- the lines of a text

-- 1 for a line that has more than a comment
abbrev written_one : LineContent → ℕ
written_one Empty = 0
written_one Comment = 0
written_one (Written text) = 1

abbrev written_count : List LineContent → ℕ
written_count [] = 0
written_count (line ∷ more) = written_one line + written_count more

empty_latin : in_latin [] ≡ []
unfolding in_latin
empty_latin = cond_both (is_utf8 []) (map narrow (chars [])) [] (λ t. t ≡ []) (λ e. rw chars-nil refl) (λ e. refl)

empty_line : reading [] ≡ Empty
unfolding reading
empty_line = rw empty_latin refl

at_most_one : (line : LineContent) → written_one line ≤ 1
at_most_one Empty = omega arith
at_most_one Comment = omega arith
at_most_one (Written text) = omega arith

line_bytes : (line : List ℕ) → 2 * written_one (reading line) ≤ length line + 1
line_bytes [] = rw empty_line (omega arith)
line_bytes (b ∷ line) = omega (arith, at_most_one (reading (b ∷ line)))

-- a line with its line end, unless it is the last
abbrev IsOff : ℕ → List ℕ → List ℕ → Type 0
IsOff all line rest = (length line + 1 + length rest ≤ all) ⊎ (length rest ≡ 0)

cut_off : (k : ℕ) (s : List ℕ) → IsOff (length s) (take k s) (tail_of (drop k s))
cut_off zero [] = inr refl
cut_off zero (b ∷ s) = inl (omega arith)
cut_off (suc k) [] = inr refl
cut_off (suc k) (b ∷ s) = elim (cut_off k s) [ inl some ↦ inl (omega (arith, some)) | inr none ↦ inr none ]

line_off : (s : List ℕ) → IsOff (length s) (first_line s).0 (first_line s).1
unfolding first_line
line_off s = cut_off (position_or_len is_end s) s

one_more : (s line rest : List ℕ) (one more : ℕ)
    → IsOff (length s) line rest → 1 ≤ length s → 2 * one ≤ length line + 1 → one ≤ 1
    → 2 * more ≤ length rest + 1 → (length rest ≡ 0 → more ≡ 0) → 2 * (one + more) ≤ length s + 1
one_more s line rest one more (inl some) full here most others none = omega arith
one_more s line rest one more (inr last) full here most others none = omega (arith, none last)

count_none : (s : List ℕ) → length s ≡ 0 → written_count (readings s) ≡ 0
count_none s none = rw (readings-none s none) refl

text_bytes : (n : ℕ) (s : List ℕ) → length s ≤ n → 2 * written_count (readings s) ≤ length s + 1
text_bytes n [] h = rw readings-nil (omega arith)
text_bytes zero (b ∷ s) h = absurd (omega (arith, h))
text_bytes (suc n) (b ∷ s) h =
    let off = first_line_off b s in
    let line = (first_line (b ∷ s)).0 in
    let rest = (first_line (b ∷ s)).1 in
    rw off.readings
    (one_more (b ∷ s) line rest (written_one (reading line)) (written_count (readings rest)) (line_off (b ∷ s))
    (omega arith) (line_bytes line) (at_most_one (reading line)) (text_bytes n rest (omega (arith, off.shorter, h)))
    (count_none rest))

-- ---- the lines of a tune

-- a line that begins a tune is listed, and is no `K:` line
x_text : (s : List ℕ) → starts_with nat_eq s (88 ∷ 58 ∷ []) ≡ true → s ≡ 88 ∷ 58 ∷ drop 2 s
x_text [] h = absurd cc
x_text (x ∷ []) h = absurd (let no = and_right (nat_eq 88 x) false refl in cc)
x_text (x ∷ y ∷ s) h =
    let parts = and_parts (nat_eq 88 x) (nat_eq 58 y && true) h in
    let one : 88 ≡ x = eqb-true 88 x parts.0 in
    let two : 58 ≡ y = eqb-true 58 y (and_parts (nat_eq 58 y) true parts.1).0 in
    rw (← one, ← two) refl

abbrev FirstIsNoKey : List Line → Type 0
FirstIsNoKey lines = (1 ≤ length lines) × ((d : Line) → is_key_line (get_or lines 0 d) ≡ false)

x_first : (number : ℕ) (s : List ℕ) (more : List LineContent) (rest : List Line)
    → FirstIsNoKey (line_at number (Written (88 ∷ 58 ∷ s)) more ++ rest)
unfolding text_of
x_first number s more rest = (omega arith, λ d. refl)

first_no_key : (number : ℕ) (line : LineContent) (more : List LineContent) (rest : List Line)
    → begins_tune line ≡ true → FirstIsNoKey (line_at number line more ++ rest)
first_no_key number Empty more rest h = absurd cc
first_no_key number Comment more rest h = absurd cc
first_no_key number (Written text) more rest h =
    subst (λ s. FirstIsNoKey (line_at number (Written s) more ++ rest)) (sym (x_text text h))
    (x_first number (drop 2 text) more rest)

two_by : (tune : TuneText) (place : Option ℕ)
    → key_place tune.lines ≡ place → FirstIsNoKey tune.lines → not (is_some (fault_by tune place)) ≡ true
    → 2 ≤ length tune.lines
two_by tune None at first headed = absurd cc
two_by tune (Some zero) at first headed =
    let d : Line = record { number = 0; text = [] } in
    let found = position-Some is_key_line tune.lines 0 d at in
    absurd (let none = first.1 d in let key = found.1 in cc)
two_by tune (Some (suc k)) at first headed =
    let d : Line = record { number = 0; text = [] } in
    omega (arith, (position-Some is_key_line tune.lines (suc k) d at).0)

two_lines : (tune : TuneText) → FirstIsNoKey tune.lines → is_headed tune ≡ true → 2 ≤ length tune.lines
unfolding header_fault
two_lines tune first headed = two_by tune (key_place tune.lines) refl first headed

headed_lines : (tune : TuneText) → FirstIsNoKey tune.lines → 2 * cond (is_headed tune) 1 0 ≤ length tune.lines
headed_lines tune first =
    cond_both (is_headed tune) 1 0 (λ n. 2 * n ≤ length tune.lines) (λ e. omega (arith, two_lines tune first e))
    (λ e. omega arith)

line_few : (number : ℕ) (line : LineContent) (more : List LineContent)
    → length (line_at number line more) ≤ written_one line
line_few number Empty more = omega arith
line_few number Comment more = omega arith
line_few number (Written text) more =
    cond_both {A = List Line} (is_joining text) [] (record { number = number; text = whole_text text more } ∷ [])
    (λ ls. length ls ≤ 1) (λ e. omega arith) (λ e. omega arith)

-- tunes take different lines, and so does the part before them
pub headed_cons : (tune : TuneText) (tunes : List TuneText)
    → headed_count (tune ∷ tunes) ≡ cond (is_headed tune) 1 0 + headed_count tunes
headed_cons tune tunes = sum_by-cons (λ t. cond (is_headed t) 1 0) tune tunes

module _ (number ordinal : ℕ) (line : LineContent) (more : List LineContent) where
  -- the first tune has at least two lines if it has no fault in its header
  tune_few : begins_tune line ≡ true
      → 2 * cond (is_headed (tune_from ordinal number line more)) 1 0
      ≤ written_one line + length (part_from (suc number) more)
  tune_few begins =
      let rest = part_from (suc number) more in
      omega (
        arith,
        headed_lines (tune_from ordinal number line more) (first_no_key number line more rest begins),
        length-append (line_at number line more) rest,
        line_few number line more,
      )

  part_few : length (part_from number (line ∷ more)) ≤ written_one line + length (part_from (suc number) more)
  part_few =
      let rest = part_from (suc number) more in
      rw part-cons
      (cond_both {A = List Line} (is_end_of_part line) [] (line_at number line more ++ rest)
      (λ ls. length ls ≤ written_one line + length rest)
      (λ e. omega arith) (λ e. omega (arith, length-append (line_at number line more) rest, line_few number line more)))

  no_part : begins_tune line ≡ true → length (part_from number (line ∷ more)) ≡ 0
  no_part begins = rw (part-cons, begins, or-true (is_empty_line line)) refl

parts_few : (n o m : ℕ) (ls : List LineContent)
    → length (part_from n ls) + 2 * headed_count (tunes_from o m ls) ≤ written_count ls
parts_few n o m [] = rw (part-nil, tunes-nil) (omega arith)
parts_few n o m (line ∷ more) =
    let others = tunes_from (suc o) (suc m) more in
    rw tunes-cons
    (cond_both (begins_tune line) (tune_from o m line more ∷ others) (tunes_from o (suc m) more)
    (λ tunes. length (part_from n (line ∷ more)) + 2 * headed_count tunes ≤ written_one line + written_count more)
    (λ e. omega (
      arith,
      no_part n o line more e,
      headed_cons (tune_from o m line more) others,
      tune_few m o line more e,
      parts_few (suc m) (suc o) (suc m) more,
    ))
    (λ e. omega (arith, part_few n o line more, parts_few (suc n) o (suc m) more)))

mark_bytes : (text : List ℕ) → length (without_mark text) ≤ length text
mark_bytes text =
    cond_both (starts_with nat_eq text byte_order_mark) (drop 3 text) text (λ t. length t ≤ length text)
    (λ e. omega (arith, length-drop 3 text)) (λ e. omega arith)

pub headed_bytes : (text : List ℕ) → 4 * headed_count (book_of text).tunes ≤ length text + 1
headed_bytes text =
    let s = without_mark text in
    rw (book-is text)
    (omega (arith, parts_few 1 1 1 (readings s), text_bytes (length s) s (omega arith), mark_bytes text))

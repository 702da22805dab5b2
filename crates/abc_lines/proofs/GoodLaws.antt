-- The book found is good: numbers rise, and the lines of a part are no longer than the input.
use Rattle.std.proofs.Common.{◌≡◌, ℕ, zero, suc, ◌+◌, ◌-◌, ◌≤◌, ◌^◌, Bool, true, false, cond, eqb, List, [], ◌∷◌, ◌++◌}
use Rattle.std.proofs.Common.{length, take, drop, refl, ap, ◌∙◌, subst, arith}
use Rattle.std.proofs.lemmas.Bool.{cond_both, eqb-true, and_parts}
use Rattle.std.proofs.lemmas.List.{length-append, length-drop, map-append, length-map}
use Rattle.std.proofs.lemmas.List.Elements.{All-cons}
use Rattle.std.proofs.lemmas.List.Sums.{sum_by-append}
use Rattle.std.proofs.lemmas.Str.{encodes-chars, length-le-encodes, IsUtf8-from_is_utf8}
use Rattle.std.specs.List.{starts_with, ends_with, prefix_len, suffix_len}
use Rattle.std.specs.Prelude.{map, sum, ◌&&◌, All, nat_eq}
use Rattle.std.specs.Str.{is_utf8, chars}
use Rattle.abc_lines.specs.Lines.{without_mark, without_return, narrow, in_latin, comment_len, without_comment}
use Rattle.abc_lines.specs.Lines.{is_empty_text, written, reading, readings, byte_order_mark, first_line}
use Rattle.abc_lines.specs.declared.book.Line.{Line}
use Rattle.abc_lines.specs.declared.book.TuneText.{TuneText}
use Rattle.abc_lines.specs.declared.reading.LineContent.{LineContent}
use Rattle.abc_lines.specs.declared.reading.LineContent.TheVariants.{Empty, Comment, Written}
use Rattle.abc_lines.specs.Kinds.{is_blank, is_field, is_percent_line, field_text}
use Rattle.abc_lines.specs.Books.{begins_tune, is_end_of_part, is_joining, goes_on, added, joined, whole_text, line_at}
use Rattle.abc_lines.specs.Books.{book_of}
use Rattle.abc_lines.specs.Forward.{part_from, tune_from, tunes_from, book_from}
use Rattle.abc_lines.specs.Good.{IsGoodTune, IsGoodBook, NumbersRise, size_of}
use Rattle.abc_lines.proofs.LineLaws.{first_line_off, readings-nil}
use Rattle.abc_lines.proofs.Backwards.{forwards, part-nil, part-cons, tunes-nil, tunes-cons}

-- the bytes of the text of lines
abbrev pub text_len : LineContent → ℕ
text_len Empty = 0
text_len Comment = 0
text_len (Written text) = length text

abbrev pub total : List LineContent → ℕ
total [] = 0
total (line ∷ more) = text_len line + total more

length-take-le : (n : ℕ) (s : List ℕ) → length (take n s) ≤ length s
length-take-le zero s = omega arith
length-take-le (suc n) [] = omega arith
length-take-le (suc n) (b ∷ s) = omega (arith, length-take-le n s)

-- the content of a line is no longer than the line
return-le : (s : List ℕ) → length (without_return s) ≤ length s
return-le s =
    cond_both (ends_with nat_eq s (13 ∷ [])) (take (length s - 1) s) s (λ t. length t ≤ length s)
    (λ e. length-take-le (length s - 1) s) (λ e. omega arith)

latin-le : (s : List ℕ) → length (in_latin s) ≤ length s
unfolding in_latin
latin-le s = cond_both (is_utf8 s) (map narrow (chars s)) s (λ t. length t ≤ length s)
    (λ e. let same : length (map narrow (chars s)) ≡ length (chars s) = length-map (chars s) narrow in
    let back = ap length (encodes-chars s (IsUtf8-from_is_utf8 s e)) in
    omega (arith, same, back, length-le-encodes (chars s)))
    (λ e. omega arith)

comment-le : (s : List ℕ) → length (without_comment s) ≤ length s
unfolding without_comment
comment-le s =
    let prefix = take (comment_len false s) s in
    omega (
      arith,
      length-take-le (comment_len false s) s,
      length-take-le (length prefix - suffix_len is_blank prefix) prefix,
    )

written-le : (s : List ℕ) → text_len (written s) ≤ length s
written-le s =
    cond_both (eqb (length s) 0) Comment (Written s) (λ r. text_len r ≤ length s) (λ e. omega arith) (λ e. omega arith)

reading-le : (s : List ℕ) → text_len (reading s) ≤ length s
unfolding reading
reading-le s =
    let t = in_latin (without_return s) in
    let shorter : length t ≤ length s = omega (arith, latin-le (without_return s), return-le s) in
    cond_both (is_empty_text t) Empty (cond (is_percent_line t) (Written t) (written (without_comment t)))
    (λ r. text_len r ≤ length s) (λ e. omega arith)
    (λ e.
    cond_both (is_percent_line t) (Written t) (written (without_comment t)) (λ r. text_len r ≤ length s)
    (λ f. omega (arith, shorter))
    (λ f. omega (arith, shorter, written-le (without_comment t), comment-le t)))

total-le : (n : ℕ) (s : List ℕ) → length s ≤ n → total (readings s) ≤ length s
total-le n [] h = rw readings-nil (omega arith)
total-le zero (b ∷ s) h = absurd (omega (arith, h))
total-le (suc n) (b ∷ s) h =
    let off = first_line_off b s in
    rw off.readings
    (omega (
      arith,
      off.parts,
      reading-le (first_line (b ∷ s)).0,
      total-le n (first_line (b ∷ s)).1 (omega (arith, off.shorter, h)),
    ))

-- a part has no more bytes than its lines
and-nil : (c : Bool) → (c && false) ≡ true → ⊥
and-nil true e = cc
and-nil false e = cc

starts_two : (a b : ℕ) (s : List ℕ) → starts_with nat_eq s (a ∷ b ∷ []) ≡ true → 2 ≤ length s
starts_two a b [] h = absurd cc
starts_two a b (x ∷ []) h = absurd (and-nil (nat_eq a x) h)
starts_two a b (x ∷ y ∷ s) h = omega arith

field_text-le : (s : List ℕ) → length (field_text s) ≤ length s - 2
field_text-le s = omega (arith, length-drop (prefix_len is_blank (drop 2 s)) (drop 2 s), length-drop 2 s)

added-le : (line : LineContent) → goes_on line ≡ true → length (added line) ≤ text_len line
added-le Empty h = absurd cc
added-le Comment h = omega arith
added-le (Written text) h = omega (arith, field_text-le text, starts_two 43 58 text h)

line-none : (number : ℕ) (line : LineContent) (more : List LineContent)
    → goes_on line ≡ true → line_at number line more ≡ []
line-none number Empty more h = refl
line-none number Comment more h = refl
line-none number (Written text) more h = rw h refl

size-append : (xs ys : List Line) → size_of (xs ++ ys) ≡ size_of xs + size_of ys
size-append xs ys =
    ap sum (map-append (λ (line : Line). length line.text) xs ys)
    ∙ sum_by-append (λ x. x) (map (λ (line : Line). length line.text) xs) (map (λ (line : Line). length line.text) ys)

whole-le : (text : List ℕ) (more : List LineContent)
    → length (whole_text text more) ≤ length text + length (joined more)
whole-le text more =
    cond_both (is_field text) (text ++ joined more) text (λ t. length t ≤ length text + length (joined more))
    (λ e. omega (arith, length-append text (joined more))) (λ e. omega arith)

line-le : (number : ℕ) (line : LineContent) (more : List LineContent)
    → size_of (line_at number line more) ≤ text_len line + length (joined more)
line-le number Empty more = omega arith
line-le number Comment more = omega arith
line-le number (Written text) more =
    cond_both {A = List Line} (is_joining text) [] (record { number = number; text = whole_text text more } ∷ [])
    (λ ls. size_of ls ≤ length text + length (joined more)) (λ e. omega arith) (λ e. omega (arith, whole-le text more))

pub part-le : (number : ℕ) (ls : List LineContent) → length (joined ls) + size_of (part_from number ls) ≤ total ls
part-le number [] = rw part-nil (omega arith)
part-le number (line ∷ more) =
    let others = part-le (suc number) more in
    cond_both (goes_on line) (added line ++ joined more) []
    (λ t. length t + size_of (part_from number (line ∷ more)) ≤ text_len line + total more)
    (λ e.
    rw part-cons
    (cond_both {A = List Line} (is_end_of_part line) [] (line_at number line more ++ part_from (suc number) more)
    (λ ls. length (added line ++ joined more) + size_of ls ≤ text_len line + total more)
    (λ f. omega (arith, length-append (added line) (joined more), added-le line e, others))
    (λ f.
    rw (line-none number line more e)
    (omega (arith, length-append (added line) (joined more), added-le line e, others)))))
    (λ e.
    rw part-cons
    (cond_both {A = List Line} (is_end_of_part line) [] (line_at number line more ++ part_from (suc number) more)
    (λ ls. 0 + size_of ls ≤ text_len line + total more)
    (λ f. omega arith)
    (λ f. omega
    (arith, size-append (line_at number line more) (part_from (suc number) more), line-le number line more, others))))

-- line numbers rise from a given number on
abbrev RisesFrom : ℕ → List Line → Type 0
RisesFrom number [] = Unit {0}
RisesFrom number (line ∷ lines) = (number ≤ line.number) × RisesFrom (suc line.number) lines

rise-weaker : (number other : ℕ) (lines : List Line) → number ≤ other → RisesFrom other lines → RisesFrom number lines
rise-weaker number other [] le h = tt
rise-weaker number other (line ∷ lines) le h = (omega (arith, le, h.0), h.1)

rises : (number : ℕ) (lines : List Line) → RisesFrom number lines → NumbersRise lines
rises number [] h = tt
rises number (line ∷ []) h = tt
rises number (line ∷ next ∷ lines) h = (omega (arith, h.1.0), rises (suc line.number) (next ∷ lines) h.1)

rise-line : (number : ℕ) (line : LineContent) (more : List LineContent) (rest : List Line)
    → RisesFrom (suc number) rest → RisesFrom number (line_at number line more ++ rest)
rise-line number Empty more rest h = rise-weaker number (suc number) rest (omega arith) h
rise-line number Comment more rest h = rise-weaker number (suc number) rest (omega arith) h
rise-line number (Written text) more rest h =
    cond_both {A = List Line} (is_joining text) [] (record { number = number; text = whole_text text more } ∷ [])
    (λ ls. RisesFrom number (ls ++ rest))
    (λ e. rise-weaker number (suc number) rest (omega arith) h) (λ e. (omega arith, h))

part-rises : (number : ℕ) (ls : List LineContent) → RisesFrom number (part_from number ls)
part-rises number [] = rw part-nil tt
part-rises number (line ∷ more) =
    rw part-cons
    (cond_both {A = List Line} (is_end_of_part line) [] (line_at number line more ++ part_from (suc number) more)
    (λ ls. RisesFrom number ls)
    (λ e. tt) (λ e. rise-line number line more (part_from (suc number) more) (part-rises (suc number) more)))

-- a line that begins a tune is listed
not_joining : (s : List ℕ) → starts_with nat_eq s (88 ∷ 58 ∷ []) ≡ true → is_joining s ≡ false
not_joining [] h = refl
not_joining (x ∷ []) h = absurd (and-nil (nat_eq 88 x) h)
not_joining (x ∷ y ∷ s) h =
    let is : 88 ≡ x = eqb-true 88 x (and_parts (nat_eq 88 x) (nat_eq 58 y && true) h).0 in
    subst (λ (b : ℕ). (nat_eq 43 b && (nat_eq 58 y && true)) ≡ false) is refl

some_line : (number : ℕ) (line : LineContent) (more : List LineContent) (rest : List Line)
    → begins_tune line ≡ true → 1 ≤ length (line_at number line more ++ rest)
some_line number Empty more rest h = absurd cc
some_line number Comment more rest h = absurd cc
some_line number (Written text) more rest h = rw (not_joining text h) (omega arith)

tune-good : (ordinal number : ℕ) (line : LineContent) (more : List LineContent)
    → begins_tune line ≡ true → total (line ∷ more) ≤ 2 ^ 30 → IsGoodTune (tune_from ordinal number line more)
tune-good ordinal number line more begins small =
    let lines = line_at number line more ++ part_from (suc number) more in
    record {
      some = some_line number line more (part_from (suc number) more) begins;
      rise = rises number _ (rise-line number line more (part_from (suc number) more) (part-rises (suc number) more));
      small =
          omega (
            arith,
            small,
            size-append (line_at number line more) (part_from (suc number) more),
            line-le number line more,
            part-le (suc number) more,
          );
    }

tunes-good : (ordinal number : ℕ) (ls : List LineContent)
    → total ls ≤ 2 ^ 30 → All IsGoodTune (tunes_from ordinal number ls)
tunes-good ordinal number [] small = rw tunes-nil (λ k d lt. absurd (omega (arith, lt)))
tunes-good ordinal number (line ∷ more) small =
    let fewer : total more ≤ 2 ^ 30 = omega (arith, small) in
    rw tunes-cons
    (cond_both {A = List TuneText} (begins_tune line)
    (tune_from ordinal number line more ∷ tunes_from (suc ordinal) (suc number) more)
    (tunes_from ordinal (suc number) more) (λ ts. All IsGoodTune ts)
    (λ e.
    All-cons IsGoodTune _ _ (tune-good ordinal number line more e small)
    (tunes-good (suc ordinal) (suc number) more fewer))
    (λ e. tunes-good ordinal (suc number) more fewer))

book-good : (ls : List LineContent) → total ls ≤ 2 ^ 30 → IsGoodBook (book_from ls)
book-good ls small = record {
  header_rises = rises 1 _ (part-rises 1 ls);
  header_small = omega (arith, small, part-le 1 ls);
  tunes = tunes-good 1 1 ls small;
}

mark-le : (bytes : List ℕ) → length (without_mark bytes) ≤ length bytes
mark-le bytes =
    cond_both (starts_with nat_eq bytes byte_order_mark) (drop 3 bytes) bytes (λ t. length t ≤ length bytes)
    (λ e. omega (arith, length-drop 3 bytes)) (λ e. omega arith)

pub good : (bytes : List ℕ) → length bytes ≤ 2 ^ 30 → IsGoodBook (book_from (readings (without_mark bytes)))
good bytes small =
    let s = without_mark bytes in
    book-good (readings s) (omega (arith, small, mark-le bytes, total-le (length s) s (omega arith)))

pub book-is : (bytes : List ℕ) → book_of bytes ≡ book_from (readings (without_mark bytes))
unfolding book_of
book-is bytes = forwards (readings (without_mark bytes))

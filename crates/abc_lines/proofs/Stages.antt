-- The invariants of the loops that split a book, and each of their steps.
use Rattle.std.proofs.Common.{◌≡◌, ℕ, suc, ◌+◌, ◌≤◌, ◌<◌, ◌^◌, true, false, List, [], ◌∷◌, ◌++◌, length, refl, sym, ap}
use Rattle.std.proofs.Common.{◌∙◌, arith, append_assoc, append-nil, add-one}
use Rattle.std.proofs.lemmas.Grind.{length_at_push}
use Rattle.std.proofs.lemmas.Bool.{or_parts}
use Rattle.abc_lines.specs.declared.book.Line.{Line}
use Rattle.abc_lines.specs.declared.book.TuneText.{TuneText}
use Rattle.abc_lines.specs.declared.book.Book.{Book}
use Rattle.abc_lines.specs.declared.reading.LineContent.{LineContent}
use Rattle.abc_lines.specs.Books.{begins_tune, is_empty_line, is_end_of_part, goes_on, added, joined, line_at}
use Rattle.abc_lines.specs.Forward.{part_from, tune_from, tunes_from, book_from}
use Rattle.abc_lines.specs.Lines.{reading, readings, without_mark}
use Rattle.abc_lines.proofs.LineLaws.{Off, readings-none}
use Rattle.abc_lines.proofs.Backwards.{part-nil, part-cons, tunes-nil, tunes-cons}

pub join-next : (out new total s line rest : List ℕ) (r : LineContent)
    → Off s line rest → r ≡ reading line → goes_on r ≡ true → new ≡ out ++ added r
    → out ++ joined (readings s) ≡ total → new ++ joined (readings rest) ≡ total
join-next out new total s line rest r off is goes push so_far =
    let here : joined (readings s) ≡ added r ++ joined (readings rest) = rw (off.readings, ← is, goes) refl in
    rw push (append_assoc out (added r) (joined (readings rest)) ∙ ap (λ t. out ++ t) (sym here) ∙ so_far)

pub join-stops : (out total s line rest : List ℕ) (r : LineContent)
    → Off s line rest → r ≡ reading line → goes_on r ≡ false → out ++ joined (readings s) ≡ total → out ≡ total
join-stops out total s line rest r off is stops so_far =
    let here : joined (readings s) ≡ [] = rw (off.readings, ← is, stops) refl in
    sym (append-nil out) ∙ ap (λ t. out ++ t) (sym here) ∙ so_far

pub join-ends : (out total s : List ℕ) → length s ≡ 0 → out ++ joined (readings s) ≡ total → out ≡ total
join-ends out total s none so_far =
    let here : joined (readings s) ≡ [] = rw (readings-none s none) refl in
    sym (append-nil out) ∙ ap (λ t. out ++ t) (sym here) ∙ so_far

-- a part is listed from the position (from, start) on, and has reached (number, s)
pub record Part (first out : List Line) (from number : ℕ) (start s : List ℕ) : Type 0 where
  pub lines : out ++ part_from number (readings s) ≡ first ++ part_from from (readings start)
  pub tunes : (ordinal : ℕ) → tunes_from ordinal number (readings s) ≡ tunes_from ordinal from (readings start)
  pub within : number + length s ≤ from + length start
  pub further : length s ≤ length start
  pub counted : from ≤ number

pub part-begins : (out : List Line) (number : ℕ) (s : List ℕ) → Part out out number number s s
part-begins out number s =
    record { lines = refl; tunes = λ ordinal. refl; within = omega arith; further = omega arith; counted = omega arith }

end_yes : (line : LineContent) → is_end_of_part line ≡ false → begins_tune line ≡ false
end_yes line h = (or_parts (is_empty_line line) (begins_tune line) h).1

pub part-next : (first out new : List Line) (from number : ℕ) (start s line rest : List ℕ) (r : LineContent)
    → Off s line rest → r ≡ reading line → is_end_of_part r ≡ false
    → new ≡ out ++ line_at number r (readings rest) → Part first out from number start s
    → Part first new from (number + 1) start rest
part-next first out new from number start s line rest r off is on push so_far =
    let here : part_from number (readings s) ≡ line_at number r (readings rest) ++ part_from (suc number)
    (readings rest) = rw (off.readings, ← is, part-cons, on) refl in
    let others : (ordinal : ℕ) → tunes_from ordinal number (readings s) ≡ tunes_from ordinal (suc number)
    (readings rest) = λ ordinal. rw (off.readings, ← is, tunes-cons, end_yes r on) refl in
    rw add-one (record {
      lines =
          rw push (append_assoc out (line_at number r (readings rest)) (part_from (suc number) (readings rest))
          ∙ ap (λ t. out ++ t) (sym here)
          ∙ so_far.lines);
      tunes = λ ordinal. sym (others ordinal) ∙ so_far.tunes ordinal;
      within = omega (arith, so_far.within, off.shorter);
      further = omega (arith, so_far.further, off.shorter);
      counted = omega (arith, so_far.counted);
    })

pub part-stops : (first out : List Line) (from number : ℕ) (start s line rest : List ℕ) (r : LineContent)
    → Off s line rest → r ≡ reading line → is_end_of_part r ≡ true
    → Part first out from number start s → out ≡ first ++ part_from from (readings start)
part-stops first out from number start s line rest r off is stops so_far =
    let here : part_from number (readings s) ≡ [] = rw (off.readings, ← is, part-cons, stops) refl in
    sym (append-nil out) ∙ ap (λ t. out ++ t) (sym here) ∙ so_far.lines

pub part-ends : (first out : List Line) (from number : ℕ) (start s : List ℕ)
    → length s ≡ 0 → Part first out from number start s → out ≡ first ++ part_from from (readings start)
part-ends first out from number start s none so_far =
    let here : part_from number (readings s) ≡ [] = rw (readings-none s none) (part-nil number) in
    sym (append-nil out) ∙ ap (λ t. out ++ t) (sym here) ∙ so_far.lines

-- the tunes so far, at the position (number, s)
pub record Tunes (out : List TuneText) (total : List TuneText) (number : ℕ) (s : List ℕ) : Type 0 where
  pub tunes : out ++ tunes_from (suc (length out)) number (readings s) ≡ total
  pub within : number + length s ≤ 2 ^ 30 + 1
  pub few : length out < number

pub tunes-pass : (out total : List TuneText) (number : ℕ) (s line rest : List ℕ) (r : LineContent)
    → Off s line rest → r ≡ reading line → begins_tune r ≡ false
    → Tunes out total number s → Tunes out total (number + 1) rest
tunes-pass out total number s line rest r off is not so_far =
    let here : tunes_from (suc (length out)) number (readings s) ≡ tunes_from (suc (length out)) (suc number)
    (readings rest) = rw (off.readings, ← is, tunes-cons, not) refl in
    rw add-one
    (record {
      tunes = ap (λ t. out ++ t) (sym here) ∙ so_far.tunes;
      within = omega (arith, so_far.within, off.shorter);
      few = omega (arith, so_far.few);
    })

pub tunes-next : (out new total : List TuneText) (count number other : ℕ) (s line rest after : List ℕ) (r : LineContent)
    (tune : TuneText)
    → Off s line rest → r ≡ reading line → begins_tune r ≡ true
    → count ≡ length out → tune ≡ tune_from (count + 1) number r (readings rest)
    → ((o : ℕ) → tunes_from o other (readings after) ≡ tunes_from o (suc number) (readings rest))
    → other + length after ≤ number + 1 + length rest → number < other → new ≡ out ++ tune ∷ [] →
    Tunes out total number s → Tunes new total other after
tunes-next out new total count number other s line rest after r tune off is begins counts tune_is others within counted
    push so_far =
    let here : tunes_from (suc (length out)) number (readings s) ≡ tune_from (suc (length out)) number r (readings rest)
    ∷ tunes_from (suc (suc (length out))) (suc number) (readings rest) = rw (off.readings, ← is, tunes-cons, begins)
    refl in
    let one : tune ≡ tune_from (suc (length out)) number r (readings rest) = rw (counts, add-one) at tune_is in
    let more : length new ≡ suc (length out) = rw (← add-one) (ap length push ∙ (length_at_push out tune).1) in
    record {
      tunes =
          rw (more, others (suc (suc (length out))), push)
          (append_assoc out (tune ∷ []) _ ∙ rw one (ap (λ t. out ++ t) (sym here) ∙ so_far.tunes));
      within = omega (arith, so_far.within, off.shorter, within);
      few = omega (arith, so_far.few, counted, more);
    }

pub tunes-end : (out total : List TuneText) (number : ℕ) (s : List ℕ)
    → length s ≡ 0 → Tunes out total number s → out ≡ total
tunes-end out total number s none so_far =
    let here : tunes_from (suc (length out)) number (readings s) ≡ [] =
    rw (readings-none s none) (tunes-nil _ number) in
    sym (append-nil out) ∙ ap (λ t. out ++ t) (sym here) ∙ so_far.tunes

pub book_found : (bytes : List ℕ) (header : List Line) (tunes found : List TuneText) (first : List Line) (s : List ℕ) →
    s ≡ without_mark bytes
    → first ≡ [] → header ≡ first ++ part_from 1 (readings s) → tunes ≡ found → found ≡ tunes_from 1 1 (readings s)
    → ◌≡◌ {A = Book} (record { header = header; tunes = tunes }) (book_from (readings (without_mark bytes)))
book_found bytes header tunes found first s is none lines tunes_are found_is =
    rw (lines, none, tunes_are, found_is, is) refl

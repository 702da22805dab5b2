-- Verses are on rows of the body.
use Rattle.std.proofs.Common.{◌≡◌, ℕ, ◌+◌, ◌<◌, List, [], ◌∷◌, ◌++◌, Bool, true, false, refl, cond, reverse, ap}
use Rattle.std.proofs.Common.{◌∙◌, subst, arith, append_assoc, length, suc}
use Rattle.std.proofs.lemmas.List.{reverse-append}
use Rattle.std.proofs.lemmas.List.Elements.{All-nil, All-cons, All-append}
use Rattle.std.specs.Prelude.{Option, Some, None, ⊤}
use Rattle.std.specs.List.{All}
use Rattle.abc_steps.specs.declared.step.BodyItem.{BodyItem}
use Rattle.abc_words.specs.declared.rows.RowState.{RowState}
use Rattle.abc_words.specs.declared.verses.Verse.{Verse}
use Rattle.abc_words.specs.Rows.{row_after, row_end, row_ends, music_row_at, is_line_of, last_row, place_at}
use Rattle.abc_words.specs.Verses.{AreOnRows, verse_if, verse_at, verses_from, verses_of_voice}

abbrev IsWithin : ℕ → Verse → Type 0
IsWithin n v = v.row < n

abbrev LastWithin : ℕ → Option ℕ → Type 0
LastWithin n None = ⊤
LastWithin n (Some row) = row < n

row_before : (i : BodyItem) (row n : ℕ) → row_after i row < n → row < n
row_before (BodyItem.Step s) row n less = less
row_before (BodyItem.LineEnd joined breaks line column) row n less = by_test joined less where
  by_test : (b : Bool) → cond b row (row + 1) < n → row < n
  by_test true less = less
  by_test false less = omega arith
row_before (BodyItem.Voice def line column) row n less = less
row_before (BodyItem.Words text line) row n less = less

-- the rows of a voice begin before their place
last_within : (id unnamed : List ℕ) (before : List BodyItem) (n : ℕ)
    → music_row_at before < n → LastWithin n (last_row id unnamed before)
last_within id unnamed [] n less = tt
last_within id unnamed (BodyItem.Step s ∷ before) n less = last_within id unnamed before n less
last_within id unnamed (BodyItem.LineEnd joined breaks line column ∷ before) n less =
    let here : music_row_at before < n =
    row_before (BodyItem.LineEnd joined breaks line column) (music_row_at before) n less in
    by_test (is_line_of id unnamed before) here (last_within id unnamed before n here) where
      by_test : (b : Bool) → music_row_at before < n → LastWithin n (last_row id unnamed before)
          → LastWithin n (cond b (Some (music_row_at before)) (last_row id unnamed before))
      by_test true here rest = here
      by_test false here rest = rest
last_within id unnamed (BodyItem.Voice def line column ∷ before) n less = last_within id unnamed before n less
last_within id unnamed (BodyItem.Words text line ∷ before) n less = last_within id unnamed before n less

verse_within : (place : RowState) (i : BodyItem) (n : ℕ) → LastWithin n place.last → All (IsWithin n) (verse_at place i)
verse_within place (BodyItem.Step s) n h = All-nil (IsWithin n)
verse_within place (BodyItem.LineEnd joined breaks line column) n h = All-nil (IsWithin n)
verse_within place (BodyItem.Voice def line column) n h = All-nil (IsWithin n)
verse_within place (BodyItem.Words text line) n h = by_cases place.current place.last h where
  by_cases : (current : Bool) (last : Option ℕ) → LastWithin n last → All (IsWithin n) (verse_if current last text line)
  by_cases true (Some row) h = All-cons (IsWithin n) _ [] h (All-nil (IsWithin n))
  by_cases true None h = All-nil (IsWithin n)
  by_cases false last h = All-nil (IsWithin n)

-- rows never decrease
rows_rise : (following before : List BodyItem) (n : ℕ)
    → music_row_at (following ++ before) < n → music_row_at before < n
rows_rise [] before n less = less
rows_rise (i ∷ following) before n less =
    rows_rise following before n (row_before i (music_row_at (following ++ before)) n less)

one_on : (i : BodyItem) (before items : List BodyItem) → reverse (i ∷ items) ++ before ≡ reverse items ++ (i ∷ before)
one_on i before items =
    ap (λ xs. xs ++ before) (reverse-append (i ∷ []) items) ∙ append_assoc (reverse items) (i ∷ []) before

all_within : (id unnamed : List ℕ) (before items : List BodyItem) (n : ℕ)
    → music_row_at (reverse items ++ before) < n → All (IsWithin n) (verses_from id unnamed before items)
all_within id unnamed before [] n less = All-nil (IsWithin n)
all_within id unnamed before (i ∷ items) n less =
    let here : music_row_at before < n = rows_rise (reverse (i ∷ items)) before n less in
    let more : music_row_at (reverse items ++ (i ∷ before)) < n =
    subst (λ xs. music_row_at xs < n) (one_on i before items) less in
    All-append (IsWithin n) (verse_at (place_at id unnamed before) i) (verses_from id unnamed (i ∷ before) items)
    (verse_within (place_at id unnamed before) i n (last_within id unnamed before n here))
    (all_within id unnamed (i ∷ before) items n more)

-- ---- the rows of a body, from where they end
ended : (items before : List BodyItem)
    → music_row_at (reverse items ++ before) ≡ length (row_ends items) + music_row_at before
ended [] before = let none : music_row_at before ≡ 0 + music_row_at before = omega arith in none
ended (i ∷ items) before =
    ap music_row_at (one_on i before items)
    ∙ ended items (i ∷ before)
    ∙ one i (row_ends items) (music_row_at before) where
      one : (i : BodyItem) (ends : List ℕ) (row : ℕ) → length ends + row_after i row ≡ length (row_end i ++ ends) + row
      one (BodyItem.Step s) ends row = refl
      one (BodyItem.LineEnd true breaks line column) ends row = refl
      one (BodyItem.LineEnd false breaks line column) ends row =
          let more : length ends + (row + 1) ≡ suc (length ends) + row = omega arith in more
      one (BodyItem.Voice def line column) ends row = refl
      one (BodyItem.Words text line) ends row = refl

pub verses_within : (id unnamed : List ℕ) (items : List BodyItem) → AreOnRows (verses_of_voice id unnamed items)
verses_within id unnamed items =
    let rows : music_row_at (reverse items ++ []) ≡ length (row_ends items) + 0 = ended items [] in
    all_within id unnamed [] items (length (row_ends items) + 1) (omega (arith, rows))

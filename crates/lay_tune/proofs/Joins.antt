-- The columns of each measure by which spans of measures are tried are also those of the systems.
use Rattle.std.proofs.Math.Seq.{get_or-append_seam}
use Rattle.std.proofs.Common.{◌≡◌, ◌∙◌, ℕ, suc, ◌+◌, ◌-◌, ◌<◌, ◌≤◌, ◌==◌, true, false, Option, None, List, [], ◌∷◌}
use Rattle.std.proofs.Common.{◌++◌, length, length-append, take, drop, flat_map, get_or, refl, sym, ap, subst, arith}
use Rattle.std.proofs.lemmas.Bool.Decides.{nat_tests}
use Rattle.std.proofs.lemmas.List.{get_or-drop, get_or-take, length-map, length-drop, length-take-le}
use Rattle.std.specs.List.{All, slice_index_or}
use Rattle.mus_score.specs.declared.score.Score.{Score}
use Rattle.mus_score.specs.GoodScore.{IsGoodScore}
use Rattle.mus_onsets.specs.declared.times.Timeline.{Timeline}
use Rattle.mus_onsets.specs.Onsets.{timeline_of}
use Rattle.lay_reaches.specs.declared.column.Column.{Column}
use Rattle.lay_reaches.specs.Columns.{StandsWhereDue, column_reach}
use Rattle.lay_reaches.specs.Lanes.{gaps_of}
use Rattle.lay_reaches.specs.Reaches.{stands_always}
use Rattle.mus_marks.specs.Staff.{verses_on}
use Rattle.mus_marks.specs.System.{drawn_staves}
use Rattle.lay_columns.specs.Measures.{AreFurther, AreMeasureColumns, EndWithBar, further_of}
use Rattle.lay_columns.specs.Law.{AreColumnsFrom, MeasuresJoin}
use Rattle.lay_columns.proofs.Facts.{measure_bar, measure_stands}
use Rattle.lay_spans.{specs.{Columns.EndsInAll, Columns.measures_from}, proofs.{Adding.ends_so, Growing.each_more}}
use Rattle.lay_tune.specs.Measures.{EachFurther, EachMeasure, IsMeasure}
use Rattle.lay_tune.specs.Spans.{AreColumnsOf, system_columns, verses_of}

-- columns that end with a bar end in each lane
bar_ends : (verses : List ℕ) (columns : List Column)
    → EndWithBar columns → All (StandsWhereDue verses) columns
    → EndsInAll column_reach (length (gaps_of verses)) columns
bar_ends verses columns h stands =
    let all = subst (λ cs. All (StandsWhereDue verses) cs) h.parts stands in
    let n = length-append h.prefix (h.last ∷ []) in
    let due : StandsWhereDue verses h.last =
    subst (StandsWhereDue verses) (get_or-append_seam h.prefix h.last [] h.last)
    (all (length h.prefix) h.last (omega arith)) in
    let one : EndsInAll column_reach (length (gaps_of verses)) (h.last ∷ []) =
    record { some = omega arith; last = due (ap stands_always h.bar) } in
    subst (λ cs. EndsInAll column_reach (length (gaps_of verses)) cs) (sym h.parts)
    (record { some = omega arith; last = ends_so column_reach (length (gaps_of verses)) h.prefix (h.last ∷ []) one })

pub measure_of : (s : Score) (t : Timeline) (a m : ℕ) (verses : List ℕ) (columns : List Column)
    → IsGoodScore s → t ≡ timeline_of s → verses ≡ verses_of s → 1 ≤ length s.voices → m < s.measures
    → AreMeasureColumns (a == m) s t m verses columns → IsMeasure s a m columns
measure_of s t a m verses columns good times is some within h =
    let bar = measure_bar (a == m) s t m verses columns h good times some within in
    let stands =
    measure_stands (a == m) s t m verses columns h (ap length is ∙ length-map (drawn_staves s) verses_on) in
    record {
      called =
          subst (λ t. AreMeasureColumns (a == m) s t m (verses_of s) columns) times
          (subst (λ vs. AreMeasureColumns (a == m) s t m vs columns) is h);
      ends = subst (λ vs. EndsInAll column_reach (length (gaps_of vs)) columns) is (bar_ends verses columns bar stands);
    }

pub measure_more : (P : ℕ → List Column → Type 0) (n : ℕ) (rows : List (List Column)) (columns : List Column)
    → EachMeasure P n rows → P n columns → EachMeasure P (n + 1) (rows ++ columns ∷ [])
measure_more P n rows columns h p =
    let k = h.count in let l = length-append rows (columns ∷ []) in
    record {
      count = omega arith;
      each = λ m less.
          each_more P rows columns [] (λ m less. h.each m (omega arith)) (subst (λ i. P i columns) (sym h.count) p) m
          (omega arith);
    }

pub further_more : (s : Score) (n : ℕ) (own : List (Option (List Column))) (more : Option (List Column))
    → EachFurther s n own → AreFurther s (timeline_of s) n (verses_of s) more → EachFurther s (n + 1) (own ++ more ∷ [])
further_more s n own more h p =
    let k = h.count in
    let l = length-append own (more ∷ []) in
    let P = λ (m : ℕ) (o : Option (List Column)). AreFurther s (timeline_of s) m (verses_of s) o in
    record {
      count = omega arith;
      each = λ m less.
          each_more P own more None (λ m less. h.each m (omega arith)) (subst (λ i. P i more) (sym h.count) p) m
          (omega arith);
    }

-- the columns of measure m in a system that begins with the measure before it, given those of its own
pub other_of : (s : Score) (m : ℕ) (starts : List (List Column)) (own : List (Option (List Column)))
    → IsGoodScore s → 1 ≤ length s.voices → m < s.measures
    → EachMeasure (λ m. IsMeasure s m m) s.measures starts → EachFurther s s.measures own
    → IsMeasure s (m - 1) m (further_of m (slice_index_or starts m []) (slice_index_or own m None))
other_of s m starts own good some within begun h =
    measure_of s (timeline_of s) (m - 1) m (verses_of s) _ good refl refl some within
    (h.each m within (get_or starts m [])
    (subst (λ b. AreMeasureColumns b s (timeline_of s) m (verses_of s) (get_or starts m [])) (itself m)
    (begun.each m within).called))
  where
    itself : (m : ℕ) → (m == m) ≡ true
    itself m = grind (arith, nat_tests)

-- a measure after the first of a system has the same columns wherever the system began
abbrev AreAfter : Score → ℕ → List Column → Type 0
AreAfter s m columns = AreMeasureColumns ((m - 1) == m) s (timeline_of s) m (verses_of s) columns

after_any : (s : Score) (a m : ℕ) (columns : List Column)
    → a < m → AreAfter s m columns → AreMeasureColumns (a == m) s (timeline_of s) m (verses_of s) columns
after_any s a m columns h =
    subst (λ begins. AreMeasureColumns begins s (timeline_of s) m (verses_of s) columns)
    (apart (m - 1) m (omega (arith, h)) ∙ sym (apart a m h))
  where
    apart : (a m : ℕ) → a < m → (a == m) ≡ false
    apart a m h = grind (arith, nat_tests)

-- those of the measures from i on, in a system that begins with measure a
further_ones : (s : Score) (a i : ℕ) (rows : List (List Column))
    → a < i
    → ((j : ℕ) → j < length rows → AreAfter s (i + j) (get_or rows j []))
    → AreColumnsFrom s (timeline_of s) a i (verses_of s) rows
further_ones s a i [] less h = tt
further_ones s a i (row ∷ rows) less h =
    let here : i + 0 ≡ i = omega arith in (
      after_any s a i row less (subst (λ m. AreAfter s m row) here (h 0 (omega arith))),
      further_ones s a (i + 1) rows (omega (arith, less)) (λ j l.
          let next : i + suc j ≡ i + 1 + j = omega arith in
          subst (λ m. AreAfter s m (get_or rows j [])) next (h (suc j) (omega arith))),
    )

-- those of measures i to i + k - 1
further_part : (s : Score) (others : List (List Column))
    → EachMeasure (λ m. IsMeasure s (m - 1) m) s.measures others → (a i k : ℕ) → a < i → i + k ≤ s.measures
    → AreColumnsFrom s (timeline_of s) a i (verses_of s) (take k (drop i others))
further_part s others h a i k less within =
    let n = h.count in
    let d = length-drop i others in
    let l : length (take k (drop i others)) ≡ k = length-take-le k (drop i others) (omega arith) in
    further_ones s a i (take k (drop i others)) less (λ j below.
    let short : j < k = omega arith in
    subst (λ row. AreAfter s (i + j) row) (sym (get_or-take k (drop i others) j [] short ∙ get_or-drop i others j []))
    (h.each (i + j) (omega arith)).called)

pub columns_join : MeasuresJoin → (s : Score) (starts others : List (List Column)) → IsGoodScore s
    → EachMeasure (λ m. IsMeasure s m m) s.measures starts → EachMeasure (λ m. IsMeasure s (m - 1) m) s.measures others
    → AreColumnsOf s starts others
columns_join law s starts others good firsts furthers = λ a b m less within call.
    let n = furthers.count in let d = length-drop (a + 1) others in
    let k : length (take (b - (a + 1)) (drop (a + 1) others)) ≡ b - (a + 1) =
    length-take-le (b - (a + 1)) (drop (a + 1) others) (omega arith) in
    let e : b - a ≡ suc (b - (a + 1)) = omega arith in
    subst (λ i. system_columns s m ≡ flat_map (λ measure. measure) (take i (measures_from starts others a))) (sym e)
    (law s (timeline_of s) a b m (verses_of s) (get_or starts a [] ∷ take (b - (a + 1)) (drop (a + 1) others))
    good refl less (omega arith) within call (
      (firsts.each a (omega arith)).called,
      further_part s others furthers a (a + 1) (b - (a + 1)) (omega arith) (omega arith),
    ))

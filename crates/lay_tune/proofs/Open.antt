-- The spans of a score, and that a breaking of them can be set.
use Rattle.std.proofs.Common.{◌≡◌, ℕ, ◌-◌, ◌<◌, ◌≤◌, ◌*◌, ◌^◌, ◌==◌, not, Bool, List, [], ◌∷◌, length, map, Option}
use Rattle.std.proofs.Common.{Some, None, IsSome, option_map, sym, ◌∙◌, ap, subst, refl, arith}
use Rattle.std.proofs.lemmas.Bool.{true≢false}
use Rattle.std.proofs.lemmas.List.{length-map}
use Rattle.std.proofs.lemmas.List.Elements.{All-from_recursion}
use Rattle.std.proofs.lemmas.List.Sums.{sum-map}
use Rattle.std.specs.List.{All, AllByRecursion, filter, sum_by}
use Rattle.mus_score.specs.declared.score.Score.{Score}
use Rattle.mus_score.specs.declared.score.Voice.{Voice}
use Rattle.mus_score.specs.GoodScore.{IsGoodScore}
use Rattle.mus_score.specs.Seats.{grouped, is_lower, stands_lower as lower}
use Rattle.mus_laid.specs.declared.laid.StaffMarks.{StaffMarks}
use Rattle.mus_laid.specs.declared.laid.SystemMarks.{SystemMarks}
use Rattle.mus_drawn.specs.declared.drawn.DrawnVoice.{DrawnVoice}
use Rattle.mus_drawn.specs.Drawn.{drawn_voice}
use Rattle.mus_marks.specs.Staff.{verses_on}
use Rattle.mus_marks.specs.System.{drawn_staves, is_drawn_lower}
use Rattle.mus_marks.proofs.Fitting.{few_verses}
use Rattle.mus_marks.proofs.Groups.{grouped_map}
use Rattle.lay_reaches.specs.declared.column.Column.{Column}
use Rattle.lay_reaches.specs.Columns.{column_reach}
use Rattle.lay_springs.specs.Place.{length_at, reach_at}
use Rattle.lay_springs.proofs.Longer.{stand_few, stands}
use Rattle.lay_breaks.specs.declared.costs.Span.{Span}
use Rattle.lay_breaks.specs.Breaking.{FitsFrom, IsChosen, RisesFrom, last_from}
use Rattle.lay_breaks.specs.Spans.{listed}
use Rattle.lay_rows.specs.{Badness.{badness_of}, Costs.{force_in}}
use Rattle.lay_spans.specs.declared.costs.FittingSpans.{FittingSpans}
use Rattle.lay_spans.specs.Columns.{AreMeasures, span_columns}
use Rattle.lay_spans.specs.Forced.{is_forced}
use Rattle.lay_spans.specs.{Rows.{HaveForces}, SpanList.{IsSpanList}}
use Rattle.lay_spans.proofs.Adding.{columns_some}
use Rattle.lay_tune.proofs.StaffCounts.{count_grouped, few_groups, none_more}
use Rattle.lay_tune.specs.Spans.{AreColumnsOf, AreSpansOf, CanStandIn, IsForceOf, column_length, score_gaps}
use Rattle.lay_tune.specs.Spans.{system_columns, verses_of}
use Rattle.lay_tune.specs.Systems.{AllSpans, CanBeSet, gaps_between}

pub some_of : (o : Option ℕ) → IsSome o → (v : ℕ) × (o ≡ Some v)
some_of None e = absurd (true≢false (sym e))
some_of (Some v) e = (v, refl)

-- a span of which the rows have a force can be set
pub span_open : (s : Score) (width : ℕ) (starts others : List (List Column)) (rows : List (List ℕ)) (lanes : ℕ)
    (forced : ℕ → Bool)
    → length starts ≡ s.measures → AreMeasures column_reach lanes starts others → AreColumnsOf s starts others
    → HaveForces column_reach column_length (score_gaps s) width starts others forced rows
    → width < 2 ^ 32 → (a b : ℕ) → a < b → b ≤ s.measures → IsSome (force_in rows a b)
    → CanBeSet s width rows a b
span_open s width starts others rows lanes forced count measures join h narrow a b l m some =
    let force = some_of (force_in rows a b) some in
    let pressed = (h a b force.0 l (omega arith) force.1).pressed in
    let begun = measures.begun a (omega arith) in
    let first : 0 < length (span_columns starts others a b) = columns_some starts others a b l begun in
    record {
      rises = l;
      within = m;
      force = force.0;
      pressed_so = force.1;
      columns = λ marks is.
          let columns = system_columns s marks in
          let own =
          subst (λ columns. IsForceOf (score_gaps s) width columns force.0) (sym (join a b marks l m is)) pressed in
          let some = subst (λ columns. 0 < length columns) (sym (join a b marks l m is)) first in
          let few = stand_few (length columns) (reach_at column_reach columns) (score_gaps s)
          (length_at column_length columns) width force.0 some
          (stands (length columns) (reach_at column_reach columns) (score_gaps s) (length_at column_length columns)
          width force.0 own.fits) in
          record { some = some; few = omega (arith, few, narrow); pressed = own };
    }

pub past_last : (a : ℕ) (bs : List ℕ) → RisesFrom a bs → a ≤ last_from a bs
past_last a [] r = omega arith
past_last a (b ∷ bs) r = let h = past_last b bs r.1 in let l = r.0 in omega arith

all_open : (P : ℕ → ℕ → Type 0) (cost : ℕ → ℕ → Option ℕ) (n : ℕ)
    → ((a b : ℕ) → a < b → b ≤ n → IsSome (cost a b) → P a b)
    → (a : ℕ) (bs : List ℕ) → RisesFrom a bs → FitsFrom cost a bs → last_from a bs ≤ n → AllSpans P a bs
all_open P cost n h a [] r f l = tt
all_open P cost n h a (b ∷ bs) r f l =
    let p = past_last b bs r.1 in (h a b r.0 (omega arith) f.0, all_open P cost n h b bs r.1 f.1 l)

-- the spans of the columns of measures are those of the score
pub spans_read : (s : Score) (width : ℕ) (starts others : List (List Column)) (spans : List Span) (gaps forced : List ℕ)
    → length starts ≡ s.measures → gaps ≡ score_gaps s → forced ≡ s.forced → AreColumnsOf s starts others
    → IsSpanList column_reach column_length gaps width starts others (is_forced (length starts) forced) spans
    → AreSpansOf s width spans
spans_read s width starts others spans gaps forced count is all join h =
    let these = subst
    (λ n. IsSpanList column_reach column_length (score_gaps s) width starts others (is_forced n s.forced) spans) count
    (subst (λ bars.
    IsSpanList column_reach column_length (score_gaps s) width starts others (is_forced (length starts) bars) spans)
    all
    (subst (λ these.
    IsSpanList column_reach column_length these width starts others (is_forced (length starts) forced) spans)
    is h)) in
    record {
      each = λ a b v l m e.
          let k = these.each a b v l (omega arith) e in
          record {
            free = k.free;
            pressed = (
              k.pressed.0,
              subst (λ n. v ≡ badness_of (b == n) k.pressed.0) count k.pressed.2,
              λ marks is.
                  subst (λ columns. IsForceOf (score_gaps s) width columns k.pressed.0) (sym (join a b marks l m is))
                  k.pressed.1,
            );
          };
      fits = λ a b marks l m free is stand.
          these.fits a b l (omega arith) free
          (subst (λ columns. CanStandIn (score_gaps s) width columns) (join a b marks l m is) stand);
    }

-- a span that costs something has a force
was_some : (f : ℕ → ℕ) (o : Option ℕ) → IsSome (option_map f o) → IsSome o
was_some f None h = h
was_some f (Some force) h = refl

-- the chosen breaking can be set
pub chosen_read : (s : Score) (width : ℕ) (starts others : List (List Column)) (spans : FittingSpans)
    (gaps forced breaks bars : List ℕ)
    → length starts ≡ s.measures → gaps ≡ score_gaps s → bars ≡ breaks
    → AreMeasures column_reach (length gaps) starts others
    → AreColumnsOf s starts others
    → HaveForces column_reach column_length gaps width starts others (is_forced (length starts) forced) spans.rows.rows
    → width < 2 ^ 32
    → IsChosen (listed spans.list) (is_forced s.measures forced) s.measures breaks
    → AllSpans (CanBeSet s width spans.rows.rows) 0 bars
chosen_read s width starts others spans gaps forced breaks bars count is ends measures join h narrow chosen =
    let legal = chosen.legal in
    let last = legal.ends in
    let rows = spans.rows.rows in
    subst (λ these. AllSpans (CanBeSet s width spans.rows.rows) 0 these) (sym ends)
    (all_open (CanBeSet s width rows) (listed spans.list) s.measures
    (λ a b l m some.
    span_open s width starts others rows (length gaps) (is_forced (length starts) forced) count measures join
    (subst (λ these. HaveForces column_reach column_length these width starts others (is_forced (length starts) forced)
    spans.rows.rows) is h)
    narrow a b l m
    (was_some (λ force. badness_of (b == length rows) force) (force_in rows a b)
    (subst (λ o. IsSome o) (sym (spans.same a b)) some)))
    0 breaks legal.rises legal.fits (omega arith))

-- a score has few lanes
small_sums : (n : ℕ) (staves : List (List DrawnVoice))
    → n ≤ 255
    → AllByRecursion (λ vs. sum_by (λ v. v.verses) vs ≤ n) staves
    → AllByRecursion (λ k. k ≤ 255) (map verses_on staves)
small_sums n [] l h = tt
small_sums n (vs ∷ staves) l h =
    let all = sum-map (λ (v : DrawnVoice). v.verses) vs in
    let here = h.0 in
    (omega (arith, l, all, here), small_sums n staves l h.1)

small_verses : (s : Score) → IsGoodScore s → All (λ n. n ≤ 255) (verses_of s)
small_verses s good =
    let voices = map drawn_voice s.voices in
    let most = few_verses s good in
    let all = sum-map (λ (v : DrawnVoice). v.verses) (map drawn_voice s.voices) in
    All-from_recursion (λ n. n ≤ 255) (verses_of s)
    (small_sums (sum_by (λ v. v.verses) voices) (drawn_staves s) (omega (arith, most, all))
    (none_more is_drawn_lower (λ v. v.verses) voices))

-- and no more staves than voices
pub staves_count : (s : Score) → length (drawn_staves s) ≤ length s.voices
staves_count s =
    let few = few_groups is_drawn_lower (map drawn_voice s.voices) in
    let each = length-map s.voices drawn_voice in
    omega (arith, few, each)

pub few_lanes : (s : Score) (verses gaps : List ℕ)
    → IsGoodScore s → verses ≡ verses_of s
    → (All (λ v. v ≤ 255) verses → length gaps ≤ 258 * length verses)
    → length gaps < 4294967296
few_lanes s verses gaps good is few =
    let small = few (subst (λ these. All (λ v. v ≤ 255) these) (sym is) (small_verses s good)) in
    let count : length verses ≡ length (drawn_staves s) =
    ap (λ these. length these) is ∙ length-map (drawn_staves s) verses_on in
    let staves = staves_count s in
    let voices = good.few_voices in
    omega arith

-- one gap for each staff but the first
same_seat : (v : Voice) → is_lower (drawn_voice v).seat ≡ is_lower v.seat
unfolding drawn_voice
same_seat v = refl

gaps_of_voices : (vs : List Voice) → length (gaps_between vs) ≡ length (grouped is_drawn_lower (map drawn_voice vs)) - 1
gaps_of_voices [] = refl
gaps_of_voices (v ∷ vs) =
    let drawn = ap (λ groups. length groups) (grouped_map drawn_voice lower is_drawn_lower same_seat (v ∷ vs)) in
    let same = length-map (grouped lower (v ∷ vs)) (map drawn_voice) in
    let all = length-map (filter (λ v. not (lower v)) vs) (λ v. v.gap) in
    omega (arith, drawn, same, all, count_grouped lower v vs)

pub gaps_count : (s : Score) (m : SystemMarks) (gaps : List ℕ) (staff : List DrawnVoice → StaffMarks)
    → gaps ≡ gaps_between s.voices → m.staves ≡ map staff (drawn_staves s) → length gaps ≡ length m.staves - 1
gaps_count s m gaps staff is stand =
    ap (λ gs. length gs) is
    ∙ gaps_of_voices s.voices
    ∙ ap (λ n. n - 1) (sym (ap (λ these. length these) stand ∙ length-map (drawn_staves s) staff))

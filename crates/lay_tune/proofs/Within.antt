-- Columns that are apart rise from 0, and those of a system end within the width.
use Rattle.std.proofs.Common.{◌≡◌, ◌∙◌, sym, ap, subst, refl, inl, inr, ℕ, ◌+◌, ◌-◌, ◌*◌, ◌/◌, ◌<◌, ◌≤◌}
use Rattle.std.proofs.Common.{◌==◌, ◌^◌, ℤ, pos, ◌+ℤ◌, ◌≤ℤ◌, Bool, true, false, List, length, map, Option, Some}
use Rattle.std.proofs.Common.{[], ◌∷◌, zero, suc, ◌-ℤ◌, arith}
use Rattle.std.proofs.lemmas.Bool.{cases_lt}
use Rattle.std.proofs.lemmas.Bool.Decides.{nat_tests}
use Rattle.std.proofs.lemmas.Int.{ints}
use Rattle.std.proofs.lemmas.List.{length-map}
use Rattle.std.specs.List.{Contains}
use Rattle.mus_score.specs.declared.score.Score.{Score}
use Rattle.mus_score.specs.GoodScore.{IsGoodScore}
use Rattle.mus_onsets.specs.declared.keys.ColumnKey.{ColumnKey}
use Rattle.mus_onsets.specs.Keys.{AreKeys, bar_key, called_keys, head_key}
use Rattle.mus_onsets.specs.Onsets.{timeline_of}
use Rattle.mus_laid.specs.declared.laid.SystemMarks.{SystemMarks}
use Rattle.mus_marks.specs.Tilt.{AreAbscissas}
use Rattle.mus_marks.proofs.Inside.{bars_inside, head_inside}
use Rattle.mus_marks.proofs.OneList.{same_keys}
use Rattle.lay_springs.specs.declared.traits.Reach.{Reach}
use Rattle.lay_springs.specs.declared.margin.Placed.{Placed}
use Rattle.lay_springs.specs.Fit.{Fits, IsEndOf, IsSet, counted}
use Rattle.lay_springs.specs.Justified.{IsJustifiedAt}
use Rattle.lay_springs.specs.Place.{IsPlace, StandApart, length_at, reach_at}
use Rattle.lay_springs.proofs.Ends.{apart_down, length_rises as lengths_rise}
use Rattle.lay_springs.proofs.Longer.{rises}
use Rattle.lay_reaches.specs.declared.column.Column.{Column}
use Rattle.lay_reaches.specs.Column.{length_rises}
use Rattle.lay_reaches.specs.Columns.{column_reach}
use Rattle.lay_reaches.proofs.Facts.{columns_keys}
use Rattle.lay_spans.specs.Columns.{span_columns}
use Rattle.lay_spans.proofs.Fitting.{seen_as}
use Rattle.lay_tune.specs.Spans.{AreColumnsOf, IsForceOf, IsSystemOf, column_length, score_gaps, system_columns}
use Rattle.lay_tune.specs.Spans.{verses_of}
use Rattle.lay_tune.specs.Systems.{CanBeSet, EndAtWidth, HaveForce, IsJustified, IsPlaced, StandWithin, x_at}
use Rattle.lay_tune.proofs.Called.{has_system}

-- the last of n columns is within the width, and reaches no further
pub record EndsWithin (n : ℕ) (reach : ℕ → ℕ → Option Reach) (gaps : List ℕ) (width : ℕ) (at : List ℤ) : Type 0 where
  pub past : x_at at (n - 1) ≤ℤ pos width
  pub reaches : (lane : ℕ) (r : Reach)
      → lane < length gaps → reach (n - 1) lane ≡ Some r → (x_at at (n - 1) +ℤ pos r.right) ≤ℤ pos width

-- ---- abscissas rise
pub rise_to : (n : ℕ) (reach : ℕ → ℕ → Option Reach) (gaps : List ℕ) (spring : ℕ → ℕ) (at : List ℤ)
    → StandApart n reach gaps spring at → (i k : ℕ) → i ≤ k → k < n → x_at at i ≤ℤ x_at at k
rise_to n reach gaps spring at h i k l m =
    let e : i + (k - i) ≡ k = omega arith in rw e at (rises n reach gaps spring at h (k - i) i (omega arith))

pub stand_low : (n : ℕ) (reach : ℕ → ℕ → Option Reach) (gaps : List ℕ) (spring : ℕ → ℕ) (at : List ℤ)
    → StandApart n reach gaps spring at → (k : ℕ) → k < n → pos 0 ≤ℤ x_at at k
stand_low n reach gaps spring at h k l =
    let up = rise_to n reach gaps spring at h 0 k (omega arith) l in
    let first = h.begins (omega arith) in
    omega (arith, ints)

pub stand_within : (n : ℕ) (reach : ℕ → ℕ → Option Reach) (gaps : List ℕ) (spring : ℕ → ℕ) (width : ℕ) (at : List ℤ)
    → length at ≡ n
    → StandApart n reach gaps spring at → (0 < n → EndsWithin n reach gaps width at) → StandWithin width n at
stand_within n reach gaps spring width at count h ends = record {
  count_is = count;
  rise = λ i l. let s = h.steps i l in omega (arith, ints);
  low = λ i l. stand_low n reach gaps spring at h i l;
  high = λ i l.
      let up = rise_to n reach gaps spring at h i (n - 1) (omega arith) (omega arith) in
      let p = (ends (omega arith)).past in
      omega (arith, ints);
}

-- ---- the end
module _ (n : ℕ) (reach : ℕ → ℕ → Option Reach) (gaps : List ℕ) (spring : ℕ → ℕ → ℕ) (width force weak : ℕ) where
  -- at a force that isn't above one that fits
  place_within : (at : List ℤ)
      → 0 < n → ((i : ℕ) → spring weak i ≤ spring force i) → Fits n reach gaps spring width force
      → IsPlace n reach gaps (spring weak) at
      → EndsWithin n reach gaps width at
  place_within at some le fits place =
      let last = place.least fits.1.x
      (apart_down n reach gaps (spring weak) (spring force) fits.1.x le fits.1.place.apart) (n - 1) (omega arith) in
      record {
        past = let a = fits.1.end.past in let b = fits.2 in omega (arith, ints);
        reaches = λ lane r l e. let a = fits.1.end.reaches lane r l e in let b = fits.2 in omega (arith, ints);
      }

  share_whole : (rest d : ℕ) → 0 < d → rest * d / d ≡ rest
  share_whole rest d l = grind arith

  -- the last of columns that are set moves by all that was left, so it ends exactly at the width
  pub set_ends : (at : List ℤ)
      → 1 < n → IsSet n reach gaps spring width weak at
      → IsEndOf (reach (n - 1)) (length gaps) (x_at at (n - 1)) (pos width)
  set_ends at several is =
      let m = is.moved several in
      let rest = m.1 in
      let whole : rest * (n - 1) / (n - 1) ≡ rest = share_whole rest (n - 1) (omega arith) in
      let there = rw whole at (m.4 (n - 1) (omega arith)) in
      let comes_to = m.3 in
      record {
        past = let a = m.2.past in omega (arith, ints);
        reaches = λ lane r l e. let a = m.2.reaches lane r l e in omega (arith, ints);
        least = λ v past reached.
            let low = m.2.least (v -ℤ pos rest) (omega (arith, ints))
            (λ lane r l e. let a = reached lane r l e in omega (arith, ints)) in
            omega (arith, ints);
      }

  moved_within : (at : List ℤ) → 1 < n → IsSet n reach gaps spring width weak at → EndsWithin n reach gaps width at
  moved_within at several is =
      let end = set_ends at several is in record { past = end.past; reaches = end.reaches }

  pub set_within : (at : List ℤ)
      → 0 < n → ((i : ℕ) → spring weak i ≤ spring force i) → Fits n reach gaps spring width force
      → IsSet n reach gaps spring width weak at
      → EndsWithin n reach gaps width at
  set_within at some le fits is = elim (cases_lt 1 n) [
    | inl several ↦ moved_within at several is
    | inr alone ↦
        subst (EndsWithin n reach gaps width) (sym (is.alone (omega arith))) (place_within is.x some le fits is.place)
  ]

counted_low : (last : Bool) (force : ℕ) → counted last force ≤ force
counted_low last force = grind (arith, nat_tests)

pub justified_within : (gaps : List ℕ) (width : ℕ) (last : Bool) (columns : List Column) (p : Placed)
    → 0 < length columns
    → IsJustified gaps width last columns p
    → EndsWithin (length columns) (reach_at column_reach columns) gaps width p.at
justified_within gaps width last columns p some h = by p.ragged refl
  where
    weak : p.force ≤ h.pressed.0
    weak = subst (λ f. f ≤ h.pressed.0) (sym h.pressed.2) (counted_low last h.pressed.0)

    rises : (i : ℕ) → length_at column_length columns p.force i ≤ length_at column_length columns h.pressed.0 i
    rises =
        lengths_rise column_length columns p.force h.pressed.0 (λ c. length_rises c.natural p.force h.pressed.0 weak)

    by : (b : Bool) → p.ragged ≡ b → EndsWithin (length columns) (reach_at column_reach columns) gaps width p.at
    by true is =
        place_within (length columns) (reach_at column_reach columns) gaps (length_at column_length columns) width
        h.pressed.0 p.force p.at some rises
        h.pressed.1.fits (h.loose is)
    by false is =
        set_within (length columns) (reach_at column_reach columns) gaps (length_at column_length columns) width
        h.pressed.0 p.force p.at some rises
        h.pressed.1.fits (h.set is)

pub justified_count : (gaps : List ℕ) (width : ℕ) (last : Bool) (columns : List Column) (p : Placed)
    → IsJustified gaps width last columns p → length p.at ≡ length columns
justified_count gaps width last columns p h = by p.ragged refl
  where
    by : (b : Bool) → p.ragged ≡ b → length p.at ≡ length columns
    by true is = (h.loose is).count
    by false is = (h.set is).count

-- ---- columns in another type
pub justified_seen : {D : Type 0} (f : D → Column) (gaps : List ℕ) (width : ℕ) (last : Bool) (seen : List D) (force : ℕ)
    (p : Placed)
    → IsForceOf gaps width (map f seen) force
    → IsJustifiedAt (length seen) (reach_at (λ s lane. column_reach (f s) lane) seen) gaps
    (length_at (λ s force. column_length (f s) force) seen) width last force p
    → IsJustified gaps width last (map f seen) p
justified_seen f gaps width last seen force p pressed set =
    let at = subst (λ T. T)
    (seen_as f column_reach column_length (λ n r l. IsJustifiedAt n r gaps l width last force p) seen (map f seen) refl)
    set in
    record {
      pressed = (force, pressed, at.counted_is, at.ragged);
      loose = at.loose;
      set = at.set;
      apart = at.apart;
    }

-- ---- the columns of a system
pub system_count : (s : Score) (m : SystemMarks) → length (system_columns s m) ≡ length m.keys
system_count s m =
    sym (length-map (system_columns s m) (λ c. c.key))
    ∙ ap (λ ks. length ks) (columns_keys m.staves (timeline_of s).lengths (verses_of s) 0 m.keys)

-- facts of a span that can be set, by the columns of its measures
pub span_set : {s : Score} {width a b : ℕ} {rows : List (List ℕ)} {gaps : List ℕ}
    (starts others : List (List Column)) (columns : List Column)
    → (fits : CanBeSet s width rows a b) → AreColumnsOf s starts others → gaps ≡ score_gaps s
    → columns ≡ span_columns starts others a b
    → HaveForce gaps width fits.force columns
    × ((p : Placed) → IsJustified gaps width (b == s.measures) columns p → IsPlaced s width (has_system s a b).0 p)
    × AreKeys (map (λ c. c.key) columns) (called_keys s (timeline_of s).lengths a b)
span_set {s} {width} {a} {b} {rows} {gaps} starts others columns fits join are is =
    let m = (has_system s a b).0 in let call = (has_system s a b).1 in
    let same : system_columns s (has_system s a b).0 ≡ columns = join a b m fits.rises fits.within call ∙ sym is in (
      subst (λ gs. HaveForce gs width fits.force columns) (sym are)
          (subst (HaveForce (score_gaps s) width fits.force) same (fits.columns m call)),
      λ p h. subst (λ gs. IsJustified gs width (m.b == s.measures) (system_columns s m) p) are
          (subst (λ b. IsJustified gaps width (b == s.measures) (system_columns s m) p) (sym call.to)
          (subst (λ cs. IsJustified gaps width (b == s.measures) cs p) (sym same) h)),
      subst (λ cs. AreKeys (map (λ c. c.key) cs) (called_keys s (timeline_of s).lengths a b)) same
          (subst (λ keys. AreKeys keys (called_keys s (timeline_of s).lengths a b))
          (sym (columns_keys m.staves (timeline_of s).lengths (verses_of s) 0 m.keys)) call.keys),
    )

-- a list that has two keys has more than one
two_keys : (keys : List ColumnKey) (k l : ColumnKey)
    → Contains keys k → Contains keys l → (k ≡ l → ⊥) → 1 < length keys
two_keys [] k l (i, inside, is) g apart = absurd (omega (arith, inside))
two_keys (x ∷ []) k l (zero, inside, is) (zero, within, same) apart = absurd (apart (sym is ∙ same))
two_keys (x ∷ []) k l (suc i, inside, is) g apart = absurd (omega (arith, inside))
two_keys (x ∷ []) k l h (suc i, inside, is) apart = absurd (omega (arith, inside))
two_keys (x ∷ y ∷ keys) k l h g apart = omega arith

not_bar : (lengths : List ℕ) (a m : ℕ) → head_key a ≡ bar_key lengths m → ⊥
not_bar lengths a m e = let same = ap (λ (k : ColumnKey). k.class) e in cc

-- a system has a head and the bar of its first measure
pub several_columns : (s : Score) (a b : ℕ) (m : SystemMarks)
    → IsGoodScore s → (0 < s.measures → 1 ≤ length s.voices) → a < b → b ≤ s.measures → IsSystemOf s a b m
    → 1 < length (system_columns s m)
several_columns s a b m good heard rises within call =
    let lengths = (timeline_of s).lengths in
    let some = heard (omega (arith, rises, within)) in
    let bar = bars_inside s lengths a b m.keys good some within call.keys 0 (omega (arith, rises)) in
    subst (λ n. 1 < n) (sym (system_count s m))
    (two_keys m.keys (head_key a) (bar_key lengths (a + 0)) (head_inside s lengths a b m.keys good some call.keys) bar
    (not_bar lengths a (a + 0)))

-- so it ends exactly at the width, unless it is ragged
pub placed_ends : (s : Score) (width a b : ℕ) (m : SystemMarks) (p : Placed)
    → IsGoodScore s → (0 < s.measures → 1 ≤ length s.voices) → a < b → b ≤ s.measures → IsSystemOf s a b m
    → IsPlaced s width m p
    → p.ragged ≡ false
    → EndAtWidth (score_gaps s) width (system_columns s m) p.at
placed_ends s width a b m p good heard rises within call placed loose =
    let columns = system_columns s m in
    set_ends (length columns) (reach_at column_reach columns) (score_gaps s) (length_at column_length columns) width
    p.force p.force p.at (several_columns s a b m good heard rises within call) (placed.set loose)

-- they are within the width wherever they are placed
pub placed_stand : (s : Score) (width : ℕ) (m : SystemMarks) (p : Placed)
    → IsPlaced s width m p → StandWithin width (length m.keys) p.at
placed_stand s width m p placed =
    let columns = system_columns s m in
    subst (λ n. StandWithin width n p.at) (system_count s m)
    (stand_within (length columns) (reach_at column_reach columns) (score_gaps s)
    (length_at column_length columns p.force) width p.at
    (justified_count (score_gaps s) width (m.b == s.measures) columns p placed) placed.apart
    (λ some. justified_within (score_gaps s) width (m.b == s.measures) columns p some placed))

-- so marks can be tilted over them
pub abscissas_of : (s : Score) (width a b : ℕ) (m : SystemMarks) (p : Placed)
    → width < 2 ^ 32 → IsSystemOf s a b m → IsPlaced s width m p → AreAbscissas s (timeline_of s) a b p.at
abscissas_of s width a b m p narrow call placed =
    let stand = placed_stand s width m p placed in
    let count = stand.count_is in record {
      each =
          λ keys are.
          count
          ∙ ap (λ ks. length ks) (same_keys m.keys keys (called_keys s (timeline_of s).lengths a b) call.keys are);
      rise = λ i less. stand.rise i (omega arith);
      low = λ i less. stand.low i (omega arith);
      high = λ i less. let most = stand.high i (omega arith) in omega (arith, ints);
    }

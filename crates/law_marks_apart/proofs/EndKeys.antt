-- The first column of a system is that of its head, and the last that of its last bar.
use Rattle.std.proofs.Common.{◌≡◌, ℕ, ◌-◌, ◌<◌, ◌≤◌, Bool, true, false, List, length, get_or, refl, ap, subst}
use Rattle.std.proofs.Common.{arith}
use Rattle.std.proofs.lemmas.Bool.Decides.{nat_tests}
use Rattle.std.proofs.lemmas.List.Elements.{Contains-get_or}
use Rattle.std.specs.List.{All, Contains, slice_index}
use Rattle.mus_score.specs.{declared.score.Score.Score, GoodScore.IsGoodScore}
use Rattle.mus_onsets.specs.declared.keys.Class.{Class}
use Rattle.mus_onsets.specs.declared.keys.ColumnKey.{ColumnKey}
use Rattle.mus_onsets.specs.Keys.{AreKeys, IsInSystem, bar_key, called_keys, head_key}
use Rattle.mus_onsets.specs.Onsets.{timeline_of}
use Rattle.mus_onsets.specs.Order.{is_below}
use Rattle.mus_onsets.proofs.Places.{places_of}
use Rattle.mus_onsets.proofs.RankLaws.{rank_at_place, rank_less, rank_rises_more}
use Rattle.mus_slots.proofs.ByKey.{is_same, same_unless_below}
use Rattle.mus_slots.proofs.Rising.{not_before}
use Rattle.mus_marks.proofs.Inside.{head_inside}
use Rattle.law_marks_in_range.proofs.Bridged.{last_bar}

-- a column after the last bar is a bar
bar_class : (lengths : List ℕ) (a b : ℕ) (k : ColumnKey)
    → is_below (bar_key lengths (b - 1)) k ≡ true → IsInSystem lengths a b k → k.class ≡ Class.Bar
unfolding is_below
bar_class lengths a b k below place = by k.class refl
  where
    from : b - 1 ≤ k.measure
    from = grind (arith, nat_tests, below)

    same : k.measure ≡ b - 1
    same = let from = from in let to = place.to in omega (arith, from, to)

    late : k.tick ≤ slice_index lengths (b - 1)
    late = subst (λ n. k.tick ≤ slice_index lengths n) same place.within

    by : (class : Class) → k.class ≡ class → class ≡ Class.Bar
    by Class.Head e = grind (arith, nat_tests, e, same, late, below)
    by Class.First e = grind (arith, nat_tests, e, same, late, below)
    by Class.Change e = grind (arith, nat_tests, e, same, late, below)
    by Class.Grace e = grind (arith, nat_tests, e, same, late, below)
    by Class.Note e = grind (arith, nat_tests, e, same, late, below)
    by Class.Bar e = refl

-- ---- a system's keys
module _ (s : Score) (a b : ℕ) (keys : List ColumnKey) (good : IsGoodScore s) (order : a < b) (within : b ≤ s.measures)
    (some : 1 ≤ length s.voices) (are : AreKeys keys (called_keys s (timeline_of s).lengths a b)) where
  abbrev lengths : List ℕ
  lengths = (timeline_of s).lengths

  has_head : Contains keys (head_key a)
  has_head = head_inside s lengths a b keys good some are

  pub some_keys : 0 < length keys
  some_keys = let h = has_head.1 in omega (arith, h)

  places : All (IsInSystem lengths a b) keys
  places = places_of s a b keys good order within are

  pub first_class : (d : ColumnKey) → (get_or keys 0 d).class ≡ Class.Head
  first_class d = by (is_below (head_key a) first) refl
    where
      first : ColumnKey
      first = get_or keys 0 d

      by : (c : Bool) → is_below (head_key a) first ≡ c → first.class ≡ Class.Head
      by true e =
          let less = rank_rises_more keys (head_key a) first e has_head in
          let here = rank_at_place keys 0 d are.rise some_keys in absurd (omega (arith, less, here))
      by false e =
          let none = not_before a first (places 0 d some_keys).from in
          ap (λ k. k.class) (is_same first (head_key a) (same_unless_below (head_key a) first e none))

  pub last_class : (d : ColumnKey) → (get_or keys (length keys - 1) d).class ≡ Class.Bar
  last_class d = by (is_below bar last) (is_below last bar) refl refl
    where
      bar : ColumnKey
      bar = bar_key lengths (b - 1)

      last : ColumnKey
      last = get_or keys (length keys - 1) d

      inside : length keys - 1 < length keys
      inside = let any = some_keys in omega (arith, any)

      by : (p q : Bool) → is_below bar last ≡ p → is_below last bar ≡ q → last.class ≡ Class.Bar
      by true q e f = bar_class lengths a b last e (places (length keys - 1) d inside)
      by false true e f =
          let less = rank_rises_more keys last bar f (Contains-get_or keys (length keys - 1) d inside) in
          let most = rank_less keys bar (last_bar s a b keys good order within are some) in
          let here = rank_at_place keys (length keys - 1) d are.rise inside in absurd (omega (arith, less, most, here))
      by false false e f = ap (λ k. k.class) (is_same last bar (same_unless_below bar last e f))

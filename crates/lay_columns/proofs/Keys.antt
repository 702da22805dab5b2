-- The keys of voices that have some keys and then others; and those of a system that is one measure longer.
use Rattle.std.proofs.Common.{◌≡◌, ℕ, ◌+◌, ◌<◌, ◌≤◌, ◌⊎◌, inl, inr, true, false, List, [], ◌∷◌, ◌++◌, map, sym, subst}
use Rattle.std.proofs.Common.{arith}
use Rattle.std.proofs.lemmas.List.Elements.{Contains-append_cases, Contains-append_left, Contains-append_right}
use Rattle.std.specs.List.{AllByRecursion, Contains, flat_map}
use Rattle.mus_score.specs.declared.score.Score.{Score}
use Rattle.mus_score.specs.GoodScore.{IsGoodScore}
use Rattle.mus_onsets.specs.declared.keys.ColumnKey.{ColumnKey}
use Rattle.mus_onsets.specs.Keys.{AreKeys, called_keys, further_keys}
use Rattle.mus_onsets.proofs.RankLaws.{rises_join}
use Rattle.mus_drawn.specs.Drawn.{drawn_voice}
use Rattle.mus_time.specs.Columns.{staff_columns}
use Rattle.mus_time.proofs.Called.{called_same, voices_same}
use Rattle.mus_slots.proofs.Marks.{all_weaker}
use Rattle.mus_slots.proofs.Ranges.{columns_more}
use Rattle.mus_marks.proofs.Inside.{AreAmong}
use Rattle.lay_columns.proofs.Keyed.{IsWhole, voices_whole}

each_or : {A B C D : Type 0} → (A → C) → (B → D) → A ⊎ B → C ⊎ D
each_or f g (inl a) = inl (f a)
each_or f g (inr b) = inr (g b)

module _ {X : Type 0} (f g h : X → List ColumnKey) where
  abbrev pub AreParts : List X → Type 0
  AreParts vs = AllByRecursion (λ v. h v ≡ f v ++ g v) vs

  pub either_part : (k : ColumnKey) (vs : List X)
      → AreParts vs → Contains (flat_map h vs) k → Contains (flat_map f vs) k ⊎ Contains (flat_map g vs) k
  either_part k [] are has = inl has
  either_part k (v ∷ vs) are has =
      elim (Contains-append_cases (h v) (flat_map h vs) k has) [
        | inl i ↦
            each_or (Contains-append_left (f v) (flat_map f vs) k) (Contains-append_left (g v) (flat_map g vs) k)
            (Contains-append_cases (f v) (g v) k (subst (λ t. Contains t k) are.0 i))
        | inr i ↦
            each_or (Contains-append_right (f v) (flat_map f vs) k) (Contains-append_right (g v) (flat_map g vs) k)
            (either_part k vs are.1 i)
      ]

  first_part : (vs : List X) → AreParts vs → AreAmong (flat_map f vs) (flat_map h vs)
  first_part [] are k has = has
  first_part (v ∷ vs) are k has =
      elim (Contains-append_cases (f v) (flat_map f vs) k has) [
        | inl i ↦
            Contains-append_left (h v) (flat_map h vs) k
            (subst (λ t. Contains t k) (sym are.0) (Contains-append_left (f v) (g v) k i))
        | inr i ↦ Contains-append_right (h v) (flat_map h vs) k (first_part vs are.1 k i)
      ]

  pub second_part : (vs : List X) → AreParts vs → AreAmong (flat_map g vs) (flat_map h vs)
  second_part [] are k has = has
  second_part (v ∷ vs) are k has =
      elim (Contains-append_cases (g v) (flat_map g vs) k has) [
        | inl i ↦
            Contains-append_left (h v) (flat_map h vs) k
            (subst (λ t. Contains t k) (sym are.0) (Contains-append_right (f v) (g v) k i))
        | inr i ↦ Contains-append_right (h v) (flat_map h vs) k (second_part vs are.1 k i)
      ]

pub keys_grow : (s : Score) (lengths : List ℕ) (a b : ℕ) (keys more : List ColumnKey)
    → IsGoodScore s → a < b → b < s.measures
    → AllByRecursion (λ k. k.measure < b) keys → AllByRecursion (λ k. b ≤ k.measure) more
    → AreKeys keys (called_keys s lengths a b) → AreKeys more (further_keys s lengths b)
    → AreKeys (keys ++ more) (called_keys s lengths a (b + 1))
keys_grow s lengths a b keys more good order within before from are further =
    let voices = map drawn_voice s.voices in
    let f = staff_columns true lengths a b in
    let g = staff_columns false lengths b (b + 1) in
    let h = staff_columns true lengths a (b + 1) in
    let first = subst (AreKeys keys) (voices_same lengths a b s.voices) are in
    let second = subst (AreKeys more) (called_same false s lengths b) further in
    let parts = all_weaker (IsWhole s.measures) (λ v. h v ≡ f v ++ g v)
    (λ v is. let count = is.count in columns_more lengths a b v is.seated order (omega (arith, within, count))) voices
    (voices_whole s good) in
    subst (AreKeys (keys ++ more)) (sym (voices_same lengths a (b + 1) s.voices))
    (record {
      rise = rises_join b keys more first.rise second.rise before from;
      all = λ k has.
          elim (either_part f g h k voices parts has) [
            | inl i ↦ Contains-append_left keys more k (first.all k i)
            | inr i ↦ Contains-append_right keys more k (second.all k i)
          ];
      only = λ k has.
          elim (Contains-append_cases keys more k has) [
            | inl i ↦ first_part f g h voices parts k (first.only k i)
            | inr i ↦ second_part f g h voices parts k (second.only k i)
          ];
    })

-- After the key of its head, a measure that begins without a change has the keys that it has in a system which began
-- before.
use Rattle.std.proofs.Common.{◌≡◌, ◌∙◌, ℕ, ◌+◌, ◌≤◌, inl, inr, Bool, true, false, List, [], ◌∷◌, ◌++◌, refl, sym}
use Rattle.std.proofs.Common.{subst, arith}
use Rattle.std.proofs.lemmas.Bool.Decides.{nat_tests}
use Rattle.std.proofs.lemmas.List.Elements.{All-append, All-contains, All-cons, All-nil, Contains-append_cases}
use Rattle.std.proofs.lemmas.List.Elements.{filter_passes}
use Rattle.std.specs.List.{All, AllByRecursion, Contains, filter, flat_map}
use Rattle.mus_score.specs.Seats.{is_lower}
use Rattle.mus_onsets.specs.declared.keys.ColumnKey.{ColumnKey}
use Rattle.mus_onsets.specs.Keys.{AreKeys, head_key, is_for_each, keys_by}
use Rattle.mus_onsets.specs.Order.{Rises, is_below}
use Rattle.mus_onsets.proofs.Orders.{not_itself}
use Rattle.mus_onsets.proofs.RankLaws.{false_not_true}
use Rattle.mus_drawn.specs.declared.drawn.DrawnVoice.{DrawnVoice}
use Rattle.mus_time.specs.Columns.{range_columns, staff_columns}
use Rattle.mus_slots.proofs.ByKey.{below_in}
use Rattle.mus_marks.proofs.Inside.{none_there, there}
use Rattle.mus_marks.proofs.OneList.{first_or}
use Rattle.mus_slots.proofs.Marks.{all_weaker}
use Rattle.lay_columns.proofs.Keys.{either_part, second_part}

not_below : (k : ColumnKey) → is_below k k ≡ true → ⊥
not_below k h = false_not_true (sym (not_itself k) ∙ h)

module _ (lengths : List ℕ) (m : ℕ) where
  abbrev begun : DrawnVoice → List ColumnKey
  begun v = staff_columns true lengths m (m + 1) v

  abbrev own : DrawnVoice → List ColumnKey
  own v = staff_columns false lengths m (m + 1) v

  abbrev heads : DrawnVoice → List ColumnKey
  heads v = keys_by (is_lower v.seat) (head_key m ∷ [])

  -- the columns of a voice rise, and are its head and then its own
  pub record HasHead (v : DrawnVoice) : Type 0 where
    pub parts : begun v ≡ heads v ++ own v
    pub rise : Rises (begun v)

  heads_are : (vs : List DrawnVoice) → All (λ k. k ≡ head_key m) (flat_map heads vs)
  heads_are [] = All-nil (λ k. k ≡ head_key m)
  heads_are (v ∷ vs) =
      All-append (λ k. k ≡ head_key m) (heads v) (flat_map heads vs) (by (is_lower v.seat)) (heads_are vs)
    where
      by : (lower : Bool) → All (λ k. k ≡ head_key m) (keys_by lower (head_key m ∷ []))
      by true = All-nil (λ k. k ≡ head_key m)
      by false = All-cons (λ k. k ≡ head_key m) (head_key m) [] refl (All-nil (λ k. k ≡ head_key m))

  no_head : (lower : Bool) (ks : List ColumnKey)
      → Rises (keys_by lower (head_key m ∷ []) ++ keys_by lower ks) → Contains (keys_by lower ks) (head_key m) → ⊥
  no_head true ks rise has =
      false_not_true
      (All-contains (λ k. is_for_each k ≡ true) (filter is_for_each ks) (head_key m) (filter_passes is_for_each ks) has)
  no_head false ks rise has = not_below (head_key m) (below_in (head_key m) (head_key m) ks rise.0 has)

  none_heads : (vs : List DrawnVoice) → AllByRecursion HasHead vs → Contains (flat_map own vs) (head_key m) → ⊥
  none_heads [] all has = none_there (head_key m) has
  none_heads (v ∷ vs) all has =
      elim (Contains-append_cases (own v) (flat_map own vs) (head_key m) has) [
        | inl i ↦
            no_head (is_lower v.seat) (range_columns false lengths m (m + 1) v) (subst Rises all.0.parts all.0.rise) i
        | inr i ↦ none_heads vs all.1 i
      ]

  not_before : (k : ColumnKey) → m ≤ k.measure → is_below k (head_key m) ≡ false
  unfolding is_below
  not_before k from = grind (arith, nat_tests, from)

  pub own_keys : (vs : List DrawnVoice) (k : ColumnKey) (ks : List ColumnKey)
      → AllByRecursion HasHead vs → m ≤ k.measure → Contains (k ∷ ks) (head_key m)
      → AreKeys (k ∷ ks) (flat_map begun vs) → (k ≡ head_key m) × AreKeys ks (flat_map own vs)
  own_keys vs k ks all from has are = (
    first,
    record {
      rise = are.rise.1;
      all = λ l own_has.
          elim (first_or l k ks (are.all l (second_part heads own begun vs parts l own_has))) [
            | inl e ↦ absurd (none_heads vs all (subst (Contains (flat_map own vs)) (sym e ∙ first) own_has))
            | inr i ↦ i
          ];
      only = λ l more.
          elim (either_part heads own begun l vs parts (are.only l (there l k ks more))) [
            | inl i ↦
                let e = All-contains (λ k. k ≡ head_key m) (flat_map heads vs) l (heads_are vs) i in
                absurd
                (not_below k
                (subst (λ z. is_below k z ≡ true) (e ∙ sym first) (below_in k l ks are.rise.0 more)))
            | inr i ↦ i
          ];
    },
  )
    where
      parts : AllByRecursion (λ v. begun v ≡ heads v ++ own v) vs
      parts = all_weaker HasHead (λ v. begun v ≡ heads v ++ own v) (λ v is. is.parts) vs all

      first : k ≡ head_key m
      first = elim (first_or (head_key m) k ks has) [
        | inl e ↦ e
        | inr i ↦
            absurd (false_not_true (sym (not_before k from) ∙ below_in k (head_key m) ks are.rise.0 i))
      ]

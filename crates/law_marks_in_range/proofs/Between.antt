-- Beams and arcs that go from one of the columns of a system to a later one have ranks of such columns.
use Rattle.std.proofs.Common.{◌≡◌, ℕ, Bool, true, false, if◌then◌else◌, List, [], ◌∷◌, ◌++◌, length, map, refl}
use Rattle.std.specs.List.{AllByRecursion, Contains}
use Rattle.mus_stems.proofs.RunLaws.{all_append}
use Rattle.mus_onsets.specs.declared.keys.ColumnKey.{ColumnKey}
use Rattle.mus_onsets.specs.Order.{is_below, key_rank}
use Rattle.mus_onsets.proofs.RankLaws.{rank_less, rank_rises_more}
use Rattle.mus_laid.specs.declared.drawn.Bridge.{Bridge}
use Rattle.mus_laid.specs.declared.drawn.BridgeShape.{BridgeShape}
use Rattle.mus_laid.specs.declared.laid.Laid.{Laid}
use Rattle.mus_laid.specs.Ranked.{bridge_at, span_at}
use Rattle.law_marks_in_range.specs.Ranks.{IsRanked}

-- `AreMarksRanked` by recursion on the marks
abbrev pub Ranked : ℕ → List Laid → Type 0
Ranked n all = AllByRecursion (λ laid. IsRanked n laid.mark) all

module _ (keys : List ColumnKey) where
  -- from one of the columns to a later one
  pub record IsBetween (left right : ColumnKey) : Type 0 where
    pub first : Contains keys left
    pub last : Contains keys right
    pub rise : is_below left right ≡ true

  abbrev pub AreBetween : List Bridge → Type 0
  AreBetween bs = AllByRecursion (λ b. IsBetween b.first b.last) bs

  pub both : (xs ys : List Bridge) → AreBetween xs → AreBetween ys → AreBetween (xs ++ ys)
  both = all_append (λ b. IsBetween b.first b.last)

  pub unless : (c : Bool) (b : Bridge) → (c ≡ false → IsBetween b.first b.last) → AreBetween (if c then [] else b ∷ [])
  unless true b h = tt
  unless false b h = (h refl, tt)

  span_ranked : (left right : ColumnKey) (s : BridgeShape)
      → IsBetween left right → IsRanked (length keys) (span_at (key_rank keys left) (key_rank keys right) s)
  span_ranked left right (BridgeShape.Beam way from to) h =
      (rank_rises_more keys left right h.rise h.first, rank_less keys right h.last)
  span_ranked left right (BridgeShape.Arc from to bulge) h =
      (rank_rises_more keys left right h.rise h.first, rank_less keys right h.last)

  pub bridges_ranked : (bs : List Bridge) → AreBetween bs → Ranked (length keys) (map (bridge_at keys) bs)
  bridges_ranked [] h = tt
  bridges_ranked (b ∷ bs) h = (span_ranked b.first b.last b.span h.0, bridges_ranked bs h.1)

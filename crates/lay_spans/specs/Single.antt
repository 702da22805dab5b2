-- Consequences of the forces of spans: columns have one greatest force, and a bar has one row.
use Rattle.std.proofs.Common.{◌≡◌, ℕ, ◌+◌, ◌<◌, ◌≤◌, ◌^◌, ◌==◌, Option, Some, Bool, List, length, All, slice_index}
use Rattle.std.proofs.Common.{arith, sym, ◌∙◌, refl, inl, inr}
use Rattle.std.proofs.lemmas.Bool.{cases_lt}
use Rattle.std.proofs.lemmas.List.{ext_get_or}
use Rattle.std.proofs.lemmas.List.Elements.{All-from_get_or}
use Rattle.std.proofs.lemmas.Option.{same_Some}
use Rattle.std.proofs.Props.{props}
use mathlib.Core.HLevel.{Σ_prop_path}
use Rattle.lay_springs.specs.declared.traits.Reach.{Reach}
use Rattle.lay_springs.specs.Place.{reach_at, length_at}
use Rattle.lay_springs.proofs.Longer.{stands}
use Rattle.lay_springs.proofs.Ends.{apart_down, length_rises}
use Rattle.lay_springs.proofs.Unique.{same_force}
use Rattle.lay_rows.specs.Badness.{badness_of}
use Rattle.lay_spans.specs.Columns.{AreMeasures, span_columns}
use Rattle.lay_spans.specs.SpanList.{FitsAtForce, HasForce, IsCost, IsForce}
use Rattle.lay_spans.specs.Rows.{IsRowFrom}

one_reach : (o : Option Reach) → IsProp ((s : Reach) × (o ≡ Some s))
one_reach o a b = Σ_prop_path (λ s. hlevel props) (same_Some a.0 b.0 (sym a.1 ∙ b.1))

-- `AreMeasures` is a proposition
pub measures_prop : {C : Type 0} (reach : C → ℕ → Option Reach) (lanes : ℕ) (starts others : List (List C))
    → IsProp (AreMeasures reach lanes starts others)
measures_prop reach lanes starts others = hlevel (props, one_reach)

module _ {C : Type 0} (reach : C → ℕ → Option Reach) (len : C → ℕ → ℕ) (gaps : List ℕ) (width : ℕ) where
  -- columns have one greatest force
  pub one_force : (columns : List C) (f g : ℕ)
      → IsForce reach len gaps width columns f → IsForce reach len gaps width columns g → f ≡ g
  one_force columns =
      same_force (length columns) (reach_at reach columns) gaps (length_at len columns) width 2048

  -- columns with a greatest force can be within the width
  pub can_stand : (columns : List C) (force : ℕ)
      → ((c : C) → len c 0 ≤ len c force) → IsForce reach len gaps width columns force
      → FitsAtForce reach len gaps width 0 columns
  can_stand columns force rises h =
      let spring = length_at len columns in
      let at = stands (length columns) (reach_at reach columns) gaps spring width force h.fits in record {
        y = at.y;
        apart =
            apart_down (length columns) (reach_at reach columns) gaps (spring 0) (spring force) at.y
            (length_rises len columns 0 force rises) at.apart;
        past = at.past;
        reaches = at.reaches;
      }

  module _ (starts others : List (List C)) (forced : ℕ → Bool) where
    -- a span that has a force costs its badness
    pub force_cost : (a b force : ℕ)
        → HasForce reach len gaps width starts others forced a b force
        → IsCost reach len gaps width starts others forced a b (badness_of (b == length starts) force)
    force_cost a b force h = record { free = h.free; pressed = (force, h.pressed, refl) }

    module _ (rises : (c : C) (f g : ℕ) → f ≤ g → g < 2 ^ 16 → len c f ≤ len c g) where
      not_shorter : (a : ℕ) (row other : List ℕ)
          → IsRowFrom reach len gaps width starts others forced a row
          → IsRowFrom reach len gaps width starts others forced a other
          → length row < length other
          → ⊥
      not_shorter a row other h k l =
          let longer = k.each (length row) l in
          let within = k.within in
          let bound = longer.pressed.bound in
          elim (h.stops (a + 1 + length row) (omega arith) (omega arith)) [
            | inl inside ↦ longer.free inside
            | inr never ↦
                never (can_stand (span_columns starts others a (a + 1 + length row)) (slice_index other (length row))
                (λ c. rises c 0 (slice_index other (length row)) (omega arith) (omega arith)) longer.pressed)
          ]

      -- a bar has one row
      pub one_row : (a : ℕ) (row other : List ℕ)
          → IsRowFrom reach len gaps width starts others forced a row
          → IsRowFrom reach len gaps width starts others forced a other
          → row ≡ other
      one_row a row other h k = elim (cases_lt (length row) (length other)) [
        | inl less ↦ absurd (not_shorter a row other h k less)
        | inr more ↦ elim (cases_lt (length other) (length row)) [
          | inl less ↦ absurd (not_shorter a other row k h less)
          | inr same ↦
              ext_get_or 0 row other (omega arith)
              (λ i l. one_force (span_columns starts others a (a + 1 + i)) _ _ (h.each i l).pressed
              (k.each i (omega arith)).pressed)
        ]
      ]

    pub row_low : (a : ℕ) (row : List ℕ)
        → IsRowFrom reach len gaps width starts others forced a row → All (λ force. force ≤ 2048) row
    row_low a row h = All-from_get_or (λ force. force ≤ 2048) row 0 (λ i l. (h.each i l).pressed.bound)

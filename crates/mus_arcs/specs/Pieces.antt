-- Where a system has a piece of an arc.
use Rattle.std.specs.Prelude.{◌<◌, ◌≤◌, ℕ, nat_lt, nat_le, ◌&&◌, if◌then◌else◌, Option, Some, None}
use Rattle.mus_arcs.specs.{declared.pairing.Arc.Arc, declared.cutting.Piece.Piece}

-- the arc begins before the system's end, and ends at its first measure or later
abbrev pub HasPiece : Arc → ℕ → ℕ → Type 0
HasPiece arc a b = (arc.from < b) × (a ≤ arc.to)

-- a measure of the system is a measure of the arc
pub record Touches (arc : Arc) (a b : ℕ) : Type 0 where
  pub measure : ℕ
  pub begun : a ≤ measure
  pub within : measure < b
  pub following : arc.from ≤ measure
  pub before : measure ≤ arc.to

-- the piece there, cut at the left if the arc begins before the system, and at the right if it ends after it
unfoldable pub piece_of : Arc → ℕ → ℕ → Option Piece
piece_of arc a b =
    if nat_lt arc.from b && nat_le a arc.to
    then Some (record { cut_left = nat_lt arc.from a; cut_right = nat_le b arc.to })
    else None

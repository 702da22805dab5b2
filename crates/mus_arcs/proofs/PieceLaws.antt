-- A system has a piece of an arc if they share a measure.
use Rattle.std.proofs.Common.{◌≤◌, ◌<◌, ℕ, ◌↔◌, inl, inr, arith}
use Rattle.std.proofs.lemmas.Bool.{cases_lt}
use Rattle.mus_arcs.specs.{declared.pairing.Arc.Arc, Pieces.HasPiece, Pieces.Touches}

touches : (arc : Arc) (a b : ℕ) → arc.from ≤ arc.to → a < b → HasPiece arc a b → Touches arc a b
touches arc a b forwards some (begins, reaches) = elim (cases_lt arc.from a) [
  | inl lt ↦ record { measure = a; begun = omega arith; within = some; following = omega arith; before = reaches }
  | inr ge ↦ record { measure = arc.from; begun = ge; within = begins; following = omega arith; before = forwards }
]

touched : (arc : Arc) (a b : ℕ) → Touches arc a b → HasPiece arc a b
touched arc a b t = (omega arith, omega arith)

pub piece_iff : (arc : Arc) (a b : ℕ) → arc.from ≤ arc.to → a < b → HasPiece arc a b ↔ Touches arc a b
piece_iff arc a b forwards some = (touches arc a b forwards some, touched arc a b)

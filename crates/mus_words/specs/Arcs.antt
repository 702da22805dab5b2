-- Slurs and ties: the heights of their two ends, and how far they bulge.
use Rattle.std.specs.Prelude.{ℕ, ℤ, pos, ◌+ℤ◌, Bool, true, false, ◌&&◌, not, if◌then◌else◌, List, Option, Some, None}
use Rattle.std.specs.List.{find, slice_get}
use Rattle.mus_units.specs.declared.pitch.Clef.{Clef}
use Rattle.mus_units.specs.declared.note.Head.{Head}
use Rattle.mus_stems.specs.declared.plans.StemPlan.{StemPlan}
use Rattle.mus_stems.specs.Slope.{with_end}
use Rattle.mus_arcs.specs.declared.pairing.Arc.{Arc}
use Rattle.mus_arcs.specs.declared.cutting.Piece.{Piece}
use Rattle.mus_arcs.specs.Arcs.{has_pitch}
use Rattle.mus_laid.specs.declared.drawn.BridgeShape.{BridgeShape}
use Rattle.mus_laid.specs.declared.drawn.Bridge.{Bridge}
use Rattle.mus_onsets.specs.declared.keys.ColumnKey.{ColumnKey}
use Rattle.mus_ink.specs.Distances.{cut_arc_line, slur_bulge, slur_gap, tie_gap}
use Rattle.mus_ink.specs.Drawing.{back, cut_dy}
use Rattle.mus_ink.specs.Notes.{dy_of}
use Rattle.mus_ink.specs.Decos.{top_of}
use Rattle.mus_words.specs.declared.arcs.ArcEnd.{ArcEnd}

-- the event at an end of an arc
pub record ArcEndEvent : Type 0 where
  pub clef : Clef
  pub heads : List Head
  pub plan : StemPlan

abbrev pub arc_end_event : ArcEnd → ArcEndEvent
arc_end_event e = record { clef = e.clef; heads = e.heads.now; plan = with_end e.plan.now e.to }

abbrev pub arc_bridge : ColumnKey → ColumnKey → ℤ → ℤ → ℤ → Bridge
arc_bridge first last from to bulge = record { first = first; last = last; span = BridgeShape.Arc from to bulge }

-- the dy of an end of a piece, given where it would be if no end were cut: a cut end is as high as the other end, and
-- a piece with two cut ends has a height of its own
abbrev pub piece_dy : Bool → Bool → ℤ → ℤ → ℤ
piece_dy false other_cut own other = own
piece_dy true false own other = other
piece_dy true true own other = pos cut_arc_line

abbrev pub piece_mark : ColumnKey → ColumnKey → Piece → ℤ → ℤ → ℤ → Bridge
piece_mark left right piece from to bulge =
    arc_bridge left right (piece_dy piece.cut_left piece.cut_right from to)
    (piece_dy piece.cut_right piece.cut_left to from) bulge

-- a slur ends above the tops of its events
unfoldable pub slur_dy : ArcEndEvent → ℤ
slur_dy e = cut_dy (top_of e.clef e.heads e.plan +ℤ pos slur_gap)

-- a tie bulges away from the stem of its first event, and upwards if that has none
abbrev pub bulges_up : StemPlan → Bool
bulges_up plan = not (plan.has && plan.up)

abbrev pub tie_bulge : Bool → ℤ
tie_bulge true = pos tie_gap
tie_bulge false = back tie_gap

-- it ends that far above or below its heads; a missing head is at 0
abbrev pub dy_if : Clef → Option Head → ℤ
dy_if c None = pos 0
dy_if c (Some h) = dy_of c h

unfoldable pub beside_head : Bool → ℤ → ℤ
beside_head up dy = cut_dy (dy +ℤ tie_bulge up)

-- the head of the last event that a head is tied to: the first with its letter and octave
abbrev pub tied_head : Option Head → List Head → Option Head
tied_head None heads = None
tied_head (Some h) heads = find (has_pitch h.pitch) heads

abbrev pub tie_dy : Bool → Clef → Option Head → ℤ
tie_dy up c head = beside_head up (dy_if c head)

unfoldable pub slur_mark : ColumnKey → ColumnKey → Piece → ArcEndEvent → ArcEndEvent → Bridge
slur_mark left right piece from to = piece_mark left right piece (slur_dy from) (slur_dy to) (pos slur_bulge)

-- n is the number of the tie's head in the first event
unfoldable pub tie_mark : ColumnKey → ColumnKey → Piece → ℕ → ArcEndEvent → ArcEndEvent → Bridge
tie_mark left right piece n from to =
    let head = slice_get from.heads n in
    let up = bulges_up from.plan in
    piece_mark left right piece (tie_dy up from.clef head) (tie_dy up to.clef (tied_head head to.heads)) (tie_bulge up)

unfoldable pub arc_mark : ColumnKey → ColumnKey → Piece → Arc → ArcEndEvent → ArcEndEvent → Bridge
arc_mark left right piece arc from to =
    if arc.tie then tie_mark left right piece arc.head from to else slur_mark left right piece from to

-- Graces: each has a column of its own, and those before one event are a group.
use Rattle.std.specs.Prelude.{ℤ, pos, ◌+ℤ◌, ◌-ℤ◌, Bool, true, false, ◌&&◌, ◌==◌, if◌then◌else◌, List, [], ◌∷◌, ◌++◌}
use Rattle.std.specs.Prelude.{length, map}
use Rattle.std.specs.Int.{int_max}
use Rattle.mus_units.specs.declared.glyph.Glyph.{Glyph}
use Rattle.mus_units.specs.declared.pitch.Clef.{Clef}
use Rattle.mus_units.specs.declared.note.Head.{Head}
use Rattle.mus_units.specs.declared.glyph.Way.{Way}
use Rattle.mus_score.specs.declared.score.Event.{Event}
use Rattle.mus_stems.specs.Heads.{stand_of}
use Rattle.mus_stems.specs.Signs.{signs_from}
use Rattle.mus_stems.specs.Ends.{low_of, high_of}
use Rattle.mus_stems.specs.Ledgers.{ledgers_of}
use Rattle.mus_laid.specs.declared.drawn.LaneInk.{LaneInk}
use Rattle.mus_laid.specs.declared.drawn.Bridge.{Bridge}
use Rattle.mus_onsets.specs.declared.keys.ColumnKey.{ColumnKey}
use Rattle.mus_ink.specs.declared.graces.Group.{Group}
use Rattle.mus_laid.specs.Distances.{beam_thickness}
use Rattle.mus_ink.specs.Distances.{grace_sign_side, grace_stem_length, grace_stem_side}
use Rattle.mus_ink.specs.Drawing.{back, beam, cut_dy, glyph, stem}
use Rattle.mus_ink.specs.Notes.{dy_of, highest_dy, lowest_dy, sign_marks, ledger_marks}

-- where the stem of a single grace ends, by its highest head
unfoldable pub above_head : ℤ → ℤ
above_head dy = cut_dy (dy +ℤ pos grace_stem_length)

abbrev pub grace_own_end : Clef → List Head → ℤ
grace_own_end c [] = pos 0
grace_own_end c (h ∷ hs) = above_head (highest_dy c (dy_of c h) hs)

-- the greatest end of a group
abbrev pub greatest_end : Clef → ℤ → List Event → ℤ
greatest_end c z [] = z
greatest_end c z (g ∷ gs) = greatest_end c (int_max z (grace_own_end c g.heads)) gs

abbrev pub group_end : Clef → List Event → ℤ
group_end c [] = pos 0
group_end c (g ∷ gs) = greatest_end c (grace_own_end c g.heads) gs

unfoldable pub group_of : Clef → List Event → Bool → Group
group_of c graces slash = record { end = group_end c graces; alone = length graces == 1; slash = slash }

abbrev pub grace_head_ink : Clef → List Head → List LaneInk
grace_head_ink c [] = []
grace_head_ink c (h ∷ hs) = glyph Glyph.Gh (pos 0) (dy_of c h) ∷ grace_head_ink c hs

abbrev pub grace_stem_from : Clef → List Head → ℤ
grace_stem_from c [] = pos 0
grace_stem_from c (h ∷ hs) = lowest_dy c (dy_of c h) hs

abbrev pub at_end : Bool → Glyph → ℤ → List LaneInk
at_end true g end = glyph g (pos grace_stem_side) end ∷ []
at_end false g end = []

-- accidentals, ledger lines and heads
unfoldable pub grace_body : Clef → List Head → List LaneInk
grace_body c heads =
    let stands = map (stand_of c) heads in
    sign_marks c heads (signs_from (back grace_sign_side) stands)
    ++ ledger_marks (ledgers_of (low_of stands) (high_of stands)) ++ grace_head_ink c heads

-- a single grace has a flag, and the first of a group its slash
abbrev pub ends : Group → Bool → List LaneInk
ends group first = at_end group.alone Glyph.Gf group.end ++ at_end (first && group.slash) Glyph.Gs group.end

-- one grace of a group
unfoldable pub grace_marks : Clef → Group → Bool → Event → List LaneInk
grace_marks c group first g =
    grace_body c g.heads ++ stem (pos grace_stem_side) (grace_stem_from c g.heads) group.end ∷ [] ++ ends group first

-- the beam of a group of two or more graces, from the column of the first to that of the last
unfoldable pub beam_edge : ℤ → ℤ
beam_edge end = cut_dy (end -ℤ pos beam_thickness)

unfoldable pub grace_beam : ColumnKey → ColumnKey → Group → List Bridge
grace_beam first last group =
    if group.alone then [] else beam Way.Grace first last (beam_edge group.end) (beam_edge group.end) ∷ []

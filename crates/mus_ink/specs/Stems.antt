-- Stems, and the flags or stubs at their ends.
use Rattle.std.specs.Prelude.{ℕ, zero, suc, ℤ, pos, ◌+◌, ◌-◌, ◌*◌, max, ◌+ℤ◌, ◌-ℤ◌, Bool, true, false, ◌&&◌, ◌==◌}
use Rattle.std.specs.Prelude.{if◌then◌else◌, List, [], ◌∷◌, ◌++◌}
use Rattle.{mus_stems.specs.declared.plans.StemPlan.{StemPlan}, mus_laid.specs.declared.drawn.LaneInk.{LaneInk}}
use Rattle.mus_laid.specs.Distances.{beam_thickness}
use Rattle.mus_ink.specs.Distances.{level_step, stem_side}
use Rattle.mus_ink.specs.Drawing.{back, cut_dy, glyph, loose_glyph, stem}
use Rattle.mus_ink.specs.Kinds.{flag_glyph, stub_glyph}

-- a stem is right of the heads, or left of them
abbrev pub stem_dx : Bool → ℤ
stem_dx true = pos stem_side
stem_dx false = back stem_side

abbrev pub stem_if : Bool → Bool → ℤ → ℤ → List LaneInk
stem_if true up from to = stem (stem_dx up) from to ∷ []
stem_if false up from to = []

-- flags from the end towards the heads, starting with the k-th
abbrev pub flag_dy : Bool → ℤ → ℕ → ℤ
flag_dy true to k = cut_dy (to -ℤ pos (level_step * k))
flag_dy false to k = cut_dy (to +ℤ pos (level_step * k))

abbrev pub flag_marks : Bool → ℤ → ℕ → ℕ → List LaneInk
flag_marks up to k zero = []
flag_marks up to k (suc n) = glyph (flag_glyph up) (stem_dx up) (flag_dy up to k) ∷ flag_marks up to (k + 1) n

-- the lower edge of a beam over an event at level k, from 0
abbrev pub lower_edge : Bool → ℤ → ℕ → ℤ
lower_edge true to k = cut_dy (to -ℤ pos (level_step * k + beam_thickness))
lower_edge false to k = cut_dy (to +ℤ pos (level_step * k))

-- a stub goes to the right at the first event of a beam, to the left at others
abbrev pub stub_marks : Bool → Bool → ℤ → ℕ → ℕ → List LaneInk
stub_marks first up to k zero = []
stub_marks first up to k (suc n) =
    loose_glyph (stub_glyph first) (stem_dx up) (lower_edge up to k) ∷ stub_marks first up to (k + 1) n

-- before and after are the levels of the neighbours in the beam, 0 for none. A single event has flags; in a beam a
-- level that neither neighbour has is a stub
unfoldable pub flags_or_stubs : StemPlan → ℕ → ℕ → List LaneInk
flags_or_stubs plan before after =
    if (before == 0) && (after == 0) then flag_marks plan.up plan.to 0 plan.flags
    else stub_marks (before == 0) plan.up plan.to (max before after) (plan.flags - max before after)

unfoldable pub stem_marks : StemPlan → ℕ → ℕ → List LaneInk
stem_marks plan before after = stem_if plan.has plan.up plan.from plan.to ++ flags_or_stubs plan before after

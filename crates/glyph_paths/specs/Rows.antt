-- The glyphs, a row each: its name, and its outline as in the table of the drawing rules, each path in its operators.
use Rattle.std.specs.Prelude.{ℕ, zero, suc, ℤ, pos, negsuc, List, [], ◌∷◌, codes}
use Rattle.mus_units.specs.declared.glyph.Glyph.{Glyph}
use Rattle.mus_units.specs.declared.glyph.Glyph.TheVariants as glyphs
use Rattle.glyph_paths.specs.declared.paths.PathOp.{PathOp}
use Rattle.glyph_paths.specs.declared.paths.PathOp.TheVariants as ops

-- the negative of a number
abbrev pub neg : ℕ → ℤ
neg zero = pos 0
neg (suc n) = negsuc n

pub record GlyphRow : Type 0 where
  pub name : List ℕ
  pub outline : List PathOp

abbrev pub row : List ℕ → List PathOp → GlyphRow
row name outline = record { name = name; outline = outline }

abbrev pub row_of : Glyph → GlyphRow
row_of glyphs.Hb =
    row (codes "hb") (ops.Move (neg 360) (neg 200) ∷ ops.Line (pos 360) (neg 200) ∷ ops.Line (pos 360) (pos 200)
    ∷ ops.Line (neg 360) (pos 200) ∷ ops.Line (neg 360) (neg 200) ∷ ops.Stroke ∷ ops.Move (neg 420) (neg 300)
    ∷ ops.Line (neg 420) (pos 300) ∷ ops.Stroke ∷ ops.Move (pos 420) (neg 300) ∷ ops.Line (pos 420) (pos 300)
    ∷ ops.Stroke ∷ [])
row_of glyphs.Hw =
    row (codes "hw") (ops.Move (neg 360) (pos 0) ∷ ops.Curve (neg 360) (pos 240) (pos 360) (pos 240) (pos 360) (pos 0)
    ∷ ops.Curve (pos 360) (neg 240) (neg 360) (neg 240) (neg 360) (pos 0) ∷ ops.Stroke ∷ [])
row_of glyphs.Hh =
    row (codes "hh") (ops.Move (neg 300) (pos 0) ∷ ops.Curve (neg 300) (pos 130) (neg 130) (pos 240) (pos 0) (pos 240)
    ∷ ops.Curve (pos 130) (pos 240) (pos 300) (pos 130) (pos 300) (pos 0)
    ∷ ops.Curve (pos 300) (neg 130) (pos 130) (neg 240) (pos 0) (neg 240)
    ∷ ops.Curve (neg 130) (neg 240) (neg 300) (neg 130) (neg 300) (pos 0) ∷ ops.Stroke ∷ [])
row_of glyphs.Hq =
    row (codes "hq") (ops.Move (neg 300) (pos 0) ∷ ops.Curve (neg 300) (pos 130) (neg 130) (pos 240) (pos 0) (pos 240)
    ∷ ops.Curve (pos 130) (pos 240) (pos 300) (pos 130) (pos 300) (pos 0)
    ∷ ops.Curve (pos 300) (neg 130) (pos 130) (neg 240) (pos 0) (neg 240)
    ∷ ops.Curve (neg 130) (neg 240) (neg 300) (neg 130) (neg 300) (pos 0) ∷ ops.Fill ∷ [])
row_of glyphs.Gh =
    row (codes "gh") (ops.Move (neg 190) (pos 0) ∷ ops.Curve (neg 190) (pos 150) (pos 190) (pos 150) (pos 190) (pos 0)
    ∷ ops.Curve (pos 190) (neg 150) (neg 190) (neg 150) (neg 190) (pos 0) ∷ ops.Fill ∷ [])
row_of glyphs.Dt =
    row (codes "dt") (ops.Move (neg 60) (neg 60) ∷ ops.Line (pos 60) (neg 60) ∷ ops.Line (pos 60) (pos 60)
    ∷ ops.Line (neg 60) (pos 60) ∷ ops.Fill ∷ [])
row_of glyphs.Lg = row (codes "lg") (ops.Move (neg 450) (pos 0) ∷ ops.Line (pos 450) (pos 0) ∷ ops.Stroke ∷ [])
row_of glyphs.Fu =
    row (codes "fu") (ops.Move (pos 0) (pos 0) ∷ ops.Curve (pos 0) (neg 400) (pos 450) (neg 600) (pos 350) (neg 1200)
    ∷ ops.Curve (pos 400) (neg 800) (pos 150) (neg 500) (pos 0) (neg 350) ∷ ops.Fill ∷ [])
row_of glyphs.Fd =
    row (codes "fd") (ops.Move (pos 0) (pos 0) ∷ ops.Curve (pos 0) (pos 400) (pos 450) (pos 600) (pos 350) (pos 1200)
    ∷ ops.Curve (pos 400) (pos 800) (pos 150) (pos 500) (pos 0) (pos 350) ∷ ops.Fill ∷ [])
row_of glyphs.Gf =
    row (codes "gf") (ops.Move (pos 0) (pos 0) ∷ ops.Curve (pos 0) (neg 250) (pos 300) (neg 400) (pos 250) (neg 750)
    ∷ ops.Curve (pos 250) (neg 500) (pos 100) (neg 350) (pos 0) (neg 250) ∷ ops.Fill ∷ [])
row_of glyphs.Gs = row (codes "gs") (ops.Move (neg 350) (neg 700) ∷ ops.Line (pos 300) (neg 150) ∷ ops.Stroke ∷ [])
row_of glyphs.Sr =
    row (codes "sr") (ops.Move (pos 0) (pos 0) ∷ ops.Line (pos 400) (pos 0) ∷ ops.Line (pos 400) (pos 250)
    ∷ ops.Line (pos 0) (pos 250) ∷ ops.Fill ∷ [])
row_of glyphs.Sl =
    row (codes "sl") (ops.Move (pos 0) (pos 0) ∷ ops.Line (neg 400) (pos 0) ∷ ops.Line (neg 400) (pos 250)
    ∷ ops.Line (pos 0) (pos 250) ∷ ops.Fill ∷ [])
row_of glyphs.R0 =
    row (codes "r0") (ops.Move (neg 300) (pos 0) ∷ ops.Line (pos 300) (pos 0) ∷ ops.Line (pos 300) (pos 500)
    ∷ ops.Line (neg 300) (pos 500) ∷ ops.Fill ∷ [])
row_of glyphs.R1 =
    row (codes "r1") (ops.Move (neg 300) (neg 250) ∷ ops.Line (pos 300) (neg 250) ∷ ops.Line (pos 300) (pos 0)
    ∷ ops.Line (neg 300) (pos 0) ∷ ops.Fill ∷ [])
row_of glyphs.R2 =
    row (codes "r2") (ops.Move (neg 300) (pos 0) ∷ ops.Line (pos 300) (pos 0) ∷ ops.Line (pos 300) (pos 250)
    ∷ ops.Line (neg 300) (pos 250) ∷ ops.Fill ∷ [])
row_of glyphs.R4 =
    row (codes "r4") (ops.Move (neg 150) (pos 700) ∷ ops.Line (pos 200) (pos 300) ∷ ops.Line (pos 0) (pos 50)
    ∷ ops.Line (pos 250) (neg 350) ∷ ops.Curve (neg 200) (neg 200) (neg 200) (neg 500) (pos 100) (neg 700)
    ∷ ops.Curve (neg 400) (neg 500) (neg 300) (neg 100) (pos 0) (neg 200) ∷ ops.Line (neg 200) (pos 100)
    ∷ ops.Line (pos 50) (pos 350) ∷ ops.Fill ∷ [])
row_of glyphs.R8 =
    row (codes "r8") (ops.Move (pos 150) (pos 300) ∷ ops.Line (neg 50) (neg 400) ∷ ops.Stroke
    ∷ ops.Move (neg 200) (pos 200) ∷ ops.Curve (neg 200) (pos 100) (pos 0) (pos 100) (pos 150) (pos 300) ∷ ops.Stroke
    ∷ [])
row_of glyphs.Ax =
    row (codes "ax") (ops.Move (neg 180) (neg 180) ∷ ops.Line (pos 180) (pos 180) ∷ ops.Stroke
    ∷ ops.Move (neg 180) (pos 180) ∷ ops.Line (pos 180) (neg 180) ∷ ops.Stroke ∷ [])
row_of glyphs.As =
    row (codes "as") (ops.Move (neg 80) (neg 500) ∷ ops.Line (neg 80) (pos 500) ∷ ops.Stroke
    ∷ ops.Move (pos 80) (neg 450) ∷ ops.Line (pos 80) (pos 550) ∷ ops.Stroke ∷ ops.Move (neg 200) (neg 200)
    ∷ ops.Line (pos 200) (neg 100) ∷ ops.Stroke ∷ ops.Move (neg 200) (pos 100) ∷ ops.Line (pos 200) (pos 200)
    ∷ ops.Stroke ∷ [])
row_of glyphs.An =
    row (codes "an") (ops.Move (neg 120) (pos 600) ∷ ops.Line (neg 120) (neg 250) ∷ ops.Line (pos 120) (neg 150)
    ∷ ops.Stroke ∷ ops.Move (pos 120) (neg 600) ∷ ops.Line (pos 120) (pos 250) ∷ ops.Line (neg 120) (pos 150)
    ∷ ops.Stroke ∷ [])
row_of glyphs.Af =
    row (codes "af") (ops.Move (neg 150) (pos 700) ∷ ops.Line (neg 150) (neg 250)
    ∷ ops.Curve (pos 250) (pos 0) (pos 200) (pos 350) (neg 150) (pos 100) ∷ ops.Stroke ∷ [])
row_of glyphs.Ag =
    row (codes "ag") (ops.Move (neg 230) (pos 700) ∷ ops.Line (neg 230) (neg 250)
    ∷ ops.Curve (pos 50) (pos 0) (pos 50) (pos 350) (neg 230) (pos 100) ∷ ops.Stroke ∷ ops.Move (pos 20) (pos 700)
    ∷ ops.Line (pos 20) (neg 250) ∷ ops.Curve (pos 250) (pos 0) (pos 250) (pos 350) (pos 20) (pos 100) ∷ ops.Stroke
    ∷ [])
row_of glyphs.Cg =
    row (codes "cg") (ops.Move (pos 600) (pos 0) ∷ ops.Curve (pos 800) (pos 0) (pos 900) (pos 500) (pos 500) (pos 500)
    ∷ ops.Curve (pos 0) (pos 500) (pos 0) (neg 400) (pos 500) (neg 400)
    ∷ ops.Curve (pos 1200) (neg 400) (pos 1100) (pos 700) (pos 600) (pos 1000)
    ∷ ops.Curve (pos 300) (pos 1300) (pos 500) (pos 2000) (pos 700) (pos 1700)
    ∷ ops.Curve (pos 800) (pos 1400) (pos 500) (pos 0) (pos 600) (neg 700)
    ∷ ops.Curve (pos 600) (neg 1000) (pos 250) (neg 1000) (pos 300) (neg 700) ∷ ops.Stroke ∷ [])
row_of glyphs.Cf =
    row (codes "cf") (ops.Move (pos 200) (pos 0) ∷ ops.Curve (pos 200) (pos 500) (pos 900) (pos 500) (pos 900) (pos 0)
    ∷ ops.Curve (pos 900) (neg 500) (pos 600) (neg 900) (pos 100) (neg 1100) ∷ ops.Stroke
    ∷ ops.Move (pos 1100) (pos 200) ∷ ops.Line (pos 1100) (pos 300) ∷ ops.Stroke ∷ ops.Move (pos 1100) (neg 200)
    ∷ ops.Line (pos 1100) (neg 300) ∷ ops.Stroke ∷ [])
row_of glyphs.Cc =
    row (codes "cc") (ops.Move (pos 0) (neg 1000) ∷ ops.Line (pos 200) (neg 1000) ∷ ops.Line (pos 200) (pos 1000)
    ∷ ops.Line (pos 0) (pos 1000) ∷ ops.Fill ∷ ops.Move (pos 350) (neg 1000) ∷ ops.Line (pos 350) (pos 1000)
    ∷ ops.Stroke ∷ ops.Move (pos 350) (pos 0) ∷ ops.Line (pos 600) (pos 300)
    ∷ ops.Curve (pos 1200) (pos 500) (pos 1200) (pos 1100) (pos 500) (pos 1000) ∷ ops.Stroke
    ∷ ops.Move (pos 350) (pos 0) ∷ ops.Line (pos 600) (neg 300)
    ∷ ops.Curve (pos 1200) (neg 500) (pos 1200) (neg 1100) (pos 500) (neg 1000) ∷ ops.Stroke ∷ [])
row_of glyphs.Bt = row (codes "bt") (ops.Move (pos 0) (pos 0) ∷ ops.Line (pos 0) (pos 2000) ∷ ops.Stroke ∷ [])
row_of glyphs.Bw =
    row (codes "bw") (ops.Move (neg 150) (pos 0) ∷ ops.Line (neg 150) (pos 2000) ∷ ops.Stroke ∷ ops.Move (pos 0) (pos 0)
    ∷ ops.Line (pos 0) (pos 2000) ∷ ops.Stroke ∷ [])
row_of glyphs.Bf =
    row (codes "bf") (ops.Move (neg 300) (pos 0) ∷ ops.Line (neg 300) (pos 2000) ∷ ops.Stroke
    ∷ ops.Move (neg 150) (pos 0) ∷ ops.Line (pos 0) (pos 0) ∷ ops.Line (pos 0) (pos 2000)
    ∷ ops.Line (neg 150) (pos 2000) ∷ ops.Fill ∷ [])
row_of glyphs.Bi =
    row (codes "bi") (ops.Move (pos 0) (pos 0) ∷ ops.Line (pos 150) (pos 0) ∷ ops.Line (pos 150) (pos 2000)
    ∷ ops.Line (pos 0) (pos 2000) ∷ ops.Fill ∷ ops.Move (pos 300) (pos 0) ∷ ops.Line (pos 300) (pos 2000) ∷ ops.Stroke
    ∷ [])
row_of glyphs.Bb =
    row (codes "bb") (ops.Move (neg 225) (pos 0) ∷ ops.Line (neg 225) (pos 2000) ∷ ops.Stroke
    ∷ ops.Move (neg 75) (pos 0) ∷ ops.Line (pos 75) (pos 0) ∷ ops.Line (pos 75) (pos 2000)
    ∷ ops.Line (neg 75) (pos 2000) ∷ ops.Fill ∷ ops.Move (pos 225) (pos 0) ∷ ops.Line (pos 225) (pos 2000) ∷ ops.Stroke
    ∷ [])
row_of glyphs.Bo =
    row (codes "bo") (ops.Move (pos 0) (pos 0) ∷ ops.Line (pos 0) (pos 400) ∷ ops.Stroke ∷ ops.Move (pos 0) (pos 800)
    ∷ ops.Line (pos 0) (pos 1200) ∷ ops.Stroke ∷ ops.Move (pos 0) (pos 1600) ∷ ops.Line (pos 0) (pos 2000) ∷ ops.Stroke
    ∷ [])
row_of glyphs.Dl =
    row (codes "dl") (ops.Move (neg 560) (pos 690) ∷ ops.Line (neg 440) (pos 690) ∷ ops.Line (neg 440) (pos 810)
    ∷ ops.Line (neg 560) (pos 810) ∷ ops.Fill ∷ ops.Move (neg 560) (pos 1190) ∷ ops.Line (neg 440) (pos 1190)
    ∷ ops.Line (neg 440) (pos 1310) ∷ ops.Line (neg 560) (pos 1310) ∷ ops.Fill ∷ [])
row_of glyphs.Dr =
    row (codes "dr") (ops.Move (pos 440) (pos 690) ∷ ops.Line (pos 560) (pos 690) ∷ ops.Line (pos 560) (pos 810)
    ∷ ops.Line (pos 440) (pos 810) ∷ ops.Fill ∷ ops.Move (pos 440) (pos 1190) ∷ ops.Line (pos 560) (pos 1190)
    ∷ ops.Line (pos 560) (pos 1310) ∷ ops.Line (pos 440) (pos 1310) ∷ ops.Fill ∷ [])
row_of glyphs.Nn = row (codes "nn") ([])
row_of glyphs.Ks =
    row (codes "ks") (ops.Move (neg 70) (pos 0) ∷ ops.Line (pos 70) (pos 0) ∷ ops.Line (pos 70) (pos 140)
    ∷ ops.Line (neg 70) (pos 140) ∷ ops.Fill ∷ [])
row_of glyphs.Kr =
    row (codes "kr") (ops.Move (neg 300) (pos 0) ∷ ops.Curve (neg 300) (pos 300) (pos 300) (pos 300) (pos 300) (pos 0)
    ∷ ops.Stroke ∷ [])
row_of glyphs.Kf =
    row (codes "kf") (ops.Move (neg 400) (pos 0) ∷ ops.Curve (neg 400) (pos 600) (pos 400) (pos 600) (pos 400) (pos 0)
    ∷ ops.Stroke ∷ ops.Move (neg 60) (pos 60) ∷ ops.Line (pos 60) (pos 60) ∷ ops.Line (pos 60) (pos 180)
    ∷ ops.Line (neg 60) (pos 180) ∷ ops.Fill ∷ [])
row_of glyphs.Ka =
    row (codes "ka") (ops.Move (neg 300) (pos 300) ∷ ops.Line (pos 300) (pos 150) ∷ ops.Line (neg 300) (pos 0)
    ∷ ops.Stroke ∷ [])
row_of glyphs.Km =
    row (codes "km") (ops.Move (neg 400) (pos 150) ∷ ops.Line (neg 200) (pos 300) ∷ ops.Line (pos 0) (pos 100)
    ∷ ops.Line (pos 200) (pos 300) ∷ ops.Line (pos 400) (pos 150) ∷ ops.Stroke ∷ ops.Move (pos 0) (neg 50)
    ∷ ops.Line (pos 0) (pos 450) ∷ ops.Stroke ∷ [])
row_of glyphs.Kc =
    row (codes "kc") (ops.Move (neg 250) (pos 300)
    ∷ ops.Curve (neg 250) (pos 600) (pos 250) (pos 600) (pos 250) (pos 300)
    ∷ ops.Curve (pos 250) (pos 0) (neg 250) (pos 0) (neg 250) (pos 300) ∷ ops.Stroke ∷ ops.Move (pos 0) (pos 0)
    ∷ ops.Line (pos 0) (pos 600) ∷ ops.Stroke ∷ ops.Move (neg 350) (pos 300) ∷ ops.Line (pos 350) (pos 300) ∷ ops.Stroke
    ∷ [])
row_of glyphs.Kp =
    row (codes "kp") (ops.Move (neg 400) (pos 150) ∷ ops.Line (neg 200) (pos 300) ∷ ops.Line (pos 0) (pos 100)
    ∷ ops.Line (pos 200) (pos 300) ∷ ops.Line (pos 400) (pos 150) ∷ ops.Stroke ∷ [])
row_of glyphs.Kg =
    row (codes "kg") (ops.Move (pos 250) (pos 500) ∷ ops.Curve (neg 400) (pos 700) (neg 300) (pos 300) (pos 0) (pos 300)
    ∷ ops.Curve (pos 300) (pos 300) (pos 400) (neg 100) (neg 250) (pos 100) ∷ ops.Stroke ∷ ops.Move (neg 300) (pos 0)
    ∷ ops.Line (pos 300) (pos 600) ∷ ops.Stroke ∷ [])
row_of glyphs.Kt =
    row (codes "kt") (ops.Move (neg 200) (pos 600) ∷ ops.Line (neg 200) (pos 100) ∷ ops.Line (neg 50) (pos 0)
    ∷ ops.Stroke ∷ ops.Move (neg 300) (pos 400) ∷ ops.Line (pos 0) (pos 400) ∷ ops.Stroke ∷ ops.Move (pos 100) (pos 400)
    ∷ ops.Line (pos 100) (pos 0) ∷ ops.Stroke ∷ ops.Move (pos 100) (pos 250) ∷ ops.Line (pos 150) (pos 400)
    ∷ ops.Line (pos 300) (pos 400) ∷ ops.Stroke ∷ [])
row_of glyphs.Ku =
    row (codes "ku") (ops.Move (neg 200) (pos 600) ∷ ops.Line (pos 0) (pos 0) ∷ ops.Line (pos 200) (pos 600)
    ∷ ops.Stroke ∷ [])
row_of glyphs.Kd =
    row (codes "kd") (ops.Move (neg 250) (pos 0) ∷ ops.Line (neg 250) (pos 500) ∷ ops.Line (pos 250) (pos 500)
    ∷ ops.Line (pos 250) (pos 0) ∷ ops.Stroke ∷ [])
row_of glyphs.Kn = row (codes "kn") (ops.Move (neg 300) (pos 100) ∷ ops.Line (pos 300) (pos 100) ∷ ops.Stroke ∷ [])

abbrev pub glyph_name : Glyph → List ℕ
glyph_name glyph = (row_of glyph).name

abbrev pub outline_of : Glyph → List PathOp
outline_of glyph = (row_of glyph).outline

-- the order of the glyphs in the prolog
unfoldable pub glyphs_in_order : List Glyph
glyphs_in_order =
    glyphs.Hb ∷ glyphs.Hw ∷ glyphs.Hh ∷ glyphs.Hq ∷ glyphs.Gh ∷ glyphs.Dt ∷ glyphs.Lg ∷ glyphs.Fu ∷ glyphs.Fd
    ∷ glyphs.Gf ∷ glyphs.Gs ∷ glyphs.Sr ∷ glyphs.Sl ∷ glyphs.R0 ∷ glyphs.R1 ∷ glyphs.R2 ∷ glyphs.R4 ∷ glyphs.R8
    ∷ glyphs.Ax ∷ glyphs.As ∷ glyphs.An ∷ glyphs.Af ∷ glyphs.Ag ∷ glyphs.Cg ∷ glyphs.Cf ∷ glyphs.Cc ∷ glyphs.Bt
    ∷ glyphs.Bw ∷ glyphs.Bf ∷ glyphs.Bi ∷ glyphs.Bb ∷ glyphs.Bo ∷ glyphs.Dl ∷ glyphs.Dr ∷ glyphs.Nn ∷ glyphs.Ks
    ∷ glyphs.Kr ∷ glyphs.Kf ∷ glyphs.Ka ∷ glyphs.Km ∷ glyphs.Kc ∷ glyphs.Kp ∷ glyphs.Kg ∷ glyphs.Kt ∷ glyphs.Ku
    ∷ glyphs.Kd ∷ glyphs.Kn ∷ []

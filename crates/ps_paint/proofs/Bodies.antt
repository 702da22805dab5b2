-- The procedures that the prolog defines, as tokens.
use Rattle.std.specs.{Prelude.{◌≡◌, ℤ, pos, ℕ, List, [], ◌∷◌, ◌++◌, codes, Some, None}, List.flat_map}
use Rattle.mus_units.specs.Distances.{top_line, fourth_line, third_line, second_line}
use Rattle.mus_units.specs.declared.glyph.Glyph.{Glyph}
use Rattle.mus_units.specs.declared.glyph.Size.{Size}
use Rattle.mus_units.specs.declared.glyph.Way.{Way}
use Rattle.glyph_paths.specs.declared.paths.PathOp.{PathOp}
use Rattle.glyph_paths.specs.Names.{glyph_name}
use Rattle.glyph_paths.specs.Outlines.{outline_of}
use Rattle.ps_text.specs.Names.{size_name, way_name}
use Rattle.ps_text.specs.declared.sheet.Frame.{Frame}
use Rattle.ps_text.specs.Range.{IsFrame}
use Rattle.ps_steps.specs.declared.token.SimpleToken.{SimpleToken}
use Rattle.ps_steps.specs.declared.token.SimpleToken.TheVariants.{Whole as whole_token, Pointed as pointed_token}
use Rattle.ps_steps.specs.declared.token.SimpleToken.TheVariants.{Label as label_token}
use Rattle.ps_steps.specs.declared.token.SimpleToken.TheVariants.{Name as call}
use Rattle.ps_steps.specs.State.{Names}
use Rattle.ps_steps.specs.Operators.{Operator, operator_name, moveto_op, lineto_op, curveto_op, closepath_op, fill_op}
use Rattle.ps_steps.specs.Operators.{stroke_op, gsave_op}
use Rattle.ps_steps.specs.Operators.{grestore_op, translate_op, scale_op, setlinewidth_op, findfont_op, scalefont_op}
use Rattle.ps_steps.specs.Operators.{setfont_op, show_op}
use Rattle.ps_paint.specs.Distances.{big_height, line_width, small_height}
use Rattle.ps_paint.specs.PaintOf.{edge}
use Rattle.ps_paint.proofs.Runs.{op, wholes}

-- a line of a staff
abbrev pub rule_tokens : ℤ → List SimpleToken
rule_tokens up = whole_token (pos 0) ∷ whole_token up ∷ call (codes "m") ∷ call (codes "l") ∷ []

abbrev pub sf_body : List SimpleToken
sf_body =
    op gsave_op ∷ op translate_op
    ∷ (rule_tokens (pos 0) ++ rule_tokens (pos second_line) ++ rule_tokens (pos third_line)
    ++ rule_tokens (pos fourth_line)
    ++ rule_tokens (pos top_line) ++ op stroke_op ∷ op grestore_op ∷ [])

abbrev pub vl_body : List SimpleToken
vl_body = call (codes "m") ∷ call (codes "l") ∷ op stroke_op ∷ []

abbrev pub st_body : List SimpleToken
st_body = op gsave_op ∷ op translate_op ∷ call (codes "m") ∷ call (codes "l") ∷ op stroke_op ∷ op grestore_op ∷ []

-- the procedure of a beam, with the offset of its edge from the ends of its line
abbrev pub beam_body : ℤ → List SimpleToken
beam_body d =
    op gsave_op ∷ whole_token d ∷ whole_token (pos 0) ∷ op translate_op ∷ call (codes "m") ∷ call (codes "l")
    ∷ call (codes "l") ∷ call (codes "l") ∷ call (codes "h") ∷ op grestore_op ∷ []

abbrev pub ac_body : List SimpleToken
ac_body = call (codes "m") ∷ call (codes "c") ∷ op stroke_op ∷ []

-- the tokens that set the font in a size
abbrev pub font_tokens : ℤ → List SimpleToken
font_tokens size =
    label_token (codes "EngFont") ∷ op findfont_op ∷ whole_token size ∷ op scalefont_op ∷ op setfont_op ∷ []

abbrev pub shown_tokens : List SimpleToken
shown_tokens = op translate_op ∷ call (codes "m") ∷ op show_op ∷ op grestore_op ∷ []

abbrev pub size_body : Size → List SimpleToken
size_body Size.Small = op gsave_op ∷ shown_tokens
size_body Size.Big = op gsave_op ∷ (font_tokens big_height ++ shown_tokens)

-- the beginning of a page
abbrev pub pg_body : Frame → List SimpleToken
pg_body f =
    op gsave_op ∷ pointed_token (pos 1) ∷ pointed_token (pos 1) ∷ op scale_op ∷ whole_token (pos f.left)
    ∷ whole_token (pos f.bottom) ∷ op translate_op
    ∷ pointed_token (pos f.scale) ∷ pointed_token (pos f.scale) ∷ op scale_op ∷ whole_token (pos line_width)
    ∷ op setlinewidth_op ∷ font_tokens small_height

-- a step of a path: its numbers, and its procedure
abbrev pub step_numbers : PathOp → List ℤ
step_numbers (PathOp.Move x y) = x ∷ y ∷ []
step_numbers (PathOp.Line x y) = x ∷ y ∷ []
step_numbers (PathOp.Curve a b c d x y) = a ∷ b ∷ c ∷ d ∷ x ∷ y ∷ []
step_numbers _ = []

abbrev pub step_name : PathOp → List ℕ
step_name (PathOp.Move x y) = codes "m"
step_name (PathOp.Line x y) = codes "l"
step_name (PathOp.Curve a b c d x y) = codes "c"
step_name PathOp.Fill = codes "h"
step_name PathOp.Stroke = codes "k"

abbrev pub step_tokens : PathOp → List SimpleToken
step_tokens s = wholes (step_numbers s) ++ call (step_name s) ∷ []

abbrev pub glyph_body : Glyph → List SimpleToken
glyph_body g =
    op gsave_op ∷ op translate_op ∷ op translate_op ∷ flat_map step_tokens (outline_of g) ++ op grestore_op ∷ []

-- the procedures were defined for a frame, and no operator's name is defined
pub record Made (f : Frame) (ds : Names) : Type 0 where
  pub frame : IsFrame f
  pub free : (o : Operator) → ds (operator_name o) ≡ None
  pub m : ds (codes "m") ≡ Some (op moveto_op ∷ [])
  pub l : ds (codes "l") ≡ Some (op lineto_op ∷ [])
  pub c : ds (codes "c") ≡ Some (op curveto_op ∷ [])
  pub h : ds (codes "h") ≡ Some (op closepath_op ∷ op fill_op ∷ [])
  pub k : ds (codes "k") ≡ Some (op stroke_op ∷ [])
  pub sf : ds (codes "sf") ≡ Some sf_body
  pub vl : ds (codes "vl") ≡ Some vl_body
  pub st : ds (codes "st") ≡ Some st_body
  pub beam : (way : Way) → ds (way_name way) ≡ Some (beam_body (edge way))
  pub ac : ds (codes "ac") ≡ Some ac_body
  pub words : (size : Size) → ds (size_name size) ≡ Some (size_body size)
  pub pg : ds (codes "pg") ≡ Some (pg_body f)
  pub glyph : (g : Glyph) → ds (glyph_name g) ≡ Some (glyph_body g)

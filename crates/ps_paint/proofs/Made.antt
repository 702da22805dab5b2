-- The definitions that the prolog makes.
use Rattle.std.proofs.Common.{◌≡◌, ℕ, List, [], ◌∷◌, Some, None, refl, codes}
use Rattle.mus_units.specs.declared.glyph.Glyph.{Glyph}
use Rattle.mus_units.specs.declared.glyph.Size.{Size}
use Rattle.mus_units.specs.declared.glyph.Way.{Way}
use Rattle.glyph_paths.specs.Names.{glyph_name, glyphs_in_order}
use Rattle.ps_text.specs.Names.{size_name, way_name}
use Rattle.ps_text.specs.Range.{IsFrame}
use Rattle.ps_text.specs.declared.sheet.Frame.{Frame}
use Rattle.ps_steps.specs.declared.token.SimpleToken.{SimpleToken}
use Rattle.ps_steps.specs.State.{Names, no_names}
use Rattle.ps_steps.specs.Operators.{Operator, operator_name, defined, def_op, moveto_op, lineto_op, curveto_op}
use Rattle.ps_steps.specs.Operators.{closepath_op, fill_op, stroke_op}
use Rattle.ps_paint.specs.PaintOf.{edge}
use Rattle.ps_paint.proofs.Runs.{op}
use Rattle.ps_paint.proofs.Bodies.{Made, sf_body, vl_body, st_body, beam_body, ac_body, size_body, pg_body, glyph_body}

-- the names of its fixed lines and their procedures, in order
abbrev pub fixed_bodies : List (List ℕ × List SimpleToken)
fixed_bodies =
    (codes "m", op moveto_op ∷ []) ∷ (codes "l", op lineto_op ∷ []) ∷ (codes "c", op curveto_op ∷ [])
    ∷ (codes "h", op closepath_op ∷ op fill_op ∷ []) ∷ (codes "k", op stroke_op ∷ [])
    ∷ (codes "sf", sf_body) ∷ (codes "vl", vl_body) ∷ (codes "st", st_body)
    ∷ (codes "bu", beam_body (edge Way.Up)) ∷ (codes "bd", beam_body (edge Way.Down))
    ∷ (codes "gb", beam_body (edge Way.Grace))
    ∷ (codes "ac", ac_body) ∷ (codes "t1", size_body Size.Small) ∷ (codes "t2", size_body Size.Big) ∷ []

abbrev pub with_bodies : List (List ℕ × List SimpleToken) → Names → Names
with_bodies [] ds = ds
with_bodies (b ∷ bs) ds = with_bodies bs (defined b.0 b.1 ds)

abbrev pub with_fixed : Names
with_fixed = with_bodies fixed_bodies no_names

-- and the definition of a page's beginning
abbrev pub with_pg : Frame → Names
with_pg f = defined (codes "pg") (pg_body f) with_fixed

-- then the definitions of glyphs
abbrev pub with_glyphs : List Glyph → Names → Names
with_glyphs [] ds = ds
with_glyphs (g ∷ gs) ds = with_glyphs gs (defined (glyph_name g) (glyph_body g) ds)

abbrev pub all_names : Frame → Names
all_names f = with_glyphs glyphs_in_order (with_pg f)

free : (f : Frame) (o : Operator) → all_names f (operator_name o) ≡ None
unfolding glyphs_in_order
free f def_op = refl
free f _ = refl

of_glyph : (f : Frame) (g : Glyph) → all_names f (glyph_name g) ≡ Some (glyph_body g)
unfolding glyphs_in_order
of_glyph f Glyph.Hb = refl
of_glyph f _ = refl

of_beam : (f : Frame) (way : Way) → all_names f (way_name way) ≡ Some (beam_body (edge way))
unfolding glyphs_in_order
of_beam f Way.Up = refl
of_beam f _ = refl

of_size : (f : Frame) (size : Size) → all_names f (size_name size) ≡ Some (size_body size)
unfolding glyphs_in_order
of_size f Size.Small = refl
of_size f Size.Big = refl

pub all_made : (f : Frame) → IsFrame f → Made f (all_names f)
unfolding glyphs_in_order
all_made f fr = record {
  frame = fr;
  free = free f;
  m = refl;
  l = refl;
  c = refl;
  h = refl;
  k = refl;
  sf = refl;
  vl = refl;
  st = refl;
  beam = of_beam f;
  ac = refl;
  words = of_size f;
  pg = refl;
  glyph = of_glyph f;
}

-- The lines of glyphs.
use Rattle.std.proofs.Common.{◌≡◌, ◌+◌, ◌≤◌, ℤ, true, [], ◌∷◌, refl, arith}
use Rattle.std.proofs.Math.IntN.{◌+ℤ◌}
use Rattle.std.proofs.lemmas.Int.{ints}
use Rattle.std.proofs.lemmas.Bool.{leb-true}
use Rattle.mus_units.specs.declared.glyph.Glyph.{Glyph}
use Rattle.glyph_paths.specs.Names.{glyph_name}
use Rattle.glyph_paths.specs.Outlines.{outline_of}
use Rattle.ps_text.specs.Document.{mark_text}
use Rattle.ps_text.specs.Line.{glyph_line}
use Rattle.ps_text.specs.declared.sheet.Frame.{Frame}
use Rattle.ps_text.specs.Range.{IsNearNumber}
use Rattle.ps_text.specs.Range.{IsNumber, IsOffset, IsPlacedMark}
use Rattle.ps_text.specs.declared.marks.PageMark.{PageMark}
use Rattle.ps_steps.specs.declared.token.SimpleToken.TheVariants.{Name as name_token}
use Rattle.ps_steps.specs.State.{Names}
use Rattle.ps_steps.specs.Operators.{all_near}
use Rattle.ps_paint.specs.PaintOf.{mark_paints}
use Rattle.ps_paint.proofs.Bodies.{Made}
use Rattle.ps_paint.proofs.Scales.{from_zero, from_number}
use Rattle.ps_paint.proofs.Runs.{both_runs}
use Rattle.ps_paint.proofs.Draws.{saves, translates}
use Rattle.ps_paint.proofs.Glyphs.{cost, outline_runs}
use Rattle.ps_paint.proofs.GlyphTable.{fine}
use Rattle.ps_paint.proofs.Takes.{IsTokenWord}
use Rattle.ps_paint.proofs.{Takes.name_some, Lines.{Draws, line_drawn, page_near, offset_near}}

glyph_word : (g : Glyph) → IsTokenWord (name_token (glyph_name g)) (glyph_name g)
glyph_word g = let t = fine g in record { some = name_some (glyph_name g) t.good; regular = t.regular; token = t.token }

near_sum : (z d : ℤ) → IsNumber z → IsOffset d → IsNearNumber (z +ℤ d)
near_sum z d n o = record { low = omega (arith, ints); high = omega (arith, ints) }

pub glyph_drawn : {f : Frame} {ds : Names} (made : Made f ds) (g : Glyph) (y x dx dy : ℤ)
    → IsPlacedMark y x dx dy
    → Draws f ds (mark_text y (PageMark.Glyph g x dx dy)) (mark_paints f y (PageMark.Glyph g x dx dy))
unfolding mark_text glyph_line
glyph_drawn made g y x dx dy s =
    let zs = dx ∷ dy ∷ x ∷ y ∷ [] in
    let near : all_near zs ≡ true =
    rw (offset_near dx s.across, offset_near dy s.above, page_near x s.anchor, page_near y s.base) refl in
    let low : cost (outline_of g) ≤ 90 = leb-true (cost (outline_of g)) 90 ((fine g).few) in
    line_drawn {n = 1 + (1 + (1 + cost (outline_of g)))} zs (glyph_name g) near (glyph_word g) (made.glyph g)
    (omega (arith, low))
    (λ st saved ps pages.
    both_runs (saves made) (both_runs (translates made (from_zero x s.anchor) (from_zero y s.base))
    (both_runs (translates made (from_number x dx s.anchor s.across) (from_number y dy s.base s.above))
    (outline_runs made (x +ℤ dx) (y +ℤ dy) (near_sum x dx s.anchor s.across) (near_sum y dy s.base s.above)
    (outline_of g) [] ps ((fine g).small) ((fine g).drawn)))))

use Rattle.std.proofs.Common.{◌≡◌, ap, sym, ◌∙◌, arith, ◌-ℤ◌, to_z, of_z, w32, w64}
use Rattle.std.proofs.lemmas.Int.{to_z-of_z}
use Rattle.std.proofs.lemmas.Result.{on_ok_weaker}
use Rattle.ps_text.proofs.Signs.{as_passed}
use Rattle.ps_heard.specs.Columns.{bulges_as_tie}
use Rattle.ps_heard.proofs.FillingLaws.{glyph_passed, tie_passed}
use Rattle.ps_heard.proofs.columns.put_mark.Goals as goal

pub returns-in-Glyph : goal.returns-in-Glyph
returns-in-Glyph c =
    let x : to_z w64 (of_z w64 c.in-Glyph.x) ≡ c.in-Glyph.x = grind (arith, as_passed) in
    let dy : to_z w32 (of_z w32 c.in-Glyph.dy) ≡ c.in-Glyph.dy = grind (arith, as_passed) in
    rw c.in-Glyph.is
    (on_ok_weaker c.put_note.result
    (glyph_passed c.in-Glyph.glyph c.in-Glyph.x c.in-Glyph.dx c.in-Glyph.dy _ _ _ c.role_of.result c.args.places.now
    c.args.columns.now c.put_note.new.columns x dy dy c.role_of.ensures)
    c.put_note.ensures)

pub returns-then-bulges_as_tie : goal.returns-then-bulges_as_tie
returns-then-bulges_as_tie c =
    let x : to_z w64 (of_z w64 c.in-Arc.x2) ≡ c.in-Arc.x2 = grind (arith, as_passed) in
    let to : to_z w32 (of_z w32 c.in-Arc.to) ≡ c.in-Arc.to = grind (arith, as_passed) in
    let bulge : to_z w32 (of_z w32 c.in-Arc.bulge) ≡ c.in-Arc.bulge = grind (arith, as_passed) in
    let end = to_z-of_z w64 c.height_of_end.result (record { sfits = c.height_of_end.type_inv }) in
    rw c.in-Arc.is
    (on_ok_weaker c.put_tie.result
    (tie_passed c.in-Arc.x1 c.in-Arc.x2 c.in-Arc.from c.in-Arc.to c.in-Arc.bulge _ c.height_of_end.result _
    c.args.places.now c.args.columns.now c.put_tie.new.columns
    (ap bulges_as_tie (sym bulge) ∙ sym c.if-bulges_as_tie.ensures) x end
    (c.height_of_end.ensures ∙ ap (λ z. z -ℤ to_z w32 (of_z w32 c.in-Arc.bulge)) to ∙ ap (λ z. c.in-Arc.to -ℤ z) bulge))
    c.put_tie.ensures)

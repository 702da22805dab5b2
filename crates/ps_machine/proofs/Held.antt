-- One more piece, for the current state and for the saved ones.
use Rattle.std.proofs.Common.{◌≡◌, ◌≤◌, ◌∙◌, refl, sym, ap, subst, List, [], ◌∷◌, ◌++◌, length, take, drop, reverse}
use Rattle.std.proofs.Common.{Some, ℕ, arith, length-append}
use Rattle.std.proofs.lemmas.List.{drop-append-le, take-append-le, reverse-append}
use Rattle.ps_steps.specs.{declared.paint.Seg.Seg, Points.end_of, Points.last_move}
use Rattle.ps_machine.specs.Drawing.{GraphicsStack}
use Rattle.ps_machine.specs.Pens.{AreHeld, IsHeld, drawing_of, followed, graphics_of, saved_of}
use Rattle.ps_machine.specs.declared.canvas.PenState.{PenState}
use Rattle.ps_machine.specs.declared.canvas.Saved.{Saved}

-- the path with one more piece, the last first
turned : (n : ℕ) (pieces : List Seg) (x : Seg)
    → n ≤ length pieces → reverse (drop n (pieces ++ x ∷ [])) ≡ x ∷ reverse (drop n pieces)
turned n pieces x within =
    ap reverse (drop-append-le n pieces (x ∷ []) within) ∙ reverse-append (drop n pieces) (x ∷ [])

longer : (n : ℕ) (pieces : List Seg) (x : Seg) → n ≤ length pieces → n ≤ length (pieces ++ x ∷ [])
longer n pieces x within = let both = length-append pieces (x ∷ []) in omega (arith, both, within)

pub held_more : (pieces : List Seg) (pen : PenState) (x : Seg)
    → IsHeld pieces pen → IsHeld (pieces ++ x ∷ []) (followed pen x)
held_more pieces pen (Seg.Move x y) h =
    let e = turned pen.first pieces (Seg.Move x y) h.0 in
    (longer pen.first pieces (Seg.Move x y) h.0, sym (ap end_of e), sym (ap last_move e))
held_more pieces pen (Seg.Line x y) h =
    let e = turned pen.first pieces (Seg.Line x y) h.0 in
    (longer pen.first pieces (Seg.Line x y) h.0, sym (ap end_of e), h.2 ∙ sym (ap last_move e))
held_more pieces pen (Seg.Curve a b c d x y) h =
    let e = turned pen.first pieces (Seg.Curve a b c d x y) h.0 in
    (longer pen.first pieces (Seg.Curve a b c d x y) h.0, sym (ap end_of e), h.2 ∙ sym (ap last_move e))
held_more pieces pen Seg.Close h =
    let e = turned pen.first pieces Seg.Close h.0 in
    (longer pen.first pieces Seg.Close h.0, ap Some h.2 ∙ sym (ap end_of e), h.2 ∙ sym (ap last_move e))

pub all_held_more : (pieces : List Seg) (saved : List Saved) (x : Seg)
    → AreHeld pieces saved → AreHeld (pieces ++ x ∷ []) saved
all_held_more pieces [] x h = tt
all_held_more pieces (s ∷ saved) x h =
    let same = sym (take-append-le s.count pieces (x ∷ []) h.0) in
    (longer s.count pieces x h.0, subst (λ p. IsHeld p s.pen) same h.1, subst (λ p. AreHeld p saved) same h.2)

saved_more : (pieces : List Seg) (saved : List Saved) (x : Seg)
    → AreHeld pieces saved → saved_of (pieces ++ x ∷ []) saved ≡ saved_of pieces saved
saved_more pieces [] x h = refl
saved_more pieces (s ∷ saved) x h =
    ap (λ p. graphics_of p s.pen ∷ saved_of p saved) (take-append-le s.count pieces (x ∷ []) h.0)

-- the drawing with one more piece
abbrev with_piece : GraphicsStack → Seg → GraphicsStack
with_piece d x = record d { now = record d.now { path = d.now.path ++ x ∷ [] } }

graphics_more : (pieces : List Seg) (pen : PenState) (x : Seg)
    → pen.first ≤ length pieces
    → graphics_of (pieces ++ x ∷ []) (followed pen x)
    ≡ record (graphics_of pieces pen) { path = drop pen.first pieces ++ x ∷ [] }
graphics_more pieces pen (Seg.Move x y) within =
    ap (λ p. record (graphics_of pieces pen) { path = p }) (drop-append-le pen.first pieces (Seg.Move x y ∷ []) within)
graphics_more pieces pen (Seg.Line x y) within =
    ap (λ p. record (graphics_of pieces pen) { path = p }) (drop-append-le pen.first pieces (Seg.Line x y ∷ []) within)
graphics_more pieces pen (Seg.Curve a b c d x y) within =
    ap (λ p. record (graphics_of pieces pen) { path = p })
    (drop-append-le pen.first pieces (Seg.Curve a b c d x y ∷ []) within)
graphics_more pieces pen Seg.Close within =
    ap (λ p. record (graphics_of pieces pen) { path = p }) (drop-append-le pen.first pieces (Seg.Close ∷ []) within)

pub drawing_more : (pieces : List Seg) (pen : PenState) (saved : List Saved) (x : Seg)
    → IsHeld pieces pen → AreHeld pieces saved
    → drawing_of (pieces ++ x ∷ []) (followed pen x) saved ≡ with_piece (drawing_of pieces pen saved) x
drawing_more pieces pen saved x h k =
    let now = graphics_more pieces pen x h.0 in let others = saved_more pieces saved x k in
    ap (λ g. record { now = g; saved = saved_of (pieces ++ x ∷ []) saved }) now
    ∙ ap (λ gs. record { now = record (graphics_of pieces pen) { path = drop pen.first pieces ++ x ∷ [] }; saved = gs })
    others

-- What the short procedures of the prolog draw.
use Rattle.std.proofs.Common.{◌≡◌, ℤ, pos, true, false, Bool, List, [], ◌∷◌, ◌++◌, refl, sym, codes, true≢false}
use Rattle.std.proofs.Math.IntN.{◌*ℤ◌}
use Rattle.ps_text.specs.declared.sheet.Frame.{Frame}
use Rattle.ps_text.specs.Range.{IsFrame}
use Rattle.ps_steps.specs.Operators.{add_seg, all_near, close_path, moveto_op, lineto_op, curveto_op, closepath_op}
use Rattle.ps_steps.specs.Operators.{fill_op, stroke_op, gsave_op, grestore_op}
use Rattle.ps_steps.specs.Operators.{translate_op}
use Rattle.ps_steps.specs.declared.paint.Seg.{Seg}
use Rattle.ps_steps.specs.declared.paint.Paint.{Paint}
use Rattle.ps_steps.specs.declared.paint.PagePaint.{PagePaint}
use Rattle.ps_steps.specs.declared.value.Operand.{Operand}
use Rattle.ps_steps.specs.declared.value.Operand.TheVariants.{Whole as whole_value}
use Rattle.ps_steps.specs.declared.graphics.Graphics.{Graphics}
use Rattle.ps_steps.specs.declared.token.SimpleToken.TheVariants.{Name as call}
use Rattle.ps_steps.specs.State.{State, Names}
use Rattle.ps_paint.specs.Distances.{line_width}
use Rattle.ps_paint.specs.PaintOf.{to_x, to_y, move, line, curve, stroked, filled_paint}
use Rattle.ps_paint.proofs.Bodies.{Made}
use Rattle.ps_paint.proofs.Scales.{Comes}
use Rattle.ps_paint.proofs.Scales.{comes_to, near_place, near_width}
use Rattle.ps_paint.proofs.Runs.{Runs, both_runs, calls, acts, op, is_in_range}

-- the graphics of a page with the origin at (x, y)
abbrev pub drawing : Frame → ℤ → ℤ → List Seg → ℤ → Graphics
drawing f x y path font =
    record { path = path; scale = pos f.scale; x = to_x f x; y = to_y f y; font = font; line = pos line_width }

-- with the origin at the corner of the margins
abbrev pub corner : Frame → ℤ → Graphics
corner f font = drawing f (pos 0) (pos 0) [] font

abbrev pub page : Names → List Operand → Graphics → List Graphics → List Paint → List PagePaint → State
page ds st g saved ps pages =
    record { stack = st; names = ds; made = true; now = g; saved = saved; paints = ps; pages = pages }

-- whether there is a path
abbrev pub some_path : List Seg → Bool
some_path [] = false
some_path (s ∷ path) = true

pub has_path : (path : List Seg) (s : Seg) → some_path (path ++ s ∷ []) ≡ true
has_path [] s = refl
has_path (p ∷ path) s = refl

closes : (path : List Seg) (m : State) → some_path path ≡ true → close_path path m ≡ add_seg Seg.Close m
closes [] m some = absurd (true≢false (sym some))
closes (s ∷ path) m some = refl

-- a point of a page is in range
near_point : {f : Frame} {v a p w b q : ℤ}
    → IsFrame f → Comes v a p → Comes w b q → all_near (to_x f p ∷ to_y f q ∷ []) ≡ true
near_point {f} {p = p} {q = q} fr u v =
    rw (
      near_place f.left f.scale p fr.left fr.greatest_scale u.close,
      near_place f.bottom f.scale q fr.bottom fr.greatest_scale v.close,
    ) refl

module _ {f : Frame} {ds : Names} (made : Made f ds) {saved : List Graphics} {ps : List Paint} {pages : List PagePaint}
    {st : List Operand} where
  pub saves : {g : Graphics}
      → Runs 1 (op gsave_op ∷ []) (page ds st g saved ps pages) (page ds st g (g ∷ saved) ps pages)
  saves = acts gsave_op (made.free gsave_op) refl

  pub restores : {g o : Graphics}
      → Runs 1 (op grestore_op ∷ []) (page ds st g (o ∷ saved) ps pages) (page ds st o saved ps pages)
  restores = acts grestore_op (made.free grestore_op) refl

  pub translates : {x y a b p q font : ℤ} {path : List Seg} → Comes x a p → Comes y b q
      → Runs 1 (op translate_op ∷ [])
      (page ds (whole_value b ∷ whole_value a ∷ st) (drawing f x y path font) saved ps pages)
      (page ds st (drawing f p q path font) saved ps pages)
  translates {p = p} {q = q} u v =
      acts translate_op (made.free translate_op)
      (rw (comes_to f.left f.scale u, comes_to f.bottom f.scale v)
      (is_in_range (to_x f p ∷ to_y f q ∷ []) _ (near_point made.frame u v)))

  pub moves : {x y a b p q font : ℤ} {path : List Seg} → Comes x a p → Comes y b q
      → Runs 2 (call (codes "m") ∷ [])
      (page ds (whole_value b ∷ whole_value a ∷ st) (drawing f x y path font) saved ps pages)
      (page ds st (drawing f x y (path ++ move f p q ∷ []) font) saved ps pages)
  moves {p = p} {q = q} u v =
      calls made.m
      (acts moveto_op (made.free moveto_op)
      (rw (comes_to f.left f.scale u, comes_to f.bottom f.scale v)
      (is_in_range (to_x f p ∷ to_y f q ∷ []) _ (near_point made.frame u v))))

  pub lines : {x y a b p q font : ℤ} {path : List Seg} → some_path path ≡ true → Comes x a p → Comes y b q
      → Runs 2 (call (codes "l") ∷ [])
      (page ds (whole_value b ∷ whole_value a ∷ st) (drawing f x y path font) saved ps pages)
      (page ds st (drawing f x y (path ++ line f p q ∷ []) font) saved ps pages)
  lines {path = []} some u v = absurd (true≢false (sym some))
  lines {p = p} {q = q} {path = s ∷ path} some u v =
      calls made.l
      (acts lineto_op (made.free lineto_op)
      (rw (comes_to f.left f.scale u, comes_to f.bottom f.scale v)
      (is_in_range (to_x f p ∷ to_y f q ∷ []) _ (near_point made.frame u v))))

  pub curves : {x y a b c d e g p q r s t w font : ℤ} {path : List Seg}
      → some_path path ≡ true → Comes x a p → Comes y b q → Comes x c r → Comes y d s → Comes x e t → Comes y g w
      → Runs 2 (call (codes "c") ∷ [])
      (page ds (whole_value g ∷ whole_value e ∷ whole_value d ∷ whole_value c ∷ whole_value b ∷ whole_value a ∷ st)
      (drawing f x y path font) saved ps pages)
      (page ds st (drawing f x y (path ++ curve f p q r s t w ∷ []) font) saved ps pages)
  curves {path = []} some i j k l u v = absurd (true≢false (sym some))
  curves {p = p} {q = q} {r = r} {s = s} {t = t} {w = w} {path = n ∷ path} some i j k l u v =
      let across = f.left in let above = f.bottom in let z = f.scale in let fr = made.frame in
      let near : all_near (to_x f p ∷ to_y f q ∷ to_x f r ∷ to_y f s ∷ to_x f t ∷ to_y f w ∷ []) ≡ true =
      simp (near_point fr i j, near_point fr k l, near_point fr u v) in
      calls made.c
      (acts curveto_op (made.free curveto_op)
      (rw (
        comes_to across z i,
        comes_to above z j,
        comes_to across z k,
        comes_to above z l,
        comes_to across z u,
        comes_to above z v,
      )
      (is_in_range (to_x f p ∷ to_y f q ∷ to_x f r ∷ to_y f s ∷ to_x f t ∷ to_y f w ∷ []) _ near)))

  pub fills : {g : Graphics}
      → some_path g.path ≡ true
      → Runs 3 (call (codes "h") ∷ []) (page ds st g saved ps pages)
      (page ds st (record g { path = [] }) saved (ps ++ filled_paint g.path ∷ []) pages)
  fills {g} some =
      calls made.h
      (both_runs (acts closepath_op (made.free closepath_op) (closes g.path _ some))
      (acts fill_op (made.free fill_op) refl))

  pub strokes : (x y : ℤ) {font : ℤ} {path : List Seg}
      → Runs 1 (op stroke_op ∷ []) (page ds st (drawing f x y path font) saved ps pages)
      (page ds st (drawing f x y [] font) saved (ps ++ stroked f path ∷ []) pages)
  strokes x y =
      acts stroke_op (made.free stroke_op)
      (is_in_range ((pos line_width *ℤ pos f.scale) ∷ []) _ (rw (near_width f made.frame) refl))

-- How a page begins and ends.
use Rattle.std.proofs.Common.{◌≡◌, ℕ, ℤ, pos, true, ◌&&◌, List, [], ◌∷◌, ◌++◌, append_assoc, refl, arith, decimal}
use Rattle.std.proofs.Common.{codes, int_le, int_div, int_rem}
use Rattle.std.proofs.Math.IntN.{◌+ℤ◌, ◌*ℤ◌}
use Rattle.std.proofs.lemmas.Int.{ints}
use Rattle.ps_text.specs.Document.{heading_text, heading_line, closing}
use Rattle.ps_text.specs.declared.sheet.Frame.{Frame}
use Rattle.ps_steps.specs.declared.paint.Paint.{Paint}
use Rattle.ps_steps.specs.declared.paint.PagePaint.{PagePaint}
use Rattle.ps_steps.specs.declared.graphics.Graphics.{Graphics}
use Rattle.ps_steps.specs.declared.value.Operand.{Operand}
use Rattle.ps_steps.specs.declared.value.Operand.TheVariants.{Pointed as pointed_value}
use Rattle.ps_steps.specs.declared.token.SimpleToken.TheVariants.{Name as name_token, Pointed as pointed_token}
use Rattle.ps_steps.specs.Near.{is_near}
use Rattle.ps_steps.specs.State.{State, Names}
use Rattle.ps_steps.specs.State.{first_graphics}
use Rattle.ps_steps.specs.Operators.{went, same, scaled, with_factors, grestore_op, scale_op, translate_op}
use Rattle.ps_steps.specs.Operators.{setlinewidth_op, showpage_op}
use Rattle.ps_paint.specs.Distances.{line_width, small_height}
use Rattle.ps_paint.specs.PaintOf.{to_x, to_y}
use Rattle.ps_paint.proofs.Bodies.{Made, pg_body}
use Rattle.ps_paint.proofs.Scales.{near}
use Rattle.ps_paint.proofs.Runs.{Runs, op, then, both_runs, pushes, acts, is_in_range}
use Rattle.ps_paint.proofs.Draws.{page, saves}
use Rattle.ps_paint.proofs.Takes.{Takes, both_taken, takes_operator, takes_call, IsTokenWord}
use Rattle.ps_paint.proofs.Takes.{line_end_passed}
use Rattle.ps_paint.proofs.Comments.{takes_comment, two_in_line}
use Rattle.ps_paint.proofs.Lines.{on_page}
use Rattle.ps_paint.proofs.WordLines.{sets_font}

-- between two pages
abbrev pub between : Names → List PagePaint → State
between ds pages = page ds [] first_graphics [] [] pages

-- within one
abbrev pub within : Frame → Names → List Paint → List PagePaint → State
within f ds ps pages = on_page f ds [] (first_graphics ∷ []) ps pages

-- a scale that is a whole number of hundreds
scaled_to : (z q : ℤ) (m : State)
    → int_rem z (pos 100) ≡ pos 0 → int_le (pos 100) z ≡ true → int_div z (pos 100) ≡ q → is_near q ≡ true
    → scaled z m ≡ went [] (record m { now = record m.now { scale = q } })
scaled_to z q m r l d n =
    let t : (same (int_rem z (pos 100)) (pos 0) && int_le (pos 100) z) ≡ true = rw (r, l) refl in
    rw (t, scaled) (rw d (is_in_range (q ∷ []) _ (rw n refl)))

itself : (n : ℕ) → same (pos n) (pos n) ≡ true
itself n = grind (arith, ints)

module _ {f : Frame} {ds : Names} (made : Made f ds) where
  scales : (p : ℕ) (q : ℤ) {g : Graphics} {st : List Operand} {saved : List Graphics} {ps : List Paint}
      {pages : List PagePaint}
      → int_rem (g.scale *ℤ pos p) (pos 100) ≡ pos 0 → int_le (pos 100) (g.scale *ℤ pos p) ≡ true
      → int_div (g.scale *ℤ pos p) (pos 100) ≡ q
      → is_near q ≡ true
      → Runs 3 (pointed_token (pos p) ∷ pointed_token (pos p) ∷ op scale_op ∷ []) (page ds st g saved ps pages)
      (page ds st (record g { scale = q }) saved ps pages)
  scales p q {g} {st} {saved} {ps} {pages} r l d n =
      let v = pointed_value (pos p) in
      then {t = pointed_token (pos p)} {k = page ds (v ∷ st) g saved ps pages} refl
      (then {t = pointed_token (pos p)} {k = page ds (v ∷ v ∷ st) g saved ps pages} refl
      (acts scale_op (made.free scale_op)
      (rw (itself p, with_factors) (scaled_to (g.scale *ℤ pos p) q (page ds st g saved ps pages) r l d n))))

  -- the procedure that begins a page
  begins_page : (pages : List PagePaint) → Runs 17 (pg_body f) (between ds pages) (within f ds [] pages)
  begins_page pages =
      let fr = made.frame in let x = pos 0 +ℤ (pos 100 *ℤ pos f.left) in let y = pos 0 +ℤ (pos 100 *ℤ pos f.bottom) in
      let near_left : is_near x ≡ true = near x (omega (arith, ints)) (omega (arith, ints)) in
      let near_bottom : is_near y ≡ true = near y (omega (arith, ints)) (omega (arith, ints)) in
      let near_scale : is_near (pos f.scale) ≡ true = near (pos f.scale) (omega (arith, ints)) (omega (arith, ints)) in
      let whole : int_rem (pos 100 *ℤ pos f.scale) (pos 100) ≡ pos 0 = omega (arith, ints) in
      let some : int_le (pos 100) (pos 100 *ℤ pos f.scale) ≡ true = grind (arith, ints) in
      let hundredth : int_div (pos 100 *ℤ pos f.scale) (pos 100) ≡ pos f.scale = omega (arith, ints) in
      let across : x ≡ to_x f (pos 0) = omega (arith, ints) in let above : y ≡ to_y f (pos 0) = omega (arith, ints) in
      let run : Runs 17 (pg_body f) (between ds pages)
      (page ds []
      (record first_graphics { scale = pos f.scale; x = x; y = y; font = small_height; line = pos line_width })
      (first_graphics ∷ []) [] pages)
      =
      both_runs (saves made)
      (both_runs (scales 1 (pos 100) refl refl refl refl) (both_runs (pushes (pos f.left ∷ pos f.bottom ∷ []))
      (both_runs
      (acts translate_op (made.free translate_op) (is_in_range (x ∷ y ∷ []) _ (rw (near_left, near_bottom) refl)))
      (both_runs (scales f.scale (pos f.scale) whole some hundredth near_scale)
      (both_runs (pushes (pos line_width ∷ []))
      (both_runs (acts setlinewidth_op (made.free setlinewidth_op) refl) (sets_font made small_height refl)))))))
      in rw (across, above) at run

  -- the two lines that begin a page
  pub page_begun : (k : ℕ) (pages : List PagePaint)
      → Takes 18 (heading_text k) (between ds pages) (within f ds [] pages)
  unfolding heading_text heading_line
  page_begun k pages =
      let word : IsTokenWord (name_token (codes "pg")) (codes "pg") =
      record { some = omega arith; regular = refl; token = refl } in
      let comment =
      takes_comment (codes "%Page: " ++ decimal k ++ 32 ∷ decimal k) (between ds pages) (two_in_line k k) in
      let begun : Takes 18 (codes "pg" ++ 10 ∷ []) (between ds pages) (within f ds [] pages) =
      takes_call word line_end_passed made.pg (begins_page pages) in
      rw append_assoc at (both_taken comment begun)

  -- the two lines that end it
  pub page_ended : (ps : List Paint) (pages : List PagePaint)
      → Takes 2 closing (within f ds ps pages) (between ds (pages ++ record { paints = ps } ∷ []))
  unfolding closing
  page_ended ps pages =
      let one : Takes 1 (codes "grestore\n") (within f ds ps pages) (page ds [] first_graphics [] ps pages) =
      takes_operator grestore_op (made.free grestore_op) refl in
      both_taken one (takes_operator showpage_op (made.free showpage_op) refl)

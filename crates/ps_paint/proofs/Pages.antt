-- Marks, staves, systems, items and pages are drawn as they are painted.
use Rattle.std.proofs.Common.{◌≡◌, ℕ, ◌+◌, ◌≤◌, ℤ, pos, List, [], ◌∷◌, ◌++◌, length, length-append, append_assoc}
use Rattle.std.proofs.Common.{append-nil, map, refl, subst, arith, decimal, codes, All}
use Rattle.std.proofs.Math.IntN.{◌+ℤ◌}
use Rattle.std.proofs.lemmas.Int.{ints}
use Rattle.std.{proofs.lemmas.List.Elements.{All-head, All-tail}, specs.List.flat_map}
use Rattle.mus_units.specs.Distances.{top_line}
use Rattle.ps_text.specs.Document.{numbered, mark_text, marks_text, rules_line, staff_line, staff_text, last_base}
use Rattle.ps_text.specs.Document.{join_text, system_line, system_text, tune_line, tune_text, item_text, items_text}
use Rattle.ps_text.specs.Document.{document_page}
use Rattle.ps_text.specs.Document.{heading_text, heading_line, closing}
use Rattle.ps_text.specs.declared.marks.PageMark.{PageMark}
use Rattle.ps_text.specs.declared.sheet.Frame.{Frame}
use Rattle.ps_text.specs.declared.sheet.Staff.{Staff}
use Rattle.ps_text.specs.declared.sheet.Item.{Item}
use Rattle.ps_text.specs.declared.sheet.Page.{Page}
use Rattle.ps_text.specs.Range.{IsNumber, IsPageMark, IsStaff, IsJoined}
use Rattle.ps_text.specs.Range.{IsItem, IsPage}
use Rattle.ps_steps.specs.declared.paint.PagePaint.{PagePaint}
use Rattle.ps_steps.specs.State.{Names, first_graphics}
use Rattle.ps_paint.specs.PaintOf.{mark_paints, staff_paints, join_paints, item_paints}
use Rattle.ps_paint.specs.PaintOf.{page_paint}
use Rattle.ps_paint.proofs.Bodies.{Made}
use Rattle.ps_paint.proofs.Takes.{nothing_taken, both_taken}
use Rattle.ps_paint.proofs.Comments.{takes_comment, number_in_line, two_in_line}
use Rattle.ps_paint.proofs.Lines.{Leads, both_lead, stays, Draws, nothing_drawn}
use Rattle.ps_paint.proofs.Lines.{passed_over, both_drawn, all_drawn}
use Rattle.ps_paint.proofs.StemLines.{stem_drawn, join_drawn}
use Rattle.ps_paint.proofs.StaffLines.{rules_drawn}
use Rattle.ps_paint.proofs.GlyphLines.{glyph_drawn}
use Rattle.ps_paint.proofs.WordLines.{words_drawn, title_drawn}
use Rattle.ps_paint.proofs.BeamLines.{beam_drawn}
use Rattle.ps_paint.proofs.{ArcLines.arc_drawn, Starts.{between, page_begun, page_ended}}

wide_number : (n : ℕ) → n ≤ 2147483648 → IsNumber (pos n)
wide_number n l = record { low = omega (arith, ints); high = omega (arith, ints) }

last_number : (s : Staff) (rest : List Staff) → All IsStaff (s ∷ rest) → IsNumber (last_base s rest)
last_number s [] a = (All-head IsStaff s [] a).base
last_number s (t ∷ rest) a = last_number t rest (All-tail IsStaff s (t ∷ rest) a)

three_lines : (a r ms : List ℕ) → ((a ++ 10 ∷ []) ++ (r ++ 10 ∷ [])) ++ ms ≡ (a ++ 10 ∷ r) ++ 10 ∷ ms
three_lines a r ms = simp append_assoc

heading_some : (k : ℕ) → 1 ≤ length (heading_text k)
unfolding heading_text heading_line
heading_some k = omega arith

page_parts : (k : ℕ) (p : Page) → document_page k p ≡ (heading_text k ++ flat_map item_text p.items) ++ closing
unfolding document_page items_text
page_parts k p = refl

module _ {f : Frame} {ds : Names} (made : Made f ds) where
  mark_drawn : (y : ℤ) (m : PageMark) → IsPageMark y m → Draws f ds (mark_text y m) (mark_paints f y m)
  mark_drawn y (PageMark.Glyph glyph x dx dy) h = glyph_drawn made glyph y x dx dy h
  mark_drawn y (PageMark.Words size x dx dy words) h = words_drawn made size y x dx dy words h.0 h.1
  mark_drawn y (PageMark.Stem x dx from to) h = stem_drawn made y x dx from to h
  mark_drawn y (PageMark.Beam way x1 x2 from to) h = beam_drawn made y way x1 x2 from to h
  mark_drawn y (PageMark.Arc x1 x2 from to bulge) h = arc_drawn made y x1 x2 from to bulge h

  staff_drawn : (k : ℕ) (s : Staff) → IsStaff s → Draws f ds (staff_text k s) (staff_paints f s)
  unfolding staff_text staff_line marks_text
  staff_drawn k s h =
      let a = 37 ∷ (codes " staff " ++ decimal k) in
      let r = rules_line s.width s.y in
      let ms = flat_map (mark_text s.y) s.marks in
      let comment : Draws f ds (a ++ 10 ∷ []) [] =
      passed_over (λ m. takes_comment (codes " staff " ++ decimal k) m (number_in_line k)) in
      let rules = rules_drawn made s.width s.y (wide_number s.width h.wide) h.base in
      let marks : Draws f ds ms (flat_map (mark_paints f s.y) s.marks) = all_drawn (mark_drawn s.y) s.marks h.drawn in
      rw (three_lines a r ms) at (both_drawn (both_drawn comment rules) marks)

  staves_drawn : (k : ℕ) (staves : List Staff)
      → All IsStaff staves → Draws f ds (numbered staff_text k staves) (flat_map (staff_paints f) staves)
  staves_drawn k [] a = nothing_drawn
  staves_drawn k (s ∷ rest) a =
      both_drawn (staff_drawn k s (All-head IsStaff s rest a)) (staves_drawn (k + 1) rest (All-tail IsStaff s rest a))

  joined_drawn : (staves : List Staff)
      → IsJoined staves → All IsStaff staves → Draws f ds (join_text staves) (join_paints f staves)
  joined_drawn [] j a = nothing_drawn
  joined_drawn (s ∷ []) j a = nothing_drawn
  joined_drawn (s ∷ t ∷ rest) j a =
      join_drawn made (s.y +ℤ pos top_line) (last_base t rest) j (last_number t rest (All-tail IsStaff s (t ∷ rest) a))

  item_drawn : (i : Item) → IsItem i → Draws f ds (item_text i) (item_paints f i)
  unfolding tune_text tune_line system_text system_line
  item_drawn (Item.Tune ordinal) h =
      passed_over (λ m. takes_comment (codes " tune " ++ decimal ordinal) m (number_in_line ordinal))
  item_drawn (Item.Title x y size words) h = title_drawn made x y size words h
  item_drawn (Item.System a b staves) h =
      let c = 37 ∷ (codes " system " ++ decimal a ++ 32 ∷ decimal b) in
      let comment : Draws f ds (c ++ 10 ∷ []) [] =
      passed_over (λ m. takes_comment (codes " system " ++ decimal a ++ 32 ∷ decimal b) m (two_in_line a b)) in
      subst (λ t. Draws f ds (t ++ numbered staff_text 0 staves) (item_paints f (Item.System a b staves)))
      (append_assoc c (10 ∷ []) (join_text staves))
      (both_drawn (both_drawn comment (joined_drawn staves h.joined h.good)) (staves_drawn 0 staves h.good))

  page_drawn : (k : ℕ) (p : Page) (pages : List PagePaint)
      → IsPage p → Leads (document_page k p) (between ds pages) (between ds (pages ++ page_paint f p ∷ []))
  page_drawn k p pages h =
      let d : Draws f ds (flat_map item_text p.items) (flat_map (item_paints f) p.items) =
      all_drawn item_drawn p.items h.items in
      let l = d.draw [] (first_graphics ∷ []) [] pages in
      rw (page_parts k p) (record {
        count = (18 + l.count) + 2;
        few =
            let x = l.few in
            omega (
              arith,
              heading_some k,
              length-append (heading_text k ++ flat_map item_text p.items) closing,
              length-append (heading_text k) (flat_map item_text p.items),
            );
        takes =
            both_taken (both_taken (page_begun made k pages) l.takes)
            (page_ended made (flat_map (item_paints f) p.items) pages);
      })

  pub pages_drawn : (k : ℕ) (ps : List Page) (before : List PagePaint)
      → All IsPage ps
      → Leads (numbered document_page k ps) (between ds before) (between ds (before ++ map (page_paint f) ps))
  pages_drawn k [] before a = rw (append-nil before) (stays nothing_taken)
  pages_drawn k (p ∷ ps) before a =
      both_lead (page_drawn k p before (All-head IsPage p ps a))
      (rw append_assoc at (pages_drawn (k + 1) ps (before ++ page_paint f p ∷ []) (All-tail IsPage p ps a)))

-- Words are shown where their line says, in marks and in titles.
use Rattle.std.proofs.Common.{◌≡◌, ℕ, suc, ◌+◌, ◌≤◌, ℤ, pos, true, List, [], ◌∷◌, ◌++◌, length-append, append_assoc}
use Rattle.std.proofs.Common.{refl, arith, IsTrue, codes}
use Rattle.std.proofs.Math.IntN.{◌*ℤ◌, +ℤ_idr}
use Rattle.std.proofs.lemmas.Int.{ints}
use Rattle.std.specs.List.{flat_map}
use Rattle.std.specs.List.{list_all}
use Rattle.mus_units.specs.declared.glyph.Size.{Size}
use Rattle.glyph_paths.specs.Procedure.{numbers}
use Rattle.ps_text.specs.Fields.{shown, in_parentheses}
use Rattle.ps_text.specs.Range.{is_shown, IsOffset, IsPlacedMark, IsTitle, IsWords}
use Rattle.ps_text.specs.Line.{words_line}
use Rattle.ps_text.specs.Names.{size_name}
use Rattle.ps_text.specs.Document.{mark_text, title_line, title_text}
use Rattle.ps_text.specs.declared.sheet.Frame.{Frame}
use Rattle.ps_text.specs.declared.marks.PageMark.{PageMark}
use Rattle.ps_steps.specs.declared.paint.Paint.{Paint}
use Rattle.ps_steps.specs.declared.paint.PagePaint.{PagePaint}
use Rattle.ps_steps.specs.declared.token.SimpleToken.TheVariants.{Label as label_token, Name as name_token}
use Rattle.ps_steps.specs.declared.token.SimpleToken.TheVariants.{Words as words_token}
use Rattle.ps_steps.specs.declared.value.Operand.{Operand}
use Rattle.ps_steps.specs.declared.value.Operand.TheVariants.{Label as label_value, Words as words_value}
use Rattle.ps_steps.specs.declared.graphics.Graphics.{Graphics}
use Rattle.ps_steps.specs.Near.{is_near}
use Rattle.ps_steps.specs.Tokens.{string_front}
use Rattle.ps_steps.specs.State.{State, Names}
use Rattle.ps_steps.specs.Operators.{show_op, findfont_op, scalefont_op, setfont_op, all_near}
use Rattle.ps_paint.specs.Distances.{big_height, small_height}
use Rattle.ps_paint.specs.PaintOf.{move, words_paint, mark_paints, font_height}
use Rattle.ps_paint.proofs.Bodies.{Made, size_body, shown_tokens, font_tokens}
use Rattle.ps_paint.proofs.Scales.{Comes, from_zero, from_number, near_size}
use Rattle.ps_paint.proofs.Runs.{Runs, no_more, op}
use Rattle.ps_paint.proofs.Runs.{then, both_runs, pushes, pushed, acts, is_in_range}
use Rattle.ps_paint.proofs.Draws.{drawing, corner, page, moves, saves, restores, translates}
use Rattle.ps_paint.proofs.Takes.{Takes, Stands, takes_token, space_passed, both_taken}
use Rattle.ps_paint.proofs.{Takes.{takes_line, IsTokenWord}, Lines.{Draws, on_page, page_near, offset_near}}

words_stand : (words : List ℕ)
    → IsTrue (list_all is_shown words) → Stands (words_token words) (40 ∷ flat_map shown words ++ 41 ∷ [])
words_stand words good = record {
  front = λ b rest stop.
      string_front _ words (b ∷ rest) refl
      (record { good = good; spelled = append_assoc (flat_map shown words) (41 ∷ []) (b ∷ rest) });
}

-- words in parentheses and a space are pushed
takes_words : (words : List ℕ) (m : State)
    → IsTrue (list_all is_shown words)
    → Takes 1 (in_parentheses words) m (record m { stack = words_value words ∷ m.stack })
unfolding in_parentheses
takes_words words m good =
    let one : Takes 1 ((40 ∷ flat_map shown words ++ 41 ∷ []) ++ 32 ∷ []) m
    (record m { stack = words_value words ∷ m.stack }) = takes_token (words_stand words good) space_passed refl
    no_more in
    rw (append_assoc (flat_map shown words) (41 ∷ []) (32 ∷ [])) at one

size_word : (size : Size) → IsTokenWord (name_token (size_name size)) (size_name size)
size_word Size.Small = record { some = omega arith; regular = refl; token = refl }
size_word Size.Big = record { some = omega arith; regular = refl; token = refl }

-- the number of tokens that the procedure of a size executes
size_cost : Size → ℕ
size_cost Size.Small = 6
size_cost Size.Big = 11

size_few : (size : Size) → 5 + size_cost size ≤ 50
unfolding size_cost
size_few Size.Small = omega arith
size_few Size.Big = omega arith

module _ {f : Frame} {ds : Names} (made : Made f ds) {saved : List Graphics} {ps : List Paint} {pages : List PagePaint}
    {st : List Operand} where
  -- the font in another size
  pub sets_font : {g : Graphics} (z : ℤ)
      → is_near (pos 1 *ℤ z) ≡ true
      → Runs 5 (font_tokens z) (page ds st g saved ps pages)
      (page ds st (record g { font = pos 1 *ℤ z }) saved ps pages)
  sets_font {g} z near =
      then {t = label_token (codes "EngFont")} {k = page ds (label_value (codes "EngFont") ∷ st) g saved ps pages} refl
      (both_runs (acts findfont_op (made.free findfont_op) refl) (both_runs (pushes (z ∷ []))
      (both_runs (acts scalefont_op (made.free scalefont_op) (is_in_range ((pos 1 *ℤ z) ∷ []) _ (rw near refl)))
      (acts setfont_op (made.free setfont_op) refl))))

  shows : (size : Size) (a b x y : ℤ) (words : List ℕ)
      → Runs 1 (op show_op ∷ [])
      (page ds (words_value words ∷ st) (drawing f x y (move f a b ∷ []) (font_height size)) saved ps pages)
      (page ds st (drawing f x y (move f a b ∷ []) (font_height size)) saved (ps ++ words_paint f size a b words ∷ [])
      pages)
  shows size a b x y words =
      acts show_op (made.free show_op)
      (is_in_range ((font_height size *ℤ pos f.scale) ∷ []) _ (rw (near_size f size made.frame) refl))

-- from after the gsave, with the font of the size
places_words : {f : Frame} {ds : Names} (made : Made f ds) {saved : List Graphics} {ps : List Paint}
    {pages : List PagePaint} {st : List Operand} {g : Graphics} (size : Size) (x y : ℤ) {dx dy p q : ℤ} (words : List ℕ)
    → Comes (pos 0) x x → Comes (pos 0) y y → Comes x dx p → Comes y dy q → Runs 5 shown_tokens
    (page ds (pushed (dx ∷ dy ∷ x ∷ y ∷ []) (words_value words ∷ st)) (corner f (font_height size)) (g ∷ saved) ps
    pages)
    (page ds st g saved (ps ++ words_paint f size p q words ∷ []) pages)
places_words made size x y {p = p} {q = q} words cx cy cp cq =
    both_runs (translates made cx cy)
    (both_runs (moves made cp cq) (both_runs (shows made size p q x y words) (restores made)))

module _ {f : Frame} {ds : Names} (made : Made f ds) where
  words_runs : (size : Size) (x y : ℤ) {dx dy p q : ℤ} (words : List ℕ) (st : List Operand) (saved : List Graphics)
      (ps : List Paint) (pages : List PagePaint)
      → Comes (pos 0) x x → Comes (pos 0) y y → Comes x dx p → Comes y dy q → Runs (size_cost size) (size_body size)
      (on_page f ds (pushed (dx ∷ dy ∷ x ∷ y ∷ []) (words_value words ∷ st)) saved ps pages)
      (on_page f ds st saved (ps ++ words_paint f size p q words ∷ []) pages)
  unfolding size_cost
  words_runs Size.Small x y words st saved ps pages cx cy cp cq =
      both_runs (saves made) (places_words made Size.Small x y words cx cy cp cq)
  words_runs Size.Big x y words st saved ps pages cx cy cp cq =
      both_runs (saves made)
      (both_runs (sets_font made {g = corner f small_height} big_height refl)
      (places_words made Size.Big x y words cx cy cp cq))

  pub words_drawn : (size : Size) (y x dx dy : ℤ) (words : List ℕ)
      → IsPlacedMark y x dx dy → IsWords words
      → Draws f ds (mark_text y (PageMark.Words size x dx dy words))
      (mark_paints f y (PageMark.Words size x dx dy words))
  unfolding mark_text words_line
  words_drawn size y x dx dy words s w =
      let zs = dx ∷ dy ∷ x ∷ y ∷ [] in
      let near : all_near zs ≡ true =
      rw (offset_near dx s.across, offset_near dy s.above, page_near x s.anchor, page_near y s.base) refl in
      record {
        draw = λ st saved ps pages.
            record {
              count = 1 + (4 + suc (size_cost size));
              few =
                  omega (
                    arith,
                    size_few size,
                    length-append ((in_parentheses words ++ numbers zs) ++ size_name size) (10 ∷ []),
                  );
              takes =
                  rw (
                    append_assoc (in_parentheses words) (numbers zs) (size_name size),
                    append_assoc (in_parentheses words) (numbers zs ++ size_name size) (10 ∷ []),
                  )
                  (both_taken (takes_words words (on_page f ds st saved ps pages) w.shown)
                  (takes_line {m = on_page f ds (words_value words ∷ st) saved ps pages} zs (size_name size) near
                  (size_word size) (made.words size)
                  (words_runs size x y words st saved ps pages (from_zero x s.anchor) (from_zero y s.base)
                  (from_number x dx s.anchor s.across) (from_number y dy s.base s.above))));
            };
      }

  -- a title is words with no offset
  pub title_drawn : (x y : ℤ) (size : Size) (words : List ℕ)
      → IsTitle x y words → Draws f ds (title_text x y size words) (words_paint f size x y words ∷ [])
  unfolding title_text title_line mark_text words_line
  title_drawn x y size words t =
      let none : IsOffset (pos 0) = record { low = omega (arith, ints); high = omega (arith, ints) } in
      rw (+ℤ_idr x, +ℤ_idr y) at
      (words_drawn size y x (pos 0) (pos 0) words
      (record { base = t.base; anchor = t.across; across = none; above = none }) t.good)

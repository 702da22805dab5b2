-- A mark is found again from its numbers and its name.
use Rattle.std.proofs.Common.{Result, Ok, Err, IfOk, cond, int_div, ◌<◌, ◌≤◌, ◌^◌, suc, ◌≡◌, refl, sym, ◌∙◌, subst, ℕ}
use Rattle.std.proofs.Common.{ℤ, pos, negsuc, ◌+ℤ◌, ◌-ℤ◌, ◌≤ℤ◌, Bool, true, false, not, ◌&&◌, List, [], ◌∷◌, ◌++◌}
use Rattle.std.proofs.Common.{append_assoc, length, codes, Option, Some, None, IsTrue, arith, lit≤}
use Rattle.std.proofs.lemmas.Int.{ints}
use Rattle.std.proofs.lemmas.Fmt.{decimal_is_IsNumeral}
use Rattle.std.proofs.lemmas.Bool.{not-true, and_parts}
use Rattle.std.specs.Fmt.{decimal, signed_decimal}
use Rattle.std.specs.Str.Parse.{AllDigits}
use Rattle.std.specs.Str.{bytes_eq}
use Rattle.std.specs.Int.RustNames.{FitsSigned}
use Rattle.std.specs.List.{list_all, AllByRecursion, flat_map}
use lib.Signed.{mag}
use mir.Syntax.{w64}
use Rattle.mus_units.specs.Distances.{beam_thickness}
use Rattle.ps_text.specs.Fields.{shown, in_parentheses}
use Rattle.ps_text.specs.declared.marks.PageMark.{PageMark}
use Rattle.ps_text.specs.Names.{size_name, way_name}
use Rattle.ps_text.specs.Range.{IsNumber, IsOffset, IsPageMark, is_shown}
use Rattle.ps_text.specs.Line.{mark_line, glyph_line, stem_line, beam_line, arc_line, words_line, points, ends_of}
use Rattle.ps_text.specs.Line.{quarter}
use Rattle.ps_text.specs.Scanning.{is_field_byte}
use Rattle.ps_text.specs.Reading.{is_small, glyph_named, glyph_at, glyph_from, words_at, words_from, stem_at, stem_from}
use Rattle.ps_text.specs.Reading.{offset_from, beam_from, arc_from, mark_from}
use Rattle.ps_text.proofs.Taken.{numbers_cons}
use Rattle.mus_units.specs.declared.glyph.Glyph.{Glyph}
use Rattle.mus_units.specs.declared.glyph.Size.{Size}
use Rattle.mus_units.specs.declared.glyph.Way.{Way}
use Rattle.glyph_paths.specs.Names.{glyph_name, glyphs_in_order}
use Rattle.glyph_paths.specs.Procedure.{numbers}

pub small_low : (z : ℤ) → is_small z ≡ true → negsuc 2147483647 ≤ℤ z
unfolding is_small
small_low z h = grind (arith, ints)

pub small_high : (z : ℤ) → is_small z ≡ true → z ≤ℤ pos 2147483647
unfolding is_small
small_high z h = grind (arith, ints)

pub offset_small : (z : ℤ) → IsOffset z → is_small z ≡ true
unfolding is_small
offset_small z h = (let low = h.low in let high = h.high in grind (arith, ints))

-- an offset is a number of a page
pub offset_number : (z : ℤ) → IsOffset z → IsNumber z
offset_number z h = record { low = omega (arith, ints, h.low); high = omega (arith, ints, h.high) }

-- a number that isn't one of 64 bits isn't one of 32
mag_small : (z : ℤ) → negsuc 2147483647 ≤ℤ z → z ≤ℤ pos 2147483647 → mag z < 2 ^ 63
mag_small (pos n) low high = omega (arith, ints)
mag_small (negsuc n) low high = omega (arith, ints)

pub too_far : (z y : ℤ) → (FitsSigned w64 (z -ℤ y) → ⊥) → None ≡ offset_from z y
unfolding offset_from
too_far z y none = by_test (is_small (z -ℤ y)) refl
  where
    by_test : (b : Bool) → is_small (z -ℤ y) ≡ b → None ≡ cond b (Some (z -ℤ y)) None
    by_test true e =
        absurd (none (record { sfits = mag_small (z -ℤ y) (small_low (z -ℤ y) e) (small_high (z -ℤ y) e) }))
    by_test false e = refl

-- what is taken off again
back : (y z : ℤ) → ((y +ℤ z) -ℤ y) ≡ z
back y z = omega (arith, ints)

-- the names of glyphs are none of the other names, and each names its glyph
is_no_other : List ℕ → Bool
is_no_other name =
    not (bytes_eq name (codes "st"))
    && (not (bytes_eq name (codes "ac"))
    && (not (bytes_eq name (codes "bu")) && (not (bytes_eq name (codes "bd")) && not (bytes_eq name (codes "gb")))))

no_other : (g : Glyph) → is_no_other (glyph_name g) ≡ true
unfolding is_no_other
no_other Glyph.Hb = refl
no_other _ = refl

pub named : (g : Glyph) → glyph_named (glyph_name g) ≡ Some g
unfolding glyph_named glyphs_in_order
named Glyph.Hb = refl
named _ = refl

by_glyph : (y : ℤ) (zs : List ℤ) (name : List ℕ)
    → is_no_other name ≡ true → mark_from y zs name ≡ glyph_from zs (glyph_named name)
unfolding mark_from is_no_other
by_glyph y zs name h =
    let a = and_parts (not (bytes_eq name (codes "st")))
    (not (bytes_eq name (codes "ac"))
    && (not (bytes_eq name (codes "bu")) && (not (bytes_eq name (codes "bd")) && not (bytes_eq name (codes "gb")))))
    h in
    let b = and_parts (not (bytes_eq name (codes "ac")))
    (not (bytes_eq name (codes "bu")) && (not (bytes_eq name (codes "bd")) && not (bytes_eq name (codes "gb")))) a.1 in
    let c = and_parts (not (bytes_eq name (codes "bu")))
    (not (bytes_eq name (codes "bd")) && not (bytes_eq name (codes "gb"))) b.1 in
    let d = and_parts (not (bytes_eq name (codes "bd"))) (not (bytes_eq name (codes "gb"))) c.1 in
    rw (not-true _ a.0, not-true _ b.0, not-true _ c.0, not-true _ d.0, not-true _ d.1) refl

pub glyph_found : (y x dx dy : ℤ) (g : Glyph)
    → IsOffset dx → IsOffset dy → mark_from y (dx ∷ dy ∷ x ∷ y ∷ []) (glyph_name g) ≡ Some (PageMark.Glyph g x dx dy)
unfolding glyph_at
glyph_found y x dx dy g a b =
    by_glyph y (dx ∷ dy ∷ x ∷ y ∷ []) (glyph_name g) (no_other g)
    ∙ rw (named g, offset_small dx a, offset_small dy b) refl

pub stem_found : (y x dx from to : ℤ)
    → IsOffset dx → IsOffset from → IsOffset to
    → mark_from y (dx ∷ to ∷ dx ∷ from ∷ x ∷ y ∷ []) (codes "st") ≡ Some (PageMark.Stem x dx from to)
unfolding mark_from stem_from stem_at
stem_found y x dx from to a b c = rw (offset_small dx a, offset_small from b, offset_small to c) refl

offset_back : (y z : ℤ) → IsOffset z → offset_from (y +ℤ z) y ≡ Some z
unfolding offset_from
offset_back y z h = rw (back y z, offset_small z h) refl

beam_back : (way : Way) (y x1 x2 from to p q r s : ℤ)
    → IsOffset from → IsOffset to
    → beam_from way y (p ∷ q ∷ r ∷ s ∷ x2 ∷ (y +ℤ to) ∷ x1 ∷ (y +ℤ from) ∷ []) ≡ Some (PageMark.Beam way x1 x2 from to)
unfolding beam_from
beam_back way y x1 x2 from to p q r s a b = rw (offset_back y from a, offset_back y to b) refl

pub beam_found : (way : Way) (y x1 x2 from to p q r s : ℤ)
    → IsOffset from → IsOffset to
    → mark_from y (p ∷ q ∷ r ∷ s ∷ x2 ∷ (y +ℤ to) ∷ x1 ∷ (y +ℤ from) ∷ []) (way_name way)
    ≡ Some (PageMark.Beam way x1 x2 from to)
unfolding mark_from
beam_found Way.Up y x1 x2 from to p q r s a b = beam_back Way.Up y x1 x2 from to p q r s a b
beam_found way y x1 x2 from to p q r s a b = beam_back way y x1 x2 from to p q r s a b

pub arc_found : (y x1 x2 from to bulge p q s : ℤ) → IsOffset from → IsOffset to → IsOffset bulge
    → mark_from y (p ∷ ((y +ℤ from) +ℤ bulge) ∷ q ∷ s ∷ x2 ∷ (y +ℤ to) ∷ x1 ∷ (y +ℤ from) ∷ []) (codes "ac")
    ≡ Some (PageMark.Arc x1 x2 from to bulge)
unfolding mark_from arc_from
arc_found y x1 x2 from to bulge p q s a b c =
    rw (offset_back y from a, offset_back y to b, offset_back (y +ℤ from) bulge c) refl

pub words_found : (size : Size) (y x dx dy : ℤ) (words : List ℕ)
    → IsOffset dx → IsOffset dy
    → words_from words (dx ∷ dy ∷ x ∷ y ∷ []) (size_name size) ≡ Some (PageMark.Words size x dx dy words)
unfolding words_from words_at
words_found Size.Small y x dx dy words a b = rw (offset_small dx a, offset_small dy b) refl
words_found Size.Big y x dx dy words a b = rw (offset_small dx a, offset_small dy b) refl

-- no number begins with an opening parenthesis
digits_open : (xs t rest : List ℕ) → 1 ≤ length xs → AllDigits 10 xs → xs ++ t ≡ 40 ∷ rest → ⊥
digits_open [] t rest some all e = absurd (omega arith)
digits_open (x ∷ xs) t rest some all e = let is : x ≡ 40 = cc in let d = rw is at all.0 in omega (arith, d)

minus_open : (ds t rest : List ℕ) → (45 ∷ ds) ++ t ≡ 40 ∷ rest → ⊥
minus_open ds t rest e = cc

natural_open : (n : ℕ) (ds t rest : List ℕ) → n < 2 ^ 64 → ds ≡ decimal n → ds ++ t ≡ 40 ∷ rest → ⊥
natural_open n ds t rest h is e =
    (let d = (decimal_is_IsNumeral n h).0 in
    digits_open ds t rest (subst (λ xs. 1 ≤ length xs) (sym is) d.0) (subst (AllDigits 10) (sym is) d.1) e)

number_open : (z : ℤ) (t rest : List ℕ) → IsNumber z → signed_decimal z ++ t ≡ 40 ∷ rest → ⊥
number_open (pos n) t rest h e = natural_open n (decimal n) t rest (omega (arith, ints, h.high)) refl e
number_open (negsuc n) t rest h e = minus_open (decimal (suc n)) t rest e

numbers_open : (zs : List ℤ) (name rest : List ℕ)
    → 1 ≤ length zs → AllByRecursion IsNumber zs → numbers zs ++ name ≡ 40 ∷ rest → ⊥
numbers_open [] name rest some all e = absurd (omega arith)
numbers_open (z ∷ zs) name rest some all e =
    number_open z (32 ∷ (numbers zs ++ name)) rest all.0 (sym (numbers_cons z zs name) ∙ e)

-- the numbers and the name of a mark that has no words
abbrev mark_numbers : ℤ → PageMark → List ℤ
mark_numbers y (PageMark.Glyph glyph x dx dy) = dx ∷ dy ∷ x ∷ y ∷ []
mark_numbers y (PageMark.Words size x dx dy words) = dx ∷ dy ∷ x ∷ y ∷ []
mark_numbers y (PageMark.Stem x dx from to) = dx ∷ to ∷ dx ∷ from ∷ x ∷ y ∷ []
mark_numbers y (PageMark.Beam way x1 x2 from to) =
    x1 ∷ ((y +ℤ from) +ℤ pos beam_thickness) ∷ x2 ∷ ((y +ℤ to) +ℤ pos beam_thickness) ∷ x2 ∷ (y +ℤ to) ∷ x1
    ∷ (y +ℤ from) ∷ []
mark_numbers y (PageMark.Arc x1 x2 from to bulge) =
    (x1 +ℤ quarter x1 x2) ∷ ((y +ℤ from) +ℤ bulge) ∷ (x2 -ℤ quarter x1 x2) ∷ ((y +ℤ to) +ℤ bulge) ∷ x2 ∷ (y +ℤ to) ∷ x1
    ∷ (y +ℤ from) ∷ []

some_numbers : (y : ℤ) (m : PageMark) → 1 ≤ length (mark_numbers y m)
some_numbers y (PageMark.Glyph glyph x dx dy) = lit≤ tt
some_numbers y _ = lit≤ tt

abbrev mark_name : PageMark → List ℕ
mark_name (PageMark.Glyph glyph x dx dy) = glyph_name glyph
mark_name (PageMark.Words size x dx dy words) = size_name size
mark_name (PageMark.Stem x dx from to) = codes "st"
mark_name (PageMark.Beam way x1 x2 from to) = way_name way
mark_name (PageMark.Arc x1 x2 from to bulge) = codes "ac"

abbrev IsWordless : PageMark → Type 0
IsWordless (PageMark.Words size x dx dy words) = ⊥
IsWordless _ = Unit {0}

wordless_line : (y : ℤ) (m : PageMark) → IsWordless m → mark_line y m ≡ numbers (mark_numbers y m) ++ mark_name m
unfolding glyph_line stem_line beam_line arc_line points ends_of
wordless_line y (PageMark.Glyph glyph x dx dy) h = refl
wordless_line y (PageMark.Words size x dx dy words) h = absurd h
wordless_line y _ h = refl

-- a quarter of a distance is within it
quarter_in : (d : ℤ) → pos 0 ≤ℤ d → (pos 0 ≤ℤ int_div d (pos 4)) × (int_div d (pos 4) ≤ℤ d)
quarter_in (pos n) h = (omega (arith, ints), omega (arith, ints))
quarter_in (negsuc n) h = absurd (omega (arith, ints))

wordless_numbers : (y : ℤ) (m : PageMark) → IsPageMark y m → AllByRecursion IsNumber (mark_numbers y m)
wordless_numbers y (PageMark.Glyph glyph x dx dy) h =
    (offset_number dx h.across, (offset_number dy h.above, (h.anchor, (h.base, tt))))
wordless_numbers y (PageMark.Words size x dx dy words) h =
    (offset_number dx h.0.across, (offset_number dy h.0.above, (h.0.anchor, (h.0.base, tt))))
wordless_numbers y (PageMark.Stem x dx from to) h = (
  offset_number dx h.start.across,
  (
    offset_number to h.end,
    (offset_number dx h.start.across, (offset_number from h.start.above, (h.start.anchor, (h.start.base, tt)))),
  ),
)
wordless_numbers y (PageMark.Beam way x1 x2 from to) h = (
  h.stretch.first,
  (
    h.left.above,
    (h.stretch.last, (h.right.above, (h.stretch.last, (h.right.point, (h.stretch.first, (h.left.point, tt)))))),
  ),
)
wordless_numbers y (PageMark.Arc x1 x2 from to bulge) h =
    let q = quarter_in (x2 -ℤ x1) (omega (arith, ints, h.stretch.rising)) in
    let inner : IsNumber (x1 +ℤ quarter x1 x2) = record {
      low = omega (arith, ints, q.0, h.stretch.first.low);
      high = omega (arith, ints, q.1, h.stretch.last.high);
    } in
    let outer : IsNumber (x2 -ℤ quarter x1 x2) = record {
      low = omega (arith, ints, q.1, h.stretch.first.low);
      high = omega (arith, ints, q.0, h.stretch.last.high);
    } in (
      inner,
      (
        h.left.above,
        (outer, (h.right.above, (h.stretch.last, (h.right.point, (h.stretch.first, (h.left.point, tt)))))),
      ),
    )

glyph_is_field : (g : Glyph) → list_all is_field_byte (glyph_name g) ≡ true
glyph_is_field Glyph.Hb = refl
glyph_is_field _ = refl

name_is_field : (m : PageMark) → list_all is_field_byte (mark_name m) ≡ true
name_is_field (PageMark.Glyph glyph x dx dy) = glyph_is_field glyph
name_is_field (PageMark.Words Size.Small x dx dy words) = refl
name_is_field (PageMark.Beam Way.Up x1 x2 from to) = refl
name_is_field _ = refl

wordless_found : (y : ℤ) (m : PageMark)
    → IsWordless m → IsPageMark y m → mark_from y (mark_numbers y m) (mark_name m) ≡ Some m
wordless_found y (PageMark.Glyph glyph x dx dy) w h = glyph_found y x dx dy glyph h.across h.above
wordless_found y (PageMark.Words size x dx dy words) w h = absurd w
wordless_found y (PageMark.Stem x dx from to) w h = stem_found y x dx from to h.start.across h.start.above h.end
wordless_found y (PageMark.Beam way x1 x2 from to) w h =
    beam_found way y x1 x2 from to x1 ((y +ℤ from) +ℤ pos beam_thickness) x2 ((y +ℤ to) +ℤ pos beam_thickness)
    h.left.offset h.right.offset
wordless_found y (PageMark.Arc x1 x2 from to bulge) w h =
    arc_found y x1 x2 from to bulge (x1 +ℤ quarter x1 x2) (x2 -ℤ quarter x1 x2) ((y +ℤ to) +ℤ bulge) h.left.offset
    h.right.offset h.rises

words_text : (size : Size) (x dx dy y : ℤ) (words rest : List ℕ)
    → words_line size x dx dy words y ≡ 40 ∷ rest
    → rest ≡ flat_map shown words ++ 41 ∷ 32 ∷ (numbers (dx ∷ dy ∷ x ∷ y ∷ []) ++ size_name size)
unfolding words_line in_parentheses
words_text size x dx dy y words rest e =
    let line : 40 ∷ (flat_map shown words ++ 41 ∷ 32 ∷ (numbers (dx ∷ dy ∷ x ∷ y ∷ []) ++ size_name size)) ≡ 40 ∷ rest =
    sym (simp append_assoc) ∙ e in
    cc

is_wordless : (y : ℤ) (m : PageMark) (first : ℕ) (rest : List ℕ)
    → (first ≡ 40 → ⊥) → mark_line y m ≡ first ∷ rest → IsWordless m
unfolding words_line in_parentheses
is_wordless y (PageMark.Glyph glyph x dx dy) first rest other e = tt
is_wordless y (PageMark.Words size x dx dy words) first rest other e = other (cc)
is_wordless y _ first rest other e = tt

wordless_open : (y : ℤ) (m : PageMark) (rest : List ℕ) → IsWordless m → IsPageMark y m → mark_line y m ≡ 40 ∷ rest → ⊥
wordless_open y m rest w h e =
    numbers_open (mark_numbers y m) (mark_name m) rest (some_numbers y m) (wordless_numbers y m h)
    (sym (wordless_line y m w) ∙ e)

-- what is found after an opening parenthesis
pub found_words : (y : ℤ) (line rest : List ℕ) (o : Option PageMark) → line ≡ 40 ∷ rest
    → ((words : List ℕ) (zs : List ℤ) (name : List ℕ)
    → IsTrue (list_all is_shown words) → AllByRecursion IsNumber zs → list_all is_field_byte name ≡ true
    → rest ≡ flat_map shown words ++ 41 ∷ 32 ∷ (numbers zs ++ name) → o ≡ words_from words zs name)
    → (m : PageMark) → IsPageMark y m → mark_line y m ≡ line → o ≡ Some m
found_words y line rest o is reads (PageMark.Words size x dx dy words) h e =
    let all = wordless_numbers y (PageMark.Words size x dx dy words) h in
    reads words (dx ∷ dy ∷ x ∷ y ∷ []) (size_name size) h.1.shown all
    (name_is_field (PageMark.Words size x dx dy words)) (words_text size x dx dy y words rest (e ∙ is))
    ∙ words_found size y x dx dy words h.0.across h.0.above
found_words y line rest o is reads m h e = absurd (wordless_open y m rest tt h (e ∙ is))

-- what is found in another line
pub found_wordless : (y : ℤ) (line rest : List ℕ) (first : ℕ) (o : Option PageMark)
    → line ≡ first ∷ rest → (first ≡ 40 → ⊥)
    → ((zs : List ℤ) (name : List ℕ)
    → AllByRecursion IsNumber zs → list_all is_field_byte name ≡ true → line ≡ numbers zs ++ name
    → o ≡ mark_from y zs name)
    → (m : PageMark) → IsPageMark y m → mark_line y m ≡ line → o ≡ Some m
found_wordless y line rest first o is not reads m h e =
    let w = is_wordless y m first rest not (e ∙ is) in
    reads (mark_numbers y m) (mark_name m) (wordless_numbers y m h) (name_is_field m) (sym e ∙ wordless_line y m w)
    ∙ wordless_found y m w h

-- no line of a mark is empty
not_empty : (xs ys : List ℕ) (b : ℕ) → xs ++ b ∷ ys ≡ [] → ⊥
not_empty [] ys b e = cc
not_empty (x ∷ xs) ys b e = cc

numbers_some : (zs : List ℤ) (name : List ℕ) → 1 ≤ length zs → numbers zs ++ name ≡ [] → ⊥
numbers_some [] name some e = absurd (omega arith)
numbers_some (z ∷ zs) name some e =
    not_empty (signed_decimal z) (numbers zs ++ name) 32 (sym (numbers_cons z zs name) ∙ e)

pub line_some : (y : ℤ) (m : PageMark) → mark_line y m ≡ [] → ⊥
unfolding words_line in_parentheses
line_some y (PageMark.Words size x dx dy words) e = cc
line_some y m e = numbers_some (mark_numbers y m) (mark_name m) (some_numbers y m) (sym (wordless_line y m tt) ∙ e)

-- a consequence of a fact of a result
pub if_ok : {T E : Type 0} (r : Result T E) (P Q : T → Type 0) → ((x : T) → P x → Q x) → IfOk r P → IfOk r Q
if_ok (Ok x) P Q f h = f x h
if_ok (Err e) P Q f h = h

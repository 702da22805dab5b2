-- A line that may come says one thing, so one sheet alone spells a text.
use Rattle.std.proofs.Common.{◌≡◌, ℕ, ℤ, pos, negsuc, zero, suc, ◌+◌, ◌/◌, ◌%◌, ◌-◌, ◌*◌, ◌<◌, ◌≤◌, ◌^◌, true, ◌==◌}
use Rattle.std.proofs.Common.{if◌then◌else◌, List, [], ◌∷◌, ◌++◌, length, refl, sym, ◌∙◌, ap, subst, arith, codes}
use Rattle.std.proofs.Common.{decimal, IsTrue, Option, Some, is_some, map, append_assoc, ◌+ℤ◌, ◌-ℤ◌}
use Rattle.std.proofs.lemmas.Bool.{and_parts, ne_eqb}
use Rattle.std.proofs.lemmas.Fmt.{signed_decimal_injective}
use Rattle.std.proofs.lemmas.Int.{ints}
use Rattle.std.specs.Fmt.{signed_decimal, digits}
use Rattle.std.specs.List.{flat_map, list_all}
use Rattle.mus_units.specs.Distances.{beam_thickness}
use Rattle.mus_units.specs.declared.glyph.Glyph.{Glyph}
use Rattle.mus_units.specs.declared.glyph.Size.{Size}
use Rattle.mus_units.specs.declared.glyph.Way.{Way}
use Rattle.glyph_paths.specs.Names.{glyph_name, glyphs_in_order}
use Rattle.glyph_paths.specs.Procedure.{numbers}
use Rattle.ps_text.specs.Document.{rules_line, staff_line, join_line, system_line, title_line, tune_line}
use Rattle.ps_text.specs.Document.{heading_line}
use Rattle.ps_text.specs.Fields.{in_parentheses, is_special, shown}
use Rattle.ps_text.specs.Line.{arc_line, beam_line, ends_of, glyph_line, mark_line, points, quarter, stem_line}
use Rattle.ps_text.specs.Line.{words_line}
use Rattle.ps_text.specs.Names.{size_name, way_name}
use Rattle.ps_text.specs.Prolog.{box_line, box_start, procedures, page_line, glyph_lines, last_text}
use Rattle.ps_text.specs.Range.{IsNumber, IsPageMark, IsTitle, is_shown}
use Rattle.ps_text.specs.Reading.{glyph_named}
use Rattle.ps_text.specs.Scanning.{is_field_byte}
use Rattle.ps_text.specs.declared.marks.PageMark.{PageMark}
use Rattle.ps_text.specs.declared.prolog.TheConstants.{PAGE_START}
use Rattle.ps_text.specs.declared.sheet.Sheet.{Sheet}
use Rattle.ps_text.proofs.FoundMarks.{named, offset_number}
use Rattle.ps_text.proofs.Numbers.{small}
use Rattle.ps_text.proofs.Shown.{digit_is_plain, is_close, is_high, is_open, is_plain, is_slash, shown_close}
use Rattle.ps_text.proofs.Shown.{shown_octal, shown_open, shown_plain, shown_slash, sort_of}
use Rattle.ps_text.proofs.Taken.{numbers_cons}
use Rattle.eng_lines.specs.Lines.{Lacks}
use Rattle.eng_lines.proofs.Words.{after_prefix, head_of, lacks_none, one_cut, one_field, tail_of}
use Rattle.eng_reader.specs.Answers as lines
use Rattle.eng_reader.specs.Grammar.{IsUnambiguous}
use Rattle.eng_reader.specs.declared.reading.LineError.{LineError}
use Rattle.eng_reader.proofs.Ways.{one_whole}
use Rattle.eng_reader.proofs.Ways as ways
use Rattle.ps_read.specs.Answers.{IsCause, pages_error}
use Rattle.ps_read.specs.Laws.{OneSheet, NoPrefix}
use Rattle.ps_read.specs.Lines.{Line, after_line, line_text}
use Rattle.ps_read.specs.ReaderStates.{documents, MayCome, after_prolog, state_after, system_ended, with_item}
use Rattle.ps_read.specs.ReaderStates.{with_join, open_system, staff_with_mark, system_with_staff, with_page}
use Rattle.ps_read.specs.Steps.{IsItemLine, IsJoinLine, IsNoMark}
use Rattle.ps_read.specs.Titles.{joined_of, rules_of, title_of}
use Rattle.ps_read.specs.declared.state.OpenPage.{OpenPage}
use Rattle.ps_read.specs.declared.state.OpenSystem.{OpenSystem}
use Rattle.ps_read.specs.declared.state.ReaderState.{ReaderState}
use Rattle.ps_text.specs.declared.sheet.Staff.{Staff}
use Rattle.ps_text.specs.declared.sheet.Item.{Item}
use Rattle.ps_read.proofs.Forms.{after_bottom, page_form, percent_bytes, rules_numbers, small_number, title_numbers}
use Rattle.ps_read.proofs.Heads.{IsMarkStart, digits_keep, join_start, mark_start, may_lack}
use Rattle.ps_read.proofs.Stepping.{from_system, on_boxed, on_closed, on_count, on_first_staff, on_framed, on_grestore}
use Rattle.ps_read.proofs.Stepping.{on_headed, on_heading, on_join, on_mark, on_next_staff, on_page_start, on_rules}
use Rattle.ps_read.proofs.Stepping.{on_system, on_title, on_titled, on_trailer, on_tune}
use Rattle.ps_read.proofs.Through.{document_way}
use Rattle.ps_read.specs.Lines as line

-- ---- numbers with a space after each, and then a name
decimal_lacks : (n : ℕ) → Lacks 32 (decimal n)
unfolding digits
decimal_lacks n =
    digits_keep (λ s. Lacks 32 s) (λ d ds i h. (λ e. let low = i.0 in omega (arith, low, e), h)) 64 n [] tt

signed_lacks : (z : ℤ) → Lacks 32 (signed_decimal z)
signed_lacks (pos n) = decimal_lacks n
signed_lacks (negsuc n) = (λ e. omega arith, decimal_lacks (suc n))

field_lacks : (s : List ℕ) → list_all is_field_byte s ≡ true → Lacks 32 s
field_lacks [] e = tt
field_lacks (x ∷ s) e = (λ q. grind (arith, e, q), field_lacks s (grind (arith, e)))

no_numbers : (name : List ℕ) → numbers [] ++ name ≡ name
unfolding numbers
no_numbers name = refl

abbrev texts : List ℤ → List (List ℕ)
texts zs = map signed_decimal zs

abbrev nth : ℕ → List (List ℕ) → List ℕ
nth n [] = []
nth zero (t ∷ ts) = t
nth (suc n) (t ∷ ts) = nth n ts

one_texts : (zs ys : List ℤ) (name other : List ℕ)
    → Lacks 32 name → Lacks 32 other → numbers zs ++ name ≡ numbers ys ++ other
    → (texts zs ≡ texts ys) × (name ≡ other)
one_texts [] [] name other h k e = (refl, sym (no_numbers name) ∙ (e ∙ no_numbers other))
one_texts [] (y ∷ ys) name other h k e =
    absurd (lacks_none 32 (signed_decimal y) (numbers ys ++ other) name h
    (sym (no_numbers name) ∙ (e ∙ numbers_cons y ys other)))
one_texts (z ∷ zs) [] name other h k e =
    absurd (lacks_none 32 (signed_decimal z) (numbers zs ++ name) other k
    (sym (no_numbers other) ∙ (sym e ∙ numbers_cons z zs name)))
one_texts (z ∷ zs) (y ∷ ys) name other h k e =
    let c = one_cut 32 (signed_decimal z) (signed_decimal y) (numbers zs ++ name) (numbers ys ++ other) (signed_lacks z)
    (signed_lacks y) (sym (numbers_cons z zs name) ∙ (e ∙ numbers_cons y ys other)) in
    let m = one_texts zs ys name other h k c.1 in
    (ap (λ t. t ∷ texts zs) c.0 ∙ ap (λ ts. signed_decimal y ∷ ts) m.0, m.1)

one_number : (z y : ℤ) → IsNumber z → IsNumber y → signed_decimal z ≡ signed_decimal y → z ≡ y
one_number z y h k e = signed_decimal_injective z y (small z h) (small y k) e

-- ---- words in parentheses
abbrev octal : ℕ → List ℕ → ℕ × List ℕ
octal c (d ∷ e ∷ rest) = ((c - 48) * 64 + (d - 48) * 8 + (e - 48), rest)
octal c rest = (0, [])

abbrev unescaped : List ℕ → ℕ × List ℕ
unescaped [] = (0, [])
unescaped (c ∷ rest) = if is_special c then (c, rest) else octal c rest

-- the byte that is shown first, and what follows it
abbrev first_shown : List ℕ → ℕ × List ℕ
first_shown [] = (0, [])
first_shown (c ∷ rest) = if c == 92 then unescaped rest else (c, rest)

octal_is : (b : ℕ) (rest : List ℕ)
    → b < 256 → octal (48 + b / 64) ((48 + b / 8 % 8) ∷ (48 + b % 8) ∷ rest) ≡ (b, rest)
octal_is b rest l =
    let same : ((48 + b / 64) - 48) * 64 + ((48 + b / 8 % 8) - 48) * 8 + ((48 + b % 8) - 48) ≡ b = omega (arith, l) in
    ap (λ n. (n, rest)) same

shows_first : (b : ℕ) (rest : List ℕ) → IsTrue (is_shown b) → first_shown (shown b ++ rest) ≡ (b, rest)
shows_first b rest h = elim (sort_of b h) [
  | is_open k ↦ rw (k, shown_open) refl
  | is_close k ↦ rw (k, shown_close) refl
  | is_slash k ↦ rw (k, shown_slash) refl
  | is_plain l p q r ↦ rw (shown_plain b l p q r, ne_eqb b 92 r) refl
  | is_high l m ↦ rw (shown_octal b l, digit_is_plain b m) (octal_is b rest m)
]

one_shown : (a b : ℕ) (r s : List ℕ)
    → IsTrue (is_shown a) → IsTrue (is_shown b) → shown a ++ r ≡ shown b ++ s → (a ≡ b) × (r ≡ s)
one_shown a b r s h k e =
    let same : (a, r) ≡ (b, s) = sym (shows_first a r h) ∙ (ap first_shown e ∙ shows_first b s k) in
    (ap (λ p. p.0) same, ap (λ p. p.1) same)

no_shown : (b : ℕ) (rest tail : List ℕ) → IsTrue (is_shown b) → 41 ∷ tail ≡ shown b ++ rest → ⊥
no_shown b rest tail h e = elim (sort_of b h) [
  | is_open k ↦ let f = rw (k, shown_open) at e in let c = ap head_of f in omega (arith, c)
  | is_close k ↦ let f = rw (k, shown_close) at e in let c = ap head_of f in omega (arith, c)
  | is_slash k ↦ let f = rw (k, shown_slash) at e in let c = ap head_of f in omega (arith, c)
  | is_plain l p q r ↦ let f = rw (shown_plain b l p q r) at e in q (sym (ap head_of f))
  | is_high l m ↦ let f = rw (shown_octal b l) at e in let c = ap head_of f in omega (arith, c)
]

one_words : (words more t u : List ℕ)
    → IsTrue (list_all is_shown words) → IsTrue (list_all is_shown more)
    → flat_map shown words ++ 41 ∷ t ≡ flat_map shown more ++ 41 ∷ u
    → (words ≡ more) × (t ≡ u)
one_words [] [] t u h k e = (refl, ap tail_of e)
one_words [] (b ∷ more) t u h k e =
    let all = and_parts (is_shown b) (list_all is_shown more) k in
    absurd (no_shown b (flat_map shown more ++ 41 ∷ u) t all.0
    (e ∙ append_assoc (shown b) (flat_map shown more) (41 ∷ u)))
one_words (a ∷ words) [] t u h k e =
    let all = and_parts (is_shown a) (list_all is_shown words) h in
    absurd (no_shown a (flat_map shown words ++ 41 ∷ t) u all.0
    (sym e ∙ append_assoc (shown a) (flat_map shown words) (41 ∷ t)))
one_words (a ∷ words) (b ∷ more) t u h k e =
    let here = and_parts (is_shown a) (list_all is_shown words) h in
    let there = and_parts (is_shown b) (list_all is_shown more) k in
    let c = one_shown a b (flat_map shown words ++ 41 ∷ t) (flat_map shown more ++ 41 ∷ u) here.0 there.0
    (sym (append_assoc (shown a) (flat_map shown words) (41 ∷ t))
    ∙ (e ∙ append_assoc (shown b) (flat_map shown more) (41 ∷ u))) in
    let m = one_words words more t u here.1 there.1 c.1 in
    (ap (λ x. x ∷ words) c.0 ∙ ap (λ xs. b ∷ xs) m.0, m.1)

quoted_form : (words : List ℕ) (zs : List ℤ) (name : List ℕ)
    → in_parentheses words ++ numbers zs ++ name
    ≡ codes "(" ++ (flat_map shown words ++ (41 ∷ (32 ∷ (numbers zs ++ name))))
unfolding in_parentheses
quoted_form words zs name = simp append_assoc

one_quoted : (words more : List ℕ) (zs ys : List ℤ) (name other : List ℕ)
    → IsTrue (list_all is_shown words) → IsTrue (list_all is_shown more) → Lacks 32 name → Lacks 32 other
    → in_parentheses words ++ numbers zs ++ name ≡ in_parentheses more ++ numbers ys ++ other
    → (words ≡ more) × (texts zs ≡ texts ys) × (name ≡ other)
one_quoted words more zs ys name other h k l m e =
    let s = after_prefix (codes "(") (in_parentheses words ++ numbers zs ++ name)
    (flat_map shown words ++ (41 ∷ (32 ∷ (numbers zs ++ name))))
    (flat_map shown more ++ (41 ∷ (32 ∷ (numbers ys ++ other)))) (quoted_form words zs name)
    (e ∙ quoted_form more ys other) in
    let w = one_words words more (32 ∷ (numbers zs ++ name)) (32 ∷ (numbers ys ++ other)) h k s in
    let t = one_texts zs ys name other l m (ap tail_of w.1) in
    (w.0, t.0, t.1)

-- ---- names
size_lacks : (size : Size) → Lacks 32 (size_name size)
size_lacks Size.Small = field_lacks (size_name Size.Small) refl
size_lacks Size.Big = field_lacks (size_name Size.Big) refl

abbrev second : List ℕ → ℕ
second s = head_of (tail_of s)

one_size : (a b : Size) → size_name a ≡ size_name b → a ≡ b
one_size Size.Small Size.Small e = refl
one_size Size.Big Size.Big e = refl
one_size Size.Small Size.Big e = let c : 49 ≡ 50 = ap second e in absurd (omega (arith, c))
one_size Size.Big Size.Small e = let c : 50 ≡ 49 = ap second e in absurd (omega (arith, c))

glyph_lacks : (g : Glyph) → Lacks 32 (glyph_name g)
glyph_lacks Glyph.Hb = field_lacks (glyph_name Glyph.Hb) refl
glyph_lacks g = field_lacks (glyph_name g) refl

one_glyph : (a b : Glyph) → glyph_name a ≡ glyph_name b → a ≡ b
one_glyph a b e =
    let same : Some a ≡ Some b = sym (named a) ∙ (ap glyph_named e ∙ named b) in cc

way_lacks : (way : Way) → Lacks 32 (way_name way)
way_lacks Way.Up = field_lacks (way_name Way.Up) refl
way_lacks way = field_lacks (way_name way) refl

no_grace : (way : Way) → way_name Way.Grace ≡ way_name way → (way ≡ Way.Grace → ⊥) → ⊥
no_grace Way.Grace e other = other refl
no_grace Way.Up e other = let c : 103 ≡ 98 = ap head_of e in omega (arith, c)
no_grace Way.Down e other = let c : 103 ≡ 98 = ap head_of e in omega (arith, c)

one_ways : (a b : Way) → way_name a ≡ way_name b → a ≡ b
one_ways Way.Up Way.Up e = refl
one_ways Way.Down Way.Down e = refl
one_ways Way.Grace Way.Grace e = refl
one_ways Way.Up Way.Down e = let c : 117 ≡ 100 = ap second e in absurd (omega (arith, c))
one_ways Way.Down Way.Up e = let c : 100 ≡ 117 = ap second e in absurd (omega (arith, c))
one_ways Way.Grace b e = absurd (no_grace b e (λ q. cc))
one_ways a Way.Grace e = absurd (no_grace a (sym e) (λ q. cc))

-- ---- lines of marks
one_offset : (y a b : ℤ) → (y +ℤ a) ≡ (y +ℤ b) → a ≡ b
one_offset y a b e = omega (arith, ints, e)

-- the numbers and the name of a mark without words
abbrev numbers_of : ℤ → PageMark → List ℤ
numbers_of y (PageMark.Glyph glyph x dx dy) = dx ∷ dy ∷ x ∷ y ∷ []
numbers_of y (PageMark.Words size x dx dy words) = []
numbers_of y (PageMark.Stem x dx from to) = dx ∷ to ∷ dx ∷ from ∷ x ∷ y ∷ []
numbers_of y (PageMark.Beam way x1 x2 from to) =
    x1 ∷ ((y +ℤ from) +ℤ pos beam_thickness) ∷ x2 ∷ ((y +ℤ to) +ℤ pos beam_thickness) ∷ x2 ∷ (y +ℤ to) ∷ x1
    ∷ (y +ℤ from) ∷ []
numbers_of y (PageMark.Arc x1 x2 from to bulge) =
    (x1 +ℤ quarter x1 x2) ∷ ((y +ℤ from) +ℤ bulge) ∷ (x2 -ℤ quarter x1 x2) ∷ ((y +ℤ to) +ℤ bulge) ∷ x2 ∷ (y +ℤ to) ∷ x1
    ∷ (y +ℤ from) ∷ []

abbrev name_of : PageMark → List ℕ
name_of (PageMark.Glyph glyph x dx dy) = glyph_name glyph
name_of (PageMark.Words size x dx dy words) = []
name_of (PageMark.Stem x dx from to) = codes "st"
name_of (PageMark.Beam way x1 x2 from to) = way_name way
name_of (PageMark.Arc x1 x2 from to bulge) = codes "ac"

abbrev IsWordless : PageMark → Type 0
IsWordless (PageMark.Words size x dx dy words) = ⊥
IsWordless m = Unit {0}

wordless_line : (y : ℤ) (m : PageMark) → IsWordless m → mark_line y m ≡ numbers (numbers_of y m) ++ name_of m
unfolding glyph_line stem_line beam_line arc_line points ends_of
wordless_line y (PageMark.Words size x dx dy words) h = absurd h
wordless_line y m h = refl

name_lacks : (m : PageMark) → Lacks 32 (name_of m)
name_lacks (PageMark.Glyph glyph x dx dy) = glyph_lacks glyph
name_lacks (PageMark.Beam way x1 x2 from to) = way_lacks way
name_lacks (PageMark.Words size x dx dy words) = tt
name_lacks m = field_lacks (name_of m) refl

no_arc : (way : Way) → way_name way ≡ codes "ac" → ⊥
no_arc Way.Up e = let c : 98 ≡ 97 = ap head_of e in omega (arith, c)
no_arc Way.Down e = let c : 98 ≡ 97 = ap head_of e in omega (arith, c)
no_arc Way.Grace e = let c : 103 ≡ 97 = ap head_of e in omega (arith, c)

-- the same numbers and names are of one mark
by_parts : (y : ℤ) (m k : PageMark)
    → IsWordless m → IsWordless k → IsPageMark y m → IsPageMark y k → texts (numbers_of y m) ≡ texts (numbers_of y k)
    → name_of m ≡ name_of k
    → m ≡ k
by_parts y (PageMark.Glyph g x dx dy) (PageMark.Glyph f v du dv) l o h k t n =
    let a = one_number dx du (offset_number dx h.across) (offset_number du k.across) (ap (nth 0) t) in
    let b = one_number dy dv (offset_number dy h.above) (offset_number dv k.above) (ap (nth 1) t) in
    let c = one_number x v h.anchor k.anchor (ap (nth 2) t) in
    let d = one_glyph g f n in cc
by_parts y (PageMark.Stem x dx from to) (PageMark.Stem v du lower upper) l o h k t n =
    let a = one_number dx du (offset_number dx h.start.across) (offset_number du k.start.across) (ap (nth 0) t) in
    let b = one_number to upper (offset_number to h.end) (offset_number upper k.end) (ap (nth 1) t) in
    let c = one_number from lower (offset_number from h.start.above) (offset_number lower k.start.above)
    (ap (nth 3) t) in
    let d = one_number x v h.start.anchor k.start.anchor (ap (nth 4) t) in cc
by_parts y (PageMark.Beam way x1 x2 from to) (PageMark.Beam other v1 v2 lower upper) l o h k t n =
    let a = one_number x1 v1 h.stretch.first k.stretch.first (ap (nth 6) t) in
    let b = one_number x2 v2 h.stretch.last k.stretch.last (ap (nth 4) t) in
    let c = one_offset y from lower (one_number (y +ℤ from) (y +ℤ lower) h.left.point k.left.point (ap (nth 7) t)) in
    let d = one_offset y to upper (one_number (y +ℤ to) (y +ℤ upper) h.right.point k.right.point (ap (nth 5) t)) in
    let w = one_ways way other n in cc
by_parts y (PageMark.Arc x1 x2 from to bulge) (PageMark.Arc v1 v2 lower upper rise) l o h k t n =
    let a = one_number x1 v1 h.stretch.first k.stretch.first (ap (nth 6) t) in
    let b = one_number x2 v2 h.stretch.last k.stretch.last (ap (nth 4) t) in
    let left = one_number (y +ℤ from) (y +ℤ lower) h.left.point k.left.point (ap (nth 7) t) in
    let c = one_offset y from lower left in
    let d = one_offset y to upper (one_number (y +ℤ to) (y +ℤ upper) h.right.point k.right.point (ap (nth 5) t)) in
    let above = one_number ((y +ℤ from) +ℤ bulge) ((y +ℤ lower) +ℤ rise) h.left.above k.left.above (ap (nth 1) t) in
    let r = one_offset (y +ℤ lower) bulge rise (ap (λ p. p +ℤ bulge) (sym left) ∙ above) in cc
by_parts y (PageMark.Beam way x1 x2 from to) (PageMark.Arc v1 v2 lower upper rise) l o h k t n = absurd (no_arc way n)
by_parts y (PageMark.Arc x1 x2 from to bulge) (PageMark.Beam way v1 v2 lower upper) l o h k t n =
    absurd (no_arc way (sym n))
by_parts y (PageMark.Words size x dx dy words) m l o h k t n = absurd l
by_parts y m (PageMark.Words size x dx dy words) l o h k t n = absurd o
by_parts y m k l o h p t n = let c = ap length t in absurd (omega (arith, c))

both_wordless : (y : ℤ) (m k : PageMark)
    → IsWordless m → IsWordless k → IsPageMark y m → IsPageMark y k → mark_line y m ≡ mark_line y k → m ≡ k
both_wordless y m k l o h p e =
    let t = one_texts (numbers_of y m) (numbers_of y k) (name_of m) (name_of k) (name_lacks m) (name_lacks k)
    (sym (wordless_line y m l) ∙ (e ∙ wordless_line y k o)) in
    by_parts y m k l o h p t.0 t.1

-- a number doesn't begin with a parenthesis
decimal_open : (n : ℕ) → head_of (decimal n) ≡ 40 → ⊥
unfolding digits
decimal_open n =
    digits_keep (λ s. head_of s ≡ 40 → ⊥) (λ d ds i h. λ e. let low = i.0 in omega (arith, low, e)) 64 n []
    (λ e. omega arith)

number_open : (ds zs name : List ℕ)
    → (head_of ds ≡ 40 → ⊥) → head_of (((ds ++ 32 ∷ []) ++ zs) ++ name) ≡ 40 → ⊥
number_open [] zs name h e = omega arith
number_open (d ∷ ds) zs name h e = h e

numbers_open : (z : ℤ) (zs : List ℤ) (name : List ℕ) → head_of (numbers (z ∷ zs) ++ name) ≡ 40 → ⊥
unfolding numbers
numbers_open (pos n) zs name e = number_open (decimal n) (numbers zs) name (decimal_open n) e
numbers_open (negsuc n) zs name e = omega arith

wordless_open : (y : ℤ) (m : PageMark) → IsWordless m → head_of (mark_line y m) ≡ 40 → ⊥
unfolding glyph_line stem_line beam_line arc_line points ends_of
wordless_open y (PageMark.Glyph g x dx dy) h e = numbers_open dx _ (glyph_name g) e
wordless_open y (PageMark.Words size x dx dy words) h e = absurd h
wordless_open y (PageMark.Stem x dx from to) h e = numbers_open dx _ (codes "st") e
wordless_open y (PageMark.Beam way x1 x2 from to) h e = numbers_open _ _ (way_name way) e
wordless_open y (PageMark.Arc x1 x2 from to bulge) h e = numbers_open _ _ (codes "ac") e

words_open : (size : Size) (x dx dy y : ℤ) (words : List ℕ) → head_of (words_line size x dx dy words y) ≡ 40
unfolding words_line in_parentheses
words_open size x dx dy y words = refl

both_words : (y : ℤ) (size other : Size) (x dx dy v du dv : ℤ) (words more : List ℕ)
    → IsPageMark y (PageMark.Words size x dx dy words) → IsPageMark y (PageMark.Words other v du dv more)
    → words_line size x dx dy words y ≡ words_line other v du dv more y
    → PageMark.Words size x dx dy words ≡ PageMark.Words other v du dv more
unfolding words_line
both_words y size other x dx dy v du dv words more h k e =
    let t = one_quoted words more (dx ∷ dy ∷ x ∷ y ∷ []) (du ∷ dv ∷ v ∷ y ∷ []) (size_name size) (size_name other)
    h.1.shown k.1.shown (size_lacks size) (size_lacks other) e in
    let a = one_number dx du (offset_number dx h.0.across) (offset_number du k.0.across) (ap (nth 0) t.1) in
    let b = one_number dy dv (offset_number dy h.0.above) (offset_number dv k.0.above) (ap (nth 1) t.1) in
    let c = one_number x v h.0.anchor k.0.anchor (ap (nth 2) t.1) in
    let d = one_size size other t.2 in let w = t.0 in cc

one_mark : (y : ℤ) (m k : PageMark) → IsPageMark y m → IsPageMark y k → mark_line y m ≡ mark_line y k → m ≡ k
one_mark y (PageMark.Words size x dx dy words) (PageMark.Words other v du dv more) h k e =
    both_words y size other x dx dy v du dv words more h k e
one_mark y (PageMark.Words size x dx dy words) k h p e =
    absurd (wordless_open y k tt (sym (ap head_of e) ∙ words_open size x dx dy y words))
one_mark y m (PageMark.Words size x dx dy words) h p e =
    absurd (wordless_open y m tt (ap head_of e ∙ words_open size x dx dy y words))
one_mark y m k h p e = both_wordless y m k tt tt h p e

-- ---- the other lines
one_title : (x y v w : ℤ) (size other : Size) (words more : List ℕ)
    → IsTitle x y words → IsTitle v w more → title_line x y size words ≡ title_line v w other more
    → title_of x y size words ≡ title_of v w other more
unfolding title_line
one_title x y v w size other words more h k e =
    let t = one_quoted words more (title_numbers x y) (title_numbers v w) (size_name size) (size_name other)
    h.good.shown k.good.shown (size_lacks size) (size_lacks other) e in
    let a = one_number x v h.across k.across (ap (nth 2) t.1) in
    let b = one_number y w h.base k.base (ap (nth 3) t.1) in
    let d = one_size size other t.2 in let c = t.0 in cc

one_join : (top foot high low : ℤ)
    → IsNumber top → IsNumber foot → IsNumber high → IsNumber low → join_line top foot ≡ join_line high low
    → joined_of top foot ≡ joined_of high low
unfolding join_line
one_join top foot high low t f h l e =
    let n = one_texts (pos 0 ∷ top ∷ pos 0 ∷ foot ∷ []) (pos 0 ∷ high ∷ pos 0 ∷ low ∷ []) (codes "vl") (codes "vl")
    (field_lacks (codes "vl") refl) (field_lacks (codes "vl") refl) e in
    let a = one_number top high t h (ap (nth 1) n.0) in let b = one_number foot low f l (ap (nth 3) n.0) in cc

one_rules : (w v : ℕ) (y z : ℤ)
    → w ≤ 2 ^ 31 → v ≤ 2 ^ 31 → IsNumber y → IsNumber z → rules_line w y ≡ rules_line v z → rules_of w y ≡ rules_of v z
unfolding rules_line
one_rules w v y z lw lv h k e =
    let n = one_texts (rules_numbers w y) (rules_numbers v z) (codes "sf") (codes "sf") (field_lacks (codes "sf") refl)
    (field_lacks (codes "sf") refl) e in
    let a = one_number (pos w) (pos v) (small_number w lw) (small_number v lv) (ap (nth 0) n.0) in
    let same : w ≡ v = cc in let b = one_number y z h k (ap (nth 11) n.0) in cc

one_percent : (s t : ℕ) (r u : List ℕ) → s ≤ 150 → t ≤ 150
    → (48 + s / 100) ∷ 46 ∷ (48 + s / 10 % 10) ∷ (48 + s % 10) ∷ r
    ≡ (48 + t / 100) ∷ 46 ∷ (48 + t / 10 % 10) ∷ (48 + t % 10) ∷ u
    → s ≡ t
one_percent s t r u ls lt e =
    let a = ap head_of e in
    let b = ap (λ l. head_of (tail_of (tail_of l))) e in
    let c = ap (λ l. head_of (tail_of (tail_of (tail_of l)))) e in
    omega (arith, ls, lt, a, b, c)

one_start : (l b s x y z : ℕ)
    → l < 2 ^ 32 → b < 2 ^ 32 → s ≤ 150 → x < 2 ^ 32 → y < 2 ^ 32 → z ≤ 150 → page_line l b s ≡ page_line x y z
    → ◌≡◌ {A = Option (ℕ × ℕ × ℕ)} (Some (l, b, s)) (Some (x, y, z))
one_start l b s x y z ll lb ls lx ly lz e =
    let text : ℕ → ℕ → List ℕ = λ b s. decimal b ++ (32 ∷ (codes "translate " ++ after_bottom s)) in
    let t = after_prefix PAGE_START.now (page_line l b s) (decimal l ++ (32 ∷ text b s)) (decimal x ++ (32 ∷ text y z))
    (page_form l b s) (e ∙ page_form x y z) in
    let m = one_field l x (decimal l ++ (32 ∷ text b s)) (text b s) (text y z) (omega (arith, ll)) (omega (arith, lx))
    refl t in
    let n = one_field b y (text b s) (codes "translate " ++ after_bottom s) (codes "translate " ++ after_bottom z)
    (omega (arith, lb)) (omega (arith, ly)) refl m.1 in
    let k = after_prefix (codes "translate ") (codes "translate " ++ after_bottom s) (after_bottom s) (after_bottom z)
    refl n.1 in
    let c = one_percent s z _ _ ls lz (sym (percent_bytes s _ ls) ∙ (k ∙ percent_bytes z _ lz)) in
    grind (arith, m, n, c)

-- ---- the state after a line is determined by its text
head_of_tune : (k : ℕ) → head_of (tune_line k) ≡ 37
unfolding tune_line
head_of_tune k = refl

head_of_system : (a b : ℕ) → head_of (system_line a b) ≡ 37
unfolding system_line
head_of_system a b = refl

head_of_staff : (k : ℕ) → head_of (staff_line k) ≡ 37
unfolding staff_line
head_of_staff k = refl

head_of_title : (x y : ℤ) (size : Size) (words : List ℕ) → head_of (title_line x y size words) ≡ 40
unfolding title_line in_parentheses
head_of_title x y size words = refl

-- after lines with the same text the states are the same
abbrev Same : ReaderState → Line → Line → Type 0
Same p l m = MayCome p l → MayCome p m → line_text l ≡ line_text m → state_after p m ≡ state_after p l

module _ (p : OpenPage) where
  is_item : (m : Line) → MayCome (ReaderState.Items p) m → (head_of (line_text m) ≡ 40 → ⊥) → IsItemLine m
  is_item (line.Title x y size words) k out = absurd (out (head_of_title x y size words))
  is_item (line.Tune n) k out = tt
  is_item (line.System a b) k out = tt
  is_item (line.Fixed text) k out = tt
  is_item m k out = absurd k

  item : (l m : Line) → Same (ReaderState.Items p) l m
  unfolding tune_line system_line
  item (line.Title x y size words) m h k e =
      (on_title p (title_line x y size words) (title_of x y size words) (with_item p (Item.Title x y size words)) refl h
      (λ v w other more good q. one_title x y v w size other words more h good q) refl).only m tt e k
  item (line.Tune n) m h k e =
      (on_tune p (tune_line n) n (with_item p (Item.Tune n)) refl h.high h.low refl).only m
      (is_item m k (λ q. let c = ap head_of e in let d = head_of_tune n in omega (arith, c, d, q))) e k
  item (line.System a b) m h k e =
      (from_system p (system_line a b) (Some (ReaderState.System (open_system p a b))) (λ q. cc)
      (λ n l q. let c : 115 ≡ 116 = ap (λ s. second (tail_of s)) q in omega (arith, c))
      (on_system p (system_line a b) a b [] refl (let c = h.0 in let d = h.1 in omega (arith, c, d)) h.1 h.0 refl)).only
      m (is_item m k (λ q. let c = ap head_of e in let d = head_of_system a b in omega (arith, c, d, q))) e k
  item (line.Fixed text) m h k e =
      (on_grestore p text h).only m
      (is_item m k (λ q. let c = ap head_of e in let d = ap head_of h in omega (arith, c, d, q))) e k
  item l m h k e = absurd h

module _ (o : OpenSystem) where
  is_join : (m : Line) → MayCome (ReaderState.System o) m → (head_of (line_text m) ≡ 37 → ⊥) → IsJoinLine m
  is_join (line.Join top foot) k out = tt
  is_join (line.StaffHead j) k out = absurd (out (head_of_staff j))
  is_join m k out = absurd k

  of_system : (l m : Line) → Same (ReaderState.System o) l m
  of_system (line.Join top foot) m h k e =
      (on_join o (join_line top foot) (joined_of top foot) (with_join o top foot) (ap is_some h.0) refl h.1 h.2
      (λ high low t f q. one_join top foot high low h.1 h.2 t f q) refl).only m
      (is_join m k (λ q. (join_start top foot).0 (ap head_of e ∙ q))) e k
  of_system (line.StaffHead j) m h k e = (on_first_staff o (staff_line j) (ap staff_line h)).only m tt e k
  of_system l m h k e = absurd h

  of_staff : (l m : Line) → Same (ReaderState.Staff o) l m
  of_staff (line.Rules w y) m h k e =
      (on_rules o (rules_line w y) w y refl h.0 h.1 h.2 h.3
      (λ v z some wide number q. one_rules w v y z h.1 wide h.2 number q)).only m tt e k
  of_staff l m h k e = absurd h

module _ (o : OpenSystem) (s : Staff) where
  is_no_mark : (m : Line) → MayCome (ReaderState.Marks o s) m → head_of (line_text m) ≡ 37 → IsNoMark m
  is_no_mark (line.Mark y m) k is = absurd ((mark_start y m).0 is)
  is_no_mark m k is = tt

  next_staff : (j : ℕ) (m : Line) → Same (ReaderState.Marks o s) (line.StaffHead j) m
  next_staff j m h k e =
      (on_next_staff o s (staff_line j) (system_with_staff o s) (ap staff_line h.1) h.0 refl).only m
      (is_no_mark m k (sym (ap head_of e) ∙ head_of_staff j)) e k

  item_head : (l : Line)
      → IsItemLine l → MayCome (ReaderState.Marks o s) l → IsMarkStart (head_of (line_text l)) → ⊥
  item_head (line.Tune n) a h other = other.0 (head_of_tune n)
  item_head (line.System x y) a h other = other.0 (head_of_system x y)
  item_head (line.Fixed text) a h other = other.1 (ap head_of h.1)
  item_head l a h other = absurd a

  may_item : (l : Line)
      → IsItemLine l → MayCome (ReaderState.Marks o s) l → MayCome (ReaderState.Items (system_ended o s)) l
  may_item (line.Tune n) a h = h.1
  may_item (line.System x y) a h = (h.1, h.2)
  may_item (line.Fixed text) a h = h.1
  may_item l a h = absurd a

  after_item : (l : Line)
      → IsItemLine l → state_after (ReaderState.Marks o s) l ≡ state_after (ReaderState.Items (system_ended o s)) l
  after_item (line.Tune n) a = refl
  after_item (line.System x y) a = refl
  after_item (line.Fixed text) a = refl
  after_item l a = absurd a

  both_items : (l m : Line) → IsItemLine l → IsItemLine m → Same (ReaderState.Marks o s) l m
  both_items l m a b h k e =
      after_item m b
      ∙ (item (system_ended o s) l m (may_item l a h) (may_item m b k) e ∙ sym (after_item l a))

  from_item : (l m : Line) → IsItemLine l → Same (ReaderState.Marks o s) l m
  from_item l (line.StaffHead j) a h k e = sym (next_staff j l k h (sym e))
  from_item l (line.Mark y m) a h k e =
      absurd (item_head l a h (subst IsMarkStart (sym (ap head_of e)) (mark_start y m)))
  from_item l (line.Tune n) a h k e = both_items l (line.Tune n) a tt h k e
  from_item l (line.System x y) a h k e = both_items l (line.System x y) a tt h k e
  from_item l (line.Fixed text) a h k e = both_items l (line.Fixed text) a tt h k e
  from_item l m a h k e = absurd k

  of_marks : (l m : Line) → Same (ReaderState.Marks o s) l m
  of_marks (line.Mark y m) n h k e =
      (on_mark o s (mark_line y m) m (staff_with_mark s m) (ap (λ z. mark_line z m) h.0) h.1
      (λ other good q. one_mark s.y other m good h.1 (sym q ∙ ap (λ z. mark_line z m) h.0)) refl).only n tt e k
  of_marks (line.StaffHead j) m h k e = next_staff j m h k e
  of_marks (line.Tune n) m h k e = from_item (line.Tune n) m tt h k e
  of_marks (line.System x y) m h k e = from_item (line.System x y) m tt h k e
  of_marks (line.Fixed text) m h k e = from_item (line.Fixed text) m tt h k e
  of_marks l m h k e = absurd h

of_boxed : (w h : ℕ) (rest : List ℕ) (l m : Line) → Same (ReaderState.Boxed w h rest) l m
of_boxed w h rest (line.Fixed text) m may other e =
    (on_boxed w h rest text (after_line text rest) may refl).only m tt e other
of_boxed w h [] (line.PageStart l b s) m may other e =
    let f = may.1 in
    (on_page_start w h l b s (page_line l b s) (glyph_lines glyphs_in_order ++ last_text) refl f
    (λ x y z lx ly lz q. one_start l b s x y z f.left f.bottom f.greatest_scale lx ly lz q) refl).only m tt e other
of_boxed w h (c ∷ rest) (line.PageStart l b s) m may other e = let is : c ∷ rest ≡ [] = may.0 in absurd cc
of_boxed w h rest l m may other e = absurd may

of_between : (s : Sheet) (l m : Line) → Same (ReaderState.Between s) l m
of_between s (line.Heading k) m h other e =
    (on_heading s (heading_line k) (ap heading_line h.0) (subst (λ n. n < 2 ^ 32) h.0 h.1)).only m tt e other
of_between s (line.Fixed text) m h other e = (on_trailer s text h).only m tt e other
of_between s l m h other e = absurd h

of_titled : (l m : Line) → Same ReaderState.Titled l m
unfolding box_line box_start
of_titled (line.Box w h) m may k e = (on_titled (box_line w h) w h procedures refl may.0 may.1 refl).only m tt e k
of_titled l m may k e = absurd may

after_begun : (m : Line) → MayCome ReaderState.Begun m → state_after ReaderState.Begun m ≡ ReaderState.Titled
after_begun (line.Fixed text) k = refl
after_begun m k = absurd k

after_counted : (s : Sheet) (m : Line)
    → MayCome (ReaderState.Counted s) m → state_after (ReaderState.Counted s) m ≡ ReaderState.Ended s
after_counted s (line.Fixed text) k = refl
after_counted s m k = absurd k

one_state : (p : ReaderState) (l m : Line) → Same p l m
one_state ReaderState.Begun l m h k e = after_begun m k ∙ sym (after_begun l h)
one_state ReaderState.Titled l m h k e = of_titled l m h k e
one_state (ReaderState.Boxed w high rest) l m h k e = of_boxed w high rest l m h k e
one_state (ReaderState.Framed f rest) (line.Fixed text) m h k e =
    (on_framed f rest text (after_prolog f (after_line text rest)) h refl).only m tt e k
one_state (ReaderState.Between s) l m h k e = of_between s l m h k e
one_state (ReaderState.Headed s) (line.Fixed text) m h k e = (on_headed s text [] h refl).only m tt e k
one_state (ReaderState.Items p) l m h k e = item p l m h k e
one_state (ReaderState.System o) l m h k e = of_system o l m h k e
one_state (ReaderState.Staff o) l m h k e = of_staff o l m h k e
one_state (ReaderState.Marks o s) l m h k e = of_marks o s l m h k e
one_state (ReaderState.Closed p) (line.Fixed text) m h k e = (on_closed p text (with_page p) h refl).only m tt e k
one_state (ReaderState.Trailer s) (line.Fixed text) m h k e = (on_count s text h).only m tt e k
one_state (ReaderState.Counted s) l m h k e = after_counted s m k ∙ sym (after_counted s l h)
one_state p l m h k e = absurd h

-- ---- the sheet
abbrev sheet_in : Sheet → ReaderState → Sheet
sheet_in s (ReaderState.Ended t) = t
sheet_in s p = s

after_end : (s : Sheet) (l : Line) → MayCome (ReaderState.Ended s) l → ⊥
after_end s l may = absurd may

pub unambiguous : IsUnambiguous documents
unambiguous = record {
  unbroken = λ p l reached may. may_lack p l may;
  one_state = λ p l m reached may other e. one_state p l m may other e;
  last = after_end;
  one_whole = λ s t e. ap (sheet_in s) (sym e);
}

pub one_sheet : OneSheet
one_sheet text s t h k = one_whole documents unambiguous text s t (document_way s text h) (document_way t text k)

-- the cause of an error
pub cause_of : (text : List ℕ) (error : LineError)
    → lines.IsCause documents text error → IsCause text (pages_error error)
cause_of text (LineError.Bad line) fault = (fault, λ s spells. fault.unfinished s (document_way s text spells))
cause_of text LineError.Memory h = h

pub no_prefix : NoPrefix
no_prefix text more s t h k =
    ways.no_prefix documents unambiguous text more s t (document_way s text h) (document_way t (text ++ more) k)
